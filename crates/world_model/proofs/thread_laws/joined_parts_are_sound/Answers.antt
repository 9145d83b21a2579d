use Rattle.world_model.proofs.JoinedLemmas.{joined_parts_sound}
use Rattle.world_model.proofs.thread_laws.joined_parts_are_sound.Goals as goal

pub returns : goal.returns
returns c = joined_parts_sound
