use Rattle.world_model.proofs.JoinedLemmas.{joined_parts_quiet}
use Rattle.world_model.proofs.thread_laws.joined_parts_are_quiet.Goals as goal

pub returns : goal.returns
returns c = joined_parts_quiet
