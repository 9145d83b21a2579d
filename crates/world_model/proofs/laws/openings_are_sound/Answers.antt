use Rattle.world_model.proofs.RunLemmas.{openings_sound}
use Rattle.world_model.proofs.laws.openings_are_sound.Goals as goal

pub returns : goal.returns
returns c = openings_sound
