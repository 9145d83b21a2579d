use Rattle.world_model.proofs.RunParts.{nothing_foreign}
use Rattle.world_model.proofs.thread_laws.nothing_held_is_foreign.Goals as goal

pub returns : goal.returns
returns c = nothing_foreign
