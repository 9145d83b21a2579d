use Rattle.world_model.proofs.RestLemmas.{least_expanded}
use Rattle.world_model.proofs.laws.least_is_expanded.Goals as goal

pub returns : goal.returns
returns c = least_expanded
