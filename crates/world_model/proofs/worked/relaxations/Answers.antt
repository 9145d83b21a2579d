use Rattle.world_model.proofs.WorkedLemmas.{relaxations_lower}
use Rattle.world_model.proofs.worked.relaxations.Goals as goal

pub returns : goal.returns
returns c = relaxations_lower
