use Rattle.world_model.proofs.KeptLemmas.{runs_within}
use Rattle.world_model.proofs.laws.runs_stay_within_limits.Goals as goal

pub returns : goal.returns
returns c = runs_within
