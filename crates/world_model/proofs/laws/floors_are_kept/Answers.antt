use Rattle.world_model.proofs.RestLemmas.{floor_kept, floors_high, floors_reach}
use Rattle.world_model.proofs.laws.floors_are_kept.Goals as goal

pub returns : goal.returns
returns c = record { floor = floor_kept; high = floors_high; reach = floors_reach }
