use Rattle.world_model.proofs.KeptLemmas.{bounds_high, causes_stop, limit_bounds, memory_bounds}
use Rattle.world_model.proofs.laws.causes_are_true.Goals as goal

pub returns : goal.returns
returns c = record { stops = causes_stop; limit = limit_bounds; memory = memory_bounds; high = bounds_high }
