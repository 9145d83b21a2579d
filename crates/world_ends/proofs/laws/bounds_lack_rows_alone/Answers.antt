use Rattle.world_ends.proofs.PartLemmas.{bounds_alone, bound_kept, rows_make_bound, ends_bounded, memory_ends, unsolvable_ends}
use Rattle.world_ends.proofs.laws.bounds_lack_rows_alone.Goals as goal

pub returns : goal.returns
returns c = record { rows = bounds_alone; memory = bound_kept; answers = rows_make_bound; bounded = ends_bounded; wanted = memory_ends; unsolvable = unsolvable_ends }
