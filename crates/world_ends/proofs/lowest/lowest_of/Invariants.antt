use Rattle.std.proofs.Common.{take}
use Rattle.lower_bound.specs.Bounds.{sum_of}
use Rattle.lower_bound.specs.Tables.{parts_of}
use Rattle.world_ends.specs.Lowest.{IsLeastBeside, IsOfItem}
use Rattle.world_ends.proofs.lowest.lowest_of.Given as goal

-- the least beside those so far
abbrev pub invariant-items : goal.invariant-items
invariant-items l = IsLeastBeside (IsOfItem (sum_of (parts_of l.bound)) (take l.item-index l.items)) l.fn.lowest l.least
