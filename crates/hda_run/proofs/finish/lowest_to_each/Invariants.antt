use Rattle.lower_bound.specs.Bounds.{sum_of}
use Rattle.lower_bound.specs.Tables.{parts_of}
use Rattle.world_ends.specs.Lowest.{IsLeastBeside}
use Rattle.hda_run.specs.Lanes.{IsInLane}
use Rattle.hda_run.proofs.LowestLemmas.{IsOfFirst}
use Rattle.hda_run.proofs.finish.lowest_to_each.Given as goal

-- the least beside the lanes so far
abbrev pub invariant-receivers : goal.invariant-receivers
invariant-receivers l = IsLeastBeside (IsOfFirst l.to (IsInLane (sum_of (parts_of l.bound))) l.lanes) l.fn.lowest l.least
