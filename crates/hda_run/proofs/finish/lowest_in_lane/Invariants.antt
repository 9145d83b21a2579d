use Rattle.lower_bound.specs.Bounds.{sum_of}
use Rattle.lower_bound.specs.Tables.{parts_of}
use Rattle.world_ends.specs.Lowest.{IsLeastBeside, IsOfItem}
use Rattle.hda_run.proofs.LowestLemmas.{IsOfFirst}
use Rattle.hda_run.proofs.finish.lowest_in_lane.Given as goal

-- the least beside the packets so far
abbrev pub invariant-packets : goal.invariant-packets
invariant-packets l = IsLeastBeside (IsOfFirst l.at (IsOfItem (sum_of (parts_of l.bound))) l.lane) l.fn.lowest l.least
