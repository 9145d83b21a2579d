use Rattle.std.proofs.Common.{◌≡◌, ◌+◌, length}
use Rattle.lower_bound.specs.Bounds.{sum_of}
use Rattle.lower_bound.specs.Tables.{parts_of}
use Rattle.world_ends.specs.Lowest.{IsOfItem}
use Rattle.thread_runs.proofs.WorldLemmas.{IsLeastSoFar}
use Rattle.thread_runs.proofs.lowest.lowest_left.Given as goal

-- the least beside the packets so far
abbrev pub invariant-packets : goal.invariant-packets
invariant-packets g l =
    record {
      count : l.taken + length l.receiver.left ≡ length l.fn.receiver.left;
      least : IsLeastSoFar (IsOfItem (sum_of (parts_of l.bound))) l.fn.receiver.left l.receiver.left l.fn.lowest l.least;
    }
