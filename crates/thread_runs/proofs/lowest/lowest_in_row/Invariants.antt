use Rattle.lower_bound.specs.Bounds.{sum_of}
use Rattle.lower_bound.specs.Tables.{parts_of}
use Rattle.std.specs.Vec.Iter.{into_iter_items}
use Rattle.thread_runs.specs.Lanes.{IsLeft}
use Rattle.thread_runs.proofs.WorldLemmas.{IsLeastSoFar}
use Rattle.thread_runs.proofs.lowest.lowest_in_row.Given as goal

-- the least beside the rings so far
abbrev pub invariant-senders : goal.invariant-senders
invariant-senders g l =
    record {
      next : (goal.iterator-senders g).can_next l.receiver-iterator;
      ends : (goal.iterator-senders g).is_finite l.receiver-iterator;
      least : IsLeastSoFar (IsLeft (sum_of (parts_of l.bound))) l.fn.row.items (into_iter_items l.receiver-iterator) l.fn.lowest l.least;
    }
