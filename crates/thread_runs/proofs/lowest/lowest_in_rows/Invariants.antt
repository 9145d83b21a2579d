use Rattle.std.specs.Prelude.{Vec}
use Rattle.std.specs.declared.alloc.Global.{Global}
use Rattle.lower_bound.specs.Bounds.{sum_of}
use Rattle.lower_bound.specs.Tables.{parts_of}
use Rattle.std.specs.Vec.Iter.{into_iter_items}
use Rattle.thread_parts.specs.Rings.{ReceiverModel}
use Rattle.thread_runs.specs.Lanes.{IsLeftInRow}
use Rattle.thread_runs.proofs.WorldLemmas.{IsLeastSoFar}
use Rattle.thread_runs.proofs.lowest.lowest_in_rows.Given as goal

-- the least beside the rows so far
abbrev pub invariant-receivers : goal.invariant-receivers
invariant-receivers g l =
    record {
      next : (goal.iterator-receivers g).can_next l.row-iterator;
      ends : (goal.iterator-receivers g).is_finite l.row-iterator;
      least : IsLeastSoFar (λ (row : Vec ReceiverModel Global). IsLeftInRow (sum_of (parts_of l.bound)) row.items) l.fn.rows.items (into_iter_items l.row-iterator) l.fn.lowest l.least;
    }
