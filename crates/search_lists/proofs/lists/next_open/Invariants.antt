use Rattle.std.specs.Prelude.{ℕ, ◌≤◌}
use Rattle.open_buckets.specs.OpenLists.{places_at}
use Rattle.search_lists.specs.Lists.{both, AreKnown}
use Rattle.search_lists.specs.Orders.{Guide, IsInOrder}
use Rattle.search_lists.proofs.OrderLemmas.{count_below}
use Rattle.search_lists.proofs.lists.next_open.Given as goal

abbrev pub invariant-entries : goal.invariant-entries
invariant-entries l = record {
  known : AreKnown (both l.closed l.waiting);
  places : (h : ℕ) → places_at l.fn.waiting h ≤ places_at l.waiting h;
  order : (guide : Guide) → IsInOrder guide (both l.closed l.fn.waiting) → IsInOrder guide (both l.closed l.waiting);
}

abbrev pub decreases-entries : goal.decreases-entries
decreases-entries l = count_below l.below l.waiting
