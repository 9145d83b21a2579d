use Rattle.pattern_search.proofs.LayerLemmas.{IsInserting}
use Rattle.pattern_search.proofs.layers.insert_moved.Given as goal

abbrev pub invariant-bits : goal.invariant-bits
invariant-bits l = IsInserting l.fn.orders.count l.fn.edge l.fn.place l.fn.bits l.left l.initial.next l.next

abbrev pub decreases-bits : goal.decreases-bits
decreases-bits l = l.left
