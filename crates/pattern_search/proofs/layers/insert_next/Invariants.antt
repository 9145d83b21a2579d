use Rattle.pattern_search.proofs.LayerLemmas.{IsLeading}
use Rattle.pattern_search.proofs.layers.insert_next.Given as goal

abbrev pub invariant-edges : goal.invariant-edges
invariant-edges l = IsLeading l.graph l.region l.place l.bits l.at l.initial.next l.next
