use Rattle.pattern_search.proofs.LayerLemmas.{IsWriting}
use Rattle.pattern_search.proofs.layers.write_values.Given as goal

abbrev pub invariant-bits : goal.invariant-bits
invariant-bits l = IsWriting l.first l.bits l.left l.cost l.initial.values l.values

abbrev pub decreases-bits : goal.decreases-bits
decreases-bits l = l.left
