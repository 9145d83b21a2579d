use Rattle.std.proofs.Common.{◌≢◌, take}
use Rattle.std.specs.Prelude.{AllPairs}
use Rattle.pattern_index.proofs.sparse.are_different.Given as goal

abbrev pub invariant-places : goal.invariant-places
invariant-places l = AllPairs (λ x y. x ≢ y) (take l.place l.cells)
