use Rattle.std.proofs.Common.{◌≡◌, ◌≤◌, drop, length}
use Rattle.pattern_index.specs.Sparse.{sparse_of}
use Rattle.pattern_index.proofs.sparse.sparse_place.Given as goal

-- the digits from the place on are in
abbrev pub invariant-cells : goal.invariant-cells
invariant-cells l = record {
  within : l.place ≤ length l.cells;
  sparse : l.sparse ≡ sparse_of l.base (drop l.place l.cells);
}

abbrev pub decreases-cells : goal.decreases-cells
decreases-cells l = l.place
