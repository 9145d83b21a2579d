use Rattle.std.proofs.Common.{◌≡◌, ◌≤◌, map, drop, length}
use Rattle.std.specs.Prelude.{slice_index}
use Rattle.pattern_index.specs.Sparse.{sparse_of}
use Rattle.pattern_index.proofs.sparse.sparse_of_all.Given as goal

-- the digits from the place on are in
abbrev pub invariant-tiles : goal.invariant-tiles
invariant-tiles l = record {
  within : l.place ≤ length l.tiles;
  sparse : l.sparse ≡ sparse_of l.count (map (slice_index l.cells) (drop l.place l.tiles));
}

abbrev pub decreases-tiles : goal.decreases-tiles
decreases-tiles l = l.place
