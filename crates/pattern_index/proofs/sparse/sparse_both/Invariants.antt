use Rattle.std.proofs.Common.{◌≡◌, ◌≤◌, map, drop, length}
use Rattle.std.specs.Prelude.{slice_index}
use Rattle.pattern_index.specs.Sparse.{sparse_of}
use Rattle.pattern_index.specs.Views.{exchanged}
use Rattle.pattern_index.proofs.sparse.sparse_both.Given as goal

-- the digits from the place on are in
abbrev pub invariant-tiles : goal.invariant-tiles
invariant-tiles l = record {
  within : l.place ≤ length l.tiles;
  before : l.before ≡ sparse_of l.base (map (slice_index l.cells) (drop l.place l.tiles));
  after : l.after ≡ sparse_of l.base (map (slice_index (exchanged l.cells l.tile)) (drop l.place l.tiles));
}

abbrev pub decreases-tiles : goal.decreases-tiles
decreases-tiles l = l.place
