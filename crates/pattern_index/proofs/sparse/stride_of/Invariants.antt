use Rattle.std.proofs.Common.{◌≡◌, ◌*◌, ◌^◌, drop}
use Rattle.pattern_index.specs.Sparse.{stride_of}
use Rattle.pattern_index.proofs.sparse.stride_of.Given as goal

abbrev pub invariant-tiles : goal.invariant-tiles
invariant-tiles l = record {
  power : l.stride ≡ l.count ^ l.place;
  rest : l.stride * stride_of l.count (drop l.place l.tiles) l.tile ≡ stride_of l.count l.tiles l.tile;
}
