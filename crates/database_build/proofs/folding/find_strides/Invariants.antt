use Rattle.std.proofs.Common.{ℕ, ◌≡◌, ◌<◌, length}
use Rattle.std.specs.Prelude.{slice_index}
use Rattle.board.specs.Shapes.{cell_count}
use Rattle.pattern_index.specs.Sparse.{stride_of}
use Rattle.database_build.proofs.folding.find_strides.Given as goal

-- the numbers up to here have their strides
abbrev pub invariant-numbers : goal.invariant-numbers
invariant-numbers l = record {
  all : length l.strides ≡ 25;
  are : (n : ℕ) → n < l.number → slice_index l.strides n ≡ stride_of (cell_count l.group.grid) l.group.tiles n;
}
