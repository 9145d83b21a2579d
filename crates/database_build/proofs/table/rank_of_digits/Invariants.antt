use Rattle.std.proofs.Common.{◌≡◌, ◌-◌, ◌%◌, ◌/◌, ◌++◌, length, map, take}
use Rattle.std.specs.Prelude.{slice_index}
use Rattle.pattern_index.specs.Sparse.{digits_in}
use Rattle.database_build.proofs.table.rank_of_digits.Given as goal

-- the cells of the blank and of the tiles before the place are digits, and those of the others are digits of what is left
abbrev pub invariant-tiles : goal.invariant-tiles
invariant-tiles l = record {
  all : length l.cells ≡ 25;
  blank : slice_index l.cells 0 ≡ l.slot % l.base;
  are : map (slice_index l.cells) (take l.place l.tiles) ++ digits_in l.base (length l.tiles - l.place) l.rest ≡ digits_in l.base (length l.tiles) (l.slot / l.base);
}
