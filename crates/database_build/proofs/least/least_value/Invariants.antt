use Rattle.std.proofs.Common.{◌≡◌, length, map}
use Rattle.std.specs.Prelude.{slice_index}
use Rattle.database_build.proofs.LeastLemmas.{IsLeastBefore}
use Rattle.database_build.proofs.least.least_value.Given as goal

-- the cells of the tiles stay written, and the free cells before this one were looked at
abbrev pub invariant-blanks : goal.invariant-blanks
invariant-blanks l = record {
  size : length l.numbers ≡ 25;
  written : map (slice_index l.numbers) l.table.selection.tiles ≡ l.cells;
  least : IsLeastBefore l.table l.cells l.blank l.least;
}
