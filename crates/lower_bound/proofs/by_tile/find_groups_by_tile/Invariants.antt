use Rattle.std.proofs.Common.{ℕ, ◌≡◌, ◌<◌, length}
use Rattle.std.specs.Prelude.{slice_index}
use Rattle.lower_bound.specs.ByTile.{IsGroupWith}
use Rattle.lower_bound.proofs.by_tile.find_groups_by_tile.Given as goal

-- the numbers up to here have their groups
abbrev pub invariant-numbers : goal.invariant-numbers
invariant-numbers l = record {
  all : length l.by_tile ≡ 25;
  are : (tile : ℕ) → tile < l.number → IsGroupWith l.groups tile (slice_index l.by_tile tile);
}
