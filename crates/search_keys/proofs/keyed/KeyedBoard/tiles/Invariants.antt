use Rattle.std.proofs.Common.{ℕ, ◌≡◌, ◌<◌, length, slice_index}
use Rattle.board.specs.Boards.{cell_of}
use Rattle.search_keys.proofs.keyed.KeyedBoard.tiles.Given as goal

-- the first numbers are on their cells
abbrev pub invariant-numbers : goal.invariant-numbers
invariant-numbers l = record {
  all : length l.tiles ≡ 25;
  are : (k : ℕ) → k < l.number → slice_index l.tiles (cell_of l.self k) ≡ k;
}
