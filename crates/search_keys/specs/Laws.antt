-- The laws of search keys.
use Rattle.std.specs.Prelude.{ℕ, ◌≡◌, ◌+◌, ◌*◌, ◌/◌, ◌%◌, ◌^◌, ◌<◌, ◌≤◌, map, slice_index}
use Rattle.std.specs.List.{range_with_len}
use Rattle.board.specs.declared.moves.Move.{Move}
use Rattle.board.specs.Shapes.{cell_count}
use Rattle.board.specs.Boards.{BoardModel, IsBoard, cell_of, blank_of}
use Rattle.board.specs.Weights.{WeightsModel}
use Rattle.board.specs.Moves.{Moves}
use Rattle.pattern_index.specs.Sparse.{sparse_of}
use Rattle.search_keys.specs.SearchKeys.{key_base, search_key}

-- a search key names one board of a grid
abbrev pub SearchKeysNameBoards : Type 0
SearchKeysNameBoards = (a b : BoardModel) → IsBoard a → IsBoard b → a.grid ≡ b.grid → search_key a ≡ search_key b → a ≡ b

-- a search key has as many digits as there are cells
abbrev pub SearchKeysFit : Type 0
SearchKeysFit = (b : BoardModel) → IsBoard b → search_key b < key_base b.grid ^ cell_count b.grid

-- so it has 125 bits at most, and 64 where there are at most 16 cells
abbrev pub SearchKeysHaveBits : Type 0
SearchKeysHaveBits = (b : BoardModel) → IsBoard b → (search_key b < 2 ^ 125) × (cell_count b.grid ≤ 16 → search_key b < 2 ^ 64)

-- a move exchanges the digits of the blank and of the tile that is moved: each goes to where the other was
abbrev pub MovesExchangeTwoDigits : Type 0
MovesExchangeTwoDigits =
    (rule : WeightsModel) (b : BoardModel) (m : Move) (b' : BoardModel) (c tile : ℕ)
    → IsBoard b
    → Moves rule b m b' c
    → tile ≡ slice_index b.tiles (blank_of b')
    → search_key b' + cell_of b tile * key_base b.grid ^ tile + blank_of b
    ≡ search_key b + blank_of b * key_base b.grid ^ tile + cell_of b tile

-- the cells of n tiles from a tile on are n digits of the search key, from that tile's digit on
abbrev pub GroupsSeeDigits : Type 0
GroupsSeeDigits =
    (b : BoardModel) (first n : ℕ)
    → IsBoard b
    → first + n ≤ cell_count b.grid
    → sparse_of (key_base b.grid) (map (cell_of b) (range_with_len first n)) ≡ search_key b / key_base b.grid ^ first % key_base b.grid ^ n
