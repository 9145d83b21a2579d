-- Boards: which tile is on which cell (Korf 1985).
use Rattle.std.specs.Prelude.{ℕ, ◌≡◌, ◌≢◌, ◌<◌, ◌==◌, List, length, All, AllPairs}
use Rattle.std.specs.List.{position_or_len, range_with_len}
use Rattle.board.specs.Shapes.{ShapeModel, IsShape, cell_count}

-- The number on each cell, from cell 0 on. A number above 0 is a tile, and 0 is the blank.
pub record BoardModel : Type 0 where
  pub grid : ShapeModel
  pub tiles : List ℕ

-- there is one number for each cell, below the count of cells, and no two are the same
pub record IsBoard (b : BoardModel) : Type 0 where
  pub sides : IsShape b.grid
  pub one_each : length b.tiles ≡ cell_count b.grid
  pub in_range : All (λ tile. tile < cell_count b.grid) b.tiles
  pub different : AllPairs (λ x y. x ≢ y) b.tiles

-- the cell that a number is on
abbrev pub cell_of : BoardModel → ℕ → ℕ
cell_of b tile = position_or_len (λ x. x == tile) b.tiles

-- the cell of the blank
abbrev pub blank_of : BoardModel → ℕ
blank_of b = cell_of b 0

-- Korf's goal: the blank in the upper left, and tile t on cell t
abbrev pub goal_of : ShapeModel → BoardModel
goal_of grid = record { grid = grid; tiles = range_with_len 0 (cell_count grid) }
