-- Grids, and their cells, rows and columns.
use Rattle.std.specs.Prelude.{ℕ, ◌*◌, ◌/◌, ◌%◌, ◌≤◌}

-- The sides of a board. Its cells are numbered from 0, left to right and top to bottom.
pub record ShapeModel : Type 0 where
  pub rows : ℕ
  pub cols : ℕ

-- how many cells there are: a cell is a number below this
abbrev pub cell_count : ShapeModel → ℕ
cell_count grid = grid.rows * grid.cols

-- the row of a cell, from 0 at the top
abbrev pub row_of : ShapeModel → ℕ → ℕ
row_of grid cell = cell / grid.cols

-- the column of a cell, from 0 at the left
abbrev pub column_of : ShapeModel → ℕ → ℕ
column_of grid cell = cell % grid.cols

-- the sides that a puzzle may have: each from 2 to 5
pub record IsShape (grid : ShapeModel) : Type 0 where
  pub rows_low : 2 ≤ grid.rows
  pub rows_high : grid.rows ≤ 5
  pub cols_low : 2 ≤ grid.cols
  pub cols_high : grid.cols ≤ 5
