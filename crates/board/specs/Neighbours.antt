-- Neighbouring cells: in one row and adjacent columns, or in one column and adjacent rows.
use Rattle.std.specs.Prelude.{ℕ, ◌≡◌, ◌+◌, ◌-◌, ◌<◌, ◌==◌, Option, None, Some, if◌then◌else◌}
use Rattle.board.specs.Shapes.{ShapeModel, cell_count, row_of, column_of}
use Rattle.board.specs.declared.moves.Move.{Move}
use Rattle.board.specs.declared.moves.Move.TheVariants.{U, L, R, D}

-- the cell `to` is the neighbour of the cell `from` up, left, right or down
abbrev pub LiesTowards : ShapeModel → Move → ℕ → ℕ → Type 0
LiesTowards grid U from to = (to < cell_count grid) × (row_of grid to + 1 ≡ row_of grid from) × (column_of grid to ≡ column_of grid from)
LiesTowards grid L from to = (to < cell_count grid) × (row_of grid to ≡ row_of grid from) × (column_of grid to + 1 ≡ column_of grid from)
LiesTowards grid R from to = (to < cell_count grid) × (row_of grid to ≡ row_of grid from) × (column_of grid to ≡ column_of grid from + 1)
LiesTowards grid D from to = (to < cell_count grid) × (row_of grid to ≡ row_of grid from + 1) × (column_of grid to ≡ column_of grid from)

-- the opposite direction
abbrev pub opposite : Move → Move
opposite U = D
opposite L = R
opposite R = L
opposite D = U

-- the neighbour computed: the cell one row or column further, where there is one
abbrev pub neighbour : ShapeModel → Move → ℕ → Option ℕ
neighbour grid U cell = if row_of grid cell == 0 then None else Some (cell - grid.cols)
neighbour grid L cell = if column_of grid cell == 0 then None else Some (cell - 1)
neighbour grid R cell = if column_of grid cell + 1 == grid.cols then None else Some (cell + 1)
neighbour grid D cell = if row_of grid cell + 1 == grid.rows then None else Some (cell + grid.cols)
