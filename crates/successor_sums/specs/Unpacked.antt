-- Boards with the cell of each number beside the numbers, and what is given of their successors.
use Rattle.std.specs.Prelude.{Bool, false, if◌then◌else◌, None, ℕ, ◌≡◌, ◌≤◌, ◌<◌, List, map, slice_index, Option, Some, option_map}
use Rattle.board.specs.declared.moves.Move.{Move}
use Rattle.board.specs.Equality.{move_eq}
use Rattle.board.specs.Shapes.{ShapeModel, cell_count, column_of, row_of}
use Rattle.board.specs.Boards.{BoardModel, IsBoard, blank_of}
use Rattle.board.specs.Weights.{WeightsModel}
use Rattle.board.specs.Keys.{key_of, HasKey}
use Rattle.board.specs.Digits.{digits_of}
use Rattle.board.specs.Moves.{all_moves, successor}
use Rattle.lower_bound.specs.declared.bound.TheConstants.{GREATEST_SUM}
use Rattle.lower_bound.specs.Bounds.{Part, sum_of}
use Rattle.lower_bound.specs.Slides.{AreCellsOf}
use Rattle.successor_sums.specs.declared.exits.Place.{Place}
use Rattle.successor_sums.specs.declared.unpacked.Successor.{Successor}
use Rattle.successor_sums.specs.declared.unpacked.UnpackedBoard.TheInside.{Inside}

-- what is given of a successor of a board: its key, the tile that is moved, the cell that it leaves, the cost of the move, and its sum
-- (that cell is the blank's then)
abbrev pub told_of : List Part → BoardModel → BoardModel × ℕ → Successor
told_of parts b moved = record { key = key_of moved.0; tile = slice_index b.tiles (blank_of moved.0); cell = blank_of moved.0; cost = moved.1; sum = sum_of parts moved.0 }

-- what is given of the successors of a board, by the four moves in the order in which they are tried
abbrev pub successors_of : WeightsModel → List Part → BoardModel → List (Option Successor)
successors_of rule parts b = map (λ m. option_map (told_of parts b) (successor rule b m)) all_moves

-- whether a move is the one that is left out, if any is
abbrev pub is_left_out : Option Move → Move → Bool
is_left_out None m = false
is_left_out (Some back) m = move_eq back m

-- what each move makes, and nothing of the one that is left out
abbrev pub but : {A : Type 0} → Option Move → (Move → Option A) → Move → Option A
but left_out made m = if is_left_out left_out m then None else made m

-- the cell is one of the shape's, and the row and the column are its own
pub record HasRowAndColumn (place : Place) : Type 0 where
  pub cell : place.cell < cell_count place.shape
  pub row : place.row ≡ row_of place.shape place.cell
  pub column : place.column ≡ column_of place.shape place.cell

-- the key is that of a board of the grid, and so are the tile and the cell; cost and sum are in their ranges
pub record FitsGrid (grid : ShapeModel) (s : Successor) : Type 0 where
  pub board : BoardModel
  pub key : HasKey grid s.key board
  pub tile_some : 0 < s.tile
  pub tile_low : s.tile < cell_count grid
  pub cell : s.cell < cell_count grid
  pub cost_some : 1 ≤ s.cost
  pub cost_low : s.cost ≤ 255
  pub sum : s.sum ≤ GREATEST_SUM

-- ---- what lies in memory

-- what the memory holds: its shape and the digits of its key
abbrev pub unpacked_board : Inside → BoardModel
unpacked_board inside = record { grid = inside.shape; tiles = digits_of (cell_count inside.shape) inside.key }

-- that is a board with this key, and the cell of each number is there
pub record IsUnpacked (inside : Inside) : Type 0 where
  pub board : IsBoard (unpacked_board inside)
  pub key : key_of (unpacked_board inside) ≡ inside.key
  pub cells : AreCellsOf (unpacked_board inside) inside.cells
