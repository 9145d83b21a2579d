-- How a board lies in memory by its search key.
use Rattle.std.specs.Prelude.{◌≡◌}
use Rattle.board.specs.Shapes.{cell_count}
use Rattle.board.specs.Boards.{BoardModel, IsBoard}
use Rattle.pattern_index.specs.Sparse.{digits_in}
use Rattle.search_keys.specs.SearchKeys.{key_base, cells_by_number, search_key}
use Rattle.search_keys.specs.declared.keyed.KeyedBoard.TheInside.{Inside}

-- Number and cell exchanged: number c is on cell t where number t is on cell c of the board.
abbrev pub turned : BoardModel → BoardModel
turned b = record { grid = b.grid; tiles = cells_by_number b }

-- the board whose cells by number are the digits of the key
abbrev pub board_in : Inside → BoardModel
board_in inside = turned (record { grid = inside.shape; tiles = digits_in (key_base inside.shape) (cell_count inside.shape) inside.key })

-- the memory of a board
abbrev pub key_storage_of : BoardModel → Inside
key_storage_of b = record { shape = b.grid; key = search_key b }

-- that is a board, and the key is its search key
pub record IsKeyed (inside : Inside) : Type 0 where
  pub board : IsBoard (board_in inside)
  pub key : search_key (board_in inside) ≡ inside.key

-- nothing is lost
pub storage_of-board_in : (inside : Inside) → IsKeyed inside → key_storage_of (board_in inside) ≡ inside
storage_of-board_in inside keyed = λ i. record { shape = inside.shape; key = keyed.key i }
