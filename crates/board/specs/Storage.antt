-- How a board lies in memory: its tiles, and zeros behind them.
use Rattle.std.specs.Prelude.{ℕ, ◌≡◌, List, take}
use Rattle.std.proofs.Common.{ap}
use Rattle.board.specs.Shapes.{cell_count}
use Rattle.board.specs.Boards.{BoardModel, IsBoard}
use Rattle.board.specs.Padding.{array_of, IsPadded, array_of-take}
use Rattle.board.specs.declared.boards.Board.TheInside.{Inside}

-- what readers see of the memory
abbrev pub position_in : Inside → BoardModel
position_in inside = record { grid = inside.shape; tiles = take (cell_count inside.shape) inside.tiles }

-- the memory of a board
abbrev pub storage_of : BoardModel → Inside
storage_of b = record { shape = b.grid; tiles = array_of 25 b.tiles }

-- the memory holds a board, and the cells that it doesn't use are 0
pub record IsStored (inside : Inside) : Type 0 where
  pub board : IsBoard (position_in inside)
  pub unused : IsPadded 25 (cell_count inside.shape) inside.tiles

-- nothing is lost
pub storage_of-position_in : (inside : Inside) → IsStored inside → storage_of (position_in inside) ≡ inside
storage_of-position_in inside stored =
    let with_tiles : List ℕ → Inside = λ (tiles : List ℕ). record { shape = inside.shape; tiles = tiles } in
    ap with_tiles (array_of-take 25 (cell_count inside.shape) inside.tiles stored.board.one_each stored.unused)
