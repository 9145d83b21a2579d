-- The boards from which a plan may lead to a goal.
use Rattle.std.specs.Prelude.{ℕ, ◌≡◌, ◌<◌, ◌↔◌, List, length, All, AllPairs, Contains, ◌==◌, ◌||◌, slice_index, swap, if◌then◌else◌}
use Rattle.board.specs.Boards.{BoardModel, IsBoard}
use Rattle.board.specs.Classes.{SameClass}
use Rattle.board.specs.Keys.{key_of}
use Rattle.board.specs.Shapes.{ShapeModel, cell_count}
use Rattle.pattern_index.specs.Ranks.{list_at}

-- a board of the goal's shape and of its class
pub record IsOfClass (goal b : BoardModel) : Type 0 where
  pub board : IsBoard b
  pub sides : b.grid ≡ goal.grid
  pub class : SameClass b goal

-- these are `count` boards, and each has the property
pub record AreBoardsWith (HasIt : BoardModel → Type 0) (count : ℕ) (boards : List BoardModel) : Type 0 where
  pub counted : length boards ≡ count
  pub each : All HasIt boards

-- each board of the goal's class is among these and no other is, and their keys rise, so that none is there twice
pub record AreWholeClass (goal : BoardModel) (boards : List BoardModel) : Type 0 where
  pub each : (b : BoardModel) → Contains boards b ↔ IsOfClass goal b
  pub rising : AllPairs (λ x y. key_of x < key_of y) boards

-- the first two numbers exchanged, or the next two where one of these is the blank
abbrev pub in_other_class : List ℕ → List ℕ
in_other_class tiles = if (slice_index tiles 0 == 0) || (slice_index tiles 1 == 0) then swap tiles 2 3 else swap tiles 0 1

-- the board whose tiles have this place, from 0 on
abbrev pub board_at : ShapeModel → ℕ → BoardModel
board_at grid k = record { grid = grid; tiles = list_at (cell_count grid) (cell_count grid) k }
