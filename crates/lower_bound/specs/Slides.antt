-- What tables say before a tile goes to the blank's cell and after it.
use Rattle.std.specs.Prelude.{ℕ, ◌≡◌, ◌⊎◌, ◌≤◌, ◌<◌, List, length, slice_index}
use Rattle.board.specs.Weights.{WeightsModel}
use Rattle.board.specs.Shapes.{ShapeModel, cell_count}
use Rattle.board.specs.Moves.{Moves}
use Rattle.board.specs.Boards.{BoardModel, IsBoard, blank_of, cell_of}
use Rattle.board.specs.declared.moves.Move.{Move}
use Rattle.pattern_index.specs.Groups.{GroupModel}
use Rattle.pattern_index.specs.Sparse.{sparse_size_of}
use Rattle.pattern_index.specs.Views.{IsView, view_at, exchanged}
use Rattle.database_build.specs.Folds.{FoldedModel}
use Rattle.database_build.specs.Entries.{most_places}
use Rattle.pattern_search.specs.declared.finding.TheConstants.{NO_VALUE}
use Rattle.lower_bound.specs.Bounds.{sum_of}
use Rattle.lower_bound.specs.Folded.{value_by}
use Rattle.lower_bound.specs.Tables.{BoundModel, parts_of}

-- the list holds the cell of each number, and has a place for each that a board may have
pub record AreCellsOf (b : BoardModel) (cells : List ℕ) : Type 0 where
  pub all : length cells ≡ 25
  pub are : (number : ℕ) → number < cell_count b.grid → slice_index cells number ≡ cell_of b number

-- this is a board of the grid, and these are its cells
pub record HasCells (grid : ShapeModel) (cells : List ℕ) (b : BoardModel) : Type 0 where
  pub board : IsBoard b
  pub sides : b.grid ≡ grid
  pub listed : AreCellsOf b cells

-- a move leads from one board to another, and this is the tile that it moves
pub record IsMoveOf (tile : ℕ) (b b' : BoardModel) : Type 0 where
  pub rule : WeightsModel
  pub direction : Move
  pub cost : ℕ
  pub moves : Moves rule b direction b' cost
  pub moved : tile ≡ slice_index b.tiles (blank_of b')

-- this is a board of the tables' grid, and its sum
pub record HasSum (tables : BoundModel) (b : BoardModel) (sum : ℕ) : Type 0 where
  pub sides : b.grid ≡ tables.split.grid
  pub is : sum ≡ sum_of (parts_of tables) b

-- a move of this tile leads from the board with these cells to another
pub record IsTileMove (grid : ShapeModel) (cells : List ℕ) (tile : ℕ) (b b' : BoardModel) : Type 0 where
  pub before : HasCells grid cells b
  pub move : IsMoveOf tile b b'

-- what a group sees is a view
abbrev pub SeesView : List ℕ → GroupModel → Type 0
SeesView cells group = IsView group.grid group.tiles (view_at group.tiles cells)

-- what a group sees is a view before that and after it
pub record SeesBoth (cells : List ℕ) (tile : ℕ) (group : GroupModel) : Type 0 where
  pub low : tile < 25
  pub before : SeesView cells group
  pub after : SeesView (exchanged cells tile) group

-- a folded table has no value before or after, or has too many sparse places to tell one by them
abbrev pub IsUntold : List ℕ → List ℕ → FoldedModel → Type 0
IsUntold before after fold = (NO_VALUE ≤ value_by before fold) ⊎ (NO_VALUE ≤ value_by after fold) ⊎ (most_places fold.selection < sparse_size_of fold.selection)

-- a folded table has a value before and after, and hasn't too many sparse places
abbrev pub TellsBoth : List ℕ → List ℕ → FoldedModel → Type 0
TellsBoth before after fold = (value_by before fold < NO_VALUE) × (value_by after fold < NO_VALUE) × (sparse_size_of fold.selection ≤ most_places fold.selection)
