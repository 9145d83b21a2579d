-- Views: what a group of tiles sees of a board, which is where its tiles and the blank are (Korf, Felner 2002).
use Rattle.std.specs.Prelude.{ℕ, ◌≡◌, ◌≢◌, ◌+◌, ◌<◌, ◌==◌, List, [], ◌∷◌, length, map, set, slice_index, All, AllPairs, if◌then◌else◌}
use Rattle.board.specs.Shapes.{ShapeModel, cell_count}
use Rattle.board.specs.declared.moves.Move.{Move}
use Rattle.board.specs.Neighbours.{LiesTowards}
use Rattle.board.specs.Boards.{BoardModel, cell_of, blank_of}
use Rattle.board.specs.Weights.{WeightsModel, weight_of}

-- The cell of the blank, and the cells of some tiles, in the order of the tiles.
pub record ViewModel : Type 0 where
  pub blank : ℕ
  pub cells : List ℕ

-- what the tiles see of a board: its abstraction, in which all other tiles are left out
abbrev pub view_of : List ℕ → BoardModel → ViewModel
view_of tiles b = record { blank = blank_of b; cells = map (cell_of b) tiles }

-- what the tiles see of a board, by a list of the cell of each number
abbrev pub view_at : List ℕ → List ℕ → ViewModel
view_at tiles cells = record { blank = slice_index cells 0; cells = map (slice_index cells) tiles }

-- the cells after the blank and a tile changed places
abbrev pub exchanged : List ℕ → ℕ → List ℕ
exchanged cells tile = set (set cells 0 (slice_index cells tile)) tile (slice_index cells 0)

-- there is a cell for the blank and for each tile, and no two are the same
pub record IsView (grid : ShapeModel) (tiles : List ℕ) (v : ViewModel) : Type 0 where
  pub one_each : length v.cells ≡ length tiles
  pub in_range : All (λ cell. cell < cell_count grid) (v.blank ∷ v.cells)
  pub different : AllPairs (λ x y. x ≢ y) (v.blank ∷ v.cells)

-- the weight of the tile on this cell, by the tiles and their cells; 0 where none of them is there
abbrev pub weight_on : WeightsModel → List ℕ → List ℕ → ℕ → ℕ
weight_on rule [] cells cell = 0
weight_on rule (tile ∷ tiles) [] cell = 0
weight_on rule (tile ∷ tiles) (x ∷ cells) cell = if x == cell then weight_of rule tile else weight_on rule tiles cells cell

-- The puzzle with all tiles but these left out: an abstraction of it, whose states are the views.
pub record Abstraction : Type 0 where
  pub grid : ShapeModel
  pub rule : WeightsModel
  pub tiles : List ℕ

-- The blank goes to its neighbour in the direction m. A tile of the group that is there goes to where
-- the blank was, at its weight. A move of any other tile, which isn't seen, costs nothing.
pub record ViewMoves (a : Abstraction) (v : ViewModel) (m : Move) (v' : ViewModel) (c : ℕ) : Type 0 where
  pub towards : LiesTowards a.grid m v.blank v'.blank
  pub exchanged : v'.cells ≡ map (λ cell. if cell == v'.blank then v.blank else cell) v.cells
  pub cost : c ≡ weight_on a.rule a.tiles v.cells v'.blank

-- the moves of the plan take v to w, and their costs add up to k
abbrev pub ViewLeads : Abstraction → ViewModel → List Move → ViewModel → ℕ → Type 0
ViewLeads a v [] w k = (w ≡ v) × (k ≡ 0)
ViewLeads a v (m ∷ plan) w k =
    (next : ViewModel) × (c rest : ℕ) × ViewMoves a v m next c × ViewLeads a next plan w rest × (k ≡ c + rest)
