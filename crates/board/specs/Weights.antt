-- What a move costs: the weight of the tile that is moved.
use Rattle.std.specs.Prelude.{ℕ, ◌≡◌, ◌-◌, ◌<◌, ◌≤◌, List, ◌∷◌, length, replicate, slice_index}
use Rattle.std.specs.List.{range_with_len}
use Rattle.board.specs.Shapes.{ShapeModel, IsShape, cell_count}

-- The weight of each tile, by the tile's number. The blank has an entry too, which is 0.
pub record WeightsModel : Type 0 where
  pub grid : ShapeModel
  pub weights : List ℕ

-- what it costs to move a tile
abbrev pub weight_of : WeightsModel → ℕ → ℕ
weight_of rule tile = slice_index rule.weights tile

-- there is an entry for each number, that of the blank is 0, and that of a tile is from 1 to 255
pub record AreWeights (rule : WeightsModel) : Type 0 where
  pub sides : IsShape rule.grid
  pub one_each : length rule.weights ≡ cell_count rule.grid
  pub blank : weight_of rule 0 ≡ 0
  pub low : (tile : ℕ) → 0 < tile → tile < cell_count rule.grid → 1 ≤ weight_of rule tile
  pub high : (tile : ℕ) → tile < cell_count rule.grid → weight_of rule tile ≤ 255

-- the costs that a list says: the weights of tiles 1, 2, .. in order
abbrev pub listed_rule : ShapeModel → List ℕ → WeightsModel
listed_rule grid weights = record { grid = grid; weights = 0 ∷ weights }

-- unit cost: every move costs 1
abbrev pub unit_rule : ShapeModel → WeightsModel
unit_rule grid = record { grid = grid; weights = 0 ∷ replicate (cell_count grid - 1) 1 }

-- face cost: moving tile t costs t
abbrev pub face_rule : ShapeModel → WeightsModel
face_rule grid = record { grid = grid; weights = range_with_len 0 (cell_count grid) }
