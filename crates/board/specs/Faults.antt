-- Why sides are no shape, numbers no board and a list no weights, and the code of each reason.
use Rattle.std.specs.Prelude.{ℕ, ◌≡◌, ◌≢◌, ◌-◌, ◌<◌, ◌≤◌, List, length, take, All, AllPairs, Contains, slice_index, codes}
use Rattle.board.specs.Shapes.{ShapeModel, cell_count}
use Rattle.board.specs.declared.faults.ShapeFault.{ShapeFault}
use Rattle.board.specs.declared.faults.ShapeFault.TheVariants as shape
use Rattle.board.specs.declared.faults.TilesFault.{TilesFault}
use Rattle.board.specs.declared.faults.TilesFault.TheVariants as tiles
use Rattle.board.specs.declared.faults.WeightsFault.{WeightsFault}
use Rattle.board.specs.declared.faults.WeightsFault.TheVariants as weights
use Rattle.board.specs.declared.faults.BoardFault.{BoardFault}
use Rattle.board.specs.declared.faults.BoardFault.TheVariants.{SideOutOfRange, WrongCount, TileOutOfRange, TileRepeated, WrongCountOfWeights, WeightOutOfRange}

-- there are as many numbers as cells, and those before this place are in range and different
pub record IsFirstTilesPlace (grid : ShapeModel) (numbers : List ℕ) (place : ℕ) : Type 0 where
  pub one_each : length numbers ≡ cell_count grid
  pub within : place < length numbers
  pub in_range : All (λ number. number < cell_count grid) (take place numbers)
  pub different : AllPairs (λ x y. x ≢ y) (take place numbers)

-- the first fault of numbers that should be the tiles of a board: their count, else that of the first offending place
abbrev pub IsFirstTilesFault : ShapeModel → List ℕ → TilesFault → Type 0
IsFirstTilesFault grid numbers tiles.WrongCount = length numbers ≢ cell_count grid
IsFirstTilesFault grid numbers (tiles.TileOutOfRange place) = IsFirstTilesPlace grid numbers place × (cell_count grid ≤ slice_index numbers place)
IsFirstTilesFault grid numbers (tiles.TileRepeated place) =
    IsFirstTilesPlace grid numbers place × (slice_index numbers place < cell_count grid) × Contains (take place numbers) (slice_index numbers place)

-- there is a weight for each tile; the one at this place is 0, and none before it
pub record IsFirstZero (grid : ShapeModel) (listed : List ℕ) (place : ℕ) : Type 0 where
  pub one_each : length listed ≡ cell_count grid - 1
  pub within : place < length listed
  pub before : All (λ weight. 1 ≤ weight) (take place listed)
  pub zero : slice_index listed place ≡ 0

-- the first fault of a list of weights, each below 256: their count, else the first 0
abbrev pub IsFirstWeightsFault : ShapeModel → List ℕ → WeightsFault → Type 0
IsFirstWeightsFault grid listed weights.WrongCount = length listed ≢ cell_count grid - 1
IsFirstWeightsFault grid listed (weights.WeightOutOfRange place) = IsFirstZero grid listed place

-- the code that a fault of sides is reported by
abbrev pub shape_code : ShapeFault → List ℕ
shape_code shape.SideOutOfRange = codes "E1"

-- that of a fault of numbers
abbrev pub tiles_code : TilesFault → List ℕ
tiles_code tiles.WrongCount = codes "E2"
tiles_code (tiles.TileOutOfRange place) = codes "E3"
tiles_code (tiles.TileRepeated place) = codes "E4"

-- that of a fault of weights
abbrev pub weights_code : WeightsFault → List ℕ
weights_code weights.WrongCount = codes "E13"
weights_code (weights.WeightOutOfRange place) = codes "E14"

-- that of any of them
abbrev pub board_code : BoardFault → List ℕ
board_code SideOutOfRange = codes "E1"
board_code WrongCount = codes "E2"
board_code (TileOutOfRange place) = codes "E3"
board_code (TileRepeated place) = codes "E4"
board_code WrongCountOfWeights = codes "E13"
board_code (WeightOutOfRange place) = codes "E14"

-- the same fault, of sides
abbrev pub of_shape : ShapeFault → BoardFault
of_shape shape.SideOutOfRange = SideOutOfRange

-- of numbers
abbrev pub of_tiles : TilesFault → BoardFault
of_tiles tiles.WrongCount = WrongCount
of_tiles (tiles.TileOutOfRange place) = TileOutOfRange place
of_tiles (tiles.TileRepeated place) = TileRepeated place

-- of weights
abbrev pub of_weights : WeightsFault → BoardFault
of_weights weights.WrongCount = WrongCountOfWeights
of_weights (weights.WeightOutOfRange place) = WeightOutOfRange place
