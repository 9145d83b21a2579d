-- How regions are numbered: the labels of a set's free cells, and then one cell of one set after another.
use Rattle.std.specs.Prelude.{ℕ, ◌≡◌, ◌<◌, ◌≤◌, Bool, true, false, List, length, sum, slice_index, Contains, suc, ◌+◌, ◌-◌, ◌*◌, ◌^◌, Some, slice_get}
use Rattle.board.specs.declared.moves.Move.{Move}
use Rattle.board.specs.Shapes.{ShapeModel, cell_count}
use Rattle.board.specs.Neighbours.{LiesTowards}
use Rattle.pattern_index.specs.Ranks.{ways, IsListing}
use Rattle.pattern_index.specs.declared.group.TheConstants.{MAX_SIZE}
use Rattle.pattern_graph.specs.Regions.{IsFree, Wanders}
use Rattle.pattern_graph.specs.Orders.{below}
use Rattle.pattern_graph.specs.Sets.{IsChoices, choose, set_at}
use Rattle.pattern_graph.specs.declared.regions.Home.{Home}
use Rattle.pattern_graph.specs.declared.regions.Regions.{Regions}

-- ---- labels: for each free cell one that the blank reaches from it

-- the label of a cell is a free cell that is not above it, and the blank gets there
pub record IsLabel (grid : ShapeModel) (cells : List ℕ) (cell label : ℕ) : Type 0 where
  pub low : label ≤ cell
  pub free : ¬ Contains cells label
  pub reached : (moves : List Move) × Wanders grid cells cell moves label

-- each free cell has a label
pub record AreLabels (grid : ShapeModel) (cells labels : List ℕ) : Type 0 where
  pub size : length labels ≡ 25
  pub each : (cell : ℕ) → IsFree grid cells cell → IsLabel grid cells cell (slice_index labels cell)

-- the free neighbour's label is not below the cell's
abbrev pub IsSettledTowards : ShapeModel → List ℕ → List ℕ → Move → ℕ → Type 0
IsSettledTowards grid cells labels m cell = (next : ℕ) → IsFree grid cells cell → LiesTowards grid m cell next → ¬ Contains cells next → slice_index labels cell ≤ slice_index labels next

-- no free neighbour's label is
abbrev pub IsSettled : ShapeModel → List ℕ → List ℕ → ℕ → Type 0
IsSettled grid cells labels cell = (m : Move) → IsSettledTowards grid cells labels m cell

-- the labels fall if some is changed, and are as they were if none is
pub record IsLowering (before after : List ℕ) (changed : Bool) : Type 0 where
  pub falls : changed ≡ true → sum after < sum before
  pub same : changed ≡ false → after ≡ before

-- the labels after that: each free cell still has one, and if none was changed they are settled so far
pub record HasLowered (grid : ShapeModel) (cells : List ℕ) (AreSettledSoFar : List ℕ → Type 0) (before after : List ℕ) (changed : Bool) : Type 0 where
  pub labels : AreLabels grid cells after
  pub lowering : IsLowering before after changed
  pub settled : changed ≡ false → AreSettledSoFar after

-- all free cells that the blank reaches from one another have one label
pub record AreSettled (grid : ShapeModel) (cells labels : List ℕ) : Type 0 where
  pub are : AreLabels grid cells labels
  pub near : (m : Move) (from to : ℕ) → IsFree grid cells from → IsFree grid cells to → LiesTowards grid m from to → slice_index labels to ≡ slice_index labels from

-- ---- numbers

-- a region's home is a free cell, whose number is the region
pub record IsHome (grid : ShapeModel) (count : ℕ) (numbers : List ℕ) (region : ℕ) (home : Home) : Type 0 where
  pub place : home.set * cell_count grid + home.cell < length numbers
  pub free : IsFree grid (set_at (cell_count grid) count home.set) home.cell
  pub number : slice_index numbers (home.set * cell_count grid + home.cell) ≡ region

-- each free cell of a set below a limit is numbered by the region whose home is its label
abbrev pub IsNumberedRow : ShapeModel → List ℕ → List ℕ → List ℕ → List Home → ℕ → ℕ → Type 0
IsNumberedRow grid cells labels numbers homes set limit = (cell : ℕ) → cell < limit → IsFree grid cells cell → slice_get homes (slice_index numbers (set * cell_count grid + cell)) ≡ Some (record { set = set; cell = slice_index labels cell })

-- all free cells of a set are
pub record IsSetNumbered (grid : ShapeModel) (count : ℕ) (numbers : List ℕ) (homes : List Home) (set : ℕ) : Type 0 where
  pub labels : List ℕ
  pub settled : AreSettled grid (set_at (cell_count grid) count set) labels
  pub row : IsNumberedRow grid (set_at (cell_count grid) count set) labels numbers homes set (cell_count grid)

-- the cells of the sets below one are numbered
pub record AreNumbered (grid : ShapeModel) (count : ℕ) (numbers : List ℕ) (homes : List Home) (set : ℕ) : Type 0 where
  pub size : length numbers ≡ set * cell_count grid
  pub rows : (other : ℕ) → other < set → IsSetNumbered grid count numbers homes other
  pub are_homes : (region : ℕ) (home : Home) → slice_get homes region ≡ Some home → IsHome grid count numbers region home
  pub few : length homes ≤ set * (cell_count grid - count)

-- and the cells below one of that set
pub record AreNumberedTo (grid : ShapeModel) (count : ℕ) (cells labels numbers : List ℕ) (homes : List Home) (set cell : ℕ) : Type 0 where
  pub size : length numbers ≡ set * cell_count grid + cell
  pub rows : (other : ℕ) → other < set → IsSetNumbered grid count numbers homes other
  pub row : IsNumberedRow grid cells labels numbers homes set cell
  pub are_homes : (region : ℕ) (home : Home) → slice_get homes region ≡ Some home → IsHome grid count numbers region home
  pub few : length homes + below cell cells ≤ set * (cell_count grid - count) + cell

-- these are numbered in the regions
abbrev pub AreNumberedIn : Regions → List ℕ → List ℕ → ℕ → ℕ → Type 0
AreNumberedIn r cells labels set cell = AreNumberedTo r.shape (length cells) cells labels r.numbers.items r.homes.items set cell

-- the regions of the sets of `count` cells below one are numbered, and there are no more views than a group may have
pub record AreBegun (grid : ShapeModel) (count set : ℕ) (r : Regions) : Type 0 where
  pub shape : r.shape ≡ grid
  pub tiles : r.count ≡ count
  pub choices : IsChoices r.choices
  pub short : count ≤ 9
  pub room : suc count ≤ cell_count grid
  pub small : ways (cell_count grid) (suc count) ≤ MAX_SIZE
  pub numbered : AreNumbered grid count r.numbers.items r.homes.items set

-- the sets below this one are numbered, and it is a set
pub record IsNextSet (set : ℕ) (r : Regions) : Type 0 where
  pub begun : AreBegun r.shape r.count set r
  pub inside : set < choose (cell_count r.shape) r.count

-- both have the same grid, count and choices
pub record AreOfSameSets (r r' : Regions) : Type 0 where
  pub shape : r'.shape ≡ r.shape
  pub count : r'.count ≡ r.count
  pub choices : r'.choices ≡ r.choices

-- The cells of a set in rising order, and the labels of free cells. The set's number fits 32 bits, and the regions of the sets below it
-- are at most `MAX_SIZE`.
pub record IsLabelled (grid : ShapeModel) (set : ℕ) (cells labels : List ℕ) : Type 0 where
  pub listing : IsListing (cell_count grid) cells
  pub cells_are : cells ≡ set_at (cell_count grid) (length cells) set
  pub settled : AreSettled grid cells labels
  pub fits : set < 2 ^ 32
  pub small : set * (cell_count grid - length cells) ≤ MAX_SIZE
