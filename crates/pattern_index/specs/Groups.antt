-- Groups of tiles, the ranks of their views, and moves of views as they are computed.
use Rattle.std.specs.Prelude.{ℕ, suc, ◌≢◌, ◌<◌, ◌≤◌, ◌==◌, List, ◌∷◌, length, map, All, AllPairs, Option, option_map, if◌then◌else◌}
use Rattle.std.specs.List.Sorted.{IsStrictlyIncreasing}
use Rattle.board.specs.Shapes.{ShapeModel, IsShape, cell_count}
use Rattle.board.specs.declared.moves.Move.{Move}
use Rattle.board.specs.Neighbours.{neighbour}
use Rattle.board.specs.Weights.{WeightsModel}
use Rattle.pattern_index.specs.declared.group.TheConstants.{MAX_SIZE}
use Rattle.pattern_index.specs.Views.{ViewModel, Abstraction, weight_on}
use Rattle.pattern_index.specs.Ranks.{ways, rank_of}

-- Some tiles of the boards of a grid.
pub record GroupModel : Type 0 where
  pub grid : ShapeModel
  pub tiles : List ℕ

-- a number above 0 on the boards of the grid
abbrev pub IsTile : ShapeModel → ℕ → Type 0
IsTile grid number = (0 < number) × (number < cell_count grid)

-- the numbers are tiles, and no two are the same
pub record AreGroupTiles (grid : ShapeModel) (numbers : List ℕ) : Type 0 where
  pub tiles : All (λ number. IsTile grid number) numbers
  pub different : AllPairs (λ x y. x ≢ y) numbers

-- how many views the group has: the ways to list a cell for the blank and for each tile, all different
abbrev pub size_of : GroupModel → ℕ
size_of g = ways (cell_count g.grid) (suc (length g.tiles))

-- some tiles in rising order, with no more views than a group may have
pub record IsGroup (g : GroupModel) : Type 0 where
  pub sides : IsShape g.grid
  pub group : AreGroupTiles g.grid g.tiles
  pub rising : IsStrictlyIncreasing g.tiles
  pub some : 0 < length g.tiles
  pub small : size_of g ≤ MAX_SIZE

-- the rank of a view: that of its cells, the blank's first
abbrev pub rank_in : ShapeModel → ViewModel → ℕ
rank_in grid v = rank_of (cell_count grid) (v.blank ∷ v.cells)

-- the number of ways to place the group's tiles, wherever the blank is: the ways to list a cell for each tile, all different
abbrev pub folded_size_of : GroupModel → ℕ
folded_size_of g = ways (cell_count g.grid) (length g.tiles)

-- the place of a view: the rank of the tiles' cells, without the blank's
abbrev pub place_in : ShapeModel → ViewModel → ℕ
place_in grid v = rank_of (cell_count grid) v.cells

-- the puzzle with all tiles but the group's left out
abbrev pub abstraction_of : GroupModel → WeightsModel → Abstraction
abstraction_of g rule = record { grid = g.grid; rule = rule; tiles = g.tiles }

-- the view after the blank goes to a cell, and what that costs
abbrev pub view_successor_at : Abstraction → ViewModel → ℕ → ViewModel × ℕ
view_successor_at a v to = (record { blank = to; cells = map (λ cell. if cell == to then v.blank else cell) v.cells }, weight_on a.rule a.tiles v.cells to)

-- the view move computed: the view after it and its cost, where the blank stays on the board
abbrev pub view_successor : Abstraction → ViewModel → Move → Option (ViewModel × ℕ)
view_successor a v m = option_map (view_successor_at a v) (neighbour a.grid m v.blank)
