-- Regions: the cells that the blank reaches past tiles of no group, while the tiles of a group stay where they are.
use Rattle.std.specs.Prelude.{ℕ, suc, ◌≡◌, ◌+◌, ◌*◌, ◌<◌, ◌≤◌, List, [], ◌∷◌, length, Some, slice_get, slice_index, Contains}
use Rattle.board.specs.declared.moves.Move.{Move}
use Rattle.board.specs.Shapes.{ShapeModel, IsShape, cell_count}
use Rattle.board.specs.Neighbours.{LiesTowards}
use Rattle.pattern_index.specs.Laws.{factorial}
use Rattle.pattern_index.specs.Ranks.{ways, IsListing}
use Rattle.pattern_index.specs.declared.group.TheConstants.{MAX_SIZE}
use Rattle.pattern_graph.specs.Orders.{below}
use Rattle.pattern_graph.specs.Sets.{choose, set_place, set_at, AreSame, replaced, IsChoices}
use Rattle.pattern_graph.specs.declared.regions.Home.{Home}
use Rattle.pattern_graph.specs.declared.regions.Regions.{Regions}
use Rattle.pattern_graph.specs.declared.edges.Edge.{Edge}
use Rattle.pattern_graph.specs.declared.edges.Edges.{Edges}

-- `count` different cells of the grid
pub record IsPlaced (grid : ShapeModel) (count : ℕ) (cells : List ℕ) : Type 0 where
  pub listing : IsListing (cell_count grid) cells
  pub one_each : length cells ≡ count

-- the blank can be on this cell while tiles are on those
pub record IsFree (grid : ShapeModel) (cells : List ℕ) (cell : ℕ) : Type 0 where
  pub inside : cell < cell_count grid
  pub free : ¬ Contains cells cell

-- tiles are on different cells, and the blank is on another one
pub record AreCellsApart (grid : ShapeModel) (count : ℕ) (cells : List ℕ) (blank : ℕ) : Type 0 where
  pub placed : IsPlaced grid count cells
  pub free : IsFree grid cells blank

-- the moves take the blank from one cell to another past none of the tiles
abbrev pub Wanders : ShapeModel → List ℕ → ℕ → List Move → ℕ → Type 0
Wanders grid cells from [] to = to ≡ from
Wanders grid cells from (m ∷ moves) to = (next : ℕ) × LiesTowards grid m from next × (¬ Contains cells next) × Wanders grid cells next moves to

-- the region of the blank's cell while tiles are on those cells
abbrev pub region_in : Regions → List ℕ → ℕ → ℕ
region_in r cells blank = slice_index r.numbers.items (set_place cells * cell_count r.shape + blank)

-- Cells of one set are in one region exactly if the blank gets from one to the other. Each region has a home, and there are no more
-- regions than would give each view of a group a region and an order of its own.
pub record HasRegions (r : Regions) : Type 0 where
  pub rows : length r.numbers.items ≡ choose (cell_count r.shape) r.count * cell_count r.shape
  pub inside : (cells : List ℕ) (blank : ℕ) → IsPlaced r.shape r.count cells → IsFree r.shape cells blank → region_in r cells blank < length r.homes.items
  pub near : (cells : List ℕ) (m : Move) (from to : ℕ) → IsPlaced r.shape r.count cells → IsFree r.shape cells from → IsFree r.shape cells to → LiesTowards r.shape m from to → region_in r cells to ≡ region_in r cells from
  pub joined : (xs ys : List ℕ) (from to : ℕ) → IsPlaced r.shape r.count xs → IsPlaced r.shape r.count ys → IsFree r.shape xs from → IsFree r.shape ys to → region_in r xs from ≡ region_in r ys to
      → AreSame xs ys × ((moves : List Move) × Wanders r.shape xs from moves to)
  pub homes : (region : ℕ) (home : Home) → slice_get r.homes.items region ≡ Some home
      → (home.set < choose (cell_count r.shape) r.count)
      × IsFree r.shape (set_at (cell_count r.shape) r.count home.set) home.cell
      × (region_in r (set_at (cell_count r.shape) r.count home.set) home.cell ≡ region)
  pub few : length r.homes.items * factorial r.count ≤ ways (cell_count r.shape) (suc r.count)

-- the regions of all sets of `count` cells of a grid
pub record IsRegions (grid : ShapeModel) (count : ℕ) (r : Regions) : Type 0 where
  pub shape : r.shape ≡ grid
  pub sides : IsShape grid
  pub tiles : r.count ≡ count
  pub some : 0 < count
  pub room : suc count ≤ cell_count grid
  pub short : count ≤ 9
  pub choices : IsChoices r.choices
  pub regions : HasRegions r

-- the regions of a group, which has at most `MAX_SIZE` views
pub record AreGroupRegions (r : Regions) : Type 0 where
  pub regions : IsRegions r.shape r.count r
  pub small : ways (cell_count r.shape) (suc r.count) ≤ MAX_SIZE

-- the regions have the same fields
pub record AreSameRegions (r r' : Regions) : Type 0 where
  pub shape : r'.shape ≡ r.shape
  pub count : r'.count ≡ r.count
  pub choices : r'.choices ≡ r.choices
  pub numbers : r'.numbers.items ≡ r.numbers.items
  pub homes : r'.homes.items ≡ r.homes.items

-- ---- edges

-- the blank, on a free cell, is a neighbour of a tile on another
pub record IsCrossing (grid : ShapeModel) (cells : List ℕ) (m : Move) (from to : ℕ) : Type 0 where
  pub blank : IsFree grid cells to
  pub tile : Contains cells from
  pub towards : LiesTowards grid m to from

-- The edge of a tile that goes from one cell to another, where the blank was, by the positions of the tile before and after, and the
-- region in which the blank is then.
pub record IsEdgeOf (r : Regions) (cells : List ℕ) (from to : ℕ) (e : Edge) : Type 0 where
  pub before : e.from ≡ below from cells
  pub after : e.to ≡ below to (replaced from to cells)
  pub other : e.region ≡ region_in r (replaced from to cells) from

-- the edge is one of those that begin in a region
abbrev pub HasEdge : Edges → ℕ → Edge → Type 0
HasEdge es region e = (at : ℕ) × (slice_index es.starts.items region ≤ at) × (at < slice_index es.starts.items (suc region)) × (slice_get es.edges.items at ≡ Some e)

-- each edge is one of a tile that goes into the region, wherever the tiles are on its set, and each such tile has one
pub record AreEdges (r : Regions) (es : Edges) : Type 0 where
  pub starts_length : length es.starts.items ≡ suc (length r.homes.items)
  pub rising : (region : ℕ) → region < length r.homes.items → slice_index es.starts.items region ≤ slice_index es.starts.items (suc region)
  pub within : (region : ℕ) → region < length r.homes.items → slice_index es.starts.items (suc region) ≤ length es.edges.items
  pub sound : (region : ℕ) (e : Edge) (cells : List ℕ) (blank : ℕ) → region < length r.homes.items → HasEdge es region e → IsPlaced r.shape r.count cells → IsFree r.shape cells blank → region_in r cells blank ≡ region
      → (m : Move) × (from : ℕ) × (to : ℕ) × IsCrossing r.shape cells m from to × (region_in r cells to ≡ region) × IsEdgeOf r cells from to e
  pub complete : (cells : List ℕ) (m : Move) (from to : ℕ) → IsPlaced r.shape r.count cells → IsCrossing r.shape cells m from to
      → (e : Edge) × HasEdge es (region_in r cells to) e × IsEdgeOf r cells from to e
