-- The edges of a region, as they are found: by the cells of its set in rising order, tile by tile and in each direction.
use Rattle.std.specs.Prelude.{ℕ, ◌≡◌, ◌+◌, ◌*◌, ◌<◌, ◌≤◌, List, ◌++◌, length, slice_index, slice_index_or, take, Contains}
use Rattle.board.specs.declared.moves.Move.{Move}
use Rattle.board.specs.declared.moves.Move.TheVariants.{U}
use Rattle.board.specs.Moves.{all_moves}
use Rattle.board.specs.Neighbours.{LiesTowards}
use Rattle.pattern_graph.specs.Orders.{below}
use Rattle.pattern_graph.specs.Sets.{set_place}
use Rattle.pattern_graph.specs.Regions.{AreGroupRegions, IsPlaced, IsFree, IsCrossing, IsEdgeOf, region_in}
use Rattle.pattern_graph.specs.declared.edges.Edge.{Edge}
use Rattle.pattern_graph.specs.declared.regions.Regions.{Regions}

-- the cells of the set at a place, in rising order
pub record IsRising (r : Regions) (set : ℕ) (cells : List ℕ) : Type 0 where
  pub placed : IsPlaced r.shape r.count cells
  pub place : set_place cells ≡ set
  pub rising : (tile : ℕ) → tile < r.count → below (slice_index cells tile) cells ≡ tile

-- the cells of the set at a place of a group's regions, over the front of an array
pub record AreSetCells (r : Regions) (set : ℕ) (array : List ℕ) : Type 0 where
  pub regions : AreGroupRegions r
  pub cells : IsRising r set (take r.count array)

-- the tile on a cell can go in a direction, to a free cell of a region
pub record IsStep (r : Regions) (cells : List ℕ) (region from : ℕ) (m : Move) (to : ℕ) : Type 0 where
  pub towards : LiesTowards r.shape m from to
  pub blank : IsFree r.shape cells to
  pub here : region_in r cells to ≡ region

-- the edge of a tile that can go in a direction
pub record IsStepEdge (r : Regions) (cells : List ℕ) (region from : ℕ) (m : Move) (e : Edge) : Type 0 where
  pub to : ℕ
  pub step : IsStep r cells region from m to
  pub edge : IsEdgeOf r cells from to e

-- the edges found for the first tiles and directions
pub record AreEdgesFound (r : Regions) (cells : List ℕ) (region tried : ℕ) (found : List Edge) : Type 0 where
  pub few : length found ≤ tried
  pub sound : (e : Edge) → Contains found e → (from : ℕ) × (m : Move) × Contains cells from × IsStepEdge r cells region from m e
  pub complete : (tile number to : ℕ) → number < 4 → tile * 4 + number < tried → IsStep r cells region (slice_index cells tile) (slice_index_or all_moves number U) to
      → (e : Edge) × Contains found e × IsEdgeOf r cells (slice_index cells tile) to e

-- the edges found for the first tiles and directions are behind others
abbrev pub HasFound : Regions → List ℕ → ℕ → ℕ → List Edge → List Edge → Type 0
HasFound r cells region tried old new = (found : List Edge) × (new ≡ old ++ found) × AreEdgesFound r cells region tried found

-- the edge begins in a region: it is one of a tile that goes into it, wherever the tiles are on its set
abbrev pub IsTrueEdge : Regions → ℕ → Edge → Type 0
IsTrueEdge r region e =
    (cells : List ℕ) (blank : ℕ) → IsPlaced r.shape r.count cells → IsFree r.shape cells blank → region_in r cells blank ≡ region
    → (m : Move) × (from : ℕ) × (to : ℕ) × IsCrossing r.shape cells m from to × (region_in r cells to ≡ region) × IsEdgeOf r cells from to e

-- the edges added to others are those of a region
pub record AreEdgesAdded (r : Regions) (region : ℕ) (old new : List Edge) : Type 0 where
  pub found : List Edge
  pub more : new ≡ old ++ found
  pub few : length found ≤ r.count * 4
  pub sound : (e : Edge) → Contains found e → IsTrueEdge r region e
  pub complete : (cells : List ℕ) (m : Move) (from to : ℕ) → IsPlaced r.shape r.count cells → IsCrossing r.shape cells m from to → region_in r cells to ≡ region
      → (e : Edge) × Contains found e × IsEdgeOf r cells from to e
