-- What a value is, how a search by buckets of cost lowers values, and what both searches find.
use Rattle.std.specs.Prelude.{ℕ, ◌≡◌, ◌⊎◌, ◌+◌, ◌≤◌, List, Vec, length, Contains, Option, Some, None, slice_get, zero, suc, ◌≢◌, ◌-◌, ◌*◌, ◌/◌, ◌%◌, ◌<◌, [], replicate, slice_index, sum}
use Rattle.std.specs.declared.alloc.Global.{Global}
use Rattle.board.specs.declared.moves.Move.{Move}
use Rattle.board.specs.Boards.{BoardModel}
use Rattle.board.specs.Weights.{WeightsModel}
use Rattle.pattern_index.specs.Views.{ViewModel, IsView, Abstraction, ViewLeads, view_of}
use Rattle.pattern_index.specs.Laws.{factorial}
use Rattle.pattern_index.specs.Groups.{GroupModel, abstraction_of}
use Rattle.pattern_graph.specs.Frames.{FrameModel, FitsGroup}
use Rattle.pattern_graph.specs.Orders.{tile_of}
use Rattle.pattern_graph.specs.Regions.{IsRegions}
use Rattle.pattern_graph.specs.Graphs.{node_in, node_count, IsGraphOf, target, IsSoundGraph}
use Rattle.pattern_graph.specs.declared.edges.Edge.{Edge}
use Rattle.pattern_graph.specs.declared.graph.Graph.{Graph}
use Rattle.pattern_search.specs.declared.search.Search.{Search}
use Rattle.pattern_search.specs.declared.finding.Found.{Found}
use Rattle.pattern_search.specs.declared.finding.TheConstants.{NO_VALUE}

-- ---- values (Korf, Felner 2002)

-- n is the smaller of NO_VALUE and the least cost of a view plan to the goal's view; it is NO_VALUE where there is none
pub record IsValue (a : Abstraction) (goal v : ViewModel) (n : ℕ) : Type 0 where
  pub capped : n ≤ NO_VALUE
  pub reached : n < NO_VALUE → (plan : List Move) × ViewLeads a v plan goal n
  pub none_below : (plan : List Move) (j : ℕ) → ViewLeads a v plan goal j → n ≤ j

-- a view has one value
abbrev pub ValuesAreDetermined : Type 0
ValuesAreDetermined = (a : Abstraction) (goal v : ViewModel) (n k : ℕ) → IsValue a goal v n → IsValue a goal v k → n ≡ k

-- ---- ranks that wait in buckets of cost

-- the bucket of each cost, from 0 on
abbrev pub Buckets : Type 0
Buckets = List (Vec ℕ Global)

-- the rank is in the bucket of this cost
abbrev pub Waits : Buckets → ℕ → ℕ → Type 0
Waits buckets cost rank = (bucket : Vec ℕ Global) × (slice_get buckets cost ≡ Some bucket) × Contains bucket.items rank

-- how many are in a bucket, if there is one
abbrev pub size_in : Option (Vec ℕ Global) → ℕ
size_in None = 0
size_in (Some bucket) = length bucket.items

-- how many are in the bucket of this cost
abbrev pub waiting_count : Buckets → ℕ → ℕ
waiting_count buckets cost = size_in (slice_get buckets cost)

-- the same wait in both, and no bucket is lost
pub record IsGrown (b b' : Buckets) : Type 0 where
  pub waits : (cost rank : ℕ) → Waits b cost rank → Waits b' cost rank
  pub only : (cost rank : ℕ) → Waits b' cost rank → Waits b cost rank
  pub same : (cost : ℕ) → waiting_count b' cost ≡ waiting_count b cost
  pub wide : length b ≤ length b'

-- one more waits
pub record IsPut (cost rank : ℕ) (b b' : Buckets) : Type 0 where
  pub here : Waits b' cost rank
  pub waits : (at k : ℕ) → Waits b at k → Waits b' at k
  pub only : (at k : ℕ) → Waits b' at k → Waits b at k ⊎ (k ≡ rank)
  pub count : (at : ℕ) → waiting_count b' at ≤ waiting_count b at + 1
  pub same_length : length b' ≡ length b

-- one that waited is gone
pub record IsTaken (cost rank : ℕ) (b b' : Buckets) : Type 0 where
  pub here : Waits b cost rank
  pub waits : (at k : ℕ) → Waits b at k → Waits b' at k ⊎ ((at ≡ cost) × (k ≡ rank))
  pub only : (at k : ℕ) → Waits b' at k → Waits b at k
  pub count : waiting_count b' cost + 1 ≡ waiting_count b cost
  pub same_length : length b' ≡ length b

-- ---- how a search lowers values

-- both positions of the edge are below `count`
pub record HasPositions (count : ℕ) (e : Edge) : Type 0 where
  pub from : e.from < count
  pub to : e.to < count

-- what the edge costs at an order
abbrev pub cost_by : Graph → ℕ → Edge → ℕ
cost_by g order e = slice_index g.costs (tile_of g.regions.count order e.from)

-- there is a value for each node
pub record IsFit (s : Search) : Type 0 where
  pub sound : IsSoundGraph s.graph
  pub one_each : length s.values.items ≡ node_count s.graph.regions

-- nothing is found: no value is below NO_VALUE, and nothing waits
pub record IsFresh (g : Graph) (s : Search) : Type 0 where
  pub graph : s.graph ≡ g
  pub values : s.values.items ≡ replicate (node_count g.regions) NO_VALUE
  pub buckets : s.buckets.items ≡ []

-- The value of a node becomes no more than a cost. Where it was more, the node waits in that bucket.
pub record IsLowered (node cost : ℕ) (s s' : Search) : Type 0 where
  pub graph : s'.graph ≡ s.graph
  pub same_length : length s'.values.items ≡ length s.values.items
  pub falls : (k : ℕ) → slice_index s'.values.items k ≤ slice_index s.values.items k
  pub low : slice_index s'.values.items node ≤ cost
  pub cases : (k : ℕ)
      → (slice_index s'.values.items k ≡ slice_index s.values.items k) ⊎ ((k ≡ node) × (slice_index s'.values.items k ≡ cost) × Waits s'.buckets.items cost node)
  pub waits : (at k : ℕ) → Waits s.buckets.items at k → Waits s'.buckets.items at k
  pub only : (at k : ℕ) → Waits s'.buckets.items at k → Waits s.buckets.items at k ⊎ (k ≡ node)
  pub few : length s.buckets.items ≤ NO_VALUE → length s'.buckets.items ≤ NO_VALUE
  pub wide : length s.buckets.items ≤ length s'.buckets.items
  pub work : (at : ℕ) → 2 * sum s'.values.items + waiting_count s'.buckets.items at ≤ 2 * sum s.values.items + waiting_count s.buckets.items at

-- the node to which the edge leads is lowered to the sum of a cost and the edge's
abbrev pub IsPassed : ℕ → ℕ → Edge → Search → Search → Type 0
IsPassed order cost e s s' = IsLowered (target s.graph order e) (cost + cost_by s.graph order e) s s'

-- the nodes to which `count` edges lead, from the first on, are lowered one after another
abbrev pub IsSpread : ℕ → ℕ → ℕ → ℕ → Search → Search → Type 0
IsSpread order cost first zero s s' = s' ≡ s
IsSpread order cost first (suc count) s s' =
    (t : Search) × (e : Edge) × IsSpread order cost first count s t × (slice_get t.graph.edges.edges.items (first + count) ≡ Some e) × IsPassed order cost e t s'

-- all edges of a region are passed
abbrev pub IsSpreadFrom : ℕ → ℕ → ℕ → Search → Search → Type 0
IsSpreadFrom region order cost s s' =
    IsSpread order cost (slice_index s.graph.edges.starts.items region) (slice_index s.graph.edges.starts.items (suc region) - slice_index s.graph.edges.starts.items region) s s'

-- a node whose value has become another is passed over, else all its edges are passed
abbrev pub IsVisited : ℕ → ℕ → Search → Search → Type 0
IsVisited node cost s s' =
    ((slice_index s.values.items node ≢ cost) × (s' ≡ s))
    ⊎ ((slice_index s.values.items node ≡ cost) × IsSpreadFrom (node / factorial s.graph.regions.count) (node % factorial s.graph.regions.count) cost s s')

-- ---- where a search begins, and what it finds

-- the frame fits the group, whose grid the goal and the costs of moves have
pub record IsBuildTask (size : FrameModel) (g : GroupModel) (goal : BoardModel) (rule : WeightsModel) : Type 0 where
  pub fits : FitsGroup size g
  pub same_goal : goal.grid ≡ g.grid
  pub same_costs : rule.grid ≡ g.grid

-- the graph is sound, and the search begins at one of its nodes
pub record IsStart (g : Graph) (start : ℕ) : Type 0 where
  pub sound : IsSoundGraph g
  pub inside : start < node_count g.regions

-- the graph is that of a group, and the search begins at the goal's node
pub record IsSought (selection : GroupModel) (rule : WeightsModel) (goal : BoardModel) (g : Graph) (start : ℕ) : Type 0 where
  pub made : IsGraphOf selection rule g
  pub view : IsView selection.grid selection.tiles (view_of selection.tiles goal)
  pub node : start ≡ node_in g.regions (view_of selection.tiles goal)

-- each view of the group has its node's value
pub record AreFound (selection : GroupModel) (rule : WeightsModel) (goal : BoardModel) (found : Found) : Type 0 where
  pub regions : IsRegions selection.grid (length selection.tiles) found.regions
  pub size : length found.values.items ≡ node_count found.regions
  pub values : (v : ViewModel) → IsView selection.grid selection.tiles v → IsValue (abstraction_of selection rule) (view_of selection.tiles goal) v (slice_index found.values.items (node_in found.regions v))

-- whatever the group of the graph is, and the goal that the search began at, each view has its node's value
abbrev pub AreFoundFrom : Graph → ℕ → Found → Type 0
AreFoundFrom g start found = (selection : GroupModel) (rule : WeightsModel) (goal : BoardModel) → IsSought selection rule goal g start → AreFound selection rule goal found
