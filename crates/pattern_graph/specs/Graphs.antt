-- The nodes of the search: the views that show a group's tiles on the same cells, with the blank in one region.
use Rattle.std.specs.Prelude.{ℕ, suc, ◌≡◌, ◌⊎◌, ◌+◌, ◌-◌, ◌*◌, ◌/◌, ◌%◌, ◌<◌, ◌≤◌, List, length, map, slice_index}
use Rattle.board.specs.declared.moves.Move.{Move}
use Rattle.board.specs.Weights.{WeightsModel, weight_of}
use Rattle.board.specs.Shapes.{ShapeModel}
use Rattle.pattern_index.specs.Laws.{factorial}
use Rattle.pattern_index.specs.Views.{ViewModel, IsView, Abstraction, ViewMoves, ViewLeads}
use Rattle.pattern_index.specs.Groups.{GroupModel, abstraction_of}
use Rattle.pattern_index.specs.declared.group.TheConstants.{MAX_SIZE}
use Rattle.pattern_graph.specs.Orders.{order_of, positions_at, tile_of, exchanged_position, moved_order}
use Rattle.pattern_graph.specs.Regions.{IsRegions, region_in, HasEdge}
use Rattle.pattern_graph.specs.declared.orders.Orders.{Orders}
use Rattle.pattern_graph.specs.declared.orders.TheConstants.{MOST_MOVED}
use Rattle.pattern_graph.specs.declared.edges.Edge.{Edge}
use Rattle.pattern_graph.specs.declared.edges.Edges.{Edges}
use Rattle.pattern_graph.specs.declared.regions.Regions.{Regions}
use Rattle.pattern_graph.specs.declared.graph.Graph.{Graph}

-- what is kept for the orders below `made`: the tile at each position, and the order after the tiles at two neighbouring positions are exchanged
pub record HasPassesTo (count made : ℕ) (o : Orders) : Type 0 where
  pub number : o.count ≡ count
  pub some : 0 < count
  pub short : count ≤ 9
  pub size : o.size ≡ factorial count
  pub tiles_length : length o.tiles.items ≡ made * count
  pub tiles : (order position : ℕ) → order < made → position < count → slice_index o.tiles.items (order * count + position) ≡ tile_of count order position
  pub passes_length : length o.passes.items ≡ made * (count - 1)
  pub passes : (order position : ℕ) → order < made → suc position < count → slice_index o.passes.items (order * (count - 1) + position) ≡ order_of (map (exchanged_position position) (positions_at count order))

-- the same for all orders
abbrev pub HasPasses : ℕ → Orders → Type 0
HasPasses count = HasPassesTo count (factorial count)

-- the order after the tile at a position has come to another, by both positions and then by order
pub record AreMoves (count : ℕ) (moves : List ℕ) : Type 0 where
  pub size : length moves ≡ count * count * factorial count
  pub are : (order from to : ℕ) → order < factorial count → from < count → to < count → slice_index moves ((from * count + to) * factorial count + order) ≡ moved_order count order from to

-- that, and for few tiles their moves
pub record IsOrders (count : ℕ) (o : Orders) : Type 0 where
  pub passes : HasPasses count o
  pub moves : count ≤ MOST_MOVED → AreMoves count o.moves.items

-- the node of a view
abbrev pub node_in : Regions → ViewModel → ℕ
node_in r v = region_in r v.cells v.blank * factorial r.count + order_of v.cells

-- how many nodes there are
abbrev pub node_count : Regions → ℕ
node_count r = length r.homes.items * factorial r.count

-- the regions are those of all sets of `count` cells of a grid, and there is one entry for each node
pub record AreNodesOf {A : Type 0} (grid : ShapeModel) (count : ℕ) (r : Regions) (nodes : List A) : Type 0 where
  pub regions : IsRegions grid count r
  pub one_each : length nodes ≡ node_count r

-- what it costs to move each tile of a group, by the tile's place among them
abbrev pub AreWeightsOf : WeightsModel → List ℕ → List ℕ → Type 0
AreWeightsOf rule tiles weights = (place : ℕ) → place < length tiles → slice_index weights place ≡ weight_of rule (slice_index tiles place)

-- each of these costs something
abbrev pub AreSomeCosts : List ℕ → List ℕ → Type 0
AreSomeCosts tiles costs = (place : ℕ) → place < length tiles → 1 ≤ slice_index costs place

-- an edge leads from the node to another: the order changes as the tile's position does, at the tile's weight
pub record IsPast (r : Regions) (es : Edges) (weights : List ℕ) (node : ℕ) (e : Edge) (to c : ℕ) : Type 0 where
  pub edge : HasEdge es (node / factorial r.count) e
  pub other : to ≡ e.region * factorial r.count + moved_order r.count (node % factorial r.count) e.from e.to
  pub cost : c ≡ slice_index weights (tile_of r.count (node % factorial r.count) e.from)

-- the graph of nodes and edges is that of views and view moves, with the moves that cost nothing contracted
pub record IsGraph (a : Abstraction) (r : Regions) (es : Edges) (weights : List ℕ) : Type 0 where
  pub inside : (v : ViewModel) → IsView a.grid a.tiles v → node_in r v < node_count r
  -- each node has a view
  pub seen : (node : ℕ) → node < node_count r → (v : ViewModel) × IsView a.grid a.tiles v × (node_in r v ≡ node)
  -- views of one node are joined by moves that cost nothing
  pub joined : (v w : ViewModel) → IsView a.grid a.tiles v → IsView a.grid a.tiles w → node_in r v ≡ node_in r w → (plan : List Move) × ViewLeads a v plan w 0
  -- a view move stays in its node at no cost, or there is an edge for it
  pub complete : (v : ViewModel) (m : Move) (v' : ViewModel) (c : ℕ) → IsView a.grid a.tiles v → ViewMoves a v m v' c
      → ((node_in r v' ≡ node_in r v) × (c ≡ 0)) ⊎ ((e : Edge) × IsPast r es weights (node_in r v) e (node_in r v') c)
  -- each edge is one of a view move, by which each view of the other node comes to the first one
  pub sound : (node : ℕ) (e : Edge) (other c : ℕ) → node < node_count r → IsPast r es weights node e other c
      → (other < node_count r) × ((w : ViewModel) → IsView a.grid a.tiles w → node_in r w ≡ other → (v : ViewModel) × IsView a.grid a.tiles v × (node_in r v ≡ node) × ((plan : List Move) × ViewLeads a w plan v c))

-- ---- the graph of a group, and what a search reads of it

-- the regions are those of the group, and the graph is that of its views
pub record IsGraphOf (selection : GroupModel) (rule : WeightsModel) (g : Graph) : Type 0 where
  pub regions : IsRegions selection.grid (length selection.tiles) g.regions
  pub graph : IsGraph (abstraction_of selection rule) g.regions g.edges g.costs

-- the node to which an edge leads from one of this order
abbrev pub target : Graph → ℕ → Edge → ℕ
target g order e = e.region * factorial g.regions.count + moved_order g.regions.count order e.from e.to

-- what is kept of orders and edges can be read, and each edge leads to a node
pub record IsSoundGraph (g : Graph) : Type 0 where
  pub orders : IsOrders g.regions.count g.orders
  pub costs : length g.costs ≡ 9
  pub few : node_count g.regions ≤ MAX_SIZE
  pub starts : length g.edges.starts.items ≡ suc (length g.regions.homes.items)
  pub rising : (region : ℕ) → region < length g.regions.homes.items → slice_index g.edges.starts.items region ≤ slice_index g.edges.starts.items (suc region)
  pub within : (region : ℕ) → region < length g.regions.homes.items → slice_index g.edges.starts.items (suc region) ≤ length g.edges.edges.items
  pub ends : (node : ℕ) (e : Edge) → node < node_count g.regions → HasEdge g.edges (node / factorial g.regions.count) e
      → (e.from < g.regions.count) × (e.to < g.regions.count) × (target g (node % factorial g.regions.count) e < node_count g.regions)
