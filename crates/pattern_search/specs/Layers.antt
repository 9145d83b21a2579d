-- Sets of nodes: for each region the orders of its nodes in the set, as the bits of words of 64.
use Rattle.std.specs.Prelude.{ℕ, ◌≡◌, ◌⊎◌, ◌↔◌, ◌+◌, ◌*◌, ◌/◌, ◌%◌, ◌<◌, length, slice_index, zero, suc, ◌≢◌, Bool, false, List, replicate}
use Rattle.std.specs.Int.{bit_at}
use Rattle.pattern_index.specs.Laws.{factorial}
use Rattle.pattern_graph.specs.Orders.{moved_order}
use Rattle.pattern_graph.specs.Regions.{HasEdge}
use Rattle.pattern_graph.specs.Graphs.{node_count, IsSoundGraph}
use Rattle.pattern_graph.specs.declared.edges.Edge.{Edge}
use Rattle.pattern_graph.specs.declared.graph.Graph.{Graph}
use Rattle.pattern_search.specs.declared.layers.NodeSet.{NodeSet}
use Rattle.pattern_search.specs.declared.layers.Layers.{Layers}
use Rattle.pattern_search.specs.declared.finding.TheConstants.{NO_VALUE}

-- ---- sets of nodes

-- the node of this region in this order is in the set
abbrev pub Has : NodeSet → ℕ → ℕ → Type 0
Has s region order = bit_at (slice_index s.words.items (region * s.width + order / 64)) (order % 64) ≡ 1

-- there are words for all orders of each region, and no others are in the set
pub record IsNodeSet (regions orders : ℕ) (s : NodeSet) : Type 0 where
  pub some : 0 < orders
  pub width : s.width ≡ (orders + 63) / 64
  pub size : length s.words.items ≡ regions * s.width
  pub within : (region order : ℕ) → region < regions → order < 64 * s.width → Has s region order → order < orders

-- the order is one of the 64 of a place, and its bit is set
abbrev pub IsIn : ℕ → ℕ → ℕ → Type 0
IsIn place bits order = (order / 64 ≡ place) × (bit_at bits (order % 64) ≡ 1)

-- the second set has the nodes of the first one, and those that are added
pub record IsUnion (Added : ℕ → ℕ → Type 0) (s s' : NodeSet) : Type 0 where
  pub width : s'.width ≡ s.width
  pub size : length s'.words.items ≡ length s.words.items
  pub members : (region order : ℕ) → order < 64 * s.width → Has s' region order ↔ (Has s region order ⊎ Added region order)

-- ---- layers

-- the orders of a place whose bits are set are orders
abbrev pub AreBelow : ℕ → ℕ → ℕ → Type 0
AreBelow orders place bits = (order : ℕ) → IsIn place bits order → order < orders

-- the cost is at each place from the first on whose bit is set, and all others are kept
pub record IsWritten (first bits cost : ℕ) (values values' : List ℕ) : Type 0 where
  pub size : length values' ≡ length values
  pub written : (bit : ℕ) → IsIn 0 bits bit → slice_index values' (first + bit) ≡ cost
  pub kept : (k : ℕ) → ((bit : ℕ) → IsIn 0 bits bit → k ≢ first + bit) → slice_index values' k ≡ slice_index values k

-- an edge leads to the order from one whose bit is set
abbrev pub IsMovedFrom : ℕ → Edge → ℕ → ℕ → ℕ → Type 0
IsMovedFrom count e place bits order = (from : ℕ) × IsIn place bits from × (order ≡ moved_order count from e.from e.to)

-- an edge leads to the node from one of a region whose bits are set
abbrev pub IsLed : Graph → ℕ → ℕ → ℕ → ℕ → ℕ → Type 0
IsLed g region place bits r order = (e : Edge) × HasEdge g.edges region e × (r ≡ e.region) × IsMovedFrom g.regions.count e place bits order

abbrev pub IsSetOf : Graph → NodeSet → Type 0
IsSetOf g s = IsNodeSet (length g.regions.homes.items) (factorial g.regions.count) s

-- there is a value for each node, and the sets are of nodes
pub record AreLayers (l : Layers) : Type 0 where
  pub sound : IsSoundGraph l.graph
  pub one_each : length l.values.items ≡ node_count l.graph.regions
  pub seen : IsSetOf l.graph l.seen
  pub now : IsSetOf l.graph l.now
  pub next : IsSetOf l.graph l.next

-- this is one of their regions
pub record AreLayersWith (region : ℕ) (l : Layers) : Type 0 where
  pub layers : AreLayers l
  pub inside : region < length l.graph.regions.homes.items

-- no node has a value, and one alone is in this layer
pub record IsAtStart (g : Graph) (start : ℕ) (l : Layers) : Type 0 where
  pub graph : l.graph ≡ g
  pub layers : AreLayers l
  pub values : l.values.items ≡ replicate (node_count g.regions) NO_VALUE
  pub seen : (region order : ℕ) → ¬ Has l.seen region order
  pub now : (region order : ℕ) → order < 64 * l.now.width → Has l.now region order → (region ≡ start / factorial g.regions.count) × (order ≡ start % factorial g.regions.count)
  pub here : Has l.now (start / factorial g.regions.count) (start % factorial g.regions.count)
  pub next : (region order : ℕ) → ¬ Has l.next region order

-- a node of this layer, of 64 orders of a region, has no value yet
pub record IsFresh (l : Layers) (region place order : ℕ) : Type 0 where
  pub within : order / 64 ≡ place
  pub now : Has l.now region order
  pub not_seen : ¬ Has l.seen region order

-- an edge leads to the node from a fresh one
abbrev pub IsLedFresh : Layers → ℕ → ℕ → ℕ → ℕ → Type 0
IsLedFresh l region place r order = (e : Edge) × HasEdge l.graph.edges region e × (r ≡ e.region) × ((from : ℕ) × IsFresh l region place from × (order ≡ moved_order l.graph.regions.count from e.from e.to))

-- the fresh nodes of 64 orders of a region get the cost as their value, and the nodes that edges lead to from there are in the next layer
pub record IsWordPassed (region place cost : ℕ) (l l' : Layers) : Type 0 where
  pub graph : l'.graph ≡ l.graph
  pub now : l'.now ≡ l.now
  pub layers : AreLayers l'
  pub seen : IsUnion (λ r order. (r ≡ region) × IsFresh l region place order) l.seen l'.seen
  pub next : IsUnion (IsLedFresh l region place) l.next l'.next
  pub written : (order : ℕ) → IsFresh l region place order → slice_index l'.values.items (region * factorial l.graph.regions.count + order) ≡ cost
  pub kept : (k : ℕ) → ((order : ℕ) → IsFresh l region place order → k ≢ region * factorial l.graph.regions.count + order) → slice_index l'.values.items k ≡ slice_index l.values.items k

-- so are those of the first places of a region, one after another
abbrev pub IsRegionPassed : ℕ → ℕ → ℕ → Layers → Layers → Type 0
IsRegionPassed region cost zero l l' = l' ≡ l
IsRegionPassed region cost (suc place) l l' = (m : Layers) × IsRegionPassed region cost place l m × IsWordPassed region place cost m l'

-- and those of the first regions
abbrev pub IsLayerPassed : ℕ → ℕ → Layers → Layers → Type 0
IsLayerPassed cost zero l l' = l' ≡ l
IsLayerPassed cost (suc region) l l' = (m : Layers) × IsLayerPassed cost region l m × IsRegionPassed region cost m.now.width m l'

-- a part is passed, and where no node of it was fresh all is as it was
pub record HasPassed (IsPartPassed : Layers → Layers → Type 0) (any : Bool) (l l' : Layers) : Type 0 where
  pub passed : IsPartPassed l l'
  pub same : any ≡ false → l' ≡ l
