-- The placements of a group's tiles, by their set of cells and then by their order, and what views have by rank and by slot.
use Rattle.std.specs.Prelude.{ℕ, ◌≡◌, ◌↔◌, ◌+◌, ◌*◌, ◌<◌, Bool, List, length, slice_index, ◌≢◌, AllPairs, slice_get, ◌-◌, [], ◌∷◌, ◌++◌, Contains, suc, ◌⊎◌, ◌^◌}
use Rattle.board.specs.Shapes.{ShapeModel, cell_count}
use Rattle.pattern_index.specs.Laws.{factorial}
use Rattle.pattern_index.specs.Groups.{GroupModel, IsGroup, place_in, rank_in}
use Rattle.pattern_index.specs.Views.{ViewModel, IsView}
use Rattle.pattern_index.specs.Sparse.{digits_in, sparse_in, sparse_of, sparse_size_of, digit_base}
use Rattle.pattern_index.specs.Ranks.{IsListing}
use Rattle.pattern_graph.specs.Sets.{AreMarksOf, choose, set_at, set_place, AreSame}
use Rattle.pattern_graph.specs.Orders.{order_of, below, positions_at}
use Rattle.pattern_graph.specs.Regions.{IsPlaced, IsRegions, IsFree}
use Rattle.pattern_graph.specs.Graphs.{node_count, node_in}
use Rattle.pattern_graph.specs.declared.regions.Regions.{Regions}

-- the number of a placement of `count` tiles
abbrev pub placement_in : ℕ → List ℕ → ℕ
placement_in count cells = set_place cells * factorial count + order_of cells

-- how many there are on `cells` cells
abbrev pub placement_count : ℕ → ℕ → ℕ
placement_count cells count = choose cells count * factorial count

-- there is one entry for each placement of a group's tiles
abbrev pub IsOnePerPlacement : {A : Type 0} → GroupModel → List A → Type 0
IsOnePerPlacement g least = length least ≡ placement_count (cell_count g.grid) (length g.tiles)

-- tiles are on these different cells, which are marked
pub record AreMarkedCells (grid : ShapeModel) (count : ℕ) (cells : List ℕ) (marks : List Bool) : Type 0 where
  pub placed : IsPlaced grid count cells
  pub marked : AreMarksOf cells marks

-- the cells of a set of `count` cells of a grid, in rising order
abbrev pub IsSetList : ShapeModel → ℕ → List ℕ → Type 0
IsSetList grid count cells = (set : ℕ) × (set < choose (cell_count grid) count) × (cells ≡ set_at (cell_count grid) count set)

-- the set is one of those of the regions, and there is one entry for each of their nodes
pub record AreNodesWith {A : Type 0} (set : ℕ) (r : Regions) (nodes : List A) : Type 0 where
  pub regions : IsRegions r.shape r.count r
  pub one_each : length nodes ≡ node_count r
  pub inside : set < choose (cell_count r.shape) r.count

-- the values of a group's views, by rank, are those of their nodes
abbrev pub AreNodeValues : GroupModel → Regions → List ℕ → List ℕ → Type 0
AreNodeValues g r nodes values = (v : ViewModel) → IsView g.grid g.tiles v → slice_index values (rank_in g.grid v) ≡ slice_index nodes (node_in r v)

-- the values of views, by the place of their tiles, are those of the tiles' placements
abbrev pub ArePlaceValues : GroupModel → List ℕ → List ℕ → Type 0
ArePlaceValues g least values = (v : ViewModel) → IsView g.grid g.tiles v → slice_index values (place_in g.grid v) ≡ slice_index least (placement_in (length g.tiles) v.cells)

-- no view has this sparse place: two of its digits, the cells of tiles, are the same
abbrev pub HasNoView : GroupModel → ℕ → Type 0
HasNoView g sparse = ¬ AllPairs (λ x y. x ≢ y) (digits_in (cell_count g.grid) (length g.tiles) sparse)

-- the law of that: a sparse place of a group has no view, by its digits, exactly if it isn't that of a view
abbrev pub PlacesWithoutViews : Type 0
PlacesWithoutViews =
    (g : GroupModel) (sparse : ℕ)
    → IsGroup g
    → sparse < sparse_size_of g
    → HasNoView g sparse ↔ ((v : ViewModel) → IsView g.grid g.tiles v → sparse_in g.grid v ≢ sparse)

-- the sparse place of each placement on a set of cells has what a row has at its order; the others have what they had
pub record AreWritten {A : Type 0} (g : GroupModel) (cells : List ℕ) (row old new : List A) : Type 0 where
  pub size : length new ≡ length old
  pub written : (xs : List ℕ) → IsPlaced g.grid (length g.tiles) xs → AreSame xs cells → slice_get new (sparse_of (cell_count g.grid) xs) ≡ slice_get row (order_of xs)
  pub others : (sparse : ℕ) → ((xs : List ℕ) → IsPlaced g.grid (length g.tiles) xs → AreSame xs cells → sparse_of (cell_count g.grid) xs ≢ sparse) → slice_get new sparse ≡ slice_get old sparse

-- that holds of the placements of all sets of cells, where `least` has the rows of all sets
pub record AreAllWritten {A : Type 0} (g : GroupModel) (least old new : List A) : Type 0 where
  pub size : length new ≡ length old
  pub written : (xs : List ℕ) → IsPlaced g.grid (length g.tiles) xs → slice_get new (sparse_of (cell_count g.grid) xs) ≡ slice_get least (placement_in (length g.tiles) xs)
  pub others : (sparse : ℕ) → HasNoView g sparse → slice_get new sparse ≡ slice_get old sparse

-- ---- rows of values by rank: a row has the views that differ in the cell of the last tile alone

-- the value of the view that has these cells, the blank's first
abbrev pub node_value : Regions → List ℕ → List ℕ → ℕ
node_value r nodes [] = 0
node_value r nodes (blank ∷ cells) = slice_index nodes (node_in r (record { blank = blank; cells = cells }))

-- for each set of one cell less, and each cell that it doesn't have, the place of the set with that cell
pub record AreLarger (r : Regions) (larger : List ℕ) : Type 0 where
  pub size : length larger ≡ choose (cell_count r.shape) (r.count - 1) * cell_count r.shape
  pub places : (xs : List ℕ) (z : ℕ) → IsListing (cell_count r.shape) xs → length xs ≡ r.count - 1 → z < cell_count r.shape → ¬ Contains xs z
      → slice_index larger (set_place xs * cell_count r.shape + z) ≡ set_place (xs ++ z ∷ [])

-- behind the old values are those of the free cells below one, in rising order
pub record IsRowAppended (xs : List ℕ) (value : ℕ → ℕ) (old : List ℕ) (cell : ℕ) (new : List ℕ) : Type 0 where
  pub size : length new ≡ length old + (cell - below cell xs)
  pub kept : (i : ℕ) → i < length old → slice_index new i ≡ slice_index old i
  pub values : (z : ℕ) → z < cell → ¬ Contains xs z → slice_index new (length old + (z - below z xs)) ≡ value z

-- ---- how the values of views are written at their slots, one placement of the tiles after another

-- the positions of all tiles in each order of `count` of them
pub record ArePositions (count : ℕ) (positions : List ℕ) : Type 0 where
  pub size : length positions ≡ factorial count * count
  pub are : (order tile : ℕ) → order < factorial count → tile < count → slice_index positions (order * count + tile) ≡ slice_index (positions_at count order) tile

-- the cells of a set of as many cells as a group has tiles, and the positions of the tiles in all orders
pub record AreSetOrders (g : GroupModel) (cells positions : List ℕ) : Type 0 where
  pub set : IsSetList g.grid (length g.tiles) cells
  pub orders : ArePositions (length g.tiles) positions

-- the number of a placement of tiles
abbrev pub placement_of : Regions → List ℕ → ℕ
placement_of r = placement_in r.count

-- there is a slot for each view; where P holds of a view, its slot has the value of its node
pub record AreFilled {A : Type 0} (r : Regions) (nodes : List A) (P : List ℕ → ℕ → Type 0) (slots : List A) : Type 0 where
  pub size : length slots ≡ digit_base r.shape ^ suc r.count
  pub values : (cells : List ℕ) (blank : ℕ) → IsPlaced r.shape r.count cells → IsFree r.shape cells blank → P cells blank
      → slice_get slots (sparse_of (digit_base r.shape) (blank ∷ cells)) ≡ slice_get nodes (node_in r (record { blank = blank; cells = cells }))

-- the views of the placements before one are filled in
abbrev pub AreFilledTo : {A : Type 0} → Regions → List A → ℕ → List A → Type 0
AreFilledTo r nodes placement slots = AreFilled r nodes (λ cells blank. placement_of r cells < placement) slots

-- those of all placements are
abbrev pub AreAllFilled : {A : Type 0} → Regions → List A → List A → Type 0
AreAllFilled r nodes slots = AreFilledTo r nodes (placement_count (cell_count r.shape) r.count) slots

-- those of the placements on the sets before one are
abbrev pub AreSetsFilled : {A : Type 0} → Regions → List A → ℕ → List A → Type 0
AreSetsFilled r nodes set slots = AreFilledTo r nodes (set * factorial r.count) slots

-- and those of the placements on that set in the orders before one
abbrev pub AreOrdersFilled : {A : Type 0} → Regions → List A → ℕ → ℕ → List A → Type 0
AreOrdersFilled r nodes set order slots = AreFilledTo r nodes (set * factorial r.count + order) slots

-- so are those of that placement with the blank on a cell before one
abbrev pub AreFilledUpTo : {A : Type 0} → Regions → List A → ℕ → ℕ → List A → Type 0
AreFilledUpTo r nodes placement cell slots =
    AreFilled r nodes (λ cells blank. (placement_of r cells < placement) ⊎ ((placement_of r cells ≡ placement) × (blank < cell))) slots
