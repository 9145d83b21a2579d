-- The laws of the definitions. Each is the contract of a function that does nothing.
use Rattle.std.specs.Prelude.{ℕ, zero, suc, ◌≡◌, ◌≢◌, ◌↔◌, ◌+◌, ◌-◌, ◌*◌, ◌/◌, ◌^◌, ◌<◌, ◌≤◌, List, ◌∷◌, length, max, Some, Contains, slice_index, slice_index_or}
use Rattle.board.specs.declared.moves.Move.{Move}
use Rattle.board.specs.Shapes.{ShapeModel, cell_count}
use Rattle.board.specs.Neighbours.{opposite}
use Rattle.board.specs.Boards.{BoardModel, IsBoard, blank_of}
use Rattle.board.specs.Weights.{WeightsModel}
use Rattle.board.specs.Keys.{Precedes}
use Rattle.board.specs.Moves.{Moves}
use Rattle.pattern_index.specs.Ranks.{ways, IsListing, rank_of}
use Rattle.pattern_index.specs.Views.{ViewModel, IsView, Abstraction, ViewMoves, ViewLeads, view_of, view_at}
use Rattle.pattern_index.specs.Groups.{GroupModel, IsGroup, AreGroupTiles, rank_in, size_of, place_in, folded_size_of, view_successor}
use Rattle.pattern_index.specs.Partitions.{AreApart}
use Rattle.pattern_index.specs.Sparse.{slot_count_of, slot_in, sparse_in, sparse_of, sparse_size_of, stride_of}

-- n!, the numbers from 1 to n multiplied
abbrev pub factorial : ℕ → ℕ
factorial zero = 1
factorial (suc n) = suc n * factorial n

-- the ways to list r of n cells are n! divided by (n - r)!
abbrev pub WaysAreFactorials : Type 0
WaysAreFactorials = (n r : ℕ) → r ≤ n → ways n r ≡ factorial n / factorial (n - r)

-- a rank is below the count of ways
abbrev pub RanksAreBelow : Type 0
RanksAreBelow = (n : ℕ) (xs : List ℕ) → IsListing n xs → rank_of n xs < ways n (length xs)

-- lists of one length with one rank are one list
abbrev pub RanksDiffer : Type 0
RanksDiffer = (n : ℕ) (xs ys : List ℕ) → IsListing n xs → IsListing n ys → length xs ≡ length ys → rank_of n xs ≡ rank_of n ys → xs ≡ ys

-- each number below the count of ways is the rank of a list
abbrev pub RanksFill : Type 0
RanksFill = (n r k : ℕ) → r ≤ n → k < ways n r → (xs : List ℕ) × IsListing n xs × (length xs ≡ r) × (rank_of n xs ≡ k)

-- the earlier of two lists of one length has the smaller rank
abbrev pub RanksAreInOrder : Type 0
RanksAreInOrder =
    (n : ℕ) (xs ys : List ℕ) → IsListing n xs → IsListing n ys → length xs ≡ length ys → (rank_of n xs < rank_of n ys) ↔ Precedes xs ys

-- a group has 9 tiles at most, and there is a cell for the blank and for each of them
abbrev pub GroupsAreSmall : Type 0
GroupsAreSmall = (g : GroupModel) → IsGroup g → (length g.tiles ≤ 9) × (suc (length g.tiles) ≤ cell_count g.grid)

-- the rank of a group's view is below the group's size
abbrev pub ViewRanksAreBelow : Type 0
ViewRanksAreBelow = (g : GroupModel) (v : ViewModel) → IsView g.grid g.tiles v → rank_in g.grid v < size_of g

-- views of a group with one rank are one view
abbrev pub ViewRanksDiffer : Type 0
ViewRanksDiffer = (g : GroupModel) (v w : ViewModel) → IsView g.grid g.tiles v → IsView g.grid g.tiles w → rank_in g.grid v ≡ rank_in g.grid w → v ≡ w

-- each number below a group's size is the rank of one of its views
abbrev pub ViewRanksFill : Type 0
ViewRanksFill = (g : GroupModel) (k : ℕ) → IsGroup g → k < size_of g → (v : ViewModel) × IsView g.grid g.tiles v × (rank_in g.grid v ≡ k)

-- the place of a group's view is below the group's folded size
abbrev pub PlacesAreBelow : Type 0
PlacesAreBelow = (g : GroupModel) (v : ViewModel) → IsView g.grid g.tiles v → place_in g.grid v < folded_size_of g

-- views of a group have one place exactly where they show the tiles on the same cells
abbrev pub PlacesDiffer : Type 0
PlacesDiffer =
    (g : GroupModel) (v w : ViewModel) → IsView g.grid g.tiles v → IsView g.grid g.tiles w → (place_in g.grid v ≡ place_in g.grid w) ↔ (v.cells ≡ w.cells)

-- the sparse place of a group's view is below the group's sparse size
abbrev pub SparsePlacesAreBelow : Type 0
SparsePlacesAreBelow = (g : GroupModel) (v : ViewModel) → IsView g.grid g.tiles v → sparse_in g.grid v < sparse_size_of g

-- views of a group have one sparse place exactly where they show the tiles on the same cells
abbrev pub SparsePlacesDiffer : Type 0
SparsePlacesDiffer =
    (g : GroupModel) (v w : ViewModel) → IsView g.grid g.tiles v → IsView g.grid g.tiles w → (sparse_in g.grid v ≡ sparse_in g.grid w) ↔ (v.cells ≡ w.cells)

-- the digits of a slot are cells, the blank's as the lowest, to the base of 16 or, on more cells, of their count
abbrev pub SlotsAreDigits : Type 0
SlotsAreDigits = (grid : ShapeModel) (v : ViewModel) → slot_in grid v ≡ sparse_of (max (cell_count grid) 16) (v.blank ∷ v.cells)

-- there are as many slots as numbers of that many digits
abbrev pub SlotsAreCounted : Type 0
SlotsAreCounted = (g : GroupModel) → slot_count_of g ≡ max (cell_count g.grid) 16 ^ suc (length g.tiles)

-- the slot of a group's view is below the count of slots
abbrev pub SlotsAreBelow : Type 0
SlotsAreBelow = (g : GroupModel) (v : ViewModel) → IsView g.grid g.tiles v → slot_in g.grid v < slot_count_of g

-- views of a group with one slot are one view
abbrev pub SlotsDiffer : Type 0
SlotsDiffer = (g : GroupModel) (v w : ViewModel) → IsView g.grid g.tiles v → IsView g.grid g.tiles w → slot_in g.grid v ≡ slot_in g.grid w → v ≡ w

-- where one tile of a group moves, the sparse place gains its new cell times its stride, and loses its old cell times that
abbrev pub SparsePlacesMove : Type 0
SparsePlacesMove =
    (g : GroupModel) (before after : List ℕ) (tile : ℕ)
    → IsGroup g
    → ((number : ℕ) → 0 < number → number ≢ tile → slice_index after number ≡ slice_index before number)
    → sparse_in g.grid (view_at g.tiles after) + slice_index before tile * stride_of (cell_count g.grid) g.tiles tile
    ≡ sparse_in g.grid (view_at g.tiles before) + slice_index after tile * stride_of (cell_count g.grid) g.tiles tile

-- what a group sees of a board, its abstraction, is a view
abbrev pub BoardsHaveViews : Type 0
BoardsHaveViews = (tiles : List ℕ) (b : BoardModel) → IsBoard b → AreGroupTiles b.grid tiles → IsView b.grid tiles (view_of tiles b)

-- a move of a board is a view move of what a group sees, at the move's cost where the tile moved is the group's, else at 0
abbrev pub MovesAreViewMoves : Type 0
MovesAreViewMoves =
    (rule : WeightsModel) (tiles : List ℕ) (b : BoardModel) (m : Move) (b' : BoardModel) (c : ℕ)
    → IsBoard b
    → AreGroupTiles b.grid tiles
    → Moves rule b m b' c
    → (seen : ℕ)
    × ViewMoves (record { grid = b.grid; rule = rule; tiles = tiles }) (view_of tiles b) m (view_of tiles b') seen
    × (Contains tiles (slice_index b.tiles (blank_of b')) → seen ≡ c)
    × (¬ Contains tiles (slice_index b.tiles (blank_of b')) → seen ≡ 0)

-- what is computed of a view's move is what it does
abbrev pub SuccessorsAreViewMoves : Type 0
SuccessorsAreViewMoves =
    (a : Abstraction) (v : ViewModel) (m : Move) (v' : ViewModel) (c : ℕ)
    → IsView a.grid a.tiles v
    → (view_successor a v m ≡ Some (v', c)) ↔ ViewMoves a v m v' c

-- a view's move leads to a view
abbrev pub ViewMovesKeepViews : Type 0
ViewMovesKeepViews =
    (a : Abstraction) (v : ViewModel) (m : Move) (v' : ViewModel) (c : ℕ) → IsView a.grid a.tiles v → ViewMoves a v m v' c → IsView a.grid a.tiles v'

-- the opposite move takes a view's move back, at the same cost
abbrev pub ViewMovesAreTakenBack : Type 0
ViewMovesAreTakenBack =
    (a : Abstraction) (v : ViewModel) (m : Move) (v' : ViewModel) (c : ℕ) → IsView a.grid a.tiles v → ViewMoves a v m v' c → ViewMoves a v' (opposite m) v c

-- a view's move leads to one view, at one cost
abbrev pub ViewMovesAreDetermined : Type 0
ViewMovesAreDetermined =
    (a : Abstraction) (v : ViewModel) (m : Move) (v' v'' : ViewModel) (c d : ℕ) → ViewMoves a v m v' c → ViewMoves a v m v'' d → (v'' ≡ v') × (d ≡ c)

-- a view plan leads from a view to one view, at one cost
abbrev pub ViewPlansAreDetermined : Type 0
ViewPlansAreDetermined =
    (a : Abstraction) (v : ViewModel) (plan : List Move) (w w' : ViewModel) (j k : ℕ) → ViewLeads a v plan w j → ViewLeads a v plan w' k → (w' ≡ w) × (k ≡ j)

-- groups are apart exactly where each tile is in one of them at most
abbrev pub TilesAreInOneGroup : Type 0
TilesAreInOneGroup =
    (groups : List GroupModel)
    → AreApart groups
    ↔ ((tile i j : ℕ) (d : GroupModel) → i < length groups → j < length groups → Contains (slice_index_or groups i d).tiles tile → Contains (slice_index_or groups j d).tiles tile → i ≡ j)
