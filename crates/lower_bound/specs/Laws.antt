-- The laws of sums. Each is the contract of a function that does nothing.
use Rattle.std.specs.Prelude.{ℕ, ◌≡◌, ◌⊎◌, ◌<◌, ◌≤◌, ◌↔◌, List, length, All, AllPairs, Contains, get_or, slice_index, slice_index_or, sum}
use Rattle.std.specs.Borrow.{Bor}
use Rattle.board.specs.declared.moves.Move.{Move}
use Rattle.board.specs.Boards.{BoardModel, IsBoard, blank_of}
use Rattle.board.specs.Weights.{WeightsModel}
use Rattle.board.specs.Moves.{Moves}
use Rattle.board.specs.Rows.{IsLowerBound}
use Rattle.pattern_index.specs.Groups.{AreGroupTiles, GroupModel}
use Rattle.pattern_index.specs.Partitions.{PartitionModel, IsPartition, ShareNoTile}
use Rattle.pattern_index.specs.Views.{view_of}
use Rattle.database_build.specs.Folds.{FoldedModel}
use Rattle.database_build.specs.Tables.{IsPotential, TableModel}
use Rattle.lower_bound.specs.Bounds.{Part, IsBound, sum_of}
use Rattle.lower_bound.specs.Tables.{BoundModel, IsTables, AreTablesOf, AreConsistent, ArePotentials, AreWhole, parts_of}
use Rattle.lower_bound.specs.Lists.{AreListed, IsFoldedBound}
use Rattle.lower_bound.specs.declared.bound.TableList.TheVariants.{Whole, Folded}
use Rattle.lower_bound.specs.ByTile.{AreGroupsByTile}
use Rattle.lower_bound.specs.Slides.{IsUntold, TellsBoth}
use Rattle.lower_bound.specs.Folded.{AreFoldsOf, AreFoldedPotentials, KeepsOtherTiles, folded_parts, values_of}

-- a sum of potentials of groups that share no tile is admissible: never above the cost of a plan
abbrev pub SumsAreLowerBounds : Type 0
SumsAreLowerBounds = (rule : WeightsModel) (goal : BoardModel) (parts : List Part) → IsBound rule goal parts → IsLowerBound rule (sum_of parts) goal

-- to be such a sum, potentials need no more than that they are of groups of the goal's grid that share no tile
abbrev pub PotentialsMakeBounds : Type 0
PotentialsMakeBounds =
    (rule : WeightsModel) (goal : BoardModel) (parts : List Part)
    → All (λ part. AreGroupTiles goal.grid part.tiles) parts
    → AllPairs (λ p q. ShareNoTile p.tiles q.tiles) parts
    → All (λ part. IsPotential rule part.tiles goal part.value) parts
    → IsBound rule goal parts

-- where the tables of a partition of the goal's grid are potentials, their sum is never above the cost of a plan
abbrev pub TablesAreLowerBounds : Type 0
TablesAreLowerBounds =
    (rule : WeightsModel) (goal : BoardModel) (tables : BoundModel)
    → IsTables tables
    → goal.grid ≡ tables.split.grid
    → ArePotentials rule goal tables
    → IsLowerBound rule (sum_of (parts_of tables)) goal

-- the parts of whole tables of a partition of the goal's grid are a bound where the tables are potentials
abbrev pub WholeTablesAreBounds : Type 0
WholeTablesAreBounds =
    (rule : WeightsModel) (goal : BoardModel) (tables : BoundModel)
    → IsTables tables
    → AreWhole tables
    → goal.grid ≡ tables.split.grid
    → ArePotentials rule goal tables
    → IsBound rule goal (parts_of tables)

-- where each table of a partition of the goal's grid was folded from a potential, their sum is never above the cost of a plan
abbrev pub FoldedSumsAreLowerBounds : Type 0
FoldedSumsAreLowerBounds =
    (rule : WeightsModel) (goal : BoardModel) (split : PartitionModel) (folds : List FoldedModel)
    → IsPartition split
    → goal.grid ≡ split.grid
    → AreFoldsOf split.groups folds
    → AreFoldedPotentials rule goal folds
    → IsLowerBound rule (sum_of (folded_parts folds)) goal

-- a bound whose tables were folded says no more of a board than it said before
abbrev pub FoldedBoundsSayNoMore : Type 0
FoldedBoundsSayNoMore =
    (tables folded : BoundModel)
    → IsTables tables
    → IsFoldedBound tables folded
    → (b : BoardModel)
    → IsBoard b
    → b.grid ≡ tables.split.grid
    → sum_of (parts_of folded) b ≤ sum_of (parts_of tables) b

-- a bound whose tables were folded is of the same groups
abbrev pub FoldedBoundsKeepGroups : Type 0
FoldedBoundsKeepGroups = (tables folded : BoundModel) → IsFoldedBound tables folded → folded.split ≡ tables.split

-- and it has one table for each of them
abbrev pub FoldedBoundsAreTables : Type 0
FoldedBoundsAreTables = (tables folded : BoundModel) → IsTables tables → IsFoldedBound tables folded → IsTables folded

-- tables that are given out are one for each group, in the order of the groups, whole or folded
abbrev pub ListedTablesAreOneEach : Type 0
ListedTablesAreOneEach =
    (tables : BoundModel)
    → IsTables tables
    → ((lookups : Bor (List TableModel)) → AreListed tables (Whole lookups) → AreTablesOf tables.split.groups lookups.now)
    × ((folds : Bor (List FoldedModel)) → AreListed tables (Folded folds) → AreFoldsOf tables.split.groups folds.now)

-- a move keeps each tile on its cell, except the one that was where the blank is after the move
abbrev pub MovesMoveOneTile : Type 0
MovesMoveOneTile = (rule : WeightsModel) (b : BoardModel) (m : Move) (b' : BoardModel) (c : ℕ) → IsBoard b → Moves rule b m b' c → KeepsOtherTiles b b' (get_or b.tiles (blank_of b') 0)

-- the values of a board, added up, are its sum
abbrev pub ValuesAddUp : Type 0
ValuesAddUp = (parts : List Part) (b : BoardModel) → sum (values_of parts b) ≡ sum_of parts b

-- where no two groups share a tile, a group has a tile exactly where it is at the tile's place; where no group has
-- the tile, the place is behind the last group
abbrev pub ATileHasOneGroup : Type 0
ATileHasOneGroup =
    (groups : List GroupModel) (places : List ℕ) (tile : ℕ)
    → AreGroupsByTile groups places
    → tile < 25
    → (AllPairs (λ g h. ShareNoTile g.tiles h.tiles) groups → (i : ℕ) (d : GroupModel) → i < length groups → Contains (slice_index_or groups i d).tiles tile ↔ (slice_index places tile ≡ i))
    × (All (λ group. ¬ Contains group.tiles tile) groups → slice_index places tile ≡ length groups)

-- Where whole tables are potentials, a move changes the value of no group except the one that has the tile that moves. To move another
-- tile costs a group nothing, so its value can neither fall nor rise. A folded value doesn't depend on the blank.
abbrev pub MovesChangeOneValue : Type 0
MovesChangeOneValue =
    (tables : BoundModel) (rule : WeightsModel) (b : BoardModel) (m : Move) (b' : BoardModel) (c : ℕ)
    → IsTables tables
    → AreConsistent tables
    → IsBoard b
    → b.grid ≡ tables.split.grid
    → Moves rule b m b' c
    → All (λ part. ¬ Contains part.tiles (get_or b.tiles (blank_of b') 0) → part.value (view_of part.tiles b) ≡ part.value (view_of part.tiles b')) (parts_of tables)

-- of a folded table exactly one of `TellsBoth` and `IsUntold` holds
abbrev pub BothAreToldOrNot : Type 0
BothAreToldOrNot =
    (before after : List ℕ) (fold : FoldedModel)
    → (IsUntold before after fold ⊎ TellsBoth before after fold)
    × (TellsBoth before after fold → ¬ IsUntold before after fold)
