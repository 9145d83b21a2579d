-- The laws of built tables. Each is the contract of a function that does nothing.
use Rattle.std.specs.Prelude.{◌≡◌, ◌≤◌}
use Rattle.board.specs.Boards.{BoardModel, IsBoard}
use Rattle.board.specs.Weights.{WeightsModel}
use Rattle.pattern_index.specs.Partitions.{PartitionModel, IsPartition}
use Rattle.lower_bound.specs.Bounds.{sum_of}
use Rattle.lower_bound.specs.Tables.{BoundModel, parts_of}
use Rattle.table_sets.specs.Built.{AreBuilt, AreBuiltFolded}

-- tables of the same groups, for the same goal and costs, give each board the same sum
abbrev pub SumsAreDetermined : Type 0
SumsAreDetermined =
    (split : PartitionModel) (rule : WeightsModel) (goal : BoardModel) (one other : BoundModel)
    → IsPartition split
    → AreBuilt split rule goal one
    → AreBuilt split rule goal other
    → (b : BoardModel)
    → IsBoard b
    → b.grid ≡ split.grid
    → sum_of (parts_of one) b ≡ sum_of (parts_of other) b

-- so do folded ones
abbrev pub FoldedSumsAreDetermined : Type 0
FoldedSumsAreDetermined =
    (split : PartitionModel) (rule : WeightsModel) (goal : BoardModel) (one other : BoundModel)
    → IsPartition split
    → AreBuiltFolded split rule goal one
    → AreBuiltFolded split rule goal other
    → (b : BoardModel)
    → IsBoard b
    → b.grid ≡ split.grid
    → sum_of (parts_of one) b ≡ sum_of (parts_of other) b

-- and their sum is no greater than that of whole ones
abbrev pub FoldedSumsAreNoGreater : Type 0
FoldedSumsAreNoGreater =
    (split : PartitionModel) (rule : WeightsModel) (goal : BoardModel) (whole folded : BoundModel)
    → IsPartition split
    → AreBuilt split rule goal whole
    → AreBuiltFolded split rule goal folded
    → (b : BoardModel)
    → IsBoard b
    → b.grid ≡ split.grid
    → sum_of (parts_of folded) b ≤ sum_of (parts_of whole) b
