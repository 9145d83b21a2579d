-- Why numbers make no group, and the codes of the faults of groups and of partitions.
use Rattle.std.specs.Prelude.{ℕ, ◌≡◌, ◌≢◌, ◌<◌, List, [], length, take, Contains, slice_index, codes}
use Rattle.board.specs.Shapes.{ShapeModel}
use Rattle.pattern_index.specs.declared.group.TheConstants.{MAX_SIZE}
use Rattle.pattern_index.specs.Groups.{IsTile, AreGroupTiles, size_of}
use Rattle.pattern_index.specs.declared.faults.GroupFault.{GroupFault}
use Rattle.pattern_index.specs.declared.faults.GroupFault.TheVariants.{Empty, NotATile, Repeated, TooManyViews}
use Rattle.pattern_index.specs.declared.faults.PartitionFault.{PartitionFault}
use Rattle.pattern_index.specs.declared.faults.PartitionFault.TheVariants.{SharedTile, TooManyGroups}

-- there is a number at this place, and those before it are different tiles
pub record IsFirstGroupPlace (grid : ShapeModel) (numbers : List ℕ) (place : ℕ) : Type 0 where
  pub within : place < length numbers
  pub before : AreGroupTiles grid (take place numbers)

-- the first fault of numbers that should be the tiles of a group: that there are none, else that of the first
-- offending place, else the count of views
abbrev pub IsFirstGroupFault : ShapeModel → List ℕ → GroupFault → Type 0
IsFirstGroupFault grid numbers Empty = numbers ≡ []
IsFirstGroupFault grid numbers NotATile = (place : ℕ) × IsFirstGroupPlace grid numbers place × (¬ IsTile grid (slice_index numbers place))
IsFirstGroupFault grid numbers Repeated =
    (place : ℕ) × IsFirstGroupPlace grid numbers place × IsTile grid (slice_index numbers place) × Contains (take place numbers) (slice_index numbers place)
IsFirstGroupFault grid numbers TooManyViews = (numbers ≢ []) × AreGroupTiles grid numbers × (MAX_SIZE < size_of (record { grid = grid; tiles = numbers }))

-- the code that a fault of a group is reported by
abbrev pub group_code : GroupFault → List ℕ
group_code Empty = codes "E5"
group_code NotATile = codes "E6"
group_code Repeated = codes "E7"
group_code TooManyViews = codes "E8"

-- of a partition
abbrev pub partition_code : PartitionFault → List ℕ
partition_code SharedTile = codes "E9"
partition_code TooManyGroups = codes "E10"
