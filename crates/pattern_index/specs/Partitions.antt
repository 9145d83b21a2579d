-- Partitions: disjoint groups, no two with a tile in common, and why groups make none.
use Rattle.std.specs.Prelude.{ℕ, ◌≡◌, ◌<◌, ◌≤◌, List, length, All, AllPairs, Contains}
use Rattle.board.specs.Shapes.{ShapeModel}
use Rattle.pattern_index.specs.Groups.{GroupModel, IsGroup}
use Rattle.pattern_index.specs.declared.faults.PartitionFault.{PartitionFault}
use Rattle.pattern_index.specs.declared.faults.PartitionFault.TheVariants.{SharedTile, TooManyGroups}

-- Groups of tiles of the boards of a grid.
pub record PartitionModel : Type 0 where
  pub grid : ShapeModel
  pub groups : List GroupModel

-- no tile is in both lists
abbrev pub ShareNoTile : List ℕ → List ℕ → Type 0
ShareNoTile xs ys = (tile : ℕ) → Contains xs tile → ¬ Contains ys tile

-- no two of the groups share a tile
abbrev pub AreApart : List GroupModel → Type 0
AreApart groups = AllPairs (λ g h. ShareNoTile g.tiles h.tiles) groups

-- at most 24 groups of one grid, no two with a tile in common
pub record IsPartition (split : PartitionModel) : Type 0 where
  pub groups : All (λ g. IsGroup g) split.groups
  pub of_grid : All (λ g. g.grid ≡ split.grid) split.groups
  pub few : length split.groups ≤ 24
  pub apart : AreApart split.groups

-- the first fault of groups that should make a partition: their count, else that two share a tile
abbrev pub IsPartitionFault : List GroupModel → PartitionFault → Type 0
IsPartitionFault groups TooManyGroups = 24 < length groups
IsPartitionFault groups SharedTile = (length groups ≤ 24) × (¬ AreApart groups)
