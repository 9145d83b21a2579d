-- Tables for the groups of a partition: all whole, or all folded.
use Rattle.std.specs.Prelude.{◌≡◌, ◌⊎◌, List, [], ◌++◌, map, All}
use Rattle.board.specs.Boards.{BoardModel}
use Rattle.board.specs.Weights.{WeightsModel}
use Rattle.pattern_index.specs.Groups.{GroupModel}
use Rattle.pattern_index.specs.Partitions.{PartitionModel, IsPartition}
use Rattle.database_build.specs.Tables.{IsPotential, TableModel, value_in}
use Rattle.database_build.specs.Folds.{FoldedModel}
use Rattle.lower_bound.specs.Bounds.{Part}
use Rattle.lower_bound.specs.Folded.{AreFoldsOf, AreFoldedPotentials, folded_parts}

-- A partition, and tables, whole or folded.
pub record BoundModel : Type 0 where
  pub split : PartitionModel
  pub lookups : List TableModel
  pub folds : List FoldedModel

-- there is one table for each group, in the order of the groups
abbrev pub AreTablesOf : List GroupModel → List TableModel → Type 0
AreTablesOf groups lookups = map (λ table. table.selection) lookups ≡ groups

-- no table is folded
abbrev pub AreWhole : BoundModel → Type 0
AreWhole tables = tables.folds ≡ []

-- there is a whole table for each group, or a folded one for each
abbrev pub OneEach : BoundModel → Type 0
OneEach tables = (AreTablesOf tables.split.groups tables.lookups × AreWhole tables) ⊎ (AreFoldsOf tables.split.groups tables.folds × (tables.lookups ≡ []))

-- groups that share no tile, and a table for each
pub record IsTables (tables : BoundModel) : Type 0 where
  pub partition : IsPartition tables.split
  pub one_each : OneEach tables

-- the tiles of a table's group, with the table's entries as values
abbrev pub part_of : TableModel → Part
part_of table = record { tiles = table.selection.tiles; value = value_in table }

-- the parts whose values are added
abbrev pub parts_of : BoundModel → List Part
parts_of tables = map part_of tables.lookups ++ folded_parts tables.folds

-- the entries of each table are a potential, or were folded from one
pub record ArePotentials (rule : WeightsModel) (goal : BoardModel) (tables : BoundModel) : Type 0 where
  pub whole : All (λ table. IsPotential rule table.selection.tiles goal (value_in table)) tables.lookups
  pub folded : AreFoldedPotentials rule goal tables.folds

-- all whole tables are potentials for one goal and one cost rule; nothing is asked of folded ones
pub record AreConsistent (tables : BoundModel) : Type 0 where
  pub rule : WeightsModel
  pub goal : BoardModel
  pub grid : goal.grid ≡ tables.split.grid
  pub whole : All (λ table. IsPotential rule table.selection.tiles goal (value_in table)) tables.lookups
