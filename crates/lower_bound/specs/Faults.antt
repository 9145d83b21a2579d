-- The faults of groups, partitions and tables in one.
use Rattle.std.specs.Prelude.{ℕ, List, codes}
use Rattle.pattern_index.specs.declared.faults.GroupFault.{GroupFault}
use Rattle.pattern_index.specs.declared.faults.GroupFault.TheVariants as group
use Rattle.pattern_index.specs.declared.faults.PartitionFault.{PartitionFault}
use Rattle.pattern_index.specs.declared.faults.PartitionFault.TheVariants as partition
use Rattle.database_build.specs.declared.faults.TableFault.{TableFault}
use Rattle.database_build.specs.declared.faults.TableFault.TheVariants as table
use Rattle.lower_bound.specs.declared.faults.PatternFault.{PatternFault}
use Rattle.lower_bound.specs.declared.faults.PatternFault.TheVariants.{Empty, NotATile, Repeated, TooManyViews, SharedTile, TooManyGroups, WrongCount}

-- the code that a fault is reported by
abbrev pub pattern_code : PatternFault → List ℕ
pattern_code Empty = codes "E5"
pattern_code NotATile = codes "E6"
pattern_code Repeated = codes "E7"
pattern_code TooManyViews = codes "E8"
pattern_code SharedTile = codes "E9"
pattern_code TooManyGroups = codes "E10"
pattern_code WrongCount = codes "E11"

-- the same fault, of a group
abbrev pub of_group : GroupFault → PatternFault
of_group group.Empty = Empty
of_group group.NotATile = NotATile
of_group group.Repeated = Repeated
of_group group.TooManyViews = TooManyViews

-- of a partition
abbrev pub of_partition : PartitionFault → PatternFault
of_partition partition.SharedTile = SharedTile
of_partition partition.TooManyGroups = TooManyGroups

-- of a table, or of tables
abbrev pub of_table : TableFault → PatternFault
of_table table.WrongCount = WrongCount
