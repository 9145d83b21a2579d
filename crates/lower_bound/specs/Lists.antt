-- The tables of a bound, as it holds them, as they are given out, and as they are folded.
use Rattle.std.specs.Prelude.{◌≡◌, List, [], ⊤}
use Rattle.pattern_index.specs.Partitions.{PartitionModel}
use Rattle.database_build.specs.Tables.{TableModel}
use Rattle.database_build.specs.Folds.{FoldedModel}
use Rattle.lower_bound.specs.Folded.{AreFolded}
use Rattle.lower_bound.specs.Tables.{BoundModel, AreWhole}
use Rattle.lower_bound.specs.declared.bound.Held.{Held}
use Rattle.lower_bound.specs.declared.bound.Held.TheVariants as held
use Rattle.lower_bound.specs.declared.bound.TableList.{TableList}
use Rattle.lower_bound.specs.declared.bound.TableList.TheVariants.{Whole, Folded}

-- the whole tables that are held, and the folded ones
abbrev pub lookups_in : Held → List TableModel
lookups_in (held.Whole tables) = tables.items
lookups_in (held.Folded folds) = []

abbrev pub folds_in : Held → List FoldedModel
folds_in (held.Whole tables) = []
folds_in (held.Folded folds) = folds.items

-- a partition with the tables that are held
abbrev pub tables_in : PartitionModel → Held → BoundModel
tables_in split held = record { split = split; lookups = lookups_in held; folds = folds_in held }

-- the tables that are held are whole
abbrev pub AreHeldWhole : Held → Type 0
AreHeldWhole (held.Whole tables) = ⊤
AreHeldWhole (held.Folded folds) = ⊥

-- these are the tables: all of them whole, or all of them folded
abbrev pub AreListed : BoundModel → TableList → Type 0
AreListed tables (Whole lookups) = (lookups.now ≡ tables.lookups) × AreWhole tables
AreListed tables (Folded folds) = (folds.now ≡ tables.folds) × (tables.lookups ≡ [])

-- the second are the first with each whole table folded
pub record IsFoldedBound (tables folded : BoundModel) : Type 0 where
  pub split : folded.split ≡ tables.split
  pub none_whole : folded.lookups ≡ []
  pub each : AreWhole tables → AreFolded tables.lookups folded.folds
  pub kept : tables.lookups ≡ [] → folded.folds ≡ tables.folds
