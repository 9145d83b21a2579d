-- The tables of all groups of a partition.
use Rattle.std.specs.Prelude.{ℕ, ◌≡◌, List, [], ◌∷◌, Some, All, ⊤, slice_get}
use Rattle.board.specs.Boards.{BoardModel}
use Rattle.board.specs.Weights.{WeightsModel}
use Rattle.pattern_index.specs.Groups.{GroupModel}
use Rattle.pattern_index.specs.Partitions.{PartitionModel}
use Rattle.database_build.specs.Tables.{TableModel, HoldsValues}
use Rattle.database_build.specs.Folds.{FoldedModel, IsTrueFold}
use Rattle.lower_bound.specs.Folded.{AreFoldsOf}
use Rattle.lower_bound.specs.Tables.{BoundModel, AreTablesOf, AreWhole}

-- a table for each group, in the order of the groups, each with the value of each view for the goal by these costs
pub record AreTrueTables (groups : List GroupModel) (rule : WeightsModel) (goal : BoardModel) (lookups : List TableModel) : Type 0 where
  pub one_each : AreTablesOf groups lookups
  pub values : All (λ table. HoldsValues table rule goal) lookups

-- this partition, and such a table for each of its groups, none of them folded
pub record AreBuilt (split : PartitionModel) (rule : WeightsModel) (goal : BoardModel) (tables : BoundModel) : Type 0 where
  pub groups : tables.split ≡ split
  pub each : AreTrueTables split.groups rule goal tables.lookups
  pub whole : AreWhole tables

-- a folded table for each group, in the order of the groups, each folded from such a table
pub record AreTrueFolds (groups : List GroupModel) (rule : WeightsModel) (goal : BoardModel) (folds : List FoldedModel) : Type 0 where
  pub one_each : AreFoldsOf groups folds
  pub values : All (λ fold. IsTrueFold rule goal fold) folds

-- this partition, and such a folded table for each of its groups, and no whole one
pub record AreBuiltFolded (split : PartitionModel) (rule : WeightsModel) (goal : BoardModel) (tables : BoundModel) : Type 0 where
  pub groups : tables.split ≡ split
  pub each : AreTrueFolds split.groups rule goal tables.folds
  pub folded : tables.lookups ≡ []

-- one table of a group, whole or folded
abbrev pub IsTrueTable : WeightsModel → BoardModel → GroupModel → TableModel → Type 0
IsTrueTable rule goal group table = (table.selection ≡ group) × HoldsValues table rule goal

abbrev pub IsTrueFoldOf : WeightsModel → BoardModel → GroupModel → FoldedModel → Type 0
IsTrueFoldOf rule goal group fold = (fold.selection ≡ group) × IsTrueFold rule goal fold

-- there is one for each group, in the order of the groups, and this holds of each with its group
abbrev pub AreEach : {X : Type 0} → (GroupModel → X → Type 0) → List GroupModel → List X → Type 0
AreEach Is [] [] = ⊤
AreEach Is (g ∷ groups) (x ∷ xs) = Is g x × AreEach Is groups xs
AreEach Is [] (x ∷ xs) = ⊥
AreEach Is (g ∷ groups) [] = ⊥

-- this holds of it and the group at this place
abbrev pub IsEachAt : {X : Type 0} → (GroupModel → X → Type 0) → List GroupModel → ℕ → X → Type 0
IsEachAt Is groups place x = (g : GroupModel) × (slice_get groups place ≡ Some g) × Is g x

-- the goal and the costs are of each group's grid
pub record FitAll (groups : List GroupModel) (rule : WeightsModel) (goal : BoardModel) : Type 0 where
  pub goals : All (λ g. goal.grid ≡ g.grid) groups
  pub rules : All (λ g. rule.grid ≡ g.grid) groups
