-- Folded tables for the groups of a partition, and what they say of a board, group by group.
use Rattle.std.specs.Prelude.{ℕ, ◌≡◌, ◌≢◌, ◌<◌, List, [], ◌∷◌, map, All, ⊤}
use Rattle.board.specs.Shapes.{cell_count}
use Rattle.board.specs.Boards.{BoardModel, cell_of}
use Rattle.board.specs.Weights.{WeightsModel}
use Rattle.pattern_index.specs.Views.{view_at, view_of}
use Rattle.pattern_index.specs.Groups.{GroupModel}
use Rattle.database_build.specs.Tables.{IsPotential, TableModel, value_in}
use Rattle.database_build.specs.Folds.{FoldedModel, folded_in, IsFoldOf}
use Rattle.lower_bound.specs.Bounds.{Part}

-- there is one folded table for each group, in the order of the groups
abbrev pub AreFoldsOf : List GroupModel → List FoldedModel → Type 0
AreFoldsOf groups folds = map (λ fold. fold.selection) folds ≡ groups

-- the tiles of a folded table's group, with the folded values
abbrev pub part_folded : FoldedModel → Part
part_folded fold = record { tiles = fold.selection.tiles; value = folded_in fold }

-- what a folded table says of a board
abbrev pub value_for : BoardModel → FoldedModel → ℕ
value_for b fold = folded_in fold (view_of fold.selection.tiles b)

-- the parts whose values are added
abbrev pub folded_parts : List FoldedModel → List Part
folded_parts folds = map part_folded folds

-- the table was folded from one whose entries are a potential
abbrev pub IsFoldedPotential : WeightsModel → BoardModel → FoldedModel → Type 0
IsFoldedPotential rule goal fold = (table : TableModel) × IsFoldOf table fold × IsPotential rule table.selection.tiles goal (value_in table)

-- each was
abbrev pub AreFoldedPotentials : WeightsModel → BoardModel → List FoldedModel → Type 0
AreFoldedPotentials rule goal folds = All (λ fold. IsFoldedPotential rule goal fold) folds

-- each folded table is that of the table at its place
abbrev pub AreFolded : List TableModel → List FoldedModel → Type 0
AreFolded [] [] = ⊤
AreFolded (table ∷ tables) (fold ∷ folds) = IsFoldOf table fold × AreFolded tables folds
AreFolded [] (fold ∷ folds) = ⊥
AreFolded (table ∷ tables) [] = ⊥

-- the values of a board, one for each part
abbrev pub values_of : List Part → BoardModel → List ℕ
values_of parts b = map (λ part. part.value (view_of part.tiles b)) parts

-- each tile except this one is on the same cell of both boards
abbrev pub KeepsOtherTiles : BoardModel → BoardModel → ℕ → Type 0
KeepsOtherTiles before b tile = (number : ℕ) → 0 < number → number < cell_count b.grid → number ≢ tile → cell_of before number ≡ cell_of b number

-- what a folded table says of a board, by the cell of each of its numbers
abbrev pub value_by : List ℕ → FoldedModel → ℕ
value_by cells fold = folded_in fold (view_at fold.selection.tiles cells)
