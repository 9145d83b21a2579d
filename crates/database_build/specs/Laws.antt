-- The laws of the definitions. Each is the contract of a function that does nothing.
use Rattle.std.specs.Prelude.{ℕ, ◌≡◌, ◌*◌, ◌^◌, ◌<◌, ◌≤◌, List, Vec, length, min}
use Rattle.std.specs.declared.alloc.Global.{Global}
use Rattle.board.specs.declared.moves.Move.{Move}
use Rattle.board.specs.Boards.{BoardModel, IsBoard}
use Rattle.board.specs.Weights.{WeightsModel}
use Rattle.pattern_index.specs.Views.{ViewModel, IsView, ViewLeads, view_of}
use Rattle.pattern_index.specs.Groups.{GroupModel, IsGroup, abstraction_of, folded_size_of}
use Rattle.pattern_graph.specs.Frames.{FrameModel, FitsGroup}
use Rattle.database_build.specs.Tables.{IsPotential, TableModel, HoldsValues, value_in}
use Rattle.database_build.specs.Folds.{FoldedModel, IsFoldedValue, IsFoldOf, folded_in}
use Rattle.database_build.specs.Entries.{AreSmall, HaveOneForm, IsKeptBest, HasLeast, least_in, most_places}
use Rattle.pattern_search.specs.declared.finding.TheConstants.{NO_VALUE}
use Rattle.database_build.specs.declared.entries.Entries.{Entries}
use Rattle.database_build.specs.declared.entries.Entries.TheVariants.{Ranked, Bytes, Words}

-- the values of the views of a group are a potential
abbrev pub ValuesArePotentials : Type 0
ValuesArePotentials =
    (table : TableModel) (rule : WeightsModel) (goal : BoardModel)
    → IsGroup table.selection
    → IsBoard goal
    → goal.grid ≡ table.selection.grid
    → HoldsValues table rule goal
    → IsPotential rule table.selection.tiles goal (value_in table)

-- the value of a view, where it isn't NO_VALUE, is the cost of a view plan to the goal's view
abbrev pub ValuesAreReached : Type 0
ValuesAreReached =
    (table : TableModel) (rule : WeightsModel) (goal : BoardModel) (v : ViewModel)
    → HoldsValues table rule goal
    → IsView table.selection.grid table.selection.tiles v
    → value_in table v < NO_VALUE
    → (plan : List Move) × ViewLeads (abstraction_of table.selection rule) v plan (view_of table.selection.tiles goal) (value_in table v)

-- a potential is never above the cost of a view plan to the goal's view: it is admissible
abbrev pub PotentialsAreLowerBounds : Type 0
PotentialsAreLowerBounds =
    (rule : WeightsModel) (tiles : List ℕ) (goal : BoardModel) (value : ViewModel → ℕ)
    → IsPotential rule tiles goal value
    → (v : ViewModel) (plan : List Move) (j : ℕ)
    → IsView goal.grid tiles v
    → ViewLeads (record { grid = goal.grid; rule = rule; tiles = tiles }) v plan (view_of tiles goal) j
    → value v ≤ j

-- a folded value is never above the value of a view that shows the tiles on the same cells
abbrev pub FoldedValuesAreLow : Type 0
FoldedValuesAreLow =
    (table : TableModel) (fold : FoldedModel) (v w : ViewModel)
    → IsFoldOf table fold
    → IsView table.selection.grid table.selection.tiles v
    → IsView table.selection.grid table.selection.tiles w
    → w.cells ≡ v.cells
    → folded_in fold v ≤ value_in table w

-- a folded value is that of one of these views
abbrev pub FoldedValuesAreReached : Type 0
FoldedValuesAreReached =
    (table : TableModel) (fold : FoldedModel) (v : ViewModel)
    → IsFoldOf table fold
    → IsView table.selection.grid table.selection.tiles v
    → (w : ViewModel) × IsView table.selection.grid table.selection.tiles w × (w.cells ≡ v.cells) × (value_in table w ≡ folded_in fold v)

-- a view has one folded value in a table
abbrev pub FoldedValuesAreDetermined : Type 0
FoldedValuesAreDetermined = (table : TableModel) (v : ViewModel) (n k : ℕ) → IsFoldedValue table v n → IsFoldedValue table v k → n ≡ k

-- the sparse places that a folded table keeps are at most those of six digits of 16, and four for each value
abbrev pub PlacesAreFew : Type 0
PlacesAreFew = (g : GroupModel) → most_places g ≡ min (16 ^ 6) (4 * folded_size_of g)

-- the values, and whether their places fit the limit, determine the form in which they are kept best
abbrev pub FormsAreDetermined : Type 0
FormsAreDetermined =
    (size limit : ℕ) (values : List ℕ) (one other : Entries)
    → IsKeptBest (size ≤ limit) values one
    → IsKeptBest (size ≤ limit) values other
    → HaveOneForm one other

-- values by rank, as bytes and as words are of three forms
abbrev pub FormsDiffer : Type 0
FormsDiffer =
    (one other : Vec ℕ Global)
    → (¬ HaveOneForm (Ranked one) (Bytes other))
    × (¬ HaveOneForm (Ranked one) (Words other))
    × (¬ HaveOneForm (Bytes one) (Ranked other))
    × (¬ HaveOneForm (Bytes one) (Words other))
    × (¬ HaveOneForm (Words one) (Ranked other))
    × (¬ HaveOneForm (Words one) (Bytes other))

-- a folded table is kept as words only where some value needs one
abbrev pub WordsAreNeeded : Type 0
WordsAreNeeded = (g : GroupModel) (words : Vec ℕ Global) → IsGroup g → HasLeast g (Words words) → ¬ AreSmall (least_in g (Words words))

-- what fits a group fits each other one of the same grid with as many tiles
abbrev pub FramesFitAll : Type 0
FramesFitAll = (size : FrameModel) (g h : GroupModel) → FitsGroup size g → h.grid ≡ g.grid → length h.tiles ≡ length g.tiles → FitsGroup size h
