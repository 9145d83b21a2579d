-- Tables: a number for each view of a group.
use Rattle.std.specs.Prelude.{ℕ, List, slice_index, ◌≡◌, ◌+◌, ◌≤◌, Option, None, Some, codes}
use Rattle.board.specs.Boards.{BoardModel}
use Rattle.board.specs.Weights.{WeightsModel}
use Rattle.board.specs.declared.moves.Move.{Move}
use Rattle.pattern_index.specs.Views.{ViewModel, IsView, ViewMoves, view_of}
use Rattle.pattern_index.specs.Groups.{GroupModel, rank_in, abstraction_of, view_successor}
use Rattle.pattern_search.specs.Searches.{IsValue}
use Rattle.database_build.specs.declared.faults.TableFault.{TableFault}
use Rattle.database_build.specs.declared.faults.TableFault.TheVariants.{WrongCount}

-- A group, and the entry of each of its views, by rank.
pub record TableModel : Type 0 where
  pub selection : GroupModel
  pub values : List ℕ

-- the entry of a view
abbrev pub value_in : TableModel → ViewModel → ℕ
value_in table v = slice_index table.values (rank_in table.selection.grid v)

-- the entry of each view of the group is its value for this goal
abbrev pub HoldsValues : TableModel → WeightsModel → BoardModel → Type 0
HoldsValues table rule goal =
    (v : ViewModel)
    → IsView table.selection.grid table.selection.tiles v
    → IsValue (abstraction_of table.selection rule) (view_of table.selection.tiles goal) v (value_in table v)

-- ---- potentials (Korf, Felner 2002)

-- the goal's view has 0, and no view move lowers the value by more than its cost: the value is consistent
pub record IsPotential (rule : WeightsModel) (tiles : List ℕ) (goal : BoardModel) (value : ViewModel → ℕ) : Type 0 where
  pub at_goal : value (view_of tiles goal) ≡ 0
  pub falls_slowly : (v : ViewModel) (m : Move) (v' : ViewModel) (c : ℕ) → IsView goal.grid tiles v → ViewMoves (record { grid = goal.grid; rule = rule; tiles = tiles }) v m v' c → value v ≤ c + value v'

-- ---- when the entries of a table fall slowly, rank by rank and move by move

-- n is no more than the cost of a move and the entry of the view that it leads to, if there is one
abbrev pub FallsTo : TableModel → ℕ → Option (ViewModel × ℕ) → Type 0
FallsTo table n None = Unit {0}
FallsTo table n (Some moved) = n ≤ moved.1 + value_in table moved.0

-- no move from the view of this rank lowers the entry by more than its cost
abbrev pub FallsSlowlyAt : TableModel → WeightsModel → ℕ → Type 0
FallsSlowlyAt table rule rank =
    (v : ViewModel)
    → IsView table.selection.grid table.selection.tiles v
    → rank_in table.selection.grid v ≡ rank
    → (m : Move)
    → FallsTo table (value_in table v) (view_successor (abstraction_of table.selection rule) v m)

-- ---- the code of the fault of tables

-- the code that a fault is reported by
abbrev pub table_code : TableFault → List ℕ
table_code WrongCount = codes "E11"
