use Rattle.std.proofs.Common.{ℕ, ◌<◌, get_or}
use Rattle.board.specs.Moves.{all_moves}
use Rattle.board.specs.declared.moves.Move.TheVariants.{U}
use Rattle.pattern_index.specs.Groups.{abstraction_of, view_successor}
use Rattle.database_build.specs.Tables.{FallsTo}
use Rattle.database_build.proofs.potential.falls_slowly.Given as goal

abbrev pub invariant-moves : goal.invariant-moves
invariant-moves l = (k : ℕ) → k < l.direction-index → FallsTo l.table l.value (view_successor (abstraction_of l.table.selection l.weights) l.view (get_or all_moves k U))
