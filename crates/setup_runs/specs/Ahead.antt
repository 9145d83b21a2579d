-- Boards that are solved before their lines are taken.
use Rattle.std.specs.Prelude.{ℕ, ◌≡◌, ◌<◌, ◌≤◌, All, IfSome, Option, Some, Vec}
use Rattle.std.specs.declared.alloc.Global.{Global}
use Rattle.board.specs.declared.moves.Move.{Move}
use Rattle.board.specs.Shapes.{ShapeModel}
use Rattle.board.specs.Boards.{BoardModel}
use Rattle.outcomes.specs.declared.outcome.Cause.TheVariants.{Memory}
use Rattle.outcomes.specs.declared.outcome.Ending.{Ending}
use Rattle.outcomes.specs.declared.outcome.Ending.TheVariants.{Bounded}
use Rattle.outcomes.specs.declared.outcome.Want.{Want}
use Rattle.world_ends.specs.Readings.{EndsWithFigures}
use Rattle.world_ends.specs.declared.reading.EndingWithFigures.{EndingWithFigures}
use Rattle.hda_run.specs.Alone.{IsFoundAlone}
use Rattle.batch_runs.specs.Setups.{SetupModel, owner_by}
use Rattle.batch_runs.specs.declared.stats.Solved.{Solved}
use Rattle.setup_runs.specs.Solving.{MayAnswer, HasStats, IsNoBound, problem_within}
use Rattle.setup_runs.specs.declared.ahead.Tried.{Tried}
use Rattle.setup_runs.specs.declared.solving.TheConstants.{ENOUGH_EXPANDED}

-- the board has the sides of this grid
abbrev pub HasSides : ShapeModel → BoardModel → Type 0
HasSides grid b = b.grid ≡ grid

-- the ending is a bound for which memory was refused
abbrev pub LacksMemory : Ending → Type 0
LacksMemory ending = (bound : ℕ) × (best : Option (ℕ × Vec Move Global)) × (want : Want) × (ending ≡ Bounded bound best (Memory want))

-- one worker ended the board with no more expansions than are enough for one, and not because memory was refused
abbrev pub IsEndedAlone : Solved → Type 0
IsEndedAlone solved = (solved.stats.expanded ≤ ENOUGH_EXPANDED) × (¬ LacksMemory solved.ending)

-- Within the limit that is enough for one board, one worker finds a bound, and not because memory was refused. The setup allows more.
pub record IsTooHard (setup : SetupModel) (start : BoardModel) : Type 0 where
  pub found : EndingWithFigures
  pub run : IsFoundAlone EndsWithFigures owner_by (problem_within ENOUGH_EXPANDED setup start) setup.spread found
  pub bound : ¬ IsNoBound found.ending
  pub whole : ¬ LacksMemory found.ending
  pub more : ENOUGH_EXPANDED < setup.limit

-- the board may be answered by its ending, which one worker found and which has the stats of its search; it may have none
abbrev pub IsTried : SetupModel → Tried → Type 0
IsTried setup it = IfSome it.solved (λ solved. MayAnswer setup it.board (Some solved.ending) × HasStats setup it.board solved × IsEndedAlone solved)

-- each board of a lane was tried so
abbrev pub AreTried : SetupModel → Vec Tried Global → Type 0
AreTried setup lane = All (IsTried setup) lane.items
