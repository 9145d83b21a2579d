-- How boards are answered where rows are asked for, and which of the answers may be reported.
use Rattle.std.specs.Prelude.{ℕ, ◌≡◌, List, Option, None, Some, Result, Ok, Err}
use Rattle.memory.specs.declared.OutOfMemory.{OutOfMemory}
use Rattle.board.specs.Shapes.{ShapeModel}
use Rattle.board.specs.Boards.{BoardModel}
use Rattle.outcomes.specs.declared.outcome.Ending.{Ending}
use Rattle.outcomes.specs.declared.outcome.Outcome.{Outcome}
use Rattle.outcomes.specs.declared.outcome.Outcome.TheVariants.{Optimal, Unsolvable, Bounded}
use Rattle.outcomes.specs.Endings.{without_rows}
use Rattle.outcomes.specs.Outcomes.{Task, Answers}
use Rattle.batch_runs.specs.Batches.{Rules}

-- The shape of the boards, what is asked of each, and which outcomes, with rows or without, it may be answered by. None is a refusal of
-- memory before the first step.
pub record ProofRules : Type 1 where
  pub grid : ShapeModel
  pub task : BoardModel → Task
  pub allows : BoardModel → Option Outcome → Type 0

-- each outcome that a board may be answered by answers what is asked of it
abbrev pub ProvesTruly : ProofRules → Type 0
ProvesTruly rules = (b : BoardModel) (given : Outcome) → rules.allows b (Some given) → Answers (rules.task b) given

-- a prover gives an outcome that the board may be answered by, or says that memory was refused, where the rules allow that
abbrev pub MayProve : ProofRules → BoardModel → Result Outcome OutOfMemory → Type 0
MayProve rules b (Ok given) = rules.allows b (Some given)
MayProve rules b (Err refused) = rules.allows b None

-- the rows of an outcome, if it has any
abbrev pub rows_of : Outcome → Option (List (BoardModel × ℕ))
rows_of (Optimal cost plan rows) = Some rows.items
rows_of (Unsolvable why) = None
rows_of (Bounded bound best cause None) = None
rows_of (Bounded bound best cause (Some rows)) = Some rows.items

-- an ending may be reported of a board that may be answered by an outcome that says this and has no rows
abbrev pub MayReport : ProofRules → BoardModel → Option Ending → Type 0
MayReport rules b None = rules.allows b None
MayReport rules b (Some ending) = (given : Outcome) × rules.allows b (Some given) × (without_rows given ≡ ending) × (rows_of given ≡ None)

-- what may be reported of boards: for an outcome that has rows there is a certificate instead
abbrev pub report_rules : ProofRules → Rules
report_rules rules = record { grid = rules.grid; task = rules.task; allows = MayReport rules }
