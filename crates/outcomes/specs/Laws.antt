-- The laws of answers: outcomes that answer one task agree. Each is the contract of a function that does nothing.
use Rattle.std.specs.Prelude.{ℕ, ◌≡◌, ◌+◌, ◌<◌, ◌≤◌, List, Vec, Option, Some, None}
use Rattle.std.specs.declared.alloc.Global.{Global}
use Rattle.memory.specs.declared.OutOfMemory.{OutOfMemory}
use Rattle.board.specs.declared.costs.TheConstants.{GREATEST_COST, GREATEST_EXPANDED_COST}
use Rattle.board.specs.declared.moves.Move.{Move}
use Rattle.board.specs.Boards.{BoardModel}
use Rattle.board.specs.Plans.{Leads}
use Rattle.board.specs.Classes.{SameClass}
use Rattle.board.specs.Rows.{Proves}
use Rattle.outcomes.specs.declared.outcome.Why.{Why}
use Rattle.outcomes.specs.declared.outcome.Why.TheVariants.{Parity}
use Rattle.outcomes.specs.declared.outcome.Cause.{Cause}
use Rattle.outcomes.specs.declared.outcome.Cause.TheVariants.{Cost, Memory}
use Rattle.outcomes.specs.declared.outcome.Want.TheVariants.{Refused}
use Rattle.outcomes.specs.declared.outcome.Outcome.{Outcome}
use Rattle.outcomes.specs.declared.outcome.Outcome.TheVariants.{Optimal, Unsolvable, Bounded}
use Rattle.outcomes.specs.declared.outcome.Ending.TheVariants as ending
use Rattle.outcomes.specs.Outcomes.{Task, Answers, AreRowsOf, IsAboveSums}
use Rattle.outcomes.specs.Endings.{EndAnswers, without_rows}

-- optimal outcomes of one task have one cost
abbrev pub OptimalsAgree : Type 0
OptimalsAgree =
    (task : Task) (c d : ℕ) (plan plan' : Vec Move Global) (rows rows' : Vec (BoardModel × ℕ) Global)
    → Answers task (Optimal c plan rows)
    → Answers task (Optimal d plan' rows')
    → c ≡ d

-- no task has an optimal outcome and is unsolvable
abbrev pub OptimalsAreSolvable : Type 0
OptimalsAreSolvable =
    (task : Task) (c : ℕ) (plan : Vec Move Global) (rows : Vec (BoardModel × ℕ) Global) (why : Why)
    → Answers task (Optimal c plan rows)
    → ¬ Answers task (Unsolvable why)

-- a bound is at most the optimal cost
abbrev pub BoundsAreBelow : Type 0
BoundsAreBelow =
    (task : Task) (c bound : ℕ) (plan : Vec Move Global) (rows : Vec (BoardModel × ℕ) Global) (best : Option (ℕ × Vec Move Global)) (cause : Cause) (below : Option (Vec (BoardModel × ℕ) Global))
    → Answers task (Optimal c plan rows)
    → Answers task (Bounded bound best cause below)
    → bound ≤ c

-- parity is the reason only where the start isn't in the goal's class
abbrev pub ParityIsOfAnotherClass : Type 0
ParityIsOfAnotherClass = (task : Task) → Answers task (Unsolvable Parity) → ¬ SameClass task.start task.goal

-- the best plan beside a bound leads to the goal, at a cost above the bound
abbrev pub BestPlansAreAbove : Type 0
BestPlansAreAbove =
    (task : Task) (bound cost : ℕ) (plan : Vec Move Global) (cause : Cause) (rows : Option (Vec (BoardModel × ℕ) Global))
    → Answers task (Bounded bound (Some (cost, plan)) cause rows)
    → Leads task.rule task.start plan.items task.goal cost × (bound < cost)

-- the rows of a bound prove it by themselves
abbrev pub RowsProveBounds : Type 0
RowsProveBounds =
    (task : Task) (bound : ℕ) (best : Option (ℕ × Vec Move Global)) (cause : Cause) (rows : Vec (BoardModel × ℕ) Global)
    → Answers task (Bounded bound best cause (Some rows))
    → Proves task.rule rows.items task.sum task.start task.goal bound

-- and where it has none memory was refused, and it has no plan
abbrev pub BoundsLackRowsForMemory : Type 0
BoundsLackRowsForMemory =
    (task : Task) (bound : ℕ) (best : Option (ℕ × Vec Move Global)) (cause : Cause)
    → Answers task (Bounded bound best cause None)
    → (best ≡ None) × ((refused : OutOfMemory) × (cause ≡ Memory (Refused refused)))

-- the cost of each optimal ending, and each bound, has rows that prove it as those of an outcome do, though the ending doesn't list them
abbrev pub EndingsHaveProofs : Type 0
EndingsHaveProofs =
    ((task : Task) (cost : ℕ) (plan : Vec Move Global) → EndAnswers task (ending.Optimal cost plan) → (rows : List (BoardModel × ℕ)) × AreRowsOf task rows cost)
    × ((task : Task) (bound : ℕ) (best : Option (ℕ × Vec Move Global)) (cause : Cause) → EndAnswers task (ending.Bounded bound best cause) → (rows : List (BoardModel × ℕ)) × AreRowsOf task rows bound)

-- no bound is below the heuristic of the start
abbrev pub BoundsReachTheStart : Type 0
BoundsReachTheStart =
    (task : Task) (bound : ℕ) (best : Option (ℕ × Vec Move Global)) (cause : Cause) → EndAnswers task (ending.Bounded bound best cause) → task.sum task.start ≤ bound

-- no bound is above the greatest cost plus any number that no board's heuristic is above
abbrev pub BoundsAreLow : Type 0
BoundsAreLow =
    (task : Task) (bound most : ℕ) (best : Option (ℕ × Vec Move Global)) (cause : Cause)
    → EndAnswers task (ending.Bounded bound best cause)
    → IsAboveSums task most
    → bound ≤ GREATEST_COST + most

-- the cost is the cause only where the bound is above the greatest cost at which a run expands a board
abbrev pub BoundsForCostAreHigh : Type 0
BoundsForCostAreHigh =
    (task : Task) (bound : ℕ) (best : Option (ℕ × Vec Move Global)) → EndAnswers task (ending.Bounded bound best Cost) → GREATEST_EXPANDED_COST < bound

-- what answers a task does so without rows too
abbrev pub RowsCanBeLeft : Type 0
RowsCanBeLeft = (task : Task) (outcome : Outcome) → Answers task outcome → EndAnswers task (without_rows outcome)
