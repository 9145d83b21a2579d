-- When an outcome answers a task.
use Rattle.std.specs.Prelude.{ℕ, ◌≡◌, ◌+◌, ◌≤◌, ◌<◌, ⊤, List, Option, None, Some, Vec, length, All, AllPairs}
use Rattle.std.specs.declared.alloc.Global.{Global}
use Rattle.memory.specs.declared.OutOfMemory.{OutOfMemory}
use Rattle.board.specs.declared.costs.TheConstants.{GREATEST_COST, GREATEST_EXPANDED_COST}
use Rattle.board.specs.declared.moves.Move.{Move}
use Rattle.board.specs.Boards.{BoardModel, IsBoard}
use Rattle.board.specs.Weights.{WeightsModel}
use Rattle.board.specs.Plans.{Leads, NothingBelow, IsLeast}
use Rattle.board.specs.Classes.{SameClass}
use Rattle.board.specs.Keys.{key_of}
use Rattle.board.specs.Rows.{Proves}
use Rattle.outcomes.specs.declared.outcome.Why.{Why}
use Rattle.outcomes.specs.declared.outcome.Why.TheVariants.{Parity, Exhausted}
use Rattle.outcomes.specs.declared.outcome.Cause.{Cause}
use Rattle.outcomes.specs.declared.outcome.Cause.TheVariants.{Limit, Memory, Start, Cost, Cut}
use Rattle.outcomes.specs.declared.outcome.Want.TheVariants.{Refused}
use Rattle.outcomes.specs.declared.outcome.Outcome.{Outcome}
use Rattle.outcomes.specs.declared.outcome.Outcome.TheVariants.{Optimal, Unsolvable, Bounded}

-- what is asked: the plans from the start to the goal under a cost rule; sum is the heuristic that guides the search
pub record Task : Type 0 where
  pub start : BoardModel
  pub goal : BoardModel
  pub rule : WeightsModel
  pub sum : BoardModel → ℕ

-- the best plan leads to the goal at its cost, which is above the bound
abbrev pub IsBestPlan : Task → ℕ → Option (ℕ × List Move) → Type 0
IsBestPlan task bound None = ⊤
IsBestPlan task bound (Some best) = Leads task.rule task.start best.1 task.goal best.0 × (bound < best.0)

-- The rows prove the cost, and rise by key. Each is a board with the sides of the goal, and its cost is at most `GREATEST_COST`.
pub record AreRowsOf (task : Task) (rows : List (BoardModel × ℕ)) (cost : ℕ) : Type 0 where
  pub proves : Proves task.rule rows task.sum task.start task.goal cost
  pub rising : AllPairs (λ row later. key_of row.0 < key_of later.0) rows
  pub boards : All (λ row. IsBoard row.0 × (row.0.grid ≡ task.goal.grid)) rows
  pub low : All (λ row. row.1 ≤ GREATEST_COST) rows

-- rows that prove the cost exist, whether or not there is memory to list them
abbrev pub HasProof : Task → ℕ → Type 0
HasProof task cost = (rows : List (BoardModel × ℕ)) × AreRowsOf task rows cost

-- parity is named only where the start isn't in the goal's class
abbrev pub AllowsWhy : Task → Why → Type 0
AllowsWhy task Parity = ¬ SameClass task.start task.goal
AllowsWhy task Exhausted = ⊤

-- the cost is named only where each plan costs more than a run may reach
abbrev pub AllowsCause : ℕ → Cause → Type 0
AllowsCause bound Limit = ⊤
AllowsCause bound (Memory want) = ⊤
AllowsCause bound Start = ⊤
AllowsCause bound Cost = GREATEST_EXPANDED_COST < bound
AllowsCause bound Cut = ⊤

-- the plan without its memory
abbrev pub best_of : Option (ℕ × Vec Move Global) → Option (ℕ × List Move)
best_of None = None
best_of (Some best) = Some (best.0, best.1.items)

-- no board of the goal's shape has a greater sum
abbrev pub IsAboveSums : Task → ℕ → Type 0
IsAboveSums task most = (b : BoardModel) → IsBoard b → b.grid ≡ task.goal.grid → task.sum b ≤ most

-- No plan costs less than the bound. The bound is at least the heuristic of the start, and at most `GREATEST_COST` plus any number that no
-- board's heuristic is above. The best plan and the cause are allowed with this bound.
abbrev pub IsTrueBound : Task → ℕ → Option (ℕ × Vec Move Global) → Cause → Type 0
IsTrueBound task bound best cause =
    NothingBelow task.rule task.start task.goal bound × (task.sum task.start ≤ bound) × ((most : ℕ) → IsAboveSums task most → bound ≤ GREATEST_COST + most)
    × IsBestPlan task bound (best_of best) × AllowsCause bound cause

-- the bound has neither rows nor a plan, since memory was refused
abbrev pub StandsAlone : Option (ℕ × Vec Move Global) → Cause → Type 0
StandsAlone best cause = (best ≡ None) × ((refused : OutOfMemory) × (cause ≡ Memory (Refused refused)))

-- What an outcome says is true:
-- - `Optimal`: the plan is least, and the rows prove it. Neither its cost nor its count of moves is above `GREATEST_COST`.
-- - `Unsolvable`: no plan leads to the goal, and the reason is allowed.
-- - `Bounded`: no plan costs less than the bound, and the rows prove it. Where memory was refused for the rows, such rows exist all the same.
abbrev pub Answers : Task → Outcome → Type 0
Answers task (Optimal cost plan rows) =
    Leads task.rule task.start plan.items task.goal cost × IsLeast task.rule task.start task.goal cost × AreRowsOf task rows.items cost × (cost ≤ GREATEST_COST) × (length plan.items ≤ GREATEST_COST)
Answers task (Unsolvable why) = ((plan : List Move) (cost : ℕ) → ¬ Leads task.rule task.start plan task.goal cost) × AllowsWhy task why
Answers task (Bounded bound best cause (Some rows)) = IsTrueBound task bound best cause × AreRowsOf task rows.items bound
Answers task (Bounded bound best cause None) = IsTrueBound task bound best cause × StandsAlone best cause × HasProof task bound
