-- Outcomes without rows, and when they answer a task.
use Rattle.std.specs.Prelude.{◌≤◌, length}
use Rattle.board.specs.declared.costs.TheConstants.{GREATEST_COST}
use Rattle.board.specs.Plans.{Leads, IsLeast}
use Rattle.outcomes.specs.declared.outcome.Outcome.{Outcome}
use Rattle.outcomes.specs.declared.outcome.Outcome.TheVariants as outcome
use Rattle.outcomes.specs.declared.outcome.Ending.{Ending}
use Rattle.outcomes.specs.declared.outcome.Ending.TheVariants.{Optimal, Unsolvable, Bounded}
use Rattle.outcomes.specs.Outcomes.{Task, HasProof, IsTrueBound, Answers}

-- the same without rows
abbrev pub without_rows : Outcome → Ending
without_rows (outcome.Optimal cost plan rows) = Optimal cost plan
without_rows (outcome.Unsolvable why) = Unsolvable why
without_rows (outcome.Bounded bound best cause rows) = Bounded bound best cause

-- what an ending says is true, as what an outcome says is; the rows that it leaves out exist
abbrev pub EndAnswers : Task → Ending → Type 0
EndAnswers task (Optimal cost plan) =
    Leads task.rule task.start plan.items task.goal cost × IsLeast task.rule task.start task.goal cost × HasProof task cost × (cost ≤ GREATEST_COST) × (length plan.items ≤ GREATEST_COST)
EndAnswers task (Unsolvable why) = Answers task (outcome.Unsolvable why)
EndAnswers task (Bounded bound best cause) = IsTrueBound task bound best cause × HasProof task bound
