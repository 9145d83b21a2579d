-- What is read of worlds: the answers that they give, when these answer a task, what they are without rows, and
-- figures.
use Rattle.std.specs.Prelude.{◌≡◌, ◌↔◌, ⊤, List, sum_by}
use Rattle.std.specs.FinMap as map
use Rattle.board.specs.Rows.{IsLowerBound}
use Rattle.outcomes.specs.declared.outcome.Ending.{Ending}
use Rattle.outcomes.specs.declared.outcome.Ending.TheVariants.{Optimal, Unsolvable, Bounded}
use Rattle.outcomes.specs.declared.outcome.Outcome.TheVariants as outcome
use Rattle.outcomes.specs.declared.outcome.Why.TheVariants.{Parity}
use Rattle.outcomes.specs.Outcomes.{Task, Answers}
use Rattle.world_model.specs.Outcomes.{IsBounded}
use Rattle.world_model.specs.Quiet.{QuietIsTrueIn}
use Rattle.world_model.specs.Shapes.{IsShaped}
use Rattle.world_model.specs.Soundness.{IsSound}
use Rattle.world_model.specs.Workers.{WorkerState}
use Rattle.world_model.specs.Worlds.{WorldState}
use Rattle.world_ends.specs.Endings.{EndsIn}
use Rattle.world_ends.specs.declared.figures.Figures.{Figures}
use Rattle.world_ends.specs.declared.reading.EndingWithFigures.{EndingWithFigures}

-- a bound that the ending names is one that the world gives
abbrev pub HasBoundOf : WorldState → Ending → Type 0
HasBoundOf w (Optimal cost plan) = ⊤
HasBoundOf w (Unsolvable why) = ⊤
HasBoundOf w (Bounded bound best cause) = IsBounded w bound best cause

module _ {X : Type 0} (gives : WorldState → X → Type 0) where
  -- what a sound world gives answers its task, if the world is quiet where the book says so
  abbrev pub WorldsAnswer : (Task → X → Type 0) → Type 0
  WorldsAnswer answers =
      (w : WorldState) (answer : X)
      → IsShaped w
      → IsSound w
      → QuietIsTrueIn w
      → IsLowerBound w.task.rule w.task.sum w.task.goal
      → gives w answer
      → answers w.task answer

  -- a bound that a world gives is one that it gives without rows
  abbrev pub BoundsAreOfWorlds : (X → Ending) → Type 0
  BoundsAreOfWorlds ending = (w : WorldState) (answer : X) → gives w answer → HasBoundOf w (ending answer)

-- the answer says just that no plan leads from the start to the goal, because the start is of another class
abbrev pub IsForParity : {X : Type 0} → (Task → X → Type 0) → X → Type 0
IsForParity answers parity = (task : Task) → answers task parity ↔ Answers task (outcome.Unsolvable Parity)

-- ---- figures

-- the boards that workers have expanded, and those that they know, each added up over all workers
pub record AreFiguresOf (workers : List WorkerState) (figures : Figures) : Type 0 where
  pub expanded : figures.expanded ≡ sum_by (λ worker. worker.expansions) workers
  pub known : figures.known ≡ sum_by (λ worker. map.len worker.known) workers

-- the figures are those of the world's workers
abbrev pub HasFigures : WorldState → Figures → Type 0
HasFigures w figures = AreFiguresOf w.workers figures

-- the world ends so, and these are its figures
abbrev pub EndsWithFigures : WorldState → EndingWithFigures → Type 0
EndsWithFigures w answer = EndsIn w answer.ending × HasFigures w answer.figures
