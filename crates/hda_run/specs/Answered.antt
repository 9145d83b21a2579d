-- What is answered where a job is solved, and what was found is read in some way.
use Rattle.std.specs.Prelude.{◌≡◌, ◌↔◌, Result, Ok, IfOk}
use Rattle.memory.specs.declared.OutOfMemory.{OutOfMemory}
use Rattle.board.specs.Classes.{SameClass}
use Rattle.outcomes.specs.Outcomes.{Task}
use Rattle.outcomes.specs.declared.outcome.Ending.{Ending}
use Rattle.hda_run.specs.Jobs.{JobModel, task_in}
use Rattle.hda_run.specs.WholeRuns.{EndsWholeRun}

-- A job is answered. Just where its start isn't in the goal's class, the answer is the one for parity. Else it is what a search found. It
-- is a true answer to the job's task, and its bound, if it has one, is that of a run that stopped by itself.
pub record IsAnswered {X : Type 0} (for_parity : X) (is_found : X → Type 0) (is_true : Task → X → Type 0) (end : X → Ending) (p : JobModel) (result : Result X OutOfMemory) : Type 0 where
  pub parity : (result ≡ Ok for_parity) ↔ (¬ SameClass p.start p.goal)
  pub run : SameClass p.start p.goal → IfOk result is_found
  pub answers : IfOk result (is_true (task_in p))
  pub kept : IfOk result (λ answer. EndsWholeRun (end answer))
