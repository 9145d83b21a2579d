-- The laws of what n workers answer. Each is the contract of a function that does nothing.
use Rattle.std.specs.Prelude.{ℕ, ◌≡◌, ◌⊎◌, ◌+◌, ◌*◌, ◌≤◌, ⊤, Option, Some, IsSome, Vec, length}
use Rattle.std.specs.declared.alloc.Global.{Global}
use Rattle.memory.specs.declared.OutOfMemory.{OutOfMemory}
use Rattle.board.specs.declared.moves.Move.{Move}
use Rattle.board.specs.Boards.{BoardModel}
use Rattle.board.specs.Rows.{IsLowerBound}
use Rattle.outcomes.specs.declared.outcome.Cause.{Cause}
use Rattle.outcomes.specs.declared.outcome.Cause.TheVariants.{Limit, Cost, Memory}
use Rattle.outcomes.specs.declared.outcome.Want.TheVariants.{Refused}
use Rattle.outcomes.specs.declared.outcome.Ending.{Ending}
use Rattle.outcomes.specs.declared.outcome.Ending.TheVariants as ending
use Rattle.outcomes.specs.declared.outcome.Outcome.{Outcome}
use Rattle.outcomes.specs.declared.outcome.Outcome.TheVariants as outcome
use Rattle.outcomes.specs.Endings.{without_rows, EndAnswers}
use Rattle.outcomes.specs.Outcomes.{Answers}
use Rattle.owners.specs.Owners.{AreWorkers}
use Rattle.world_model.specs.declared.limits.TheConstants.{GREATEST_GRANT}
use Rattle.world_model.specs.Credit.{expansion_count}
use Rattle.world_model.specs.Quiet.{IsKept}
use Rattle.world_model.specs.Shapes.{IsTask}
use Rattle.world_model.specs.Worlds.{WorldState}
use Rattle.world_ends.specs.declared.figures.Figures.{Figures}
use Rattle.world_ends.specs.Endings.{EndsIn}
use Rattle.world_ends.specs.Readings.{EndsWithFigures}
use Rattle.world_ends.specs.declared.reading.EndingWithFigures.{EndingWithFigures}
use Rattle.hda_run.specs.Alone.{IsFoundAlone, IsRunAlone}
use Rattle.hda_run.specs.Jobs.{JobModel, task_in}
use Rattle.hda_run.specs.WholeRuns.{EndsWholeRun}
use Rattle.hda_run.specs.Worlds.{job_of}
use Rattle.thread_runs.specs.Threads.{IsJoined, IsFoundByThreads}
use Rattle.thread_runs.specs.Solved.{IsFoundByWorkers, IsSolved}

-- the cause is the limit, or that each plan costs more than a run may reach, or that memory was refused
abbrev pub IsLimitCostOrMemory : Cause → Type 0
IsLimitCostOrMemory cause = (cause ≡ Limit) ⊎ (cause ≡ Cost) ⊎ ((refused : OutOfMemory) × (cause ≡ Memory (Refused refused)))

-- the bounds of runs that stopped by themselves have one of these causes, with rows (`HasWholeRun`) as without
abbrev pub WholeRunsSayWhy : Type 0
WholeRunsSayWhy = (bound : ℕ) (best : Option (ℕ × Vec Move Global)) (cause : Cause) → EndsWholeRun (ending.Bounded bound best cause) → IsLimitCostOrMemory cause

-- the outcome is not a bound without rows, for which memory was refused
abbrev pub HasItsRows : Outcome → Type 0
HasItsRows (outcome.Optimal cost plan rows) = ⊤
HasItsRows (outcome.Unsolvable why) = ⊤
HasItsRows (outcome.Bounded bound best cause rows) = IsSome rows

module _ {S : Type 0} (owner_of : S → ℕ → BoardModel → ℕ) where
  -- what is solved, with its rows, ends so without them
  abbrev pub SolvedRunsEnd : Type 0
  SolvedRunsEnd = (p : JobModel) (owners : S) (n : ℕ) (it : Outcome) → IsSolved owner_of p owners n it → HasItsRows it → IsFoundByWorkers EndsIn owner_of p owners n (without_rows it)

  -- What is solved answers the problem, where each board's owner is one of the workers, and the problem's sums are never above the cost of a
  -- plan. So does what is found without rows.
  pub record SolvedRunsAnswer : Type 0 where
    pub rows :
        (p : JobModel) (owners : S) (n : ℕ) (it : Outcome)
        → AreWorkers owner_of
        → IsTask (task_in p)
        → IsLowerBound p.rule (task_in p).sum p.goal
        → IsSolved owner_of p owners n it
        → Answers (task_in p) it
    pub ends :
        (p : JobModel) (owners : S) (n : ℕ) (it : Ending)
        → AreWorkers owner_of
        → IsTask (task_in p)
        → IsLowerBound p.rule (task_in p).sum p.goal
        → IsFoundByWorkers EndsIn owner_of p owners n it
        → EndAnswers (task_in p) it

  -- the count of expansions that n workers answer is no more than the problem's limit
  abbrev pub FiguresAreWithinTheLimit : Type 0
  FiguresAreWithinTheLimit = (p : JobModel) (owners : S) (n : ℕ) (it : EndingWithFigures) → IsFoundByWorkers EndsWithFigures owner_of p owners n it → it.figures.expanded ≤ p.limit

  -- beside a bound that is for the limit, it is all of that except at most one grant for each worker
  abbrev pub FiguresSpendTheLimit : Type 0
  FiguresSpendTheLimit =
      (p : JobModel) (owners : S) (n bound : ℕ) (best : Option (ℕ × Vec Move Global)) (figures : Figures)
      → IsFoundByWorkers EndsWithFigures owner_of p owners n (record { ending = ending.Bounded bound best Limit; figures = figures })
      → p.limit ≤ figures.expanded + GREATEST_GRANT * n

  -- the world is that of n joined threads, at least two, and is kept; or it is that of a run by one worker alone
  abbrev pub IsOfRunBy : JobModel → S → ℕ → WorldState → Type 0
  IsOfRunBy p owners n w = ((2 ≤ n) × IsJoined (job_of owner_of p owners n) w × IsKept w) ⊎ IsRunAlone (job_of owner_of p owners 1) w

module _ {S X : Type 0} (gives : WorldState → X → Type 0) (owner_of : S → ℕ → BoardModel → ℕ) where
  -- what is found by one worker is found by it alone
  abbrev pub OneIsAlone : Type 0
  OneIsAlone = (p : JobModel) (owners : S) (it : X) → IsFoundByWorkers gives owner_of p owners 1 it → IsFoundAlone gives owner_of p owners it

  -- What several workers find is given by a world of their joined threads that is kept. Or one worker finds it alone, and there is such a
  -- world that is not kept.
  abbrev pub SeveralAreJoined : Type 0
  SeveralAreJoined =
      (p : JobModel) (owners : S) (n : ℕ) (it : X)
      → IsFoundByWorkers gives owner_of p owners n it
      → 2 ≤ n
      → ((w : WorldState) × IsJoined (job_of owner_of p owners n) w × IsKept w × gives w it)
      ⊎ (IsFoundAlone gives owner_of p owners it × ((w : WorldState) × IsJoined (job_of owner_of p owners n) w × (¬ IsKept w)))

  -- what is found is given by such a world, which has expanded no more boards than the problem's limit
  abbrev pub LimitsAreKept : Type 0
  LimitsAreKept = (p : JobModel) (owners : S) (n : ℕ) (it : X) → IsFoundByWorkers gives owner_of p owners n it → (w : WorldState) × IsOfRunBy owner_of p owners n w × gives w it × (expansion_count w ≤ p.limit)

  -- What is found by threads is given by a kept world of the joined threads. It has as many workers as were asked for, and each board has the
  -- owner there that the owners name.
  abbrev pub ThreadsAreAsAsked : Type 0
  ThreadsAreAsAsked =
      (p : JobModel) (owners : S) (n : ℕ) (it : X)
      → IsFoundByThreads gives owner_of p owners n (Some it)
      → (w : WorldState) × IsJoined (job_of owner_of p owners n) w × IsKept w × gives w it × (length w.workers ≡ n) × ((b : BoardModel) → w.owner b ≡ owner_of owners n b)
