-- What n workers answer.
use Rattle.std.specs.Prelude.{ℕ, ◌≡◌, ◌≤◌, ◌⊎◌, Some}
use Rattle.board.specs.Boards.{BoardModel}
use Rattle.outcomes.specs.declared.outcome.Outcome.{Outcome}
use Rattle.world_model.specs.Outcomes.{IsGiven}
use Rattle.world_model.specs.Quiet.{IsKept}
use Rattle.world_model.specs.Worlds.{WorldState}
use Rattle.hda_run.specs.Alone.{IsFoundAlone}
use Rattle.hda_run.specs.Jobs.{JobModel}
use Rattle.hda_run.specs.Worlds.{job_of}
use Rattle.thread_runs.specs.Threads.{IsJoined, IsFoundByThreads}

-- Why one worker answers for n: one was asked for; or there is a world of n workers who were joined that is not kept. Where memory was
-- refused for what threads begin or end with, that is the opening world, from which no thread has started.
abbrev pub IsLeftToOne : {S : Type 0} → (S → ℕ → BoardModel → ℕ) → JobModel → S → ℕ → Type 0
IsLeftToOne owner_of p owners n = (n ≡ 1) ⊎ ((w : WorldState) × IsJoined (job_of owner_of p owners n) w × (¬ IsKept w))

-- The answer is that of n threads, at least two, where the world of their joined workers is kept, and else that of one worker alone.
abbrev pub IsFoundByWorkers : {S X : Type 0} → (WorldState → X → Type 0) → (S → ℕ → BoardModel → ℕ) → JobModel → S → ℕ → X → Type 0
IsFoundByWorkers gives owner_of p owners n answer = ((2 ≤ n) × IsFoundByThreads gives owner_of p owners n (Some answer)) ⊎ (IsFoundAlone gives owner_of p owners answer × IsLeftToOne owner_of p owners n)

-- the outcome is such an answer
abbrev pub IsSolved : {S : Type 0} → (S → ℕ → BoardModel → ℕ) → JobModel → S → ℕ → Outcome → Type 0
IsSolved owner_of p owners n outcome = IsFoundByWorkers IsGiven owner_of p owners n outcome
