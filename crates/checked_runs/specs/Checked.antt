-- What is answered where each least plan is checked.
use Rattle.std.specs.Prelude.{ℕ, ◌≡◌, ◌⊎◌, ⊤, Vec, None}
use Rattle.std.specs.declared.alloc.Global.{Global}
use Rattle.memory.specs.declared.OutOfMemory.{OutOfMemory}
use Rattle.board.specs.declared.moves.Move.{Move}
use Rattle.board.specs.Boards.{BoardModel}
use Rattle.outcomes.specs.declared.outcome.Cause.TheVariants.{Memory}
use Rattle.outcomes.specs.declared.outcome.Want.TheVariants.{Refused}
use Rattle.outcomes.specs.declared.outcome.Outcome.{Outcome}
use Rattle.outcomes.specs.declared.outcome.Outcome.TheVariants.{Optimal, Unsolvable, Bounded}
use Rattle.lower_bound.specs.Tables.{BoundModel}
use Rattle.certificate_check.specs.declared.refusals.Refusal.{Refusal}
use Rattle.certificate_check.specs.Refusals.{IsProved, IsFirstRefusal}
use Rattle.hda_run.specs.Jobs.{JobModel}
use Rattle.thread_runs.specs.Solved.{IsSolved}
use Rattle.checked_runs.specs.Certificates.{certificate_in}

-- where a plan is called least, its certificate proves so with these tables
abbrev pub IsProvedWith : JobModel → BoundModel → Outcome → Type 0
IsProvedWith p tables (Optimal cost plan rows) = IsProved (certificate_in p cost plan.items rows.items) tables
IsProvedWith p tables (Unsolvable why) = ⊤
IsProvedWith p tables (Bounded bound best cause rows) = ⊤

-- a plan of n workers, or of one alone, has this cost, and memory was refused for the groups of its certificate: the cost is given as a bound
abbrev pub IsUncertifiedPlan : {S : Type 0} → (S → ℕ → BoardModel → ℕ) → JobModel → S → ℕ → Outcome → Type 0
IsUncertifiedPlan owner_of p owners n outcome =
    (cost : ℕ) × (plan : Vec Move Global) × (rows : Vec (BoardModel × ℕ) Global) × (refused : OutOfMemory)
    × IsSolved owner_of p owners n (Optimal cost plan rows) × (outcome ≡ Bounded cost None (Memory (Refused refused)) None)

-- the outcome is that of n workers, or of one alone, or it has the cost of theirs as its bound
abbrev pub IsCheckedRun : {S : Type 0} → (S → ℕ → BoardModel → ℕ) → JobModel → S → ℕ → Outcome → Type 0
IsCheckedRun owner_of p owners n outcome = IsSolved owner_of p owners n outcome ⊎ IsUncertifiedPlan owner_of p owners n outcome

-- a certificate is refused with these tables, first for this cause: that of a plan of n workers, or of one alone
abbrev pub IsRefusedRun : {S : Type 0} → (S → ℕ → BoardModel → ℕ) → JobModel → S → ℕ → BoundModel → Refusal → Type 0
IsRefusedRun owner_of p owners n tables refusal =
    (cost : ℕ) × (plan : Vec Move Global) × (rows : Vec (BoardModel × ℕ) Global)
    × IsSolved owner_of p owners n (Optimal cost plan rows) × IsFirstRefusal (certificate_in p cost plan.items rows.items) tables refusal
