-- The words that lines are answered by.
use Rattle.std.specs.Prelude.{ℕ, ◌≡◌, ◌≢◌, List, Option, None, Some, codes}
use Rattle.world_model.specs.declared.steps.Refusal.{Refusal}
use Rattle.world_model.specs.declared.steps.Refusal.TheVariants.{NothingBelowLimit, NoAllowance, NoRoom, RingFull, RingEmpty, PurseTooSmall, StillHolding, Memory, NothingToAnnounce, NotIdle, Stopped, PurseEmpty, NothingThere, AllowanceLeft, NoSuchWorker, PurseFull}

-- the code of a refusal
abbrev pub step_code : Refusal → List ℕ
step_code NothingBelowLimit = codes "S1"
step_code NoAllowance = codes "S2"
step_code NoRoom = codes "S3"
step_code RingFull = codes "S4"
step_code RingEmpty = codes "S5"
step_code PurseTooSmall = codes "S6"
step_code StillHolding = codes "S7"
step_code (Memory refused) = codes "S8"
step_code NothingToAnnounce = codes "S9"
step_code NotIdle = codes "S10"
step_code Stopped = codes "S11"
step_code PurseEmpty = codes "S12"
step_code NothingThere = codes "S13"
step_code AllowanceLeft = codes "S14"
step_code NoSuchWorker = codes "S15"
step_code PurseFull = codes "S16"

-- the code of a line that says no step
abbrev pub no_step_code : List ℕ
no_step_code = codes "B4"

-- the answer to a step that was refused so, or wasn't refused
abbrev pub answer_word : Option Refusal → List ℕ
answer_word None = codes "ok"
answer_word (Some refusal) = step_code refusal

-- ---- a law: the contract of a function without effect

-- No two refusals have the same code. None is the word for a step that was taken. None of these words is the answer to a line that says no step.
pub record StepCodesDiffer : Type 0 where
  pub codes_differ : (refusal other : Refusal) → step_code refusal ≡ step_code other → refusal ≡ other
  pub taken_differs : (refusal : Refusal) → step_code refusal ≢ answer_word None
  pub no_step_differs : (answer : Option Refusal) → answer_word answer ≢ no_step_code
