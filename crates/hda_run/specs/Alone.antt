-- Jobs that one worker does alone.
use Rattle.std.specs.Prelude.{ℕ, ◌≡◌, ◌≤◌, ⊤, List, [], ◌∷◌, ◌++◌, All, Option, Some, None}
use Rattle.memory.specs.declared.OutOfMemory.{OutOfMemory}
use Rattle.board.specs.declared.moves.Move.{Move}
use Rattle.board.specs.Boards.{BoardModel}
use Rattle.outcomes.specs.declared.outcome.Want.TheVariants.{Refused}
use Rattle.world_model.specs.declared.steps.HaltCause.TheVariants as causes
use Rattle.world_model.specs.declared.steps.Refusal.{Refusal}
use Rattle.world_model.specs.declared.steps.Refusal.TheVariants as refusals
use Rattle.world_model.specs.declared.steps.Step.{Step}
use Rattle.world_model.specs.declared.steps.Step.TheVariants.{Expand, Settle, Send, Deliver, Draw}
use Rattle.world_model.specs.declared.steps.Step.TheVariants.{Announce, Grant, Rest, Halt}
use Rattle.world_model.specs.declared.steps.Stop.{Stop}
use Rattle.world_model.specs.declared.steps.Stop.TheVariants as stops
use Rattle.world_model.specs.Credit.{expansion_count}
use Rattle.world_model.specs.Openings.{Job, opening}
use Rattle.world_model.specs.Steps.{IsRun}
use Rattle.world_model.specs.Worlds.{WorldState}
use Rattle.hda_run.specs.Jobs.{JobModel}
use Rattle.hda_run.specs.Worlds.{job_of}

-- the step is to halt the run
abbrev pub IsHalt : Step → Type 0
IsHalt (Expand i) = ⊥
IsHalt (Settle i) = ⊥
IsHalt (Send i j) = ⊥
IsHalt (Deliver i j) = ⊥
IsHalt (Draw i) = ⊥
IsHalt (Announce i) = ⊥
IsHalt (Grant i) = ⊥
IsHalt (Rest i) = ⊥
IsHalt (Halt i cause) = ⊤

-- none of these steps is to halt the run
abbrev pub HaltsNowhere : List (Step × Option Refusal) → Type 0
HaltsNowhere made = All (λ made. ¬ IsHalt made.0) made

-- What the last steps of one worker are, by what stopped the run. It is quiet because the worker rested. It is halted
-- for the limit because nothing more was granted, and for memory because an expansion found none.
abbrev pub AreLast : List (Step × Option Refusal) → Option Stop → Type 0
AreLast last None = ⊥
AreLast last (Some stops.Quiet) = last ≡ (Rest 0, None) ∷ []
AreLast last (Some stops.Limit) = last ≡ (Grant 0, Some refusals.NoAllowance) ∷ (Halt 0 causes.Limit, None) ∷ []
AreLast last (Some (stops.Memory want)) =
    (refused : OutOfMemory) × (want ≡ Refused refused)
    × (last ≡ (Expand 0, Some (refusals.Memory refused)) ∷ (Halt 0 (causes.Memory want), None) ∷ [])
AreLast last (Some stops.Start) = ⊥

-- A run from the opening world stopped here, by its last steps; no step before them is to halt it. At most the limit
-- was expanded, and all of it where the run was halted for it.
pub record IsRunAlone (job : Job) (w : WorldState) : Type 0 where
  pub via : Move
  pub first : List (Step × Option Refusal)
  pub last : List (Step × Option Refusal)
  pub run : IsRun (opening job via) (first ++ last) w
  pub goes_on : HaltsNowhere first
  pub ends : AreLast last w.book.stop
  pub within_limit : expansion_count w ≤ job.limit
  pub spent : w.book.stop ≡ Some stops.Limit → expansion_count w ≡ job.limit

-- the answer is one that the world of such a run by one worker gives
abbrev pub IsFoundAlone
    : {S X : Type 0} → (WorldState → X → Type 0) → (S → ℕ → BoardModel → ℕ) → JobModel → S → X → Type 0
IsFoundAlone gives owner_of p owners answer =
    (w : WorldState) × IsRunAlone (job_of owner_of p owners 1) w × gives w answer
