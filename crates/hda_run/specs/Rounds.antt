-- What one worker does alone, round by round.
use Rattle.std.specs.Prelude.{ℕ, ◌≡◌, ◌⊎◌, ◌+◌, ◌-◌, List, [], ◌∷◌, ◌++◌, Option, Some, None, All}
use Rattle.board.specs.Boards.{BoardModel}
use Rattle.world_model.specs.declared.parts.Known.{Known}
use Rattle.world_model.specs.declared.steps.Refusal.{Refusal}
use Rattle.world_model.specs.declared.steps.Refusal.TheVariants as refusals
use Rattle.world_model.specs.declared.steps.Step.{Step}
use Rattle.world_model.specs.declared.steps.Step.TheVariants.{Expand, Grant}
use Rattle.world_model.specs.Credit.{IsCredited, packet_count, expansion_count}
use Rattle.world_model.specs.Frontiers.{IsInFrontier}
use Rattle.world_model.specs.Shapes.{IsShaped}
use Rattle.world_model.specs.Steps.{IsRun, Next}
use Rattle.world_model.specs.Turns.{turn}
use Rattle.world_model.specs.Workers.{WorkerState}
use Rattle.world_model.specs.Worlds.{WorldState, Knows}
use Rattle.hda_run.specs.declared.alone.End.{End}
use Rattle.hda_run.specs.declared.alone.End.TheVariants.{Quiet, Limit, Memory}
use Rattle.hda_run.specs.declared.parts.Parts.{Parts}
use Rattle.hda_run.specs.Alone.{HaltsNowhere, AreLast}
use Rattle.hda_run.specs.Headline.{NoneIsBelow}
use Rattle.hda_run.specs.Worlds.{world_of, WaitsFrom}

-- one worker, which holds nothing, has nothing to send, and has a purse of 1; no packet is in a lane, and the run goes
-- on
pub record IsLone (w : WorldState) : Type 0 where
  pub worker : WorkerState
  pub is : w.workers ≡ worker ∷ []
  pub holds_nothing : worker.held ≡ []
  pub sends_nothing : worker.unsent ≡ [] ∷ []
  pub purse : worker.purse ≡ 1
  pub no_packet : packet_count w ≡ 0
  pub goes_on : w.book.stop ≡ None
  pub shaped : IsShaped w
  pub credited : IsCredited w

-- steps without a halt lead from one world to another, where the worker is still alone
pub record Reaches (w w' : WorldState) : Type 0 where
  pub made : List (Step × Option Refusal)
  pub run : IsRun w made w'
  pub goes_on : HaltsNowhere made
  pub lone : IsLone w'

-- the worker knows the goal, or there is no frontier
abbrev pub IsWithoutBound : WorldState → Type 0
IsWithoutBound w = ((known : Known) × Knows w 0 w.task.goal known)
    ⊎ ((b : BoardModel) (cost : ℕ) → ¬ IsInFrontier w b cost)

-- the least f of what waits, and no plan costs less; None where there is no bound
abbrev pub IsBoundSoFar : {S : Type 0} → (S → ℕ → BoardModel → ℕ) → Parts S → Option ℕ → Type 0
IsBoundSoFar owner_of parts None = IsWithoutBound (world_of owner_of parts)
IsBoundSoFar owner_of parts (Some f) = NoneIsBelow parts.job f
    × All (λ worker. WaitsFrom worker.lists f) parts.workers.items

-- what may still be granted, and what may still be expanded
abbrev pub work_left : WorldState → ℕ
work_left w = (w.book.limit - w.book.granted) + (w.book.limit - expansion_count w)

-- this step is refused so
abbrev pub RefusesStep : WorldState → Step → Refusal → Type 0
RefusesStep w step refusal = Next step (turn w (Some refusal) w)

-- why the worker has no more to do
abbrev pub IsStuck : WorldState → End → Type 0
IsStuck w Quiet = RefusesStep w (Expand 0) refusals.NothingBelowLimit
IsStuck w Limit = RefusesStep w (Grant 0) refusals.NoAllowance
IsStuck w (Memory refused) = RefusesStep w (Expand 0) (refusals.Memory refused)

-- some steps, and last steps, lead from one world to another, where the run has stopped
pub record Stops (w w' : WorldState) : Type 0 where
  pub first : List (Step × Option Refusal)
  pub last : List (Step × Option Refusal)
  pub run : IsRun w (first ++ last) w'
  pub goes_on : HaltsNowhere first
  pub ends : AreLast last w'.book.stop
