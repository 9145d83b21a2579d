-- Quiet worlds, and worlds that are kept.
use Rattle.std.specs.Prelude.{◌≡◌, ⊤, ℕ, ◌+◌, ◌*◌, ◌≤◌, ◌<◌, true, [], length, All, Option, Some, None}
use Rattle.world_model.specs.declared.limits.TheConstants.{GREATEST_GRANT}
use Rattle.world_model.specs.declared.parts.Known.{Known}
use Rattle.world_model.specs.declared.steps.Stop.{Stop}
use Rattle.world_model.specs.declared.steps.Stop.TheVariants.{Quiet, Limit, Memory, Start}
use Rattle.board.specs.Boards.{BoardModel}
use Rattle.world_model.specs.Costs.{limit_of}
use Rattle.world_model.specs.Workers.{WorkerState}
use Rattle.world_model.specs.Worlds.{WorldState, IsWorker, Knows}
use Rattle.world_model.specs.Frontiers.{IsInFrontier, IsReached}
use Rattle.world_model.specs.Credit.{packet_count}

-- the worker's purse is empty, and it holds nothing and has nothing to send
pub record IsAtRest (worker : WorkerState) : Type 0 where
  pub purse : worker.purse ≡ 0
  pub held : worker.held ≡ []
  pub unsent : All (λ packet. packet ≡ []) worker.unsent

-- nothing is under way, no board in the frontier is below the limit, and the best cost is that at which the goal is known
pub record IsQuiet (w : WorldState) : Type 0 where
  pub lanes : packet_count w ≡ 0
  pub workers : (i : ℕ) (worker : WorkerState) → IsWorker w i worker → IsAtRest worker
  pub frontier : (b : BoardModel) (cost : ℕ) → IsInFrontier w b cost → limit_of w.book.best ≤ cost + w.task.sum b
  pub best : IsReached w w.book.best

-- where the book stopped by Quiet the world is quiet
abbrev pub QuietIsTrueIn : WorldState → Type 0
QuietIsTrueIn w = w.book.stop ≡ Some Quiet → IsQuiet w

-- the start is expanded
abbrev pub HasBegun : WorldState → Type 0
HasBegun w = (i : ℕ) × (known : Known) × Knows w i w.task.start known × (known.expanded ≡ true)

-- The world is kept where it stopped so: by Quiet, where it is quiet; for the limit, where it has begun if that is above one grant for
-- each worker; or for memory. A run's own outcome is taken from such worlds alone.
abbrev pub IsKeptAt : WorldState → Option Stop → Type 0
IsKeptAt w None = ⊥
IsKeptAt w (Some Quiet) = IsQuiet w
IsKeptAt w (Some Limit) = GREATEST_GRANT * length w.workers < w.book.limit → HasBegun w
IsKeptAt w (Some (Memory want)) = ⊤
IsKeptAt w (Some Start) = ⊥

-- the world is kept
abbrev pub IsKept : WorldState → Type 0
IsKept w = IsKeptAt w w.book.stop
