-- Plans that are followed back by last moves.
use Rattle.std.specs.Prelude.{ℕ, ◌≡◌, ◌+◌, ◌≤◌, List, Some}
use Rattle.board.specs.declared.moves.Move.{Move}
use Rattle.board.specs.Boards.{BoardModel}
use Rattle.board.specs.Moves.{Moves}
use Rattle.board.specs.Plans.{Leads}
use Rattle.outcomes.specs.Outcomes.{Task}
use Rattle.world_model.specs.declared.parts.Known.{Known}
use Rattle.world_model.specs.Workers.{WorkerState, IsTaskBoard}
use Rattle.world_model.specs.Worlds.{WorldState}
use Rattle.world_model.specs.Outcomes.{IsByLastMoves}
use Rattle.world_ends.specs.Parts.{HasParts, known_in}

-- this board is before another by its last move, at this cost, and its owner knows it so: cheaper by the move's cost at
-- least
pub record IsPredecessor (task : Task) (owner_among : ℕ → BoardModel → ℕ) (states : List WorkerState)
    (b : BoardModel) (here : Known) (before : BoardModel) (cost : ℕ) (there : Known) : Type 0 where
  pub board : IsTaskBoard task before
  pub moves : Moves task.rule before here.via b cost
  pub known : known_in owner_among states before ≡ Some there
  pub cheaper : there.cost + cost ≤ here.cost

-- The plan leads from the start to the goal, at this cost, which is no more than that at which the goal is known; in
-- each world with these parts it does so by last moves.
pub record IsTraced (task : Task) (owner_among : ℕ → BoardModel → ℕ) (states : List WorkerState) (goal cost : ℕ)
    (plan : List Move) : Type 0 where
  pub leads : Leads task.rule task.start plan task.goal cost
  pub within : cost ≤ goal
  pub traced : (w : WorldState) → HasParts task owner_among states w → IsByLastMoves w task.start plan task.goal
