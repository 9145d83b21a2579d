use Rattle.std.proofs.Common.{◌≡◌, ◌≤◌, ◌+◌, Some}
use Rattle.std.specs.Prelude.{reverse}
use Rattle.board.specs.Plans.{Leads}
use Rattle.world_model.specs.Workers.{IsTaskBoard}
use Rattle.world_model.specs.Worlds.{WorldState}
use Rattle.world_model.specs.Outcomes.{IsByLastMoves}
use Rattle.world_ends.specs.Parts.{task_asked, states_of, HasParts, known_in}
use Rattle.world_ends.proofs.plan.plan_back.Given as goal

-- the rest of the plan leads on from this board, by last moves
abbrev pub invariant-boards : goal.invariant-boards
invariant-boards g l =
    record {
      board : IsTaskBoard (task_asked l.asked) l.board;
      found : known_in (g.S.Spread.owner_of l.owners) (states_of l.workers) l.board ≡ Some l.here;
      leads : Leads l.asked.weights l.board (reverse l.backwards.items) l.asked.goal l.cost;
      within : l.here.cost + l.cost ≤ l.fn.reached.cost;
      still : l.asked.start ≡ l.asked.goal → l.board ≡ l.asked.start;
      traced : (w : WorldState) → HasParts (task_asked l.asked) (g.S.Spread.owner_of l.owners) (states_of l.workers) w → IsByLastMoves w l.board (reverse l.backwards.items) l.asked.goal;
    }

abbrev pub decreases-boards : goal.decreases-boards
decreases-boards g l = l.here.cost
