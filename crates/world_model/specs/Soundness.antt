-- Sound worlds: no board is lost, and each one is reached.
use Rattle.std.specs.Prelude.{◌≡◌, ◌⊎◌, ℕ, ◌+◌, ◌≤◌, true, false, List}
use Rattle.board.specs.declared.moves.Move.{Move}
use Rattle.board.specs.Boards.{BoardModel}
use Rattle.board.specs.Moves.{Moves}
use Rattle.board.specs.Plans.{Leads}
use Rattle.world_model.specs.declared.parts.Item.{Item}
use Rattle.world_model.specs.declared.parts.Known.{Known}
use Rattle.world_model.specs.Worlds.{WorldState, Knows, IsUnderWay}

-- the board is covered at this cost: its owner knows it at no more, or an item of it at no more is under way
abbrev pub IsCovered : WorldState → BoardModel → ℕ → Type 0
IsCovered w b cost =
    ((known : Known) × Knows w (w.owner b) b known × (known.cost ≤ cost))
    ⊎ ((to : ℕ) × (item : Item) × IsUnderWay w to item × (item.board ≡ b) × (item.cost ≤ cost))

-- The board at this cost is the start at 0; or the board before its last move is known to that one's owner, cheaper by the move's cost
-- at least.
abbrev pub HasPredecessor : WorldState → BoardModel → ℕ → Move → Type 0
HasPredecessor w b cost via =
    ((b ≡ w.task.start) × (cost ≡ 0))
    ⊎ ((before : BoardModel) × (c : ℕ) × (known : Known) × Moves w.task.rule before via b c × Knows w (w.owner before) before known × (known.cost + c ≤ cost))

-- The start is covered at 0. Each successor of a closed board is covered at that board's cost and the move's. Each known board and
-- each item was reached. The goal is not closed. What holds of each part alone is `IsShaped`.
pub record IsSound (w : WorldState) : Type 0 where
  pub start : IsCovered w w.task.start 0
  pub successors : (i : ℕ) (b : BoardModel) (known : Known) → Knows w i b known → known.expanded ≡ true → (m : Move) (b' : BoardModel) (c : ℕ) → Moves w.task.rule b m b' c → IsCovered w b' (known.cost + c)
  pub reached : (i : ℕ) (b : BoardModel) (known : Known) → Knows w i b known → HasPredecessor w b known.cost known.via
  pub items_reached : (to : ℕ) (item : Item) → IsUnderWay w to item → HasPredecessor w item.board item.cost item.via
  pub goal_kept : (i : ℕ) (known : Known) → Knows w i w.task.goal known → known.expanded ≡ false

-- a plan leads from the start to the board, at no more than this cost
abbrev pub IsLedTo : WorldState → BoardModel → ℕ → Type 0
IsLedTo w b cost = (plan : List Move) × (k : ℕ) × Leads w.task.rule w.task.start plan b k × (k ≤ cost)
