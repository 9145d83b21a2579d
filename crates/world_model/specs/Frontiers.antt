-- The frontier of a world: what is still to be expanded.
use Rattle.std.specs.Prelude.{◌≡◌, ◌≢◌, ◌⊎◌, ℕ, ◌+◌, false, Option}
use Rattle.board.specs.Boards.{BoardModel}
use Rattle.world_model.specs.declared.parts.Item.{Item}
use Rattle.world_model.specs.declared.parts.Known.{Known}
use Rattle.world_model.specs.Costs.{IsLeastWith}
use Rattle.world_model.specs.Worlds.{WorldState, Knows, IsUnderWay}

-- the board is known at this cost, is not expanded, and is not the goal
abbrev pub IsOpenAt : WorldState → BoardModel → ℕ → Type 0
IsOpenAt w b cost = (i : ℕ) × (known : Known) × Knows w i b known × (known.expanded ≡ false) × (b ≢ w.task.goal) × (known.cost ≡ cost)

-- an item of the board at this cost is under way
abbrev pub IsUnderWayAt : WorldState → BoardModel → ℕ → Type 0
IsUnderWayAt w b cost = (to : ℕ) × (item : Item) × IsUnderWay w to item × (item.board ≡ b) × (item.cost ≡ cost)

-- the board is in the frontier at this cost: open, or under way
abbrev pub IsInFrontier : WorldState → BoardModel → ℕ → Type 0
IsInFrontier w b cost = IsOpenAt w b cost ⊎ IsUnderWayAt w b cost

-- the least cost plus sum over the frontier
abbrev pub IsLowest : WorldState → Option ℕ → Type 0
IsLowest w lowest = IsLeastWith (λ f. (b : BoardModel) × (cost : ℕ) × IsInFrontier w b cost × (f ≡ cost + w.task.sum b)) lowest

-- the cost at which the goal is known to its owner
abbrev pub IsReached : WorldState → Option ℕ → Type 0
IsReached w reached = IsLeastWith (λ cost. (known : Known) × Knows w (w.owner w.task.goal) w.task.goal known × (known.cost ≡ cost)) reached
