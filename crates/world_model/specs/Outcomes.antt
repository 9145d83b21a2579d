-- Which outcome a world gives, at any moment.
use Rattle.std.specs.Prelude.{ℕ, ◌≡◌, ◌≢◌, ◌⊎◌, ◌↔◌, ◌+◌, ◌≤◌, ◌<◌, max, List, [], ◌∷◌, AllPairs, Contains, Option, Some, None, Vec}
use Rattle.std.specs.declared.alloc.Global.{Global}
use Rattle.memory.specs.declared.OutOfMemory.{OutOfMemory}
use Rattle.board.specs.declared.moves.Move.{Move}
use Rattle.board.specs.Boards.{BoardModel}
use Rattle.board.specs.Moves.{Moves}
use Rattle.board.specs.Plans.{Leads}
use Rattle.board.specs.Keys.{key_of}
use Rattle.outcomes.specs.declared.outcome.Why.TheVariants.{Exhausted}
use Rattle.outcomes.specs.declared.outcome.Cause.{Cause}
use Rattle.outcomes.specs.declared.outcome.Cause.TheVariants.{Limit as ForLimit, Memory as ForMemory, Start as ForStart, Cost as ForCost, Cut as ForCut}
use Rattle.outcomes.specs.declared.outcome.Want.TheVariants.{Refused}
use Rattle.outcomes.specs.declared.outcome.Outcome.{Outcome}
use Rattle.outcomes.specs.declared.outcome.Outcome.TheVariants.{Optimal, Unsolvable, Bounded}
use Rattle.world_model.specs.declared.parts.Known.{Known}
use Rattle.world_model.specs.declared.steps.Stop.{Stop}
use Rattle.world_model.specs.declared.steps.Stop.TheVariants.{Quiet, Limit, Memory, Start}
use Rattle.world_model.specs.Costs.{lesser}
use Rattle.world_model.specs.Worlds.{WorldState, Knows}
use Rattle.world_model.specs.Frontiers.{IsLowest, IsReached}

-- a world, with the lowest of its frontier and the cost at which the goal is known
pub record End : Type 0 where
  pub world : WorldState
  pub lowest : Option ℕ
  pub reached : Option ℕ

-- the smaller of the two, which no plan costs less than
abbrev pub floor : End → Option ℕ
floor end = lesser end.lowest end.reached

-- the bound: the floor, and at least the start's sum
abbrev pub IsBoundOf : End → ℕ → Type 0
IsBoundOf end bound = (n : ℕ) × (floor end ≡ Some n) × (bound ≡ max (end.world.task.sum end.world.task.start) n)

-- each move of the plan from one board to another is the last move with which the board that it leads to is known to its owner
abbrev pub IsByLastMoves : WorldState → BoardModel → List Move → BoardModel → Type 0
IsByLastMoves w b [] q = b ≡ q
IsByLastMoves w b (m ∷ plan) q =
    (next : BoardModel) × (c : ℕ) × (known : Known) × Moves w.task.rule b m next c × Knows w (w.owner next) next known × (known.via ≡ m) × IsByLastMoves w next plan q

-- the plan that last moves make from the start to the goal; its cost is no more than that at which the goal is known
pub record IsFollowedBack (end : End) (cost : ℕ) (plan : List Move) : Type 0 where
  pub goal : ℕ
  pub is : end.reached ≡ Some goal
  pub traced : IsByLastMoves end.world end.world.task.start plan end.world.task.goal
  pub leads : Leads end.world.task.rule end.world.task.start plan end.world.task.goal cost
  pub within : cost ≤ goal

-- the board is known at this cost, and its cost plus sum is below k
abbrev pub IsKnownBelow : WorldState → ℕ → BoardModel → ℕ → Type 0
IsKnownBelow w k b cost = (i : ℕ) × (known : Known) × Knows w i b known × (known.cost ≡ cost) × (cost + w.task.sum b < k)

-- a row for each board that is known so, and no other row; in rising order of key
pub record AreRowsBelow (w : WorldState) (k : ℕ) (rows : List (BoardModel × ℕ)) : Type 0 where
  pub rising : AllPairs (λ row later. key_of row.0 < key_of later.0) rows
  pub each : (b : BoardModel) (cost : ℕ) → Contains rows (b, cost) ↔ IsKnownBelow w k b cost

-- where the start's sum proves the cost k there is no row, else there are those below k
abbrev pub AreRowsFor : WorldState → ℕ → List (BoardModel × ℕ) → Type 0
AreRowsFor w k rows = ((k ≤ w.task.sum w.task.start) × (rows ≡ [])) ⊎ ((w.task.sum w.task.start < k) × AreRowsBelow w k rows)

-- The cause that a bound has, by what stopped the run. Where it is quiet, what is left costs more than a run may reach.
abbrev pub cause_of : Option Stop → Cause
cause_of (Some Limit) = ForLimit
cause_of (Some (Memory want)) = ForMemory want
cause_of (Some Start) = ForStart
cause_of (Some Quiet) = ForCost
cause_of None = ForCut

-- the cause at an end
abbrev pub cause_at : End → Cause
cause_at end = cause_of end.world.book.stop

-- the run stopped early with this bound, and with the plan that is followed back, which costs more, if the goal is known
abbrev pub IsStoppedAt : End → ℕ → Option (ℕ × Vec Move Global) → Cause → Type 0
IsStoppedAt end bound None cause = IsBoundOf end bound × (end.reached ≡ None) × (cause ≡ cause_at end)
IsStoppedAt end bound (Some best) cause = IsBoundOf end bound × IsFollowedBack end best.0 best.1.items × (best.0 ≢ bound) × (cause ≡ cause_at end)

-- the bound is given alone, without a plan, since memory was refused
abbrev pub IsAloneAt : End → ℕ → Option (ℕ × Vec Move Global) → Cause → Type 0
IsAloneAt end bound best cause = IsBoundOf end bound × (best ≡ None) × ((refused : OutOfMemory) × (cause ≡ ForMemory (Refused refused)))

-- memory is asked for: for the plan of a goal that is known, or for the rows of a bound above the start's sum
abbrev pub AsksForMemory : End → ℕ → Type 0
AsksForMemory end bound = (end.reached ≢ None) ⊎ (end.world.task.sum end.world.task.start < bound)

-- Where the frontier is empty and the goal is unknown, there is no plan. Else the bound is given. Where the plan that is followed back
-- costs just that, it is optimal, and has its rows. Else the bound is given with its rows, and with the plan, if the goal is known. Where
-- the plan or the rows find no memory, it is given alone.
abbrev pub IsGivenAt : End → Outcome → Type 0
IsGivenAt end (Optimal cost plan rows) = IsBoundOf end cost × IsFollowedBack end cost plan.items × AreRowsFor end.world cost rows.items
IsGivenAt end (Unsolvable why) = (floor end ≡ None) × (why ≡ Exhausted)
IsGivenAt end (Bounded bound best cause (Some rows)) = IsStoppedAt end bound best cause × AreRowsFor end.world bound rows.items
IsGivenAt end (Bounded bound best cause None) = IsAloneAt end bound best cause × AsksForMemory end bound

-- the world gives this outcome
abbrev pub IsGiven : WorldState → Outcome → Type 0
IsGiven w outcome =
    (lowest : Option ℕ) × (reached : Option ℕ) × IsLowest w lowest × IsReached w reached
    × IsGivenAt (record { world = w; lowest = lowest; reached = reached }) outcome

-- the world gives this bound, whatever rows beside it
abbrev pub IsBounded : WorldState → ℕ → Option (ℕ × Vec Move Global) → Cause → Type 0
IsBounded w bound best cause =
    let at : Option ℕ → Option ℕ → End = λ lowest reached. record { world = w; lowest = lowest; reached = reached } in
    (lowest : Option ℕ) × (reached : Option ℕ) × IsLowest w lowest × IsReached w reached
    × (IsStoppedAt (at lowest reached) bound best cause ⊎ IsAloneAt (at lowest reached) bound best cause)
