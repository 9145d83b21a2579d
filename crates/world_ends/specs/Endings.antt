-- What a world gives, without rows.
use Rattle.std.specs.Prelude.{ℕ, ◌≡◌, ◌≢◌, ◌⊎◌, List, Option, None}
use Rattle.memory.specs.declared.OutOfMemory.{OutOfMemory}
use Rattle.board.specs.declared.moves.Move.{Move}
use Rattle.outcomes.specs.declared.outcome.Cause.TheVariants.{Memory}
use Rattle.outcomes.specs.declared.outcome.Want.TheVariants.{Refused}
use Rattle.outcomes.specs.declared.outcome.Outcome.TheVariants as outcome
use Rattle.world_model.specs.Worlds.{WorldState}
use Rattle.world_model.specs.Frontiers.{IsLowest, IsReached}
use Rattle.world_model.specs.Outcomes.{End, IsBoundOf, IsFollowedBack, IsGiven, IsStoppedAt}
use Rattle.outcomes.specs.declared.outcome.Ending.{Ending}
use Rattle.outcomes.specs.declared.outcome.Ending.TheVariants.{Optimal, Unsolvable, Bounded}

-- a world, with this lowest of its frontier, where the goal is known at this cost
abbrev pub end_at : WorldState → Option ℕ → Option ℕ → End
end_at w lowest reached = record { world = w; lowest = lowest; reached = reached }

-- the plan is the one that last moves make, and its cost is just the bound that the world gives
pub record IsProvedPlan (w : WorldState) (cost : ℕ) (plan : List Move) : Type 0 where
  pub lowest : Option ℕ
  pub reached : Option ℕ
  pub of_frontier : IsLowest w lowest
  pub of_goal : IsReached w reached
  pub bound : IsBoundOf (end_at w lowest reached) cost
  pub followed : IsFollowedBack (end_at w lowest reached) cost plan

-- the world ends so, without rows, where no memory is refused
abbrev pub EndsWhole : WorldState → Ending → Type 0
EndsWhole w (Optimal cost plan) = IsProvedPlan w cost plan.items
EndsWhole w (Unsolvable why) = IsGiven w (outcome.Unsolvable why)
EndsWhole w (Bounded bound best cause) =
    (lowest : Option ℕ) × (reached : Option ℕ) × IsLowest w lowest × IsReached w reached
    × IsStoppedAt (end_at w lowest reached) bound best cause

-- the world has this bound, and knows the goal, so there is a plan to be followed back
abbrev pub HasPlanAbove : WorldState → ℕ → Type 0
HasPlanAbove w bound =
    (lowest : Option ℕ) × (reached : Option ℕ) × IsLowest w lowest × IsReached w reached
    × IsBoundOf (end_at w lowest reached) bound × (reached ≢ None)

-- The world ends so: with an outcome that it gives, without rows, for which no memory is taken. Where memory is refused
-- for the plan, the bound is given alone.
abbrev pub EndsIn : WorldState → Ending → Type 0
EndsIn w (Optimal cost plan) = EndsWhole w (Optimal cost plan)
EndsIn w (Unsolvable why) = EndsWhole w (Unsolvable why)
EndsIn w (Bounded bound best cause) =
    EndsWhole w (Bounded bound best cause)
    ⊎ (HasPlanAbove w bound × (best ≡ None) × ((refused : OutOfMemory) × (cause ≡ Memory (Refused refused))))
