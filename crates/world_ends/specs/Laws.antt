-- The laws of endings.
use Rattle.std.specs.Prelude.{ℕ, ◌≡◌, ◌<◌, ◌⊎◌, ◌↔◌, Vec, Option, None, Some, length}
use Rattle.std.specs.declared.alloc.Global.{Global}
use Rattle.memory.specs.declared.OutOfMemory.{OutOfMemory}
use Rattle.board.specs.declared.moves.Move.{Move}
use Rattle.board.specs.Boards.{BoardModel}
use Rattle.outcomes.specs.declared.outcome.Cause.{Cause}
use Rattle.outcomes.specs.declared.outcome.Cause.TheVariants.{Memory}
use Rattle.outcomes.specs.declared.outcome.Want.{Want}
use Rattle.outcomes.specs.declared.outcome.Want.TheVariants.{Refused}
use Rattle.outcomes.specs.declared.outcome.Outcome.TheVariants as outcome
use Rattle.outcomes.specs.Outcomes.{Task, Answers, AreRowsOf}
use Rattle.world_model.specs.Worlds.{WorldState}
use Rattle.world_model.specs.Outcomes.{AreRowsFor, IsGiven, IsBounded}
use Rattle.world_model.specs.KeptLaws.{KnowsGoal}
use Rattle.world_model.specs.declared.steps.Stop.TheVariants as stops
use Rattle.outcomes.specs.declared.outcome.Ending.{Ending}
use Rattle.outcomes.specs.declared.outcome.Ending.TheVariants.{Optimal, Unsolvable, Bounded}
use Rattle.outcomes.specs.declared.outcome.Why.{Why}
use Rattle.outcomes.specs.Endings.{EndAnswers}
use Rattle.world_model.specs.Shapes.{IsShaped}
use Rattle.world_model.specs.Soundness.{IsSound}
use Rattle.world_ends.specs.Endings.{EndsIn}
use Rattle.world_ends.specs.Parts.{HasParts}
use Rattle.world_ends.specs.Readings.{WorldsAnswer}

-- a world ends with a plan just where it gives that plan with the rows that are due
abbrev pub EndingsLackRowsAlone : Type 0
EndingsLackRowsAlone =
    (w : WorldState) (cost : ℕ) (plan : Vec Move Global) (rows : Vec (BoardModel × ℕ) Global)
    → AreRowsFor w cost rows.items
    → EndsIn w (Optimal cost plan) ↔ IsGiven w (outcome.Optimal cost plan rows)

-- and where memory is refused for them, it gives the plan's cost as a bound
abbrev pub WantedRowsLeaveABound : Type 0
WantedRowsLeaveABound =
    (w : WorldState) (cost : ℕ) (plan : Vec Move Global) (refused : OutOfMemory)
    → EndsIn w (Optimal cost plan)
    → IsGiven w (outcome.Bounded cost None (Memory (Refused refused)) None)

-- a world ends with a bound just where it gives that bound with the rows that are due; or alone, where the goal is
-- known
abbrev pub BoundsLackRowsAlone : Type 0
BoundsLackRowsAlone =
    (w : WorldState) (bound : ℕ) (best : Option (ℕ × Vec Move Global)) (cause : Cause)
    (rows : Vec (BoardModel × ℕ) Global)
    → AreRowsFor w bound rows.items
    → EndsIn w (Bounded bound best cause)
    ↔ (IsGiven w (outcome.Bounded bound best cause (Some rows))
    ⊎ (IsGiven w (outcome.Bounded bound best cause None) × KnowsGoal w))

-- and where memory is refused for rows, which a bound above the start's sum has, it gives that bound alone
abbrev pub WantedRowsLeaveTheBound : Type 0
WantedRowsLeaveTheBound =
    (w : WorldState) (bound : ℕ) (best : Option (ℕ × Vec Move Global)) (cause : Cause) (refused : OutOfMemory)
    → w.task.sum w.task.start < bound
    → EndsIn w (Bounded bound best cause)
    → IsGiven w (outcome.Bounded bound None (Memory (Refused refused)) None)

-- a bound with which a world ends is one that it gives, whatever rows beside it
abbrev pub EndsAreBounds : Type 0
EndsAreBounds =
    (w : WorldState) (bound : ℕ) (best : Option (ℕ × Vec Move Global)) (cause : Cause)
    → EndsIn w (Bounded bound best cause)
    → IsBounded w bound best cause

-- without rows a bound is for memory only where the run was halted so; or where memory was refused for the plan of a
-- goal that is known
abbrev pub MemoryEndsAreWanted : Type 0
MemoryEndsAreWanted =
    (w : WorldState) (bound : ℕ) (best : Option (ℕ × Vec Move Global)) (want : Want)
    → EndsIn w (Bounded bound best (Memory want))
    → (w.book.stop ≡ Some (stops.Memory want))
    ⊎ ((best ≡ None) × ((refused : OutOfMemory) × (want ≡ Refused refused)) × KnowsGoal w)

-- a world ends with no plan just where it gives that there is none
abbrev pub UnsolvableEndsAreGiven : Type 0
UnsolvableEndsAreGiven = (w : WorldState) (why : Why) → EndsIn w (Unsolvable why) ↔ IsGiven w (outcome.Unsolvable why)

-- a shaped and sound world is one that has its own task and workers, with the owners of boards among as many
abbrev pub WorldsHaveParts : Type 0
WorldsHaveParts =
    (w : WorldState) (owner_among : ℕ → BoardModel → ℕ)
    → IsShaped w
    → IsSound w
    → ((b : BoardModel) → w.owner b ≡ owner_among (length w.workers) b)
    → HasParts w.task owner_among w.workers w

-- where rows prove the cost, an ending answers its task just where it does with these rows
abbrev pub RowsMakeAnAnswer : Type 0
RowsMakeAnAnswer =
    (task : Task) (cost : ℕ) (plan : Vec Move Global) (rows : Vec (BoardModel × ℕ) Global)
    → AreRowsOf task rows.items cost
    → EndAnswers task (Optimal cost plan) ↔ Answers task (outcome.Optimal cost plan rows)

-- so it is of a bound
abbrev pub RowsMakeABoundAnswer : Type 0
RowsMakeABoundAnswer =
    (task : Task) (bound : ℕ) (best : Option (ℕ × Vec Move Global)) (cause : Cause) (rows : Vec (BoardModel × ℕ) Global)
    → AreRowsOf task rows.items bound
    → EndAnswers task (Bounded bound best cause) ↔ Answers task (outcome.Bounded bound best cause (Some rows))

-- a bound that an answer names, as its ending, is one that the world gives
abbrev pub ReadBoundsAreOfWorlds : {X : Type 0} → (WorldState → X → Type 0) → (X → Ending) → Type 0
ReadBoundsAreOfWorlds {X} gives end =
    (w : WorldState) (answer : X) (bound : ℕ) (best : Option (ℕ × Vec Move Global)) (cause : Cause)
    → gives w answer
    → end answer ≡ Bounded bound best cause
    → IsBounded w bound best cause

-- the ending that a sound world gives answers its task, if the world is quiet where the book says so
abbrev pub EndingsAnswer : Type 0
EndingsAnswer = WorldsAnswer EndsIn EndAnswers
