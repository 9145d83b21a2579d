-- The causes of bounds of runs that stopped by themselves.
use Rattle.std.specs.Prelude.{◌≢◌, ⊤}
use Rattle.outcomes.specs.declared.outcome.Cause.{Cause}
use Rattle.outcomes.specs.declared.outcome.Cause.TheVariants.{Cut, Start, Memory}
use Rattle.outcomes.specs.declared.outcome.Want.TheVariants.{Stated}
use Rattle.outcomes.specs.declared.outcome.Ending.{Ending}
use Rattle.outcomes.specs.declared.outcome.Ending.TheVariants.{Optimal, Unsolvable, Bounded}
use Rattle.outcomes.specs.declared.outcome.Outcome.{Outcome}
use Rattle.outcomes.specs.Endings.{without_rows}

-- the cause is that of a run that stopped by itself: it was not cut, each thread was started, and no list of steps said
-- that memory was refused
abbrev pub IsOfWholeRun : Cause → Type 0
IsOfWholeRun cause = (cause ≢ Cut) × (cause ≢ Start) × (cause ≢ Memory Stated)

-- a bound has such a cause
abbrev pub EndsWholeRun : Ending → Type 0
EndsWholeRun (Optimal cost plan) = ⊤
EndsWholeRun (Unsolvable why) = ⊤
EndsWholeRun (Bounded bound best cause) = IsOfWholeRun cause

-- so it is with rows
abbrev pub HasWholeRun : Outcome → Type 0
HasWholeRun outcome = EndsWholeRun (without_rows outcome)
