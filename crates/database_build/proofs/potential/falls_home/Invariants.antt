use Rattle.std.proofs.Common.{ℕ, ◌<◌}
use Rattle.database_build.specs.Tables.{FallsSlowlyAt}
use Rattle.database_build.proofs.potential.falls_home.Given as goal

abbrev pub invariant-loop-rank : goal.invariant-loop-rank
invariant-loop-rank l = (k : ℕ) → k < l.rank → FallsSlowlyAt l.table l.weights k
