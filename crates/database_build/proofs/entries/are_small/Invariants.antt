use Rattle.std.proofs.Common.{ℕ, ◌≡◌, ◌⊎◌, ◌<◌}
use Rattle.std.specs.Prelude.{slice_index}
use Rattle.pattern_search.specs.declared.finding.TheConstants.{NO_VALUE}
use Rattle.database_build.proofs.entries.are_small.Given as goal

-- a byte can encode those before this one
abbrev pub invariant-values : goal.invariant-values
invariant-values l = (k : ℕ) → k < l.value-index → (slice_index l.values k < 255) ⊎ (slice_index l.values k ≡ NO_VALUE)
