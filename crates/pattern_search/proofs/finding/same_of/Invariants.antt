use Rattle.std.proofs.Common.{ℕ, ◌≡◌, ◌<◌}
use Rattle.std.specs.Prelude.{slice_index}
use Rattle.pattern_search.proofs.finding.same_of.Given as goal

-- those before this one are the same
abbrev pub invariant-costs : goal.invariant-costs
invariant-costs l = (k : ℕ) → k < l.cost-index → slice_index l.costs k ≡ l.first
