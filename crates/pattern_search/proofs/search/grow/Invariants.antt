use Rattle.std.proofs.Common.{◌≤◌, ◌+◌, ◌-◌, length, vec_len}
use Rattle.pattern_search.specs.Searches.{IsGrown}
use Rattle.pattern_search.proofs.search.grow.Given as goal

abbrev pub invariant-costs : goal.invariant-costs
invariant-costs l = IsGrown l.initial.buckets.items l.buckets.items × (length l.initial.buckets.items ≤ 65535 → length l.buckets.items ≤ 65535)

abbrev pub decreases-costs : goal.decreases-costs
decreases-costs l = l.cost + 1 - vec_len l.buckets
