use Rattle.std.proofs.Common.{◌+◌, ◌-◌, ◌*◌, ◌<◌, length}
use Rattle.std.specs.Prelude.{sum}
use Rattle.pattern_search.specs.Searches.{waiting_count}
use Rattle.pattern_search.specs.declared.finding.TheConstants.{NO_VALUE}
use Rattle.pattern_search.proofs.SearchLemmas.{AreSeeking}
use Rattle.pattern_search.proofs.search.find_by_buckets.Given as goal

abbrev pub invariant-nodes : goal.invariant-nodes
invariant-nodes l = AreSeeking l.fn.graph l.start l.cost l.search × (l.cost < length l.search.buckets.items)

abbrev pub decreases-nodes : goal.decreases-nodes
decreases-nodes l = 2 * sum l.search.values.items + waiting_count l.search.buckets.items l.cost

abbrev pub invariant-costs : goal.invariant-costs
invariant-costs l = AreSeeking l.fn.graph l.start l.cost l.search

abbrev pub decreases-costs : goal.decreases-costs
decreases-costs l = NO_VALUE - l.cost
