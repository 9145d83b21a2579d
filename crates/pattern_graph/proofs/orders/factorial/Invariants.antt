use Rattle.std.proofs.Common.{◌≡◌}
use Rattle.pattern_index.specs.Laws.{factorial}
use Rattle.pattern_graph.proofs.orders.factorial.Given as goal

abbrev pub invariant-factors : goal.invariant-factors
invariant-factors l = l.product ≡ factorial l.factor
