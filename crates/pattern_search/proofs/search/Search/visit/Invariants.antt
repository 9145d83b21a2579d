use Rattle.std.proofs.Common.{◌-◌}
use Rattle.pattern_search.proofs.SearchLemmas.{IsSpreading}
use Rattle.pattern_search.proofs.search.Search.visit.Given as goal

abbrev pub invariant-edges : goal.invariant-edges
invariant-edges l = IsSpreading l.order l.cost l.first (l.at - l.first) l.initial.self l.self
