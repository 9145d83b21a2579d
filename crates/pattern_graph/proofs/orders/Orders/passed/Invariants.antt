use Rattle.std.proofs.Common.{◌-◌, ◌<◌, ◌≤◌}
use Rattle.pattern_graph.proofs.OrderTables.{IsMoved}
use Rattle.pattern_graph.proofs.orders.Orders.passed.Given as goal

abbrev pub invariant-up : goal.invariant-up
invariant-up l = record {
  moved : IsMoved l.fn.self.count l.fn.order l.from l.at l.order;
  above : l.from ≤ l.at;
  short : l.from < l.at → l.at ≤ l.to;
}

abbrev pub decreases-up : goal.decreases-up
decreases-up l = l.to - l.at

abbrev pub invariant-down : goal.invariant-down
invariant-down l = record {
  moved : IsMoved l.fn.self.count l.fn.order l.from l.at l.order;
  above : l.to ≤ l.at;
  short : l.to < l.at → l.at ≤ l.from;
}

abbrev pub decreases-down : goal.decreases-down
decreases-down l = l.at
