use Rattle.std.proofs.Common.{◌≡◌, ◌≤◌, take}
use Rattle.pattern_graph.specs.Orders.{below}
use Rattle.pattern_graph.proofs.orders.count_below.Given as goal

abbrev pub invariant-cells : goal.invariant-cells
invariant-cells l = record { counted : l.count ≡ below l.cell (take l.other-index l.cells); few : l.count ≤ l.other-index }
