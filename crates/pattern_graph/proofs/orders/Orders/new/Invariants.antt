use Rattle.pattern_graph.specs.Graphs.{HasPassesTo}
use Rattle.pattern_graph.proofs.orders.Orders.new.Given as goal

abbrev pub invariant-orders : goal.invariant-orders
invariant-orders l = HasPassesTo l.count l.order l.orders
