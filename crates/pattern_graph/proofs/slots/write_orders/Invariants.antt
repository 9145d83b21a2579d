use Rattle.pattern_graph.proofs.PlacementLemmas.{AreWrittenTo}
use Rattle.pattern_graph.proofs.slots.write_orders.Given as goal

-- the placements in the orders before this one are written
abbrev pub invariant-orders : goal.invariant-orders
invariant-orders g l = AreWrittenTo l.group l.cells l.row l.fn.places l.order l.places
