use Rattle.pattern_graph.specs.Placements.{AreOrdersFilled}
use Rattle.pattern_graph.proofs.slots.write_set.Given as goal

-- the placements on this set in the orders before this one are done
abbrev pub invariant-orders : goal.invariant-orders
invariant-orders g l = AreOrdersFilled l.regions l.nodes l.set l.order l.slots
