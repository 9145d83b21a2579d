use Rattle.pattern_graph.proofs.SlotLemmas.{positions_more}
use Rattle.pattern_graph.proofs.slots.find_positions.Goals as goal

pub orders-preserved : goal.orders-preserved
orders-preserved c = positions_more c.args.count c.orders.order c.orders.all.items c.add_positions.new.all.items c.orders.invariant c.in_ok-add_positions.ensures
