use Rattle.pattern_graph.proofs.OrderTables.{IsWritten}
use Rattle.pattern_graph.proofs.orders.write_positions.Given as goal

abbrev pub invariant-tiles : goal.invariant-tiles
invariant-tiles l = IsWritten l.order l.positions l.tile l.rest
