use Rattle.std.proofs.Common.{◌+◌, ◌*◌}
use Rattle.pattern_graph.proofs.OrderTables.{HaveMoves}
use Rattle.pattern_graph.proofs.orders.find_moves.Given as goal

abbrev pub invariant-from : goal.invariant-from
invariant-from l = HaveMoves l.orders.count (l.from * l.orders.count) l.moves.items

abbrev pub invariant-to : goal.invariant-to
invariant-to l = HaveMoves l.orders.count (l.from * l.orders.count + l.to) l.moves.items
