use Rattle.std.proofs.Common.{arith}
use Rattle.pattern_graph.proofs.OrderTables.{moves_more, moves_all}
use Rattle.pattern_graph.proofs.orders.find_moves.Goals as goal

pub to-preserved : goal.to-preserved
to-preserved c =
    moves_more c.args.orders.now.count c.from.from c.to.to c.to.moves.items c.add_moves.new.moves.items c.to-test.true c.to.invariant c.in_ok-add_moves.ensures

pub returns : goal.returns
returns c = moves_all c.args.orders.now.count c.from.from c.from.moves.items (omega arith) c.from.invariant
