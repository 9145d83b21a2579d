use Rattle.std.proofs.Common.{arith}
use Rattle.pattern_graph.specs.Orders.{moved_order}
use Rattle.pattern_graph.proofs.OrderTables.{factorial_small, pushed}
use Rattle.pattern_graph.proofs.orders.add_moves.Goals as goal

pub overflow_cast-passed : goal.overflow_cast-passed
overflow_cast-passed c = let small = factorial_small c.args.orders.now.count c.requires.orders.short in let low = c.passed.ensures.below in omega arith

pub orders-preserved : goal.orders-preserved
orders-preserved c =
    pushed (λ order. moved_order c.args.orders.now.count order c.args.from c.args.to) c.args.moves.now.items c.orders.moves.items c.push.new.items.items c.orders.order c.passed.result c.orders.invariant c.in_ok-push.ensures.items c.passed.ensures.value
