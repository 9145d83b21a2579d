use Rattle.std.proofs.Common.{◌-◌, arith}
use Rattle.pattern_graph.proofs.OrderTables.{moved_start, passed_up, passed_down}
use Rattle.pattern_graph.proofs.orders.Orders.passed.Goals as goal

pub up-init : goal.up-init
up-init c = record {
  moved = moved_start c.args.self.now.count c.args.order c.args.from c.requires.change.order_low c.requires.change.from_low;
  above = omega arith;
  short = λ lt. absurd (omega arith);
}

pub up-preserved : goal.up-preserved
up-preserved c = record {
  moved = passed_up c.args.self.now.count c.args.order c.args.from c.up.at c.up.order c.index.result.now c.args.self.now c.requires.orders c.up.invariant.above (omega arith) c.up.invariant.moved c.index.ensures;
  above = omega arith;
  short = λ lt. omega arith;
}

pub down-preserved : goal.down-preserved
down-preserved c = record {
  moved = passed_down c.args.self.now.count c.args.order c.args.from c.down.at (c.down.at - 1) c.down.order c.index-in-down.result.now c.args.self.now c.requires.orders (omega arith) (omega arith) c.down.invariant.moved c.index-in-down.ensures;
  above = omega arith;
  short = λ lt. omega arith;
}
