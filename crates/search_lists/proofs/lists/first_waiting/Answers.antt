use Rattle.std.proofs.Common.{arith}
use Rattle.search_lists.proofs.OrderLemmas.{moved_twice}
use Rattle.search_lists.proofs.lists.first_waiting.Goals as goal

pub returns-clause-same : goal.returns-clause-same
returns-clause-same c = moved_twice c.args.waiting.now c.lowest_in_order.new.waiting c.bring_turn.new.waiting c.in-Some.ensures.same c.bring_turn.ensures.same

pub unreachable-requires : goal.unreachable-requires
unreachable-requires c = (c.bring_turn.ensures.lowest c.in-Some.ensures.lowest).0 c.in_default-last_at.ensures

pub returns-clause-next : goal.returns-clause-next
returns-clause-next c = (
  omega (arith, c.if-f-below.false),
  record { last = c.in-Some-last_at.ensures; least = (c.bring_turn.ensures.lowest c.in-Some.ensures.lowest).1 },
)
