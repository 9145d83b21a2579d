use Rattle.std.proofs.Common.{◌≡◌, ◌++◌, map}
use Rattle.std.specs.List.{range_with_len}
use Rattle.pattern_graph.specs.Orders.{moved_order}
use Rattle.pattern_graph.proofs.orders.add_moves.Given as goal

abbrev pub invariant-orders : goal.invariant-orders
invariant-orders l = l.moves.items ≡ l.initial.moves.items ++ map (λ order. moved_order l.orders.count order l.from l.to) (range_with_len 0 l.order)
