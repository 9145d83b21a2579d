use Rattle.std.proofs.Common.{◌≡◌, ◌++◌, map, take, drop}
use Rattle.pattern_graph.specs.Orders.{exchanged_position}
use Rattle.pattern_graph.proofs.orders.exchange.Given as goal

abbrev pub invariant-tiles : goal.invariant-tiles
invariant-tiles l = l.positions ≡ map (exchanged_position l.position) (take l.other-index l.initial.positions) ++ drop l.other-index l.initial.positions
