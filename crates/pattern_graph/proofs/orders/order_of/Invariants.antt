use Rattle.std.proofs.Common.{◌≡◌, take}
use Rattle.pattern_index.specs.Laws.{factorial}
use Rattle.pattern_graph.specs.Orders.{order_of}
use Rattle.pattern_graph.proofs.orders.order_of.Given as goal

abbrev pub invariant-tiles : goal.invariant-tiles
invariant-tiles l = record { order_is : l.order ≡ order_of (take l.tile l.cells); unit_is : l.unit ≡ factorial l.tile }
