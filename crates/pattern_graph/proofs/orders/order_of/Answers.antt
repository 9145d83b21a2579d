use Rattle.std.proofs.Common.{refl, sym, arith}
use Rattle.pattern_graph.proofs.OrderLemmas.{order_below}
use Rattle.pattern_graph.proofs.OrderTables.{IsOrderStep, order_stepped, order_made, order_of-nil}
use Rattle.pattern_graph.proofs.orders.order_of.Goals as goal

pub tiles-init : goal.tiles-init
tiles-init c = record { order_is = sym order_of-nil; unit_is = refl }

stepped : (c : goal.After-count_below) → IsOrderStep c.args.cells.now c.tiles.tile c.tiles.order c.tiles.unit c.count_below.result
stepped c = order_stepped c.args.cells.now c.tiles.tile c.tiles.order c.tiles.unit c.count_below.result c.requires c.tiles-test.true c.tiles.invariant.order_is c.tiles.invariant.unit_is c.count_below.ensures.value

pub overflow_mul-order : goal.overflow_mul-order
overflow_mul-order c = let step = stepped c in omega arith

pub overflow_add-order : goal.overflow_add-order
overflow_add-order c = let step = stepped c in omega arith

pub overflow_mul-unit : goal.overflow_mul-unit
overflow_mul-unit c = let step = stepped c in omega arith

pub tiles-preserved : goal.tiles-preserved
tiles-preserved c = let step = stepped c in record { order_is = step.order_is; unit_is = step.unit_is }

pub returns-clause-value : goal.returns-clause-value
returns-clause-value c = order_made c.args.cells.now c.tiles.tile c.tiles.order (omega arith) c.tiles.invariant.order_is

pub returns-clause-below : goal.returns-clause-below
returns-clause-below c = let made = order_made c.args.cells.now c.tiles.tile c.tiles.order (omega arith) c.tiles.invariant.order_is in let low = order_below c.args.cells.now in omega arith
