use Rattle.std.proofs.Common.{◌+◌, get_or}
use Rattle.pattern_graph.specs.Orders.{exchanged_position}
use Rattle.pattern_graph.proofs.OrderTables.{map_step, exchanged_up, exchanged_down, exchanged_same}
use Rattle.pattern_graph.proofs.orders.exchange.Goals as goal
use Rattle.pattern_graph.proofs.orders.exchange.Goals.{then-other-position, else-other-position+then-other-position-2, else-other-position+else-other-position-2}

pub tiles-preserved : goal.tiles-preserved
tiles-preserved c =
    elim c.if-other-position.branch [
      | then-other-position w ↦ map_step (exchanged_position c.args.position) c.args.positions.now c.tiles.positions c.if-other-position.positions c.tiles.other-index (c.args.position + 1) c.tiles-test.true c.tiles.auto.positions c.tiles.invariant w.positions-is (exchanged_up _ _ w.if-other-position.true)
      | else-other-position+then-other-position-2 w ↦ map_step (exchanged_position c.args.position) c.args.positions.now c.tiles.positions c.if-other-position.positions c.tiles.other-index c.args.position c.tiles-test.true c.tiles.auto.positions c.tiles.invariant w.positions-is (exchanged_down _ _ w.if-other-position-2.true)
      | else-other-position+else-other-position-2 w ↦ map_step (exchanged_position c.args.position) c.args.positions.now c.tiles.positions c.if-other-position.positions c.tiles.other-index (get_or c.tiles.positions c.tiles.other-index 0) c.tiles-test.true c.tiles.auto.positions c.tiles.invariant w.positions-is (exchanged_same _ _ w.if-other-position.false w.if-other-position-2.false)
    ]
