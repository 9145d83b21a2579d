use Rattle.std.proofs.Common.{◌+◌, get_or}
use Rattle.pattern_index.specs.Ranks.{spread}
use Rattle.pattern_graph.proofs.OrderTables.{map_step, spread_up, spread_same}
use Rattle.pattern_graph.proofs.orders.spread_positions.Goals as goal
use Rattle.pattern_graph.proofs.orders.spread_positions.Goals.{then-digit-position, else-digit-position}

pub tiles-preserved : goal.tiles-preserved
tiles-preserved c =
    elim c.if-digit-position.branch [
      | then-digit-position w ↦ map_step (spread c.args.digit) c.args.positions.now c.tiles.positions c.if-digit-position.positions c.tiles.position-index (get_or c.tiles.positions c.tiles.position-index 0 + 1) c.tiles-test.true c.tiles.auto.positions c.tiles.invariant w.positions-is (spread_up _ _ w.if-digit-position.true)
      | else-digit-position w ↦ map_step (spread c.args.digit) c.args.positions.now c.tiles.positions c.if-digit-position.positions c.tiles.position-index (get_or c.tiles.positions c.tiles.position-index 0) c.tiles-test.true c.tiles.auto.positions c.tiles.invariant w.positions-is (spread_same _ _ w.if-digit-position.false)
    ]
