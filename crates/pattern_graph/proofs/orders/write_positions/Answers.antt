use Rattle.std.proofs.Common.{length, arith}
use Rattle.pattern_graph.proofs.OrderTables.{written_none, written_small, written_step, written_all}
use Rattle.pattern_graph.proofs.orders.write_positions.Goals as goal

pub tiles-init : goal.tiles-init
tiles-init c = written_none c.args.order c.args.positions.now

pub spread_positions-requires : goal.spread_positions-requires
spread_positions-requires c = written_small c.args.order c.tiles.positions c.tiles.tile c.tiles.rest (omega arith) c.tiles.invariant

pub tiles-preserved : goal.tiles-preserved
tiles-preserved c = written_step c.args.order c.tiles.positions c.tiles.tile c.tiles.rest c.spread_positions.new.positions (omega arith) c.tiles.invariant c.spread_positions.ensures

pub returns : goal.returns
returns c = written_all c.args.order c.tiles.positions c.tiles.tile c.tiles.rest (length c.args.positions.now) (omega arith) c.tiles.auto.positions c.requires.below c.tiles.invariant
