use Rattle.std.proofs.Common.{ℕ, ◌≡◌, ◌-◌, ◌++◌, map, refl, subst, arith}
use Rattle.std.specs.List.{range_with_len}
use Rattle.pattern_graph.specs.Orders.{order_of, positions_at, tile_of, exchanged_position}
use Rattle.pattern_graph.proofs.OrderTables.{factorial_small, kept_more, tile_found, passed_found, passed_low, pushed}
use Rattle.pattern_graph.proofs.orders.Orders.add_order.Goals as goal

pub positions-preserved : goal.positions-preserved
positions-preserved c =
    let found : c.tile_at-tile.result ≡ tile_of c.args.self.now.count c.args.order c.positions.position = tile_found _ _ _ c.positions.position _ _ _ _ refl c.requires.orders.short c.positions.invariant.count c.write_positions.ensures c.tile_at-tile.ensures.value in
    record {
      count = c.positions.invariant.count;
      size = c.positions.invariant.size;
      tiles = pushed (tile_of c.args.self.now.count c.args.order) c.args.self.now.tiles.items c.positions.self.tiles.items c.push.new.items.items c.positions.position c.tile_at-tile.result c.positions.invariant.tiles c.in_ok-push.ensures.items found;
      passes = c.positions.invariant.passes;
    }

pub overflow_cast-other : goal.overflow_cast-other
overflow_cast-other c =
    let found : c.order_of-other.result ≡ order_of (map (exchanged_position c.passes.position) (positions_at c.args.self.now.count c.args.order)) = passed_found _ _ _ c.passes.position _ _ _ _ _ _ refl c.requires.orders.short c.passes.invariant.count c.write_positions.ensures c.exchange.ensures c.order_of-other.ensures.value in
    let low = passed_low c.args.self.now.count c.args.order c.passes.position in
    let small = factorial_small c.args.self.now.count c.requires.orders.short in
    omega arith

pub passes-preserved : goal.passes-preserved
passes-preserved c =
    let found : c.order_of-other.result ≡ order_of (map (exchanged_position c.passes.position) (positions_at c.args.self.now.count c.args.order)) = passed_found _ _ _ c.passes.position _ _ _ _ _ _ refl c.requires.orders.short c.passes.invariant.count c.write_positions.ensures c.exchange.ensures c.order_of-other.ensures.value in
    record {
      count = c.passes.invariant.count;
      size = c.passes.invariant.size;
      tiles = c.passes.invariant.tiles;
      passes = pushed (λ position. order_of (map (exchanged_position position) (positions_at c.args.self.now.count c.args.order))) c.args.self.now.passes.items c.passes.self.passes.items c.push-in-passes.new.items.items c.passes.position c.order_of-other.result c.passes.invariant.passes c.in_ok-push-2.ensures.items found;
    }

pub returns : goal.returns
returns c =
    let end : c.passes.position ≡ c.args.self.now.count - 1 = omega arith in
    kept_more c.args.self.now.count c.args.order c.args.self.now c.passes.self c.requires.orders c.passes.invariant.count c.passes.invariant.size c.passes.invariant.tiles
    (subst (λ (n : ℕ). c.passes.self.passes.items ≡ c.args.self.now.passes.items ++ map (λ position. order_of (map (exchanged_position position) (positions_at c.args.self.now.count c.args.order))) (range_with_len 0 n)) end c.passes.invariant.passes)
