use Rattle.std.proofs.Common.{◌≡◌, ◌++◌, map}
use Rattle.std.specs.List.{range_with_len}
use Rattle.pattern_graph.specs.Orders.{order_of, positions_at, tile_of, exchanged_position}
use Rattle.pattern_graph.proofs.orders.Orders.add_order.Given as goal

abbrev pub invariant-positions : goal.invariant-positions
invariant-positions l = record {
  count : l.self.count ≡ l.fn.self.count;
  size : l.self.size ≡ l.fn.self.size;
  tiles : l.self.tiles.items ≡ l.fn.self.tiles.items ++ map (tile_of l.fn.self.count l.order) (range_with_len 0 l.position);
  passes : l.self.passes.items ≡ l.fn.self.passes.items;
}

abbrev pub invariant-passes : goal.invariant-passes
invariant-passes l = record {
  count : l.self.count ≡ l.fn.self.count;
  size : l.self.size ≡ l.fn.self.size;
  tiles : l.self.tiles.items ≡ l.fn.self.tiles.items ++ map (tile_of l.fn.self.count l.order) (range_with_len 0 l.fn.self.count);
  passes : l.self.passes.items ≡ l.fn.self.passes.items ++ map (λ position. order_of (map (exchanged_position position) (positions_at l.fn.self.count l.order))) (range_with_len 0 l.position);
}
