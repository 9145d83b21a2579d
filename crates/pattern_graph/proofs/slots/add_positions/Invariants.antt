use Rattle.std.proofs.Common.{◌≡◌, ◌++◌, take}
use Rattle.pattern_graph.specs.Orders.{positions_at}
use Rattle.pattern_graph.proofs.slots.add_positions.Given as goal

-- the positions of the tiles before this one are at the end
abbrev pub invariant-tiles : goal.invariant-tiles
invariant-tiles l = l.all.items ≡ l.fn.all.items ++ take l.tile (positions_at l.count l.order)
