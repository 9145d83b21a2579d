use Rattle.std.proofs.Common.{◌≡◌, ◌++◌, map, take, drop}
use Rattle.pattern_index.specs.Ranks.{spread}
use Rattle.pattern_graph.proofs.orders.spread_positions.Given as goal

abbrev pub invariant-tiles : goal.invariant-tiles
invariant-tiles l = l.positions ≡ map (spread l.digit) (take l.position-index l.initial.positions) ++ drop l.position-index l.initial.positions
