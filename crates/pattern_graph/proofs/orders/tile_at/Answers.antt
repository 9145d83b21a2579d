use Rattle.std.proofs.Common.{eqb, eq-eqb, get_or, sym, arith}
use Rattle.std.proofs.lemmas.List.Sums.{position_or_len_is}
use Rattle.pattern_graph.proofs.orders.tile_at.Goals as goal

pub returns-then-positions-tile-clause-value : goal.returns-then-positions-tile-clause-value
returns-then-positions-tile-clause-value c =
    sym (position_or_len_is (λ other. eqb other c.args.position) c.args.positions.now c.tiles.tile 0 c.tiles.invariant.within c.tiles.invariant.others (λ lt. eq-eqb (get_or c.args.positions.now c.tiles.tile 0) c.args.position c.if-positions-tile.true))

pub returns-clause-value : goal.returns-clause-value
returns-clause-value c =
    sym (position_or_len_is (λ other. eqb other c.args.position) c.args.positions.now c.tiles.tile 0 c.tiles.invariant.within c.tiles.invariant.others (λ lt. absurd (omega arith)))
