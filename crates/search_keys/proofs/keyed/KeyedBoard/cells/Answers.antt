use Rattle.std.proofs.Common.{◌∙◌, arith}
use Rattle.search_keys.proofs.SearchKeyLemmas.{few_cells, few_here, long_cell, many_cells, short_cell, short_stored, stored_board}
use Rattle.search_keys.proofs.keyed.KeyedBoard.cells.Goals as goal

pub overflow_cast-self-inside : goal.overflow_cast-self-inside
overflow_cast-self-inside c = let low = short_stored c.self.inside c.self.invariant (c.is_short.ensures.0 c.if-is_short.true) in omega arith

pub returns-then-is_short-clause-cells : goal.returns-then-is_short-clause-cells
returns-then-is_short-clause-cells c = λ number low.
    let most = few_here c.self.inside c.args.self.now c.self.invariant c.self.view_is (c.is_short.ensures.0 c.if-is_short.true) in
    c.write_short.ensures number (omega (arith, low, most))
    ∙ short_cell c.self.inside c.args.self.now c.self.invariant c.self.view_is (c.is_short.ensures.0 c.if-is_short.true) number low

pub returns-clause-cells : goal.returns-clause-cells
returns-clause-cells c = λ number low.
    let most = few_cells c.args.self.now.grid (stored_board c.self.inside c.args.self.now c.self.invariant c.self.view_is).sides in
    c.write_long.ensures number (omega (arith, low, most))
    ∙ long_cell c.self.inside c.args.self.now c.self.invariant c.self.view_is (many_cells _ _ c.is_short.ensures c.if-is_short.false) number low
