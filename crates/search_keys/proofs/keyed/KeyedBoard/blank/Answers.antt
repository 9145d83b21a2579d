use Rattle.std.proofs.Common.{◌∙◌, arith}
use Rattle.search_keys.proofs.SearchKeyLemmas.{short_stored, short_cell, long_cell, cell_within, many_cells, some_cell}
use Rattle.search_keys.proofs.keyed.KeyedBoard.blank.Goals as goal

pub overflow_cast-self-inside : goal.overflow_cast-self-inside
overflow_cast-self-inside c = let low = short_stored c.self.inside c.self.invariant (c.is_short.ensures.0 c.if-is_short.true) in omega arith

pub returns-then-is_short-clause-value : goal.returns-then-is_short-clause-value
returns-then-is_short-clause-value c = c.short_digit.ensures ∙ short_cell c.self.inside c.args.self.now c.self.invariant c.self.view_is (c.is_short.ensures.0 c.if-is_short.true) 0 (some_cell c.self.inside c.args.self.now c.self.invariant c.self.view_is)

pub returns-then-is_short-clause-within : goal.returns-then-is_short-clause-within
returns-then-is_short-clause-within c = cell_within c.self.inside c.args.self.now c.self.invariant c.self.view_is 0 c.short_digit.result (some_cell c.self.inside c.args.self.now c.self.invariant c.self.view_is) (returns-then-is_short-clause-value c)

pub returns-clause-value : goal.returns-clause-value
returns-clause-value c = c.long_digit.ensures ∙ long_cell c.self.inside c.args.self.now c.self.invariant c.self.view_is (many_cells _ _ c.is_short.ensures c.if-is_short.false) 0 (some_cell c.self.inside c.args.self.now c.self.invariant c.self.view_is)

pub returns-clause-within : goal.returns-clause-within
returns-clause-within c = cell_within c.self.inside c.args.self.now c.self.invariant c.self.view_is 0 c.long_digit.result (some_cell c.self.inside c.args.self.now c.self.invariant c.self.view_is) (returns-clause-value c)
