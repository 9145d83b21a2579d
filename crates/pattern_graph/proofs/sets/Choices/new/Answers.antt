use Rattle.std.proofs.Common.{refl, sym, arith}
use Rattle.pattern_graph.proofs.SetLemmas.{choose-zero, choose_small, filled_first, filled_more, filled_sum}
use Rattle.pattern_graph.proofs.sets.Choices.new.Goals as goal

pub cells-init : goal.cells-init
cells-init c = filled_first

pub counts-init : goal.counts-init
counts-init c = filled_more c.cells.table c.cells.cells 0 1 1 (omega arith) (omega arith) refl c.cells.invariant (sym (choose-zero c.cells.cells))

pub overflow_add-table : goal.overflow_add-table
overflow_add-table c =
    let sum = filled_sum c.counts.table c.cells.cells c.counts.count c.counts.invariant (omega arith) (omega arith) (omega arith) in
    let low = choose_small c.cells.cells c.counts.count (omega arith) (omega arith) in
    omega arith

pub counts-preserved : goal.counts-preserved
counts-preserved c = filled_more c.counts.table c.cells.cells c.counts.count _ _ (omega arith) (omega arith) refl c.counts.invariant (filled_sum c.counts.table c.cells.cells c.counts.count c.counts.invariant (omega arith) (omega arith) (omega arith))
