use Rattle.std.proofs.Common.{◌-◌, length, arith}
use Rattle.pattern_graph.proofs.SetLemmas.{written_some, written_in, written_out, written_all}
use Rattle.pattern_graph.proofs.sets.Choices.write_set.Goals as goal

pub overflow_sub-cell : goal.overflow_sub-cell
overflow_sub-cell c = written_some _ _ _ _ _ _ _ c.cells-test.true c.cells.invariant

pub cells-preserved-then-fewer-rest : goal.cells-preserved-then-fewer-rest
cells-preserved-then-fewer-rest c =
    let some = written_some _ _ _ _ _ _ _ c.cells-test.true c.cells.invariant in
    written_in _ c.cells.set c.args.cells (length c.args.set.now) c.cells.cell c.cells.left c.cells.rest (c.cells.cell - 1) (c.cells.left - 1) c.count-fewer.result (omega arith) (omega arith) c.count-fewer.ensures.value c.if-fewer-rest.true c.cells.invariant

pub cells-preserved : goal.cells-preserved
cells-preserved c =
    let some = written_some _ _ _ _ _ _ _ c.cells-test.true c.cells.invariant in
    written_out _ c.cells.set c.args.cells (length c.args.set.now) c.cells.cell c.cells.left c.cells.rest (c.cells.cell - 1) (c.cells.left - 1) c.count-fewer.result (omega arith) (omega arith) c.count-fewer.ensures.value c.if-fewer-rest.false c.cells.invariant

pub cells-smaller : goal.cells-smaller
cells-smaller c = let some = written_some _ _ _ _ _ _ _ c.cells-test.true c.cells.invariant in omega arith

pub returns : goal.returns
returns c = written_all _ c.cells.set c.args.cells (length c.args.set.now) c.cells.cell c.cells.left c.cells.rest (omega arith) c.cells.invariant
