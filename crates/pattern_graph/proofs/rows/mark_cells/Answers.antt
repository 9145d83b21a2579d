use Rattle.std.proofs.Common.{◌<◌, List, ℕ, get_or, set, take, true, subst, sym, ◌∙◌, arith}
use Rattle.std.proofs.lemmas.List.{length-set, take_all, take_more}
use Rattle.pattern_graph.specs.Sets.{AreMarksOf}
use Rattle.pattern_graph.proofs.RowLemmas.{marks_none, marks_more}
use Rattle.pattern_graph.proofs.rows.mark_cells.Goals as goal

pub cells-init : goal.cells-init
cells-init c = record { all = omega arith; are = marks_none }

pub cells-preserved : goal.cells-preserved
cells-preserved c =
    let xs = c.args.cells.now in
    let i = c.cells.cell-index in
    let all = c.cells.invariant.all in
    let low : get_or xs i 0 < 25 = c.requires.in_range i 0 c.cells-test.true in
    record {
      all = length-set c.cells.marks (get_or xs i 0) true ∙ all;
      are = subst (λ (ys : List ℕ). AreMarksOf ys (set c.cells.marks (get_or xs i 0) true)) (sym (take_more xs i 0 c.cells-test.true))
          (marks_more (take i xs) c.cells.marks (get_or xs i 0) (omega (arith, low, all)) c.cells.invariant.are);
    }

pub returns-clause-marks : goal.returns-clause-marks
returns-clause-marks c = subst (λ (ys : List ℕ). AreMarksOf ys c.cells.marks) (take_all c.cells.cell-index c.args.cells.now c.cells-test.false) c.cells.invariant.are
