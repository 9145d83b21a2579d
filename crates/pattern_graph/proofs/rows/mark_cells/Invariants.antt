use Rattle.std.proofs.Common.{◌≡◌, length, take}
use Rattle.pattern_graph.specs.Sets.{AreMarksOf}
use Rattle.pattern_graph.proofs.rows.mark_cells.Given as goal

-- the cells up to here are marked
abbrev pub invariant-cells : goal.invariant-cells
invariant-cells l = record {
  all : length l.marks ≡ 25;
  are : AreMarksOf (take l.cell-index l.cells) l.marks;
}
