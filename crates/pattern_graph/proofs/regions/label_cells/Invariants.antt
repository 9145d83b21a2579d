use Rattle.std.proofs.Common.{◌≡◌, ℕ, ◌+◌, ◌<◌, cond, false, length, get_or}
use Rattle.std.specs.Prelude.{sum}
use Rattle.board.specs.Shapes.{cell_count}
use Rattle.pattern_graph.specs.Numberings.{AreLabels, IsSettled}
use Rattle.pattern_graph.proofs.regions.label_cells.Given as goal

abbrev pub invariant-labels : goal.invariant-labels
invariant-labels l = (length l.labels ≡ 25) × ((k : ℕ) → k < l.cell → get_or l.labels k 0 ≡ k)

abbrev pub invariant-rounds : goal.invariant-rounds
invariant-rounds l = record {
  are : AreLabels l.fn.shape l.cells l.labels;
  settled : l.is_changed ≡ false → (k : ℕ) → k < cell_count l.fn.shape → IsSettled l.fn.shape l.cells l.labels k;
}

abbrev pub decreases-rounds : goal.decreases-rounds
decreases-rounds l = sum l.labels + cond l.is_changed 1 0
