use Rattle.std.proofs.Common.{◌≡◌, ℕ, ◌<◌, false}
use Rattle.pattern_graph.specs.Numberings.{AreLabels, IsLowering, IsSettled}
use Rattle.pattern_graph.proofs.regions.lower_labels.Given as goal

abbrev pub invariant-cells : goal.invariant-cells
invariant-cells l = record {
  are : AreLabels l.fn.shape l.cells l.labels;
  lowering : IsLowering l.fn.labels l.labels l.is_changed;
  settled : l.is_changed ≡ false → (k : ℕ) → k < l.cell → IsSettled l.fn.shape l.cells l.labels k;
}
