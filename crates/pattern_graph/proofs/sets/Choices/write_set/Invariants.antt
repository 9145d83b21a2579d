use Rattle.std.proofs.Common.{length}
use Rattle.pattern_graph.specs.Sets.{set_at}
use Rattle.pattern_graph.proofs.SetLemmas.{IsWritten}
use Rattle.pattern_graph.proofs.sets.Choices.write_set.Given as goal

abbrev pub invariant-cells : goal.invariant-cells
invariant-cells l = IsWritten (set_at l.fn.cells (length l.fn.set) l.fn.place) l.fn.cells (length l.fn.set) l.cell l.left l.rest l.set

abbrev pub decreases-cells : goal.decreases-cells
decreases-cells l = l.cell
