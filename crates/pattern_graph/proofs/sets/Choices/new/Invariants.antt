use Rattle.pattern_graph.proofs.SetLemmas.{IsFilled}
use Rattle.pattern_graph.proofs.sets.Choices.new.Given as goal

abbrev pub invariant-counts : goal.invariant-counts
invariant-counts l = IsFilled l.table l.cells l.count

abbrev pub invariant-cells : goal.invariant-cells
invariant-cells l = IsFilled l.table l.cells 0
