use Rattle.pattern_graph.proofs.SetLemmas.{IsPlacedTo}
use Rattle.pattern_graph.proofs.sets.Choices.place.Given as goal

abbrev pub invariant-cells : goal.invariant-cells
invariant-cells l = IsPlacedTo l.cells l.cell-index l.place
