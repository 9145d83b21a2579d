use Rattle.std.proofs.Common.{length}
use Rattle.pattern_graph.specs.Numberings.{AreNumberedTo, AreOfSameSets}
use Rattle.pattern_graph.proofs.regions.Regions.add_row.Given as goal

abbrev pub invariant-cells : goal.invariant-cells
invariant-cells l = AreOfSameSets l.initial.self l.self × AreNumberedTo l.initial.self.shape (length l.cells) l.cells l.labels l.self.numbers.items l.self.homes.items l.set l.cell
