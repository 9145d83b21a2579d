use Rattle.pattern_graph.specs.Numberings.{AreBegun}
use Rattle.pattern_graph.proofs.regions.Regions.new.Given as goal

abbrev pub invariant-sets : goal.invariant-sets
invariant-sets l = AreBegun l.fn.shape l.fn.count l.set l.regions
