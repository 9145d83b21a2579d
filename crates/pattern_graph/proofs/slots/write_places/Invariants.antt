use Rattle.pattern_graph.proofs.PlacementLemmas.{AreSetsWritten}
use Rattle.pattern_graph.proofs.slots.write_places.Given as goal

-- the placements on the sets before this one are written
abbrev pub invariant-sets : goal.invariant-sets
invariant-sets g l = AreSetsWritten l.group l.least l.fn.places l.set l.places
