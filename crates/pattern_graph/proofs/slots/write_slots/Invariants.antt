use Rattle.std.proofs.Common.{◌*◌}
use Rattle.pattern_index.specs.Laws.{factorial}
use Rattle.pattern_graph.specs.Placements.{AreFilledTo}
use Rattle.pattern_graph.proofs.slots.write_slots.Given as goal

-- the placements on the sets before this one are done
abbrev pub invariant-sets : goal.invariant-sets
invariant-sets g l = AreFilledTo l.regions l.nodes (l.set * factorial l.regions.count) l.slots
