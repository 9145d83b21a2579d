use Rattle.std.proofs.Common.{◌+◌, ◌*◌}
use Rattle.pattern_index.specs.Laws.{factorial}
use Rattle.pattern_graph.specs.Placements.{AreFilledUpTo}
use Rattle.pattern_graph.proofs.slots.write_blanks.Given as goal

-- the views with the blank on the cells before this one are written
abbrev pub invariant-blanks : goal.invariant-blanks
invariant-blanks g l = AreFilledUpTo l.regions l.nodes (l.set * factorial l.regions.count + l.order) l.blank l.slots
