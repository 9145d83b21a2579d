use Rattle.std.proofs.Common.{take}
use Rattle.std.specs.Prelude.{All}
use Rattle.pattern_graph.specs.Frames.{FitsGroup}
use Rattle.table_sets.proofs.group_tables.frame_of.Given as goal

abbrev pub invariant-frames : goal.invariant-frames
invariant-frames l = All (λ frame. ¬ FitsGroup frame l.group) (take l.frame-index l.frames)
