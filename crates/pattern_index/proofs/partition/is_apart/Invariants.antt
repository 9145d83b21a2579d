use Rattle.std.proofs.Common.{take}
use Rattle.std.specs.Prelude.{All}
use Rattle.pattern_index.specs.Partitions.{ShareNoTile}
use Rattle.pattern_index.proofs.partition.is_apart.Given as goal

abbrev pub invariant-groups : goal.invariant-groups
invariant-groups l = All (λ g. ShareNoTile g.tiles l.tiles) (take l.i l.groups)
