use Rattle.std.proofs.Common.{take}
use Rattle.std.specs.Prelude.{All}
use Rattle.pattern_index.specs.Groups.{IsGroup}
use Rattle.pattern_index.specs.Partitions.{AreApart}
use Rattle.pattern_index.proofs.partition.are_apart.Given as goal

abbrev pub invariant-groups : goal.invariant-groups
invariant-groups l = AreApart (take l.i l.groups) × All (λ g. IsGroup g) (take l.i l.groups)
