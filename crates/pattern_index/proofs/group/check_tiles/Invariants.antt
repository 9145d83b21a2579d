use Rattle.std.proofs.Common.{take}
use Rattle.pattern_index.specs.Groups.{AreGroupTiles}
use Rattle.pattern_index.proofs.group.check_tiles.Given as goal

abbrev pub invariant-places : goal.invariant-places
invariant-places l = AreGroupTiles l.fn.shape (take l.place l.numbers)
