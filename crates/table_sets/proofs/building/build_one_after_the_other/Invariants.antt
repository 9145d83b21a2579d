use Rattle.std.proofs.Common.{take}
use Rattle.table_sets.specs.Built.{AreEach}
use Rattle.table_sets.proofs.building.build_one_after_the_other.Given as goal

abbrev pub invariant-groups : goal.invariant-groups
invariant-groups g l = AreEach (g.T.GroupTable.is_true l.weights l.goal) (take l.group-index l.groups) l.tables.items
