use Rattle.table_sets.proofs.BuiltLemmas.{one_more}
use Rattle.table_sets.proofs.building.build_one_after_the_other.Goals as goal

pub groups-preserved : goal.groups-preserved
groups-preserved g c =
    one_more (g.T.GroupTable.is_true c.args.weights.now c.args.goal.now) c.args.groups.now c.groups.group-index c.group-item.result c.groups.tables.items c.push.new.items.items c.in_ok-table.table c.groups-test.true c.group-item.is
    c.in_ok-table.ensures c.groups.invariant c.in_ok-push.ensures.items
