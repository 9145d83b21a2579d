use Rattle.std.proofs.Common.{◌≡◌, ap, length, subst, ◌∙◌, arith}
use Rattle.board.specs.Shapes.{cell_count}
use Rattle.pattern_index.specs.Groups.{IsGroup, GroupModel}
use Rattle.pattern_graph.specs.Sets.{choose}
use Rattle.database_build.proofs.LeastLemmas.{front_is, sets_all, sets_more}
use Rattle.database_build.proofs.least.fold_table.Goals as goal

pub sets-preserved : goal.sets-preserved
sets-preserved c =
    let tiles = ap (λ (g : GroupModel). length g.tiles) c.group-group.ensures.value in
    let counted = c.cells-cells.ensures.value ∙ ap cell_count (c.shape.ensures.value ∙ ap (λ (g : GroupModel). g.grid) c.group-group.ensures.value) in
    sets_more c.args.table.now c.sets.set _ c.sets.least.items c.add_orders.new.least.items
    (front_is c.args.table.now.selection c.cells-cells.result (length c.tiles-count.result.now) c.sets.set c.count-set-end.result c.write_set.new.set _ (subst IsGroup c.group-group.ensures.value c.tiles-count.ensures.group) counted (ap length c.tiles-count.ensures.value ∙ tiles) c.sets-test.true c.count-set-end.ensures.value c.write_set.ensures)
    c.in_ok-add_orders.ensures c.sets.invariant

pub returns : goal.returns
returns c =
    let end = c.sets-test.false in
    let seen = c.sets.auto.set-end in
    let same : c.sets.set ≡ c.count-set-end.result = omega (arith, end, seen) in
    let tiles = ap (λ (g : GroupModel). length g.tiles) c.group-group.ensures.value in
    let counted = c.cells-cells.ensures.value ∙ ap cell_count (c.shape.ensures.value ∙ ap (λ (g : GroupModel). g.grid) c.group-group.ensures.value) in
    sets_all c.args.table.now c.sets.set c.sets.least.items (same ∙ c.count-set-end.ensures.value ∙ (λ i. choose (counted i) ((ap length c.tiles-count.ensures.value ∙ tiles) i))) c.sets.invariant
