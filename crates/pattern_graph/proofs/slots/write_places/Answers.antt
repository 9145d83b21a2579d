use Rattle.std.proofs.Common.{◌∙◌, ◌≡◌, ◌<◌, ap, length, refl, arith}
use Rattle.board.specs.Shapes.{cell_count}
use Rattle.pattern_index.specs.Laws.{factorial}
use Rattle.pattern_graph.specs.Sets.{choose}
use Rattle.pattern_graph.proofs.PlacementLemmas.{sets_more, sets_all, set_front, set_row}
use Rattle.pattern_graph.proofs.slots.write_places.Goals as goal

pub sets-preserved : goal.sets-preserved
sets-preserved g c =
    let count = ap length c.tiles-count.ensures.value in
    let cells = c.cells-cells.ensures.value ∙ ap cell_count c.shape.ensures.value in
    let end : c.count-set-end.result ≡ choose (cell_count c.args.group.now.grid) (length c.args.group.now.tiles) = c.count-set-end.ensures.value ∙ (λ i. choose (cells i) (count i)) in
    let before = c.sets-test.true in
    let low : c.sets.set < choose (cell_count c.args.group.now.grid) (length c.args.group.now.tiles) = omega (arith, before, end) in
    sets_more c.args.group.now c.args.least.now _ c.args.places.now c.sets.places c.write_orders.new.places c.sets.set _
    (set_front c.args.group.now c.cells-cells.result _ c.sets.set _ c.write_set.new.set _ cells count c.tiles-count.ensures.few refl low c.write_set.ensures) low
    (set_row c.args.group.now c.args.least.now c.sets.set c.factorial-orders.result (c.factorial-orders.ensures.value ∙ ap factorial count))
    c.write_orders.ensures c.sets.invariant

pub returns : goal.returns
returns g c =
    let cells = c.cells-cells.ensures.value ∙ ap cell_count c.shape.ensures.value in
    let end : c.count-set-end.result ≡ choose (cell_count c.args.group.now.grid) (length c.args.group.now.tiles) = c.count-set-end.ensures.value ∙ (λ i. choose (cells i) (length (c.tiles-count.ensures.value i))) in
    let past = c.sets-test.false in
    sets_all c.args.group.now c.args.least.now c.args.places.now c.sets.places c.sets.set (omega (arith, past, end)) c.sets.invariant
