use Rattle.std.proofs.Common.{◌∙◌, ◌+◌, ◌*◌, ◌<◌, ◌≤◌, ap, length, refl, sym, rules, arith}
use Rattle.board.specs.Shapes.{cell_count}
use Rattle.pattern_graph.proofs.PlacementLemmas.{orders_none, orders_more, orders_all, cells_few, row_low, row_inside, row_room, row_size, row_within, row_ordered, ordered_below, sparse_is, sparse_within}
use Rattle.pattern_graph.proofs.slots.write_orders.Goals as goal

pub orders-init : goal.orders-init
orders-init g c = orders_none c.args.group.now c.args.cells.now c.args.row.now c.args.places.now

pub overflow_mul-order : goal.overflow_mul-order
overflow_mul-order g c =
    let low = row_low c.args.group.now c.args.cells.now c.args.positions.now c.orders.order _ c.shape.ensures.group c.requires.cells.set c.requires.cells.orders c.requires.row c.orders-test.true in
    omega (arith, low)

pub overflow_mul-order-in-orders : goal.overflow_mul-order-in-orders
overflow_mul-order-in-orders g c =
    let low = row_low c.args.group.now c.args.cells.now c.args.positions.now c.orders.order _ c.shape.ensures.group c.requires.cells.set c.requires.cells.orders c.requires.row c.orders-test.true in
    omega (arith, low)

pub overflow_add-order : goal.overflow_add-order
overflow_add-order g c =
    let low = row_low c.args.group.now c.args.cells.now c.args.positions.now c.orders.order _ c.shape.ensures.group c.requires.cells.set c.requires.cells.orders c.requires.row c.orders-test.true in
    omega (arith, low)

pub slice_bounds-place_tiles-end : goal.slice_bounds-place_tiles-end
slice_bounds-place_tiles-end g c =
    let inside : c.orders.order * length c.args.cells.now + length c.args.cells.now ≤ length c.args.positions.now = row_inside c.args.group.now c.args.cells.now c.args.positions.now c.orders.order _ c.shape.ensures.group c.requires.cells.set c.requires.cells.orders c.requires.row c.orders-test.true in
    search rules

pub slice_bounds-placed-end : goal.slice_bounds-placed-end
slice_bounds-placed-end g c = cells_few c.args.group.now c.args.cells.now c.args.positions.now c.orders.order _ c.shape.ensures.group c.requires.cells.set c.requires.cells.orders c.requires.row c.orders-test.true

pub slice_bounds-place_tiles-end-in-orders : goal.slice_bounds-place_tiles-end-in-orders
slice_bounds-place_tiles-end-in-orders g c = row_room c.args.group.now c.args.cells.now c.args.positions.now c.orders.order _ c.shape.ensures.group c.requires.cells.set c.requires.cells.orders c.requires.row c.orders-test.true _ refl

pub place_tiles-requires : goal.place_tiles-requires
place_tiles-requires g c = record {
  same = sym (row_room c.args.group.now c.args.cells.now c.args.positions.now c.orders.order _ c.shape.ensures.group c.requires.cells.set c.requires.cells.orders c.requires.row c.orders-test.true _ refl) ∙ row_size c.args.group.now c.args.cells.now c.args.positions.now c.orders.order _ c.shape.ensures.group c.requires.cells.set c.requires.cells.orders c.requires.row c.orders-test.true;
  within = row_within c.args.group.now c.args.cells.now c.args.positions.now c.orders.order _ c.shape.ensures.group c.requires.cells.set c.requires.cells.orders c.requires.row c.orders-test.true;
}

pub sparse_place-requires-clause-below : goal.sparse_place-requires-clause-below
sparse_place-requires-clause-below g c =
    let on = row_ordered c.args.group.now c.args.cells.now c.args.positions.now c.orders.order _ c.shape.ensures.group c.requires.cells.set c.requires.cells.orders c.requires.row c.orders-test.true c.place_tiles.new.placed _ c.place_tiles.ensures in
    ordered_below c.args.group.now c.orders.places c.args.places.now c.args.cells.now _ c.orders.order c.cells-base.result c.shape.ensures.group (c.orders.auto.places ∙ c.requires.places) on (c.cells-base.ensures.value ∙ ap cell_count c.shape.ensures.value)

pub offset_bounds-places-sparse_place : goal.offset_bounds-places-sparse_place
offset_bounds-places-sparse_place g c =
    let on = row_ordered c.args.group.now c.args.cells.now c.args.positions.now c.orders.order _ c.shape.ensures.group c.requires.cells.set c.requires.cells.orders c.requires.row c.orders-test.true c.place_tiles.new.placed _ c.place_tiles.ensures in
    let low = sparse_within c.args.group.now c.orders.places c.args.places.now c.args.cells.now _ c.orders.order c.cells-base.result c.shape.ensures.group (c.orders.auto.places ∙ c.requires.places) on (c.cells-base.ensures.value ∙ ap cell_count c.shape.ensures.value) c.sparse_place.result c.sparse_place.ensures in
    let all = c.orders.auto.places in
    let within : c.sparse_place.result < length c.args.places.now = omega (arith, low, all) in
    search rules

pub bounds-places-sparse_place : goal.bounds-places-sparse_place
bounds-places-sparse_place g c =
    let on = row_ordered c.args.group.now c.args.cells.now c.args.positions.now c.orders.order _ c.shape.ensures.group c.requires.cells.set c.requires.cells.orders c.requires.row c.orders-test.true c.place_tiles.new.placed _ c.place_tiles.ensures in
    sparse_within c.args.group.now c.orders.places c.args.places.now c.args.cells.now _ c.orders.order c.cells-base.result c.shape.ensures.group (c.orders.auto.places ∙ c.requires.places) on (c.cells-base.ensures.value ∙ ap cell_count c.shape.ensures.value) c.sparse_place.result c.sparse_place.ensures

pub orders-preserved : goal.orders-preserved
orders-preserved g c =
    let on = row_ordered c.args.group.now c.args.cells.now c.args.positions.now c.orders.order _ c.shape.ensures.group c.requires.cells.set c.requires.cells.orders c.requires.row c.orders-test.true c.place_tiles.new.placed _ c.place_tiles.ensures in
    orders_more c.args.group.now c.args.cells.now c.args.row.now c.args.places.now c.orders.places c.orders.order c.sparse_place.result c.index-row-order.result _ on
    (sparse_is c.args.group.now c.orders.places c.args.places.now c.args.cells.now _ c.orders.order c.cells-base.result c.shape.ensures.group (c.orders.auto.places ∙ c.requires.places) on (c.cells-base.ensures.value ∙ ap cell_count c.shape.ensures.value) c.sparse_place.result c.sparse_place.ensures)
    (sparse_within c.args.group.now c.orders.places c.args.places.now c.args.cells.now _ c.orders.order c.cells-base.result c.shape.ensures.group (c.orders.auto.places ∙ c.requires.places) on (c.cells-base.ensures.value ∙ ap cell_count c.shape.ensures.value) c.sparse_place.result c.sparse_place.ensures)
    c.orders-test.true c.index-row-order.is c.orders.invariant

pub returns : goal.returns
returns g c =
    orders_all c.args.group.now c.args.cells.now c.args.row.now c.args.places.now c.orders.places c.orders.order
    (let end = c.orders-test.false in let size = c.requires.row in omega (arith, end, size)) c.orders.invariant
