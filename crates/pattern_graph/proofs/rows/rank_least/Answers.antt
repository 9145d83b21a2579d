use Rattle.std.proofs.Common.{[], ap, ◌∙◌, length, arith}
use Rattle.std.proofs.lemmas.List.FromFn.{length-map-range_with_len}
use Rattle.board.specs.Shapes.{cell_count}
use Rattle.pattern_graph.proofs.RowLemmas.{least_long, at_place, cells_wide, place_number_within, places_all, value_there}
use Rattle.pattern_graph.proofs.OrderTables.{pushed}
use Rattle.pattern_graph.proofs.rows.rank_least.Goals as goal

pub place-set-requires-clause-listing : goal.place-set-requires-clause-listing
place-set-requires-clause-listing c =
    cells_wide c.args.group.now c.shape.ensures.group c.places.place (omega (arith, c.folded_size-place-end.ensures.value, c.places-test.true)) c.cells-cells.result (length c.tiles-count.result.now) c.places.list c.list_cells.new.list
    (c.cells-cells.ensures.value ∙ ap cell_count c.shape.ensures.value) (ap length c.tiles-count.ensures.value) c.places.invariant.all c.list_cells.ensures

pub overflow_mul-set : goal.overflow_mul-set
overflow_mul-set c =
    let within =
    place_number_within c.args.group.now c.shape.ensures.group c.places.place (omega (arith, c.folded_size-place-end.ensures.value, c.places-test.true)) c.cells-cells.result (length c.tiles-count.result.now) c.places.list c.list_cells.new.list
    (c.cells-cells.ensures.value ∙ ap cell_count c.shape.ensures.value) (ap length c.tiles-count.ensures.value) c.places.invariant.all c.list_cells.ensures
    c.args.least.now c.place-set.result c.factorial-orders.result c.order_of-order.result c.place-set.ensures c.factorial-orders.ensures.value c.order_of-order.ensures.value c.requires in
    let all = least_long c.args.group.now c.args.least.now c.requires in
    let size = c.folded_size.ensures.value in
    let high = c.folded_size.ensures.high in
    omega (arith, within, all, size, high)

pub overflow_add-set : goal.overflow_add-set
overflow_add-set c =
    let within =
    place_number_within c.args.group.now c.shape.ensures.group c.places.place (omega (arith, c.folded_size-place-end.ensures.value, c.places-test.true)) c.cells-cells.result (length c.tiles-count.result.now) c.places.list c.list_cells.new.list
    (c.cells-cells.ensures.value ∙ ap cell_count c.shape.ensures.value) (ap length c.tiles-count.ensures.value) c.places.invariant.all c.list_cells.ensures
    c.args.least.now c.place-set.result c.factorial-orders.result c.order_of-order.result c.place-set.ensures c.factorial-orders.ensures.value c.order_of-order.ensures.value c.requires in
    let all = least_long c.args.group.now c.args.least.now c.requires in
    let size = c.folded_size.ensures.value in
    let high = c.folded_size.ensures.high in
    omega (arith, within, all, size, high)

pub offset_bounds-least-set : goal.offset_bounds-least-set
offset_bounds-least-set c =
    let within =
    place_number_within c.args.group.now c.shape.ensures.group c.places.place (omega (arith, c.folded_size-place-end.ensures.value, c.places-test.true)) c.cells-cells.result (length c.tiles-count.result.now) c.places.list c.list_cells.new.list
    (c.cells-cells.ensures.value ∙ ap cell_count c.shape.ensures.value) (ap length c.tiles-count.ensures.value) c.places.invariant.all c.list_cells.ensures
    c.args.least.now c.place-set.result c.factorial-orders.result c.order_of-order.result c.place-set.ensures c.factorial-orders.ensures.value c.order_of-order.ensures.value c.requires in
    let all = least_long c.args.group.now c.args.least.now c.requires in
    let size = c.folded_size.ensures.value in
    let high = c.folded_size.ensures.high in
    omega (arith, within, all, size, high)

pub bounds-least-set : goal.bounds-least-set
bounds-least-set c =
    place_number_within c.args.group.now c.shape.ensures.group c.places.place (omega (arith, c.folded_size-place-end.ensures.value, c.places-test.true)) c.cells-cells.result (length c.tiles-count.result.now) c.places.list c.list_cells.new.list
    (c.cells-cells.ensures.value ∙ ap cell_count c.shape.ensures.value) (ap length c.tiles-count.ensures.value) c.places.invariant.all c.list_cells.ensures
    c.args.least.now c.place-set.result c.factorial-orders.result c.order_of-order.result c.place-set.ensures c.factorial-orders.ensures.value c.order_of-order.ensures.value c.requires

pub places-preserved : goal.places-preserved
places-preserved c = record {
  all = c.place-set.array_long;
  are = pushed (at_place c.args.group.now c.args.least.now) [] c.places.values.items c.push.new.items.items c.places.place _ c.places.invariant.are c.in_ok-push.ensures.items
      (value_there c.args.group.now c.shape.ensures.group c.places.place (omega (arith, c.folded_size-place-end.ensures.value, c.places-test.true)) c.cells-cells.result (length c.tiles-count.result.now) c.places.list c.list_cells.new.list
      (c.cells-cells.ensures.value ∙ ap cell_count c.shape.ensures.value) (ap length c.tiles-count.ensures.value) c.places.invariant.all c.list_cells.ensures
      c.args.least.now c.place-set.result c.factorial-orders.result c.order_of-order.result c.place-set.ensures c.factorial-orders.ensures.value c.order_of-order.ensures.value);
}

pub returns-clause-size : goal.returns-clause-size
returns-clause-size c =
    let end = c.places-test.false in
    let high = c.places.auto.place-end in
    let is = c.folded_size-place-end.ensures.value in
    let all = ap length c.places.invariant.are ∙ length-map-range_with_len (at_place c.args.group.now c.args.least.now) 0 c.places.place in
    omega (arith, end, high, is, all)

pub returns-clause-values : goal.returns-clause-values
returns-clause-values c =
    let end = c.places-test.false in
    let high = c.places.auto.place-end in
    let is = c.folded_size-place-end.ensures.value in
    places_all c.args.group.now c.args.least.now c.places.values.items c.places.place (omega (arith, end, high, is)) c.places.invariant.are
