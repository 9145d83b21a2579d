use Rattle.std.proofs.Common.{◌+◌, length, replicate, subst, sym, ◌∙◌, rules, arith}
use Rattle.std.proofs.lemmas.List.{length-take-le}
use Rattle.pattern_graph.proofs.PlacementLemmas.{row_inside, row_low, row_ordered, row_size, row_within}
use Rattle.database_build.proofs.LeastLemmas.{AreAddedTo, added_all, added_more, ended_is, same_marks, set_few, set_listed}
use Rattle.database_build.proofs.least.add_orders.Goals as goal

pub mark_cells-marks-requires : goal.mark_cells-marks-requires
mark_cells-marks-requires c = set_listed c.args.table.now.selection c.args.cells.now c.requires.group c.requires.cells.set

pub factorial-order-end-requires : goal.factorial-order-end-requires
factorial-order-end-requires c = set_few c.args.table.now.selection c.args.cells.now c.requires.group c.requires.cells.set

pub overflow_mul-order : goal.overflow_mul-order
overflow_mul-order c =
    let low = row_low c.args.table.now.selection c.args.cells.now c.args.positions.now c.orders.order c.factorial-order-end.result c.requires.group c.requires.cells.set c.requires.cells.orders (ended_is c.args.table.now.selection c.args.cells.now c.factorial-order-end.result c.requires.cells.set c.factorial-order-end.ensures.value) c.orders-test.true in
    omega (arith, low)

pub overflow_mul-order-in-orders : goal.overflow_mul-order-in-orders
overflow_mul-order-in-orders c =
    let low = row_low c.args.table.now.selection c.args.cells.now c.args.positions.now c.orders.order c.factorial-order-end.result c.requires.group c.requires.cells.set c.requires.cells.orders (ended_is c.args.table.now.selection c.args.cells.now c.factorial-order-end.result c.requires.cells.set c.factorial-order-end.ensures.value) c.orders-test.true in
    omega (arith, low)

pub overflow_add-order : goal.overflow_add-order
overflow_add-order c =
    let low = row_low c.args.table.now.selection c.args.cells.now c.args.positions.now c.orders.order c.factorial-order-end.result c.requires.group c.requires.cells.set c.requires.cells.orders (ended_is c.args.table.now.selection c.args.cells.now c.factorial-order-end.result c.requires.cells.set c.factorial-order-end.ensures.value) c.orders-test.true in
    omega (arith, low)

pub slice_bounds-place_tiles-end : goal.slice_bounds-place_tiles-end
slice_bounds-place_tiles-end c =
    let inside = row_inside c.args.table.now.selection c.args.cells.now c.args.positions.now c.orders.order c.factorial-order-end.result c.requires.group c.requires.cells.set c.requires.cells.orders (ended_is c.args.table.now.selection c.args.cells.now c.factorial-order-end.result c.requires.cells.set c.factorial-order-end.ensures.value) c.orders-test.true in
    search rules

pub slice_bounds-placed-end : goal.slice_bounds-placed-end
slice_bounds-placed-end c = set_few c.args.table.now.selection c.args.cells.now c.requires.group c.requires.cells.set

pub slice_bounds-place_tiles-end-in-orders : goal.slice_bounds-place_tiles-end-in-orders
slice_bounds-place_tiles-end-in-orders c = sym (length-take-le (length c.args.cells.now) (replicate 9 0) (set_few c.args.table.now.selection c.args.cells.now c.requires.group c.requires.cells.set))

pub place_tiles-requires : goal.place_tiles-requires
place_tiles-requires c = record {
  same = length-take-le (length c.args.cells.now) (replicate 9 0) (set_few c.args.table.now.selection c.args.cells.now c.requires.group c.requires.cells.set) ∙ row_size c.args.table.now.selection c.args.cells.now c.args.positions.now c.orders.order c.factorial-order-end.result c.requires.group c.requires.cells.set c.requires.cells.orders (ended_is c.args.table.now.selection c.args.cells.now c.factorial-order-end.result c.requires.cells.set c.factorial-order-end.ensures.value) c.orders-test.true;
  within = row_within c.args.table.now.selection c.args.cells.now c.args.positions.now c.orders.order c.factorial-order-end.result c.requires.group c.requires.cells.set c.requires.cells.orders (ended_is c.args.table.now.selection c.args.cells.now c.factorial-order-end.result c.requires.cells.set c.factorial-order-end.ensures.value) c.orders-test.true;
}

pub least_value-requires : goal.least_value-requires
least_value-requires c =
    let on = row_ordered c.args.table.now.selection c.args.cells.now c.args.positions.now c.orders.order c.factorial-order-end.result c.requires.group c.requires.cells.set c.requires.cells.orders (ended_is c.args.table.now.selection c.args.cells.now c.factorial-order-end.result c.requires.cells.set c.factorial-order-end.ensures.value) c.orders-test.true c.place_tiles.new.placed _ c.place_tiles.ensures in
    record { placed = on.placed; marked = same_marks _ c.args.cells.now c.mark_cells-marks.result on.same c.mark_cells-marks.ensures.marks }

pub orders-preserved : goal.orders-preserved
orders-preserved c =
    subst (AreAddedTo c.args.table.now c.args.cells.now c.args.least.now.items (c.orders.order + 1)) (sym c.in_ok-push.ensures.items)
    (added_more c.args.table.now c.args.cells.now c.args.least.now.items c.orders.least.items _ c.orders.order c.least_value.result (row_ordered c.args.table.now.selection c.args.cells.now c.args.positions.now c.orders.order c.factorial-order-end.result c.requires.group c.requires.cells.set c.requires.cells.orders (ended_is c.args.table.now.selection c.args.cells.now c.factorial-order-end.result c.requires.cells.set c.factorial-order-end.ensures.value) c.orders-test.true c.place_tiles.new.placed _ c.place_tiles.ensures) c.least_value.ensures c.orders.invariant)

pub returns : goal.returns
returns c =
    let end = c.orders-test.false in
    let seen = c.orders.auto.order-end in
    added_all c.args.table.now c.args.cells.now c.args.least.now.items c.orders.least.items c.orders.order (omega (arith, end, seen) ∙ ended_is c.args.table.now.selection c.args.cells.now c.factorial-order-end.result c.requires.cells.set c.factorial-order-end.ensures.value) c.orders.invariant
