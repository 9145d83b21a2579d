use Rattle.std.proofs.Common.{◌≡◌, ℕ, ◌+◌, ◌*◌, ◌<◌, ◌≤◌, List, replicate, refl, subst, ◌∙◌, arith}
use Rattle.std.proofs.lemmas.List.{length-take-le}
use Rattle.std.proofs.lemmas.Nat.{mul-le}
use Rattle.pattern_index.specs.Laws.{factorial}
use Rattle.pattern_graph.specs.Placements.{AreFilledTo, AreOrdersFilled, AreSetsFilled}
use Rattle.pattern_graph.specs.declared.regions.Regions.{Regions}
use Rattle.pattern_graph.proofs.OrderTables.{factorial_small}
use Rattle.pattern_graph.proofs.SlotLemmas.{set_written, set_listing, row_size, row_within, tiles_placed, marked_placement}
use Rattle.pattern_graph.proofs.slots.write_set.Goals as goal

-- where the positions of an order end is small
row_low : (count order end : ℕ) → count ≤ 9 → order < end → end ≡ factorial count → order * count + count ≤ 3265920
row_low count order end short before ended =
    let small = factorial_small count short in
    let m = mul-le (order + 1) count 362880 9 (omega (arith, small, before, ended)) short in
    omega (arith, m)

-- no order of a set is done at first, and at last all are
first_order : {A : Type 0} (r : Regions) (nodes slots : List A) (set : ℕ) → AreSetsFilled r nodes set slots → AreOrdersFilled r nodes set 0 slots
first_order {A} r nodes slots set filled =
    let same : set * factorial r.count ≡ set * factorial r.count + 0 = omega arith in
    subst (λ (m : ℕ). AreFilledTo r nodes m slots) same filled

last_order : {A : Type 0} (r : Regions) (nodes slots : List A) (set order end : ℕ) → end ≤ order → order ≤ end → end ≡ factorial r.count → AreOrdersFilled r nodes set order slots → AreSetsFilled r nodes (set + 1) slots
last_order {A} r nodes slots set order end past within ended filled =
    let same : set * factorial r.count + order ≡ (set + 1) * factorial r.count = omega (arith, past, within, ended) in
    subst (λ (m : ℕ). AreFilledTo r nodes m slots) same filled

pub orders-init : goal.orders-init
orders-init g c = first_order {A = g.row.T.Denot} c.args.regions.now c.args.nodes.now c.args.slots.now c.args.set c.requires.filled

pub overflow_mul-order : goal.overflow_mul-order
overflow_mul-order g c =
    let low = row_low c.args.regions.now.count c.orders.order c.factorial-order-end.result c.requires.nodes.regions.short c.orders-test.true c.factorial-order-end.ensures.value in
    omega (arith, low)

pub overflow_mul-order-in-orders : goal.overflow_mul-order-in-orders
overflow_mul-order-in-orders g c =
    let low = row_low c.args.regions.now.count c.orders.order c.factorial-order-end.result c.requires.nodes.regions.short c.orders-test.true c.factorial-order-end.ensures.value in
    omega (arith, low)

pub overflow_add-order : goal.overflow_add-order
overflow_add-order g c =
    let low = row_low c.args.regions.now.count c.orders.order c.factorial-order-end.result c.requires.nodes.regions.short c.orders-test.true c.factorial-order-end.ensures.value in
    omega (arith, low)

pub orders-preserved : goal.orders-preserved
orders-preserved g c = c.write_blanks.ensures

pub returns : goal.returns
returns g c = last_order {A = g.row.T.Denot} c.args.regions.now c.args.nodes.now c.orders.slots c.args.set c.orders.order c.factorial-order-end.result c.orders-test.false c.orders.auto.order-end c.factorial-order-end.ensures.value c.orders.invariant

pub mark_cells-marks-requires : goal.mark_cells-marks-requires
mark_cells-marks-requires g c = set_listing c.args.regions.now c.cells.result c.args.set _ _ _ c.requires.nodes.regions c.cells.ensures.value refl c.requires.nodes.inside c.write_set.ensures

pub place_tiles-requires : goal.place_tiles-requires
place_tiles-requires g c =
    let is = set_written c.args.regions.now c.cells.result c.args.set _ _ _ c.requires.nodes.regions c.cells.ensures.value refl c.requires.nodes.inside c.write_set.ensures in record {
      same = length-take-le c.args.regions.now.count (replicate 9 0) c.requires.nodes.regions.short ∙ row_size c.args.regions.now c.args.set c.orders.order c.factorial-order-end.result _ c.args.positions.now is c.requires.nodes.inside c.requires.positions c.orders-test.true c.factorial-order-end.ensures.value;
      within = row_within c.args.regions.now c.args.set c.orders.order c.factorial-order-end.result _ c.args.positions.now is c.requires.nodes.inside c.requires.positions c.orders-test.true c.factorial-order-end.ensures.value;
    }

pub write_blanks-requires-clause-cells : goal.write_blanks-requires-clause-cells
write_blanks-requires-clause-cells g c =
    let is = set_written c.args.regions.now c.cells.result c.args.set _ _ _ c.requires.nodes.regions c.cells.ensures.value refl c.requires.nodes.inside c.write_set.ensures in
    marked_placement c.args.regions.now c.args.set c.orders.order c.factorial-order-end.result _ c.args.positions.now is c.requires.nodes.inside c.requires.positions c.orders-test.true c.factorial-order-end.ensures.value c.place_tiles.new.placed _ c.place_tiles.ensures c.mark_cells-marks.result c.mark_cells-marks.ensures.marks

pub write_blanks-requires-clause-set : goal.write_blanks-requires-clause-set
write_blanks-requires-clause-set g c =
    let is = set_written c.args.regions.now c.cells.result c.args.set _ _ _ c.requires.nodes.regions c.cells.ensures.value refl c.requires.nodes.inside c.write_set.ensures in
    (tiles_placed c.args.regions.now c.args.set c.orders.order c.factorial-order-end.result _ c.args.positions.now is c.requires.nodes.inside c.requires.positions c.orders-test.true c.factorial-order-end.ensures.value c.place_tiles.new.placed _ c.place_tiles.ensures).set_is

pub write_blanks-requires-clause-order : goal.write_blanks-requires-clause-order
write_blanks-requires-clause-order g c =
    let is = set_written c.args.regions.now c.cells.result c.args.set _ _ _ c.requires.nodes.regions c.cells.ensures.value refl c.requires.nodes.inside c.write_set.ensures in
    (tiles_placed c.args.regions.now c.args.set c.orders.order c.factorial-order-end.result _ c.args.positions.now is c.requires.nodes.inside c.requires.positions c.orders-test.true c.factorial-order-end.ensures.value c.place_tiles.new.placed _ c.place_tiles.ensures).order_is
