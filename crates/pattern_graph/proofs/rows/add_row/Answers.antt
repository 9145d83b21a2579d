use Rattle.std.proofs.Common.{◌+◌, ◌∙◌, sym, subst, arith}
use Rattle.std.specs.Prelude.{List, ℕ}
use Rattle.std.proofs.lemmas.Bool.{false≢true}
use Rattle.pattern_graph.proofs.RowLemmas.{IsFilling, filling_none, filling_tile, filling_blank, filling_free, others_wide, order_fits, entry_within, larger_few, number_within, read_is, nodes_few}
use Rattle.pattern_graph.proofs.rows.add_row.Goals as goal

pub place-set-requires-clause-listing : goal.place-set-requires-clause-listing
place-set-requires-clause-listing c = others_wide c.args.regions.now c.args.blank c.args.others.now c.requires.regions.regions c.requires.listing

pub mark_cells-marks-requires : goal.mark_cells-marks-requires
mark_cells-marks-requires c = others_wide c.args.regions.now c.args.blank c.args.others.now c.requires.regions.regions c.requires.listing

pub cells-init : goal.cells-init
cells-init c = filling_none c.args.regions.now c.args.nodes.now c.args.blank c.args.others.now c.factorial-unit.result c.args.values.now.items c.order_of-order.result c.order_of-order.ensures.value

pub overflow_add-order : goal.overflow_add-order
overflow_add-order c =
    let few = c.requires.regions.regions.short in
    let long = c.requires.count in
    let low = order_fits c.args.others.now c.cells.cell c.cells.order c.factorial-unit.result (omega (arith, few, long)) c.factorial-unit.ensures.value c.cells.invariant.so_far in
    omega (arith, low)

pub cells-preserved-then-marks-cell : goal.cells-preserved-then-marks-cell
cells-preserved-then-marks-cell c = filling_tile c.args.regions.now c.args.nodes.now c.args.blank c.args.others.now c.requires.listing c.factorial-unit.result c.args.values.now.items c.cells.values.items c.cells.cell c.cells.order ((c.mark_cells-marks.ensures.marks c.cells.cell).0 c.if-marks-cell.true) c.cells.invariant

pub cells-preserved-then-cell-blank : goal.cells-preserved-then-cell-blank
cells-preserved-then-cell-blank c = filling_blank c.args.regions.now c.args.nodes.now c.args.blank c.args.others.now c.requires.listing c.factorial-unit.result c.args.values.now.items c.cells.values.items c.cells.cell c.cells.order c.if-cell-blank.true c.cells.invariant

pub overflow_mul-whole : goal.overflow_mul-whole
overflow_mul-whole c =
    let within = entry_within c.args.regions.now c.args.larger.now c.args.nodes.now c.args.blank c.args.others.now c.cells-count.result c.place-set.result c.cells.cell c.requires.regions.regions c.requires.larger c.requires.listing c.requires.count c.cells-count.ensures.value c.place-set.ensures c.cells-test.true in
    let few = larger_few c.args.regions.now c.args.larger.now c.args.nodes.now c.args.blank c.args.others.now c.cells-count.result c.place-set.result c.cells.cell c.requires.regions.regions c.requires.larger c.requires.listing c.requires.count c.cells-count.ensures.value c.place-set.ensures c.cells-test.true in
    omega (arith, within, few)

pub overflow_add-whole : goal.overflow_add-whole
overflow_add-whole c =
    let within = entry_within c.args.regions.now c.args.larger.now c.args.nodes.now c.args.blank c.args.others.now c.cells-count.result c.place-set.result c.cells.cell c.requires.regions.regions c.requires.larger c.requires.listing c.requires.count c.cells-count.ensures.value c.place-set.ensures c.cells-test.true in
    let few = larger_few c.args.regions.now c.args.larger.now c.args.nodes.now c.args.blank c.args.others.now c.cells-count.result c.place-set.result c.cells.cell c.requires.regions.regions c.requires.larger c.requires.listing c.requires.count c.cells-count.ensures.value c.place-set.ensures c.cells-test.true in
    omega (arith, within, few)

pub offset_bounds-larger-set : goal.offset_bounds-larger-set
offset_bounds-larger-set c =
    let within = entry_within c.args.regions.now c.args.larger.now c.args.nodes.now c.args.blank c.args.others.now c.cells-count.result c.place-set.result c.cells.cell c.requires.regions.regions c.requires.larger c.requires.listing c.requires.count c.cells-count.ensures.value c.place-set.ensures c.cells-test.true in
    let few = larger_few c.args.regions.now c.args.larger.now c.args.nodes.now c.args.blank c.args.others.now c.cells-count.result c.place-set.result c.cells.cell c.requires.regions.regions c.requires.larger c.requires.listing c.requires.count c.cells-count.ensures.value c.place-set.ensures c.cells-test.true in
    omega (arith, within, few)

pub bounds-larger-set : goal.bounds-larger-set
bounds-larger-set c = entry_within c.args.regions.now c.args.larger.now c.args.nodes.now c.args.blank c.args.others.now c.cells-count.result c.place-set.result c.cells.cell c.requires.regions.regions c.requires.larger c.requires.listing c.requires.count c.cells-count.ensures.value c.place-set.ensures c.cells-test.true

pub index-requires : goal.index-requires
index-requires c =
    let within = number_within c.args.regions.now c.args.larger.now c.args.nodes.now c.args.blank c.args.others.now c.cells-count.result c.place-set.result c.cells.cell c.requires.regions.regions c.requires.larger c.requires.listing c.requires.count c.cells-count.ensures.value c.place-set.ensures c.cells-test.true (λ has. false≢true (sym c.if-marks-cell.false ∙ (c.mark_cells-marks.ensures.marks c.cells.cell).1 has)) c.if-cell-blank.false in
    omega (arith, within, c.args.regions.now.numbers.ok.0)

pub overflow_add-region : goal.overflow_add-region
overflow_add-region c =
    let within = (read_is c.args.regions.now c.args.larger.now c.args.nodes.now c.args.blank c.args.others.now c.cells-count.result c.place-set.result c.cells.cell c.requires.regions.regions c.requires.larger c.requires.listing c.requires.count c.cells-count.ensures.value c.place-set.ensures c.cells-test.true (λ has. false≢true (sym c.if-marks-cell.false ∙ (c.mark_cells-marks.ensures.marks c.cells.cell).1 has)) c.if-cell-blank.false c.args.orders c.cells.order c.factorial-unit.result c.index.result.now c.requires.nodes c.requires.orders c.factorial-unit.ensures.value c.cells.invariant.so_far c.index.ensures).node in
    let few = nodes_few c.args.regions.now c.args.nodes.now c.requires.regions.regions c.requires.regions.small c.requires.nodes in
    omega (arith, within, few)

pub offset_bounds-nodes-region : goal.offset_bounds-nodes-region
offset_bounds-nodes-region c =
    let within = (read_is c.args.regions.now c.args.larger.now c.args.nodes.now c.args.blank c.args.others.now c.cells-count.result c.place-set.result c.cells.cell c.requires.regions.regions c.requires.larger c.requires.listing c.requires.count c.cells-count.ensures.value c.place-set.ensures c.cells-test.true (λ has. false≢true (sym c.if-marks-cell.false ∙ (c.mark_cells-marks.ensures.marks c.cells.cell).1 has)) c.if-cell-blank.false c.args.orders c.cells.order c.factorial-unit.result c.index.result.now c.requires.nodes c.requires.orders c.factorial-unit.ensures.value c.cells.invariant.so_far c.index.ensures).node in
    let few = nodes_few c.args.regions.now c.args.nodes.now c.requires.regions.regions c.requires.regions.small c.requires.nodes in
    omega (arith, within, few)

pub bounds-nodes-region : goal.bounds-nodes-region
bounds-nodes-region c = (read_is c.args.regions.now c.args.larger.now c.args.nodes.now c.args.blank c.args.others.now c.cells-count.result c.place-set.result c.cells.cell c.requires.regions.regions c.requires.larger c.requires.listing c.requires.count c.cells-count.ensures.value c.place-set.ensures c.cells-test.true (λ has. false≢true (sym c.if-marks-cell.false ∙ (c.mark_cells-marks.ensures.marks c.cells.cell).1 has)) c.if-cell-blank.false c.args.orders c.cells.order c.factorial-unit.result c.index.result.now c.requires.nodes c.requires.orders c.factorial-unit.ensures.value c.cells.invariant.so_far c.index.ensures).node

pub cells-preserved : goal.cells-preserved
cells-preserved c =
    let read = read_is c.args.regions.now c.args.larger.now c.args.nodes.now c.args.blank c.args.others.now c.cells-count.result c.place-set.result c.cells.cell c.requires.regions.regions c.requires.larger c.requires.listing c.requires.count c.cells-count.ensures.value c.place-set.ensures c.cells-test.true (λ has. false≢true (sym c.if-marks-cell.false ∙ (c.mark_cells-marks.ensures.marks c.cells.cell).1 has)) c.if-cell-blank.false c.args.orders c.cells.order c.factorial-unit.result c.index.result.now c.requires.nodes c.requires.orders c.factorial-unit.ensures.value c.cells.invariant.so_far c.index.ensures in
    let next = filling_free c.args.regions.now c.args.nodes.now c.args.blank c.args.others.now c.requires.listing c.factorial-unit.result c.args.values.now.items c.cells.values.items c.cells.cell c.cells.order _ (λ has. false≢true (sym c.if-marks-cell.false ∙ (c.mark_cells-marks.ensures.marks c.cells.cell).1 has)) c.if-cell-blank.false read.is c.cells.invariant in
    subst (λ (items : List ℕ). IsFilling c.args.regions.now c.args.nodes.now c.args.blank c.args.others.now c.factorial-unit.result c.args.values.now.items (c.cells.cell + 1) c.cells.order items) (sym c.in_ok-push.ensures.items) next
