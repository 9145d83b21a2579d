use Rattle.std.proofs.Common.{ℕ, ◌≡◌, subst, ◌+◌, ◌*◌, ◌<◌, [], length, rules, arith}
use Rattle.pattern_index.specs.Laws.{factorial}
use Rattle.pattern_graph.specs.Placements.{AreFilledTo}
use Rattle.pattern_graph.proofs.RowLemmas.{blank_fits}
use Rattle.pattern_graph.proofs.RegionLemmas.{region_within}
use Rattle.pattern_graph.proofs.SlotLemmas.{free_at, first_fits, slot_is, slot_fits, node_is, node_within, nodes_few, filled_none, filled_all, filled_pass, slot_within, filled_more}
use Rattle.pattern_graph.proofs.slots.write_blanks.Goals as goal

pub overflow_mul-first : goal.overflow_mul-first
overflow_mul-first g c =
    let low = first_fits c.args.regions.now c.args.cells.now c.requires.nodes.regions c.requires.cells.placed c.digit_base-base.result c.sparse_place.result c.digit_base-base.ensures.value c.digit_base-base.ensures.high c.sparse_place.ensures in
    omega (arith, low)

pub blanks-init : goal.blanks-init
blanks-init g c = filled_none c.args.regions.now c.args.nodes.now c.args.slots.now (c.args.set * factorial c.args.regions.now.count + c.args.order) c.requires.filled

pub blanks-preserved-then-marks-blank : goal.blanks-preserved-then-marks-blank
blanks-preserved-then-marks-blank g c =
    filled_pass c.args.regions.now c.args.nodes.now c.blanks.slots c.args.cells.now (c.args.set * factorial c.args.regions.now.count + c.args.order) c.blanks.blank c.requires.cells.placed
    (λ i. c.requires.set i * factorial c.args.regions.now.count + c.requires.order i) c.blanks.invariant ((c.requires.cells.marked c.blanks.blank).0 c.if-marks-blank.true)

pub overflow_mul-set : goal.overflow_mul-set
overflow_mul-set g c =
    let free = free_at c.args.regions.now c.args.cells.now c.args.marks.now c.cells-count.result c.blanks.blank c.requires.cells.marked c.cells-count.ensures.value c.blanks-test.true c.if-marks-blank.false in
    let low = blank_fits c.args.regions.now [] c.args.cells.now c.requires.nodes.regions c.requires.cells.placed c.cells-count.result c.args.set c.blanks.blank c.cells-count.ensures.value c.requires.set c.blanks-test.true free.free in
    omega (arith, low)

pub overflow_add-set : goal.overflow_add-set
overflow_add-set g c =
    let free = free_at c.args.regions.now c.args.cells.now c.args.marks.now c.cells-count.result c.blanks.blank c.requires.cells.marked c.cells-count.ensures.value c.blanks-test.true c.if-marks-blank.false in
    let low = blank_fits c.args.regions.now [] c.args.cells.now c.requires.nodes.regions c.requires.cells.placed c.cells-count.result c.args.set c.blanks.blank c.cells-count.ensures.value c.requires.set c.blanks-test.true free.free in
    omega (arith, low)

pub index-requires : goal.index-requires
index-requires g c =
    let free = free_at c.args.regions.now c.args.cells.now c.args.marks.now c.cells-count.result c.blanks.blank c.requires.cells.marked c.cells-count.ensures.value c.blanks-test.true c.if-marks-blank.false in
    let within = region_within c.args.regions.now c.args.cells.now c.blanks.blank c.args.set c.cells-count.result c.requires.nodes.regions.regions c.requires.cells.placed free c.requires.set c.cells-count.ensures.value in
    omega (arith, within, c.args.regions.now.numbers.ok.0)

pub overflow_add-slots : goal.overflow_add-slots
overflow_add-slots g c =
    let free = free_at c.args.regions.now c.args.cells.now c.args.marks.now c.cells-count.result c.blanks.blank c.requires.cells.marked c.cells-count.ensures.value c.blanks-test.true c.if-marks-blank.false in
    let within = node_within c.args.regions.now c.args.cells.now c.requires.nodes.regions c.requires.cells.placed c.blanks.blank free c.args.set c.cells-count.result c.args.order c.factorial-orders.result c.index.result.now c.requires.set c.cells-count.ensures.value c.requires.order c.factorial-orders.ensures.value c.index.ensures in
    let few = nodes_few c.args.regions.now c.args.cells.now c.requires.nodes.regions c.requires.cells.placed in
    omega (arith, within, few)

pub offset_bounds-nodes-region : goal.offset_bounds-nodes-region
offset_bounds-nodes-region g c =
    let free = free_at c.args.regions.now c.args.cells.now c.args.marks.now c.cells-count.result c.blanks.blank c.requires.cells.marked c.cells-count.ensures.value c.blanks-test.true c.if-marks-blank.false in
    let within = node_within c.args.regions.now c.args.cells.now c.requires.nodes.regions c.requires.cells.placed c.blanks.blank free c.args.set c.cells-count.result c.args.order c.factorial-orders.result c.index.result.now c.requires.set c.cells-count.ensures.value c.requires.order c.factorial-orders.ensures.value c.index.ensures in
    let size = c.requires.nodes.one_each in
    omega (arith, within, size)

pub bounds-nodes-region : goal.bounds-nodes-region
bounds-nodes-region g c =
    let free = free_at c.args.regions.now c.args.cells.now c.args.marks.now c.cells-count.result c.blanks.blank c.requires.cells.marked c.cells-count.ensures.value c.blanks-test.true c.if-marks-blank.false in
    let within = node_within c.args.regions.now c.args.cells.now c.requires.nodes.regions c.requires.cells.placed c.blanks.blank free c.args.set c.cells-count.result c.args.order c.factorial-orders.result c.index.result.now c.requires.set c.cells-count.ensures.value c.requires.order c.factorial-orders.ensures.value c.index.ensures in
    let size = c.requires.nodes.one_each in
    omega (arith, within, size)

pub overflow_add-first : goal.overflow_add-first
overflow_add-first g c =
    let free = free_at c.args.regions.now c.args.cells.now c.args.marks.now c.cells-count.result c.blanks.blank c.requires.cells.marked c.cells-count.ensures.value c.blanks-test.true c.if-marks-blank.false in
    let low = slot_fits c.args.regions.now c.args.cells.now c.requires.nodes.regions c.requires.cells.placed c.blanks.blank free c.digit_base-base.result c.sparse_place.result c.digit_base-base.ensures.value c.digit_base-base.ensures.high c.sparse_place.ensures in
    omega (arith, low)

pub offset_bounds-slots-first : goal.offset_bounds-slots-first
offset_bounds-slots-first g c =
    let free = free_at c.args.regions.now c.args.cells.now c.args.marks.now c.cells-count.result c.blanks.blank c.requires.cells.marked c.cells-count.ensures.value c.blanks-test.true c.if-marks-blank.false in
    let low = slot_within c.args.regions.now c.args.nodes.now c.blanks.slots c.args.cells.now (c.args.set * factorial c.args.regions.now.count + c.args.order) c.blanks.blank c.requires.cells.placed
    (λ i. c.requires.set i * factorial c.args.regions.now.count + c.requires.order i) c.blanks.invariant _ c.index-nodes-region.result free
    (slot_is c.args.regions.now c.args.cells.now c.requires.nodes.regions c.requires.cells.placed c.blanks.blank free c.digit_base-base.result c.sparse_place.result c.digit_base-base.ensures.value c.sparse_place.ensures) in
    let all = c.blanks.auto.slots in
    let within : c.digit_base-base.result * c.sparse_place.result + c.blanks.blank < length c.args.slots.now = omega (arith, low, all) in
    search rules

pub bounds-slots-first : goal.bounds-slots-first
bounds-slots-first g c =
    let free = free_at c.args.regions.now c.args.cells.now c.args.marks.now c.cells-count.result c.blanks.blank c.requires.cells.marked c.cells-count.ensures.value c.blanks-test.true c.if-marks-blank.false in
    slot_within c.args.regions.now c.args.nodes.now c.blanks.slots c.args.cells.now (c.args.set * factorial c.args.regions.now.count + c.args.order) c.blanks.blank c.requires.cells.placed
    (λ i. c.requires.set i * factorial c.args.regions.now.count + c.requires.order i) c.blanks.invariant _ c.index-nodes-region.result free
    (slot_is c.args.regions.now c.args.cells.now c.requires.nodes.regions c.requires.cells.placed c.blanks.blank free c.digit_base-base.result c.sparse_place.result c.digit_base-base.ensures.value c.sparse_place.ensures)

pub blanks-preserved : goal.blanks-preserved
blanks-preserved g c =
    let free = free_at c.args.regions.now c.args.cells.now c.args.marks.now c.cells-count.result c.blanks.blank c.requires.cells.marked c.cells-count.ensures.value c.blanks-test.true c.if-marks-blank.false in
    let within = node_within c.args.regions.now c.args.cells.now c.requires.nodes.regions c.requires.cells.placed c.blanks.blank free c.args.set c.cells-count.result c.args.order c.factorial-orders.result c.index.result.now c.requires.set c.cells-count.ensures.value c.requires.order c.factorial-orders.ensures.value c.index.ensures in
    let size = c.requires.nodes.one_each in
    filled_more c.args.regions.now c.args.nodes.now c.blanks.slots c.args.cells.now (c.args.set * factorial c.args.regions.now.count + c.args.order) c.blanks.blank c.requires.cells.placed
    (λ i. c.requires.set i * factorial c.args.regions.now.count + c.requires.order i) c.blanks.invariant _ c.index-nodes-region.result free
    (slot_is c.args.regions.now c.args.cells.now c.requires.nodes.regions c.requires.cells.placed c.blanks.blank free c.digit_base-base.result c.sparse_place.result c.digit_base-base.ensures.value c.sparse_place.ensures)
    (c.index.result.now * c.factorial-orders.result + c.args.order)
    (node_is c.args.regions.now c.args.cells.now c.requires.nodes.regions c.requires.cells.placed c.blanks.blank free c.args.set c.cells-count.result c.args.order c.factorial-orders.result c.index.result.now c.requires.set c.cells-count.ensures.value c.requires.order c.factorial-orders.ensures.value c.index.ensures)
    (omega (arith, within, size)) c.index-nodes-region.is

pub returns : goal.returns
returns g c =
    let next : c.args.set * factorial c.args.regions.now.count + c.args.order + 1 ≡ c.args.set * factorial c.args.regions.now.count + (c.args.order + 1) = omega arith in
    subst (λ (m : ℕ). AreFilledTo c.args.regions.now c.args.nodes.now m c.blanks.slots) next
    (filled_all c.args.regions.now c.args.nodes.now c.blanks.slots (c.args.set * factorial c.args.regions.now.count + c.args.order) c.blanks.blank
    (let end = c.blanks-test.false in let counted = c.cells-count.ensures.value in omega (arith, end, counted)) c.blanks.invariant)
