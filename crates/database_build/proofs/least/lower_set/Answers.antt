use Rattle.std.proofs.Common.{length, refl, sym, ◌∙◌, arith}
use Rattle.pattern_graph.proofs.SlotLemmas.{set_listing, set_written}
use Rattle.database_build.proofs.LeastLemmas.{lowered_none, lowered_pass, lowered_all}
use Rattle.database_build.proofs.LeastLemmas.{lowered_more, nodes_within, nodes_end_fits}
use Rattle.database_build.proofs.least.lower_set.Goals as goal

pub mark_cells-marks-requires : goal.mark_cells-marks-requires
mark_cells-marks-requires c = set_listing c.args.regions.now c.cells-cells.result c.args.set _ _ _ c.requires.nodes.regions c.cells-cells.ensures.value refl c.requires.nodes.inside c.write_set.ensures

pub blanks-init : goal.blanks-init
blanks-init c = lowered_none c.args.regions.now c.args.nodes.now c.cells-cells.result c.args.set c.requires.nodes.regions c.cells-cells.ensures.value c.requires.nodes.inside c.args.row.now c.requires.row

pub blanks-preserved-then-marks-blank : goal.blanks-preserved-then-marks-blank
blanks-preserved-then-marks-blank c =
    let is = set_written c.args.regions.now c.cells-cells.result c.args.set _ _ _ c.requires.nodes.regions c.cells-cells.ensures.value refl c.requires.nodes.inside c.write_set.ensures in
    lowered_pass c.args.regions.now c.args.nodes.now c.cells-cells.result c.args.set c.requires.nodes.regions c.cells-cells.ensures.value c.requires.nodes.inside _ c.mark_cells-marks.result c.blanks.blank is c.mark_cells-marks.ensures.marks c.blanks.row c.if-marks-blank.true c.blanks.invariant

pub overflow_mul-first : goal.overflow_mul-first
overflow_mul-first c =
    let is = set_written c.args.regions.now c.cells-cells.result c.args.set _ _ _ c.requires.nodes.regions c.cells-cells.ensures.value refl c.requires.nodes.inside c.write_set.ensures in
    let fits = nodes_end_fits c.args.regions.now c.args.nodes.now c.cells-cells.result c.args.set c.requires.nodes.regions c.cells-cells.ensures.value c.requires.nodes.inside _ c.mark_cells-marks.result c.blanks.blank is c.mark_cells-marks.ensures.marks c.blanks-test.true c.if-marks-blank.false c.index.result.now (length c.args.row.now) c.index.ensures (sym c.blanks.auto.row ∙ c.blanks.invariant.size) c.requires.nodes.one_each in
    omega (arith, fits)

pub overflow_add-first : goal.overflow_add-first
overflow_add-first c =
    let is = set_written c.args.regions.now c.cells-cells.result c.args.set _ _ _ c.requires.nodes.regions c.cells-cells.ensures.value refl c.requires.nodes.inside c.write_set.ensures in
    let fits = nodes_end_fits c.args.regions.now c.args.nodes.now c.cells-cells.result c.args.set c.requires.nodes.regions c.cells-cells.ensures.value c.requires.nodes.inside _ c.mark_cells-marks.result c.blanks.blank is c.mark_cells-marks.ensures.marks c.blanks-test.true c.if-marks-blank.false c.index.result.now (length c.args.row.now) c.index.ensures (sym c.blanks.auto.row ∙ c.blanks.invariant.size) c.requires.nodes.one_each in
    omega (arith, fits)

pub offset_bounds-nodes-first : goal.offset_bounds-nodes-first
offset_bounds-nodes-first c =
    let is = set_written c.args.regions.now c.cells-cells.result c.args.set _ _ _ c.requires.nodes.regions c.cells-cells.ensures.value refl c.requires.nodes.inside c.write_set.ensures in
    let fits = nodes_end_fits c.args.regions.now c.args.nodes.now c.cells-cells.result c.args.set c.requires.nodes.regions c.cells-cells.ensures.value c.requires.nodes.inside _ c.mark_cells-marks.result c.blanks.blank is c.mark_cells-marks.ensures.marks c.blanks-test.true c.if-marks-blank.false c.index.result.now (length c.args.row.now) c.index.ensures (sym c.blanks.auto.row ∙ c.blanks.invariant.size) c.requires.nodes.one_each in
    omega (arith, fits)

pub slice_bounds-lower_row-end : goal.slice_bounds-lower_row-end
slice_bounds-lower_row-end c =
    let is = set_written c.args.regions.now c.cells-cells.result c.args.set _ _ _ c.requires.nodes.regions c.cells-cells.ensures.value refl c.requires.nodes.inside c.write_set.ensures in
    nodes_within c.args.regions.now c.args.nodes.now c.cells-cells.result c.args.set c.requires.nodes.regions c.cells-cells.ensures.value c.requires.nodes.inside _ c.mark_cells-marks.result c.blanks.blank is c.mark_cells-marks.ensures.marks c.blanks-test.true c.if-marks-blank.false c.index.result.now (length c.args.row.now) c.index.ensures (sym c.blanks.auto.row ∙ c.blanks.invariant.size) c.requires.nodes.one_each

pub blanks-preserved : goal.blanks-preserved
blanks-preserved c =
    let is = set_written c.args.regions.now c.cells-cells.result c.args.set _ _ _ c.requires.nodes.regions c.cells-cells.ensures.value refl c.requires.nodes.inside c.write_set.ensures in
    lowered_more c.args.regions.now c.args.nodes.now c.cells-cells.result c.args.set c.requires.nodes.regions c.cells-cells.ensures.value c.requires.nodes.inside _ c.mark_cells-marks.result c.blanks.blank is c.mark_cells-marks.ensures.marks c.blanks-test.true c.if-marks-blank.false c.index.result.now (length c.args.row.now) c.index.ensures (sym c.blanks.auto.row ∙ c.blanks.invariant.size) c.requires.nodes.one_each c.blanks.row c.lower_row.new.row c.blanks.invariant c.lower_row.ensures.size c.lower_row.ensures.values

pub returns-clause-least : goal.returns-clause-least
returns-clause-least c =
    lowered_all c.args.regions.now c.args.nodes.now c.cells-cells.result c.args.set c.requires.nodes.regions c.cells-cells.ensures.value c.requires.nodes.inside c.blanks.blank c.blanks.row (omega (arith, c.blanks-test.false)) (λ i. let fits = c.type_inv.nodes i in omega (arith, fits)) c.blanks.invariant
