use Rattle.std.proofs.Common.{arith}
use Rattle.pattern_graph.proofs.RowLemmas.{parts_listing, parts_more, all_rows, all_views}
use Rattle.pattern_graph.proofs.rows.rank_values.Goals as goal

pub add_row-requires-clause-listing : goal.add_row-requires-clause-listing
add_row-requires-clause-listing c = parts_listing c.args.group.now c.args.regions.now c.args.nodes.now c.requires.nodes.regions c.cells-cells.result c.rows.row c.folded_size-row-end.result c.rows.list c.cells-cells.ensures.value c.rows.invariant.all c.folded_size-row-end.ensures.value c.rows-test.true c.list_cells.new.list c.list_cells.ensures

pub rows-preserved : goal.rows-preserved
rows-preserved c = record {
  all = c.deref.array_long;
  rows = parts_more c.args.group.now c.args.regions.now c.args.nodes.now c.requires.nodes.regions c.cells-cells.result c.rows.row c.folded_size-row-end.result c.rows.list c.cells-cells.ensures.value c.rows.invariant.all c.folded_size-row-end.ensures.value c.rows-test.true c.list_cells.new.list c.list_cells.ensures c.rows.values.items c.add_row.new.values.items c.rows.invariant.rows c.in_ok-add_row.ensures;
}

pub returns-clause-size : goal.returns-clause-size
returns-clause-size c =
    let end = c.rows-test.false in
    let high = c.rows.auto.row-end in
    let is = c.folded_size-row-end.ensures.value in
    all_rows c.args.group.now c.args.regions.now c.args.nodes.now c.requires.nodes.regions c.rows.row c.rows.values.items (omega (arith, end, high, is)) c.rows.invariant.rows

pub returns-clause-values : goal.returns-clause-values
returns-clause-values c =
    let end = c.rows-test.false in
    let high = c.rows.auto.row-end in
    let is = c.folded_size-row-end.ensures.value in
    all_views c.args.group.now c.args.regions.now c.args.nodes.now c.requires.nodes.regions c.rows.row c.rows.values.items (omega (arith, end, high, is)) c.rows.invariant.rows
