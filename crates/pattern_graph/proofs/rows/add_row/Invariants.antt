use Rattle.pattern_graph.proofs.RowLemmas.{IsFilling}
use Rattle.pattern_graph.proofs.rows.add_row.Given as goal

abbrev pub invariant-cells : goal.invariant-cells
invariant-cells l = IsFilling l.regions l.nodes l.blank l.others l.unit l.fn.values.items l.cell l.order l.values.items
