use Rattle.pattern_graph.proofs.RegionLemmas.{lowering_more, settled_more}
use Rattle.pattern_graph.proofs.regions.lower_labels.Goals as goal

pub cells-preserved : goal.cells-preserved
cells-preserved c =
    let ensured = c.lower_label-is_lowered.ensures in
    record {
      are = ensured.labels;
      lowering = lowering_more c.args.labels.now c.cells.labels c.lower_label-is_lowered.new.labels c.cells.is_changed c.lower_label-is_lowered.result c.cells.invariant.lowering ensured.lowering;
      settled = settled_more c.args.shape c.args.cells.now c.cells.labels c.lower_label-is_lowered.new.labels c.cells.cell c.cells.is_changed c.lower_label-is_lowered.result ensured.lowering c.cells.invariant.settled ensured.settled;
    }
