use Rattle.std.proofs.Common.{sym, arith}
use Rattle.std.proofs.lemmas.Bool.{false≢true}
use Rattle.pattern_graph.proofs.RegionLemmas.{first_labels, all_settled}
use Rattle.pattern_graph.proofs.regions.label_cells.Goals as goal

pub rounds-init : goal.rounds-init
rounds-init c = record {
  are = first_labels c.args.shape c.args.cells.now c.labels.labels c.labels.invariant.0 (λ k lt. c.labels.invariant.1 k (omega arith));
  settled = λ e. absurd (false≢true (sym e));
}

pub returns : goal.returns
returns c = all_settled c.args.shape c.args.cells.now c.rounds.labels c.rounds.invariant.are (c.rounds.invariant.settled c.rounds-test.false)
