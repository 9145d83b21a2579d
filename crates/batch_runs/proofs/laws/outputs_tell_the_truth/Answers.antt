use Rattle.batch_runs.proofs.BatchLemmas.{outputs_true}
use Rattle.batch_runs.proofs.TruthLemmas.{line_read, silence, none_refused, none_bounded}
use Rattle.batch_runs.proofs.laws.outputs_tell_the_truth.Goals as goal

pub returns-clause-truth : goal.returns-clause-truth
returns-clause-truth g c = outputs_true (g.A.Ruled.rules c.args.asked.now)

pub returns-clause-lines : goal.returns-clause-lines
returns-clause-lines g c = line_read (g.A.Ruled.rules c.args.asked.now)

pub returns-clause-silence : goal.returns-clause-silence
returns-clause-silence g c = silence (g.A.Ruled.rules c.args.asked.now)

pub returns-clause-accepted : goal.returns-clause-accepted
returns-clause-accepted g c = none_refused

pub returns-clause-settled : goal.returns-clause-settled
returns-clause-settled g c = none_bounded
