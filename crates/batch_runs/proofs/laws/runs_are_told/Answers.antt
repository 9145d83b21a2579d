use Rattle.batch_runs.proofs.BatchLemmas.{outputs, told, write_failed, read_failed, counts_of_reports}
use Rattle.batch_runs.proofs.laws.runs_are_told.Goals as goal

pub returns-clause-outputs : goal.returns-clause-outputs
returns-clause-outputs g c = outputs (g.A.Ruled.rules c.args.asked.now)

pub returns-clause-failures : goal.returns-clause-failures
returns-clause-failures g c = told (g.A.Ruled.rules c.args.asked.now)

pub returns-clause-write_faults : goal.returns-clause-write_faults
returns-clause-write_faults g c = write_failed (g.A.Ruled.rules c.args.asked.now)

pub returns-clause-read_faults : goal.returns-clause-read_faults
returns-clause-read_faults g c = read_failed (g.A.Ruled.rules c.args.asked.now)

pub returns-clause-counts : goal.returns-clause-counts
returns-clause-counts g c = counts_of_reports (g.A.Ruled.rules c.args.asked.now)
