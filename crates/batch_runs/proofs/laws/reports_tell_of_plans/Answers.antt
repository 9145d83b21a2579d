use Rattle.batch_runs.proofs.TruthLemmas.{reported_least, reported_none, reported_why, reported_bound, reported_cause, reported_best}
use Rattle.batch_runs.proofs.laws.reports_tell_of_plans.Goals as goal

pub returns-clause-optimal : goal.returns-clause-optimal
returns-clause-optimal c = reported_least

pub returns-clause-unsolvable : goal.returns-clause-unsolvable
returns-clause-unsolvable c = reported_none

pub returns-clause-reasons : goal.returns-clause-reasons
returns-clause-reasons c = reported_why

pub returns-clause-bounded : goal.returns-clause-bounded
returns-clause-bounded c = reported_bound

pub returns-clause-causes : goal.returns-clause-causes
returns-clause-causes c = reported_cause

pub returns-clause-best : goal.returns-clause-best
returns-clause-best c = reported_best
