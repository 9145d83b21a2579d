use Rattle.std.proofs.Common.{sym}
use Rattle.batch_runs.proofs.report.outcome_value.Goals as goal

pub returns-in-Optimal-clause-value : goal.returns-in-Optimal-clause-value
returns-in-Optimal-clause-value c =
    rw c.in-Optimal.is (c.optimal_value.ensures.value c.in-Optimal.plan (sym c.deref.ensures.value))
