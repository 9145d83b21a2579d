use Rattle.batch_runs.proofs.ReadLemmas.{outcome_told, told_alike}
use Rattle.batch_runs.proofs.report_laws.outcomes_are_told.Goals as goal

pub returns-clause-told : goal.returns-clause-told
returns-clause-told c = outcome_told

pub returns-clause-alike : goal.returns-clause-alike
returns-clause-alike c = told_alike
