use Rattle.checked_runs.proofs.OutcomeLemmas.{none_below_a_plan}
use Rattle.checked_runs.proofs.laws.proved_plans_are_least.Goals as goal

pub returns-clause-least : goal.returns-clause-least
returns-clause-least c = none_below_a_plan c.rows_suffice.ensures c.sums_are_lower_bounds.ensures.tables
