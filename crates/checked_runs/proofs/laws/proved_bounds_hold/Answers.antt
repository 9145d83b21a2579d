use Rattle.checked_runs.proofs.OutcomeLemmas.{none_below_a_bound}
use Rattle.checked_runs.proofs.laws.proved_bounds_hold.Goals as goal

pub returns-clause-below : goal.returns-clause-below
returns-clause-below c = none_below_a_bound c.rows_suffice.ensures c.sums_are_lower_bounds.ensures.tables
