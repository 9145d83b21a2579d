use Rattle.checked_runs.proofs.OutcomeLemmas.{plans_accepted, plans_certified}
use Rattle.checked_runs.proofs.laws.plans_are_accepted.Goals as goal

pub returns : goal.returns
returns c = record { accepted = plans_accepted; certificates = plans_certified c.keys_are_in_order.ensures }
