use Rattle.checked_runs.proofs.OutcomeLemmas.{bound_certificate_is, bounds_accepted}
use Rattle.checked_runs.proofs.laws.bounds_are_accepted.Goals as goal

pub returns : goal.returns
returns c = record { accepted = bounds_accepted; certificates = bound_certificate_is c.keys_are_in_order.ensures }
