use Rattle.certificate_runs.proofs.HeadlineLemmas.{all_certified, reported_lack}
use Rattle.certificate_runs.proofs.laws.outcomes_with_rows_are_certified.Goals as goal

pub returns : goal.returns
returns g c = record { bounds = reported_lack (g.A.ProofRuled.rules c.args.asked.now); outcomes = all_certified (g.A.ProofRuled.rules c.args.asked.now) }
