use Rattle.certificate_runs.proofs.CertifyLemmas.{silence}
use Rattle.certificate_runs.proofs.HeadlineLemmas.{first_lines, silent_runs, unasked, certificates_answer, reports_answer}
use Rattle.certificate_runs.proofs.laws.silence_is_unasked.Goals as goal

pub returns : goal.returns
returns g c =
    let rules = g.A.ProofRuled.rules c.args.asked.now in
    record { lines = silence rules; first = first_lines rules; runs = silent_runs rules; unasked = unasked rules; certificates = certificates_answer rules; reports = reports_answer rules }
