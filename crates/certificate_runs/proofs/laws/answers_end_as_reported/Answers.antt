use Rattle.certificate_runs.proofs.EndLemmas.{answer_statuses, early_certificates, early_reports, none_behind, reports_lack}
use Rattle.certificate_runs.proofs.laws.answers_end_as_reported.Goals as goal

pub returns : goal.returns
returns g c =
    let rules = g.A.ProofRuled.rules c.args.asked.now in
    record { status = answer_statuses rules; certificates = early_certificates rules; reports = early_reports rules; memory = reports_lack rules; behind = none_behind rules }
