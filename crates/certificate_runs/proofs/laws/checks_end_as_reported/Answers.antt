use Rattle.certificate_runs.proofs.EndLemmas.{accepts_proved, certified_accepted, early_drawings, early_upgrades, early_verdicts, refuses_for_cause, verdict_statuses}
use Rattle.certificate_runs.proofs.laws.checks_end_as_reported.Goals as goal

pub returns : goal.returns
returns c = record { statuses = verdict_statuses; proved = accepts_proved; refused = refuses_for_cause; accepted = certified_accepted; verdicts = early_verdicts; upgrades = early_upgrades; drawings = early_drawings }
