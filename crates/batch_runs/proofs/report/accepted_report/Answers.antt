use Rattle.batch_runs.specs.Reports.{accepted_data}
use Rattle.batch_runs.proofs.report.accepted_report.Goals as goal

pub returns : goal.returns
returns c = c.report_of.ensures (accepted_data c.args.cost) c.accepted_value.ensures.value
