use Rattle.batch_runs.specs.Reports.{accepted_bound_data}
use Rattle.batch_runs.proofs.report.accepted_bound_report.Goals as goal

pub returns : goal.returns
returns c = c.report_of.ensures (accepted_bound_data c.args.bound) c.accepted_bound_value.ensures.value
