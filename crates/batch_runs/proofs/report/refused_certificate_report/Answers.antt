use Rattle.batch_runs.specs.Reports.{refused_certificate_data}
use Rattle.batch_runs.proofs.report.refused_certificate_report.Goals as goal

pub returns : goal.returns
returns c = c.report_of.ensures (refused_certificate_data c.args.code.now) c.refused_certificate_value.ensures.value
