use Rattle.batch_runs.specs.Reports.{refused_data}
use Rattle.batch_runs.proofs.report.refused_report.Goals as goal

pub returns : goal.returns
returns c = c.report_of.ensures (refused_data c.args.code.now c.args.line) c.refused_value.ensures.value
