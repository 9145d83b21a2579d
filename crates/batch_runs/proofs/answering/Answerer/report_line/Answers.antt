use Rattle.std.specs.Prelude.{codes}
use Rattle.batch_runs.specs.Batches.Answer.{refused}
use Rattle.batch_runs.proofs.BatchLemmas.{too_long}
use Rattle.batch_runs.proofs.answering.Answerer.report_line.Goals as goal

pub returns-in_default-clause-report : goal.returns-in_default-clause-report
returns-in_default-clause-report g c =
    (refused (codes "E12"), too_long (g.A.Ruled.rules c.args.self.now) c.args.line.kind c.args.bytes.now c.requires.kind c.in_default.not-Within, rw c.code.ensures at c.in_ok-text.ensures, c.with_refused.ensures, tt)
