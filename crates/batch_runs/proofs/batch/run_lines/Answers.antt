use Rattle.byte_streams.specs.Streams.{change}
use Rattle.batch_runs.proofs.BatchLemmas.{run_true}
use Rattle.batch_runs.proofs.batch.run_lines.Goals as goal

pub returns-clause-truth : goal.returns-clause-truth
returns-clause-truth g c = λ truthful.
    run_true (g.A.Ruled.rules c.args.solver.now) truthful (change g.S.Source.state c.args.source.now c.report_all.new.source) (change g.K.Sink.state c.args.sink.now c.report_all.new.sink) c.report_all.result c.report_all.ensures.reports
