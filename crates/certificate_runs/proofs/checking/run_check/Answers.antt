use Rattle.byte_streams.specs.Streams.{change}
use Rattle.certificate_runs.proofs.HeadlineLemmas.{check_true}
use Rattle.certificate_runs.proofs.checking.run_check.Goals as goal

pub returns-clause-truth : goal.returns-clause-truth
returns-clause-truth g c =
    check_true (change g.S.Source.state c.args.source.now c.check_source.new.source) (change g.K.Sink.state c.args.sink.now c.check_source.new.sink) c.check_source.result c.check_source.ensures
