use Rattle.byte_streams.specs.Streams.{change}
use Rattle.certificate_runs.proofs.EndLemmas.{show_true}
use Rattle.certificate_runs.proofs.showing.run_show.Goals as goal

pub returns-clause-truth : goal.returns-clause-truth
returns-clause-truth g c =
    show_true c.args.style (change g.S.Source.state c.args.source.now c.show_source.new.source) (change g.K.Sink.state c.args.sink.now c.show_source.new.sink) c.show_source.result c.show_source.ensures
