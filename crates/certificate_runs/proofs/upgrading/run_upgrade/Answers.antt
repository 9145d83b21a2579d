use Rattle.byte_streams.specs.Streams.{change}
use Rattle.certificate_runs.proofs.HeadlineLemmas.{upgrade_true}
use Rattle.certificate_runs.proofs.upgrading.run_upgrade.Goals as goal

pub returns-clause-truth : goal.returns-clause-truth
returns-clause-truth g c =
    upgrade_true (change g.S.Source.state c.args.source.now c.upgrade_source.new.source) (change g.K.Sink.state c.args.sink.now c.upgrade_source.new.sink) c.upgrade_source.result c.upgrade_source.ensures.upgrades
