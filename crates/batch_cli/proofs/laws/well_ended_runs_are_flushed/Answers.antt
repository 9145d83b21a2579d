use Rattle.batch_cli.proofs.LawLemmas.{well_flushed}
use Rattle.batch_cli.proofs.laws.well_ended_runs_are_flushed.Goals as goal

pub returns : goal.returns
returns g c = well_flushed (g.K.Sink.is_flushed c.args.sink.now)
