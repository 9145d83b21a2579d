use Rattle.std.proofs.Common.{[], ◌∷◌}
use Rattle.byte_streams.proofs.SinkLemmas.{Writes-after}
use Rattle.replay_runs.proofs.sending.send_word.Goals as goal

pub returns-clause-writes : goal.returns-clause-writes
returns-clause-writes g c =
    let sink = g.K.Sink.state in
    Writes-after (sink c.args.sink.now) (sink c.put.new.self) (sink c.send_report.new.sink) c.args.word.now (10 ∷ []) c.send_report.result (rw c.as_bytes.ensures.value at c.in-Ok.ensures) c.send_report.ensures.writes
