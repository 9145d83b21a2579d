use Rattle.std.proofs.Common.{Err}
use Rattle.certificate.specs.Spellings.{spelling}
use Rattle.batch_runs.proofs.BatchLemmas.{Writes-flushed}
use Rattle.certificate_runs.proofs.certifying.put_certificate.Goals as goal

pub returns-in-Err-clause-writes : goal.returns-in-Err-clause-writes
returns-in-Err-clause-writes g c =
    Writes-flushed (g.K.Sink.state c.args.sink.now) (g.K.Sink.state c.write.new.sink) (g.K.Sink.state c.flush.new.self) (spelling c.args.certificate.now) (Err c.in-Err.field-0) c.in_ok-write.ensures c.in-Err.ensures.flushes
