use Rattle.std.proofs.Common.{refl}
use Rattle.byte_streams.specs.Streams.{change}
use Rattle.certificate_runs.proofs.CertifyLemmas.{replied, unreplied, is_passed_on}
use Rattle.certificate_runs.proofs.certifying.reply_to_first.Goals as goal

pub returns-in-Ok-clause-replies : goal.returns-in-Ok-clause-replies
returns-in-Ok-clause-replies g c =
    let found = rw c.in-Ok-Some.field-0-is at c.in-Ok-Some.ensures in
    (found.0, replied (g.A.Prover.setup c.args.prover.now).tables.split (g.A.ProofRuled.rules c.args.prover.now) (change g.S.Source.state c.args.source.now c.find_line.new.source) (change g.K.Sink.state c.args.sink.now c.put_reply.new.sink) c.in-Ok-Some.line c.find_line.new.reader c.in-Ok.reply c.put_reply.result found.1 (rw c.bytes.ensures at c.in-Ok.ensures.reply) c.put_reply.ensures.puts)

pub returns-in-Err-reply_to_line-clause-replies : goal.returns-in-Err-reply_to_line-clause-replies
returns-in-Err-reply_to_line-clause-replies g c =
    let found = rw c.in-Ok-Some.field-0-is at c.in-Ok-Some.ensures in
    (found.0, unreplied (g.A.Prover.setup c.args.prover.now).tables.split (g.A.ProofRuled.rules c.args.prover.now) (change g.S.Source.state c.args.source.now c.find_line.new.source) (change g.K.Sink.state c.args.sink.now c.args.sink.now) c.in-Ok-Some.line c.find_line.new.reader c.in-Err-reply_to_line.fault found.1 (rw c.bytes.ensures at c.in-Err-reply_to_line.ensures.lacking) refl)

pub returns-in-Ok-clause-flushed : goal.returns-in-Ok-clause-flushed
returns-in-Ok-clause-flushed g c = is_passed_on (change g.K.Sink.state c.args.sink.now c.put_reply.new.sink) c.in-Ok.reply c.put_reply.result c.put_reply.ensures.puts c.put_reply.ensures.last
