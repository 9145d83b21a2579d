use Rattle.std.proofs.Common.{length, take, length-take, arith}
use Rattle.byte_streams.specs.Streams.{change}
use Rattle.certificate.proofs.ReaderLemmas.{passed_due, ends_later}
use Rattle.certificate.proofs.fields.fill.Goals as goal

pub returns-in_err-text : goal.returns-in_err-text
returns-in_err-text g c =
    let state = g.S.Source.state in
    let size = length c.args.text.now in
    passed_due size _ (change state c.args.source.now c.next_due.new.source) c.from_residual.result c.in_err-text.field-0.0 c.from_residual.ensures.1
    (ends_later (state c.args.source.now) (state c.bytes.source) (state c.next_due.new.source) (take c.bytes.place c.bytes.text) 1 size c.in_err-text.field-0.0 (omega (arith, length-take c.bytes.place c.bytes.text, c.bytes.invariant.size, c.bytes-test.true)) c.bytes.invariant.taken c.in_err-text.ensures)
