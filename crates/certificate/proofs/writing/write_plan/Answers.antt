use Rattle.std.proofs.Common.{length, map}
use Rattle.byte_streams.specs.Streams.{change}
use Rattle.byte_streams.proofs.SinkLemmas.{Writes-after}
use Rattle.board.specs.Letters.{letter_of}
use Rattle.certificate.specs.Spellings.{number_text}
use Rattle.certificate.proofs.ReaderLemmas.{writes_stop}
use Rattle.certificate.proofs.writing.write_plan.Goals as goal

pub returns-in_err-write_number : goal.returns-in_err-write_number
returns-in_err-write_number g c =
    let plan = c.args.plan.now in
    writes_stop _ (change g.K.Sink.state c.args.sink.now c.write_number.new.sink) (number_text (length plan)) (map letter_of plan) c.from_residual.result c.from_residual.ensures.1 c.in_err-write_number.ensures

pub returns : goal.returns
returns g c =
    let state = g.K.Sink.state in
    let plan = c.args.plan.now in
    Writes-after (state c.args.sink.now) (state c.write_number.new.sink) (state c.write_letters.new.sink) (number_text (length plan)) (map letter_of plan) c.write_letters.result c.in_ok-write_number.ensures c.write_letters.ensures
