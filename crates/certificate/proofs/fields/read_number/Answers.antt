use Rattle.std.proofs.Common.{arith, rules}
use Rattle.byte_streams.specs.Streams.{change}
use Rattle.certificate.specs.Readings.{number_within, number_in}
use Rattle.certificate.specs.Fields.{SpellsNumberWithin}
use Rattle.certificate.specs.declared.faults.FormatFault.TheVariants.{OutOfRange}
use Rattle.certificate.proofs.ReaderLemmas.{passed, cut_short, refused, not_range, number_too_high}
use Rattle.certificate.proofs.fields.read_number.Goals as goal

pub returns-in_err-fill : goal.returns-in_err-fill
returns-in_err-fill g c =
    let source = change g.S.Source.state c.args.source.now c.fill.new.source in
    let f = c.in_err-fill.field-0.0 in
    passed (number_within c.args.high) (SpellsNumberWithin c.args.high) source c.from_residual.result f c.from_residual.ensures.1 (cut_short OutOfRange 4 (number_in c.args.high) source f c.in_err-fill.ensures)

pub returns-then-number-high : goal.returns-then-number-high
returns-then-number-high g c =
    let source = change g.S.Source.state c.args.source.now c.fill.new.source in
    refused OutOfRange not_range 4 (omega arith) (number_in c.args.high) source c.fill.new.text c.in_ok-fill.ensures (search rules) (number_too_high c.fill.new.text c.args.high c.number_from-number.result c.number_from-number.ensures.value c.if-number-high.true)
