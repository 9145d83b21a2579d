use Rattle.byte_streams.specs.Streams.{change}
use Rattle.certificate.specs.Readings.{count, count_in}
use Rattle.certificate.specs.Fields.{SpellsCount}
use Rattle.certificate.specs.declared.faults.FormatFault.TheVariants.{OutOfRange}
use Rattle.certificate.proofs.ReaderLemmas.{passed, cut_short}
use Rattle.certificate.proofs.fields.read_count.Goals as goal

pub returns-in_err-fill : goal.returns-in_err-fill
returns-in_err-fill g c =
    let source = change g.S.Source.state c.args.source.now c.fill.new.source in
    let f = c.in_err-fill.field-0.0 in
    passed count SpellsCount source c.from_residual.result f c.from_residual.ensures.1 (cut_short OutOfRange 8 count_in source f c.in_err-fill.ensures)
