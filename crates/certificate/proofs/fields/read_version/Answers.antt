use Rattle.std.proofs.Common.{arith, rules, sym}
use Rattle.byte_streams.specs.Streams.{change}
use Rattle.certificate.specs.Readings.{version, version_in}
use Rattle.certificate.specs.Fields.{SpellsVersion}
use Rattle.certificate.specs.declared.faults.FormatFault.TheVariants.{OtherMagic}
use Rattle.certificate.proofs.ReaderLemmas.{passed, cut_short, refused, found, not_magic}
use Rattle.certificate.proofs.TextLemmas.{version_told}
use Rattle.certificate.proofs.fields.read_version.Goals as goal

pub returns-in_err-fill : goal.returns-in_err-fill
returns-in_err-fill g c =
    let source = change g.S.Source.state c.args.source.now c.fill.new.source in
    let f = c.in_err-fill.field-0.0 in
    passed version SpellsVersion source c.from_residual.result f c.from_residual.ensures.1 (cut_short OtherMagic 8 version_in source f c.in_err-fill.ensures)

pub returns-in-Some : goal.returns-in-Some
returns-in-Some g c =
    let source = change g.S.Source.state c.args.source.now c.fill.new.source in
    let text = c.fill.new.text in
    found SpellsVersion source c.in-Some.version text c.in_ok-fill.ensures (version_told c.in-Some.version text (sym c.in-Some.ensures))

pub returns-in-None : goal.returns-in-None
returns-in-None g c =
    let source = change g.S.Source.state c.args.source.now c.fill.new.source in
    let text = c.fill.new.text in
    refused OtherMagic not_magic 8 (omega arith) version_in source text c.in_ok-fill.ensures (search rules) (sym c.in-None.ensures)
