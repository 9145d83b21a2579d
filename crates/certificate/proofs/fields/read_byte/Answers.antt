use Rattle.std.proofs.Common.{arith, refl, [], ◌∷◌}
use Rattle.byte_streams.specs.Streams.{change}
use Rattle.certificate.specs.Readings.{byte_within, byte_in}
use Rattle.certificate.specs.Fields.{SpellsByte}
use Rattle.certificate.specs.declared.faults.FormatFault.TheVariants.{OutOfRange}
use Rattle.certificate.proofs.ReaderLemmas.{passed, cut_short, refused, not_range, below_range, above_range}
use Rattle.certificate.proofs.fields.read_byte.Goals.{then-byte-low-via-then-byte-low, then-byte-low-via-else-byte-low+then-high-byte}
use Rattle.certificate.proofs.fields.read_byte.Goals as goal

pub returns-in_err-byte : goal.returns-in_err-byte
returns-in_err-byte g c =
    let source = change g.S.Source.state c.args.source.now c.next_due.new.source in
    let low = c.args.low in
    let high = c.args.high in
    let f = c.in_err-byte.field-0.0 in
    passed (byte_within low high) (SpellsByte low high) source c.from_residual.result f c.from_residual.ensures.1 (cut_short OutOfRange 1 (byte_in low high) source f c.in_err-byte.ensures)

pub returns-then-byte-low : goal.returns-then-byte-low
returns-then-byte-low g c =
    let source = change g.S.Source.state c.args.source.now c.next_due.new.source in
    let low = c.args.low in
    let high = c.args.high in
    let byte = c.in_ok-byte.byte in
    refused OutOfRange not_range 1 (omega arith) (byte_in low high) source (byte ∷ []) c.in_ok-byte.ensures refl
    (elim c.then-byte-low.branch [
      | then-byte-low-via-then-byte-low w ↦ below_range low high byte w.if-byte-low.true
      | then-byte-low-via-else-byte-low+then-high-byte w ↦ above_range low high byte w.if-high-byte.true
    ])
