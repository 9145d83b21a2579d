use Rattle.std.proofs.Common.{arith, refl, [], ◌∷◌, sym, ◌∙◌, ap}
use Rattle.std.specs.Prelude.{ℕ}
use Rattle.byte_streams.specs.Streams.{change}
use Rattle.board.proofs.LetterLemmas.{letter_reads}
use Rattle.certificate.specs.Readings.{letter, letter_in}
use Rattle.certificate.specs.Fields.{SpellsLetter}
use Rattle.certificate.specs.declared.faults.FormatFault.TheVariants.{OutOfRange}
use Rattle.certificate.proofs.ReaderLemmas.{passed, cut_short, refused, found, not_range}
use Rattle.certificate.proofs.fields.read_letter.Goals as goal

pub returns-in_err-byte : goal.returns-in_err-byte
returns-in_err-byte g c =
    let source = change g.S.Source.state c.args.source.now c.next_due.new.source in
    let f = c.in_err-byte.field-0.0 in
    passed letter SpellsLetter source c.from_residual.result f c.from_residual.ensures.1 (cut_short OutOfRange 1 letter_in source f c.in_err-byte.ensures)

pub returns-in-Some : goal.returns-in-Some
returns-in-Some g c =
    let source = change g.S.Source.state c.args.source.now c.next_due.new.source in
    let byte = c.in_ok-byte.byte in
    found SpellsLetter source c.in-Some.direction (byte ∷ []) c.in_ok-byte.ensures (ap (λ (b : ℕ). b ∷ []) ((letter_reads c.in-Some.direction byte).0 (sym c.from_letter.ensures ∙ c.in-Some.is)))

pub returns-in-None : goal.returns-in-None
unfolding letter_in
returns-in-None g c =
    let source = change g.S.Source.state c.args.source.now c.next_due.new.source in
    refused OutOfRange not_range 1 (omega arith) letter_in source (c.in_ok-byte.byte ∷ []) c.in_ok-byte.ensures refl (sym c.from_letter.ensures ∙ c.in-None.is)
