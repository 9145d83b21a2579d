use Rattle.std.proofs.Common.{arith}
use Rattle.byte_streams.specs.Streams.{change}
use Rattle.certificate.specs.Readings.{letters}
use Rattle.certificate.proofs.ReaderLemmas.{passed}
use Rattle.certificate.proofs.SourceLemmas.{letters_refuse, letters_lack_memory}
use Rattle.certificate.proofs.reading.read_letters.Goals as goal

pub returns-in_err-direction : goal.returns-in_err-direction
returns-in_err-direction g c =
    let state = g.S.Source.state in
    let f = c.in_err-direction.field-0.0 in
    passed (letters c.args.count) _ (change state c.args.source.now c.read_letter.new.source) c.from_residual.result f c.from_residual.ensures.1
    (letters_refuse c.letters.moves.items c.args.count (state c.args.source.now) (state c.letters.source) (state c.read_letter.new.source) f (omega (arith, c.letters.invariant.size, c.letters-test.true)) c.letters.invariant.taken c.in_err-direction.ensures)

pub returns-in-Err : goal.returns-in-Err
returns-in-Err g c =
    let old = c.letters.invariant in
    letters_lack_memory c.letters.moves.items c.args.count (change g.S.Source.state c.args.source.now c.letters.source) (omega (arith, old.size, c.letters-test.true)) old.taken old.on.1 _
