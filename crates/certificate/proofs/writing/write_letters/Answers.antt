use Rattle.std.proofs.Common.{◌+◌, ◌∷◌, [], map, take, drop, get_or, ℕ, subst}
use Rattle.byte_streams.specs.Streams.{change}
use Rattle.byte_streams.specs.Sink.{FailsWriting}
use Rattle.board.specs.declared.moves.Move.TheVariants.{U}
use Rattle.board.specs.Letters.{letter_of}
use Rattle.certificate.proofs.ReaderLemmas.{writes_within, letters_cut}
use Rattle.certificate.proofs.writing.write_letters.Goals as goal

pub returns-in_err-put : goal.returns-in_err-put
returns-in_err-put g c =
    let state = g.K.Sink.state in
    let plan = c.args.plan.now in
    let i = c.letters.direction-index in
    let fails = subst (λ (b : ℕ). FailsWriting (change state c.letters.sink c.put.new.self) (b ∷ [])) c.letter.ensures c.in_err-put.ensures in
    writes_within _ (state c.args.sink.now) (state c.letters.sink) (state c.put.new.self) (map letter_of (take i plan)) (letter_of (get_or plan i U) ∷ []) (map letter_of (drop (i + 1) plan)) (map letter_of plan) c.from_residual.result (letters_cut plan i U c.letters-test.true) c.letters.invariant c.from_residual.ensures.1 fails
