-- What a source gives, where the bytes that are left are known.
use Rattle.std.proofs.Common.{◌≡◌, ℕ, true, List, [], ◌∷◌, ◌++◌, Option, None, Some, Ok, refl, sym, ap, ◌∙◌, subst}
use Rattle.std.proofs.lemmas.Bool.{false≢true}
use Rattle.std.specs.Io.KnownBytes.{Consumes, Keeps}
use Rattle.byte_streams.specs.Streams.{SourceState, Change}
use Rattle.byte_streams.specs.Source.{GivesNext}
use Rattle.byte_streams.specs.Buffered.{AreNext}
use Rattle.byte_streams.specs.Laws.{HeldBytesComeNext, ReadsAreNoted}

-- one byte was taken from the front
pub one_taken : (left : List ℕ) (after : Option (List ℕ)) (byte : ℕ) → Consumes (Some left) after (byte ∷ []) → (rest : List ℕ) × (left ≡ byte ∷ rest) × (after ≡ Some rest)
one_taken left None byte took = absurd took
one_taken left (Some rest) byte took = (rest, took, refl)

abbrev head_of : List ℕ → ℕ
head_of [] = 0
head_of (x ∷ xs) = x

abbrev tail_of : List ℕ → List ℕ
tail_of [] = []
tail_of (x ∷ xs) = xs

-- bytes that are held come next, one after the other
pub held_next : HeldBytesComeNext
held_next source left held first byte before next gives =
    let taken = one_taken left source.after.left byte (subst (λ (o : Option (List ℕ)). Consumes o source.after.left (byte ∷ [])) before gives.0) in
    let ahead : AreNext (Some left) (first ∷ held) = subst (λ (o : Option (List ℕ)). AreNext o (first ∷ held)) before next in
    let same : byte ∷ taken.0 ≡ first ∷ (held ++ ahead.0) = sym taken.1 ∙ ahead.1 in
    (ap head_of same, subst (λ (o : Option (List ℕ)). AreNext o held) (sym taken.2) (ahead.0, ap tail_of same))

-- what was left is left
pub all_kept : (left : List ℕ) (after : Option (List ℕ)) → Keeps (Some left) after → after ≡ Some left
all_kept left None keeps = absurd keeps
all_kept left (Some rest) keeps = ap Some keeps

-- a source that has failed gives nothing
pub none_given : (source : Change SourceState) (answer : Option ℕ) → source.before.has_failed ≡ true → ¬ GivesNext source (Ok answer)
none_given source None failed gives = false≢true (sym gives.1.0 ∙ failed)
none_given source (Some byte) failed gives = false≢true (sym gives.1.0 ∙ failed)

-- each read is noted
pub reads_noted : {R : Type 0} → (gives : R → List ℕ → R → Type 0) → ReadsAreNoted gives
reads_noted gives notes noted = (
  (λ reader given. noted reader.before reader.after [] given),
  (λ reader byte given. noted reader.before reader.after (byte ∷ []) given),
  (λ source given. noted source.before.reader source.after.reader [] given),
  (λ source byte given. noted source.before.reader source.after.reader (byte ∷ source.after.held) given),
)
