-- What the definitions of reading say of streams whose bytes are known.
use Rattle.std.proofs.Common.{ℕ, ◌≡◌, ◌⊎◌, ◌+◌, ◌-◌, ◌<◌, ◌≤◌, true, List, ◌∷◌, ◌++◌, length, length-append, take, ap, Option, None, Some, Ok, Err, inl, inr, subst, sym, refl, ◌∙◌, arith}
use Rattle.std.specs.Io.KnownBytes.{Consumes}
use Rattle.std.proofs.lemmas.List.{take_all}
use Rattle.byte_streams.specs.Streams.{SourceState, Change}
use Rattle.byte_streams.specs.declared.source.ReadFailed.{ReadFailed}
use Rattle.batch_lines.specs.Lines.{lines_of}
use Rattle.batch_lines.specs.Readings.{LineReaderModel, HasNoFeed, TakesKnown, CountsKnown, ReadsLine, StopsReading}
use Rattle.batch_lines.specs.Laws.{EndsTakeNothing, LinesAreNumbered, LinesAreLostToFailures, LostBytesHaveNoFeed}
use Rattle.batch_lines.specs.declared.lines.TheConstants.{INPUT_LIMIT}

pub ends : EndsTakeNothing
ends source reader read = (read.1, read.2)

-- what is left is known, and begins with the line
first_of : (old new : Option (List ℕ)) (input bytes : List ℕ) → old ≡ Some input → TakesKnown old new bytes → (rest : List ℕ) × (new ≡ Some rest) × (lines_of input ≡ bytes ∷ lines_of rest)
first_of old new input bytes is taken = of_new new (subst (λ (left : Option (List ℕ)). TakesKnown left new bytes) is taken)
  where
    of_new : (new : Option (List ℕ)) → TakesKnown (Some input) new bytes → (rest : List ℕ) × (new ≡ Some rest) × (lines_of input ≡ bytes ∷ lines_of rest)
    of_new None none = absurd none
    of_new (Some rest) known = (rest, refl, known.first)

pub numbered : LinesAreNumbered
numbered source reader line input is read =
    let known = first_of source.before.left source.after.left input read.0 is read.1 in
    (read.0, known.0, known.1, known.2, read.3, read.4 ∙ read.3)

-- an input within the limit has no byte more
within : (old new : Option (List ℕ)) (input : List ℕ) (before after : ℕ) → old ≡ Some input → CountsKnown old new before after → before + length input ≤ INPUT_LIMIT → ¬ (INPUT_LIMIT < after)
within old new input before after is counted fits past = of_new new (subst (λ (left : Option (List ℕ)). CountsKnown left new before after) is counted)
  where
    of_new : (new : Option (List ℕ)) → CountsKnown (Some input) new before after → ⊥
    of_new None none = none
    of_new (Some rest) known = omega (arith, known, fits, past)

pub lost : LinesAreLostToFailures
lost source reader failure input is fits read = of_stop read.3
  where
    of_stop : StopsReading source reader.after.taken → source.after.has_failed ≡ true
    of_stop (inl failed) = failed
    of_stop (inr past) = absurd (within source.before.left source.after.left input reader.before.taken reader.after.taken is read.2 fits past)

-- what was taken of known bytes is what comes before those that are left
taken_of : (old new : Option (List ℕ)) (input rest seen : List ℕ) → old ≡ Some input → new ≡ Some rest → Consumes old new seen → input ≡ seen ++ rest
taken_of old new input rest seen was is taken =
    let known = subst (λ (left : Option (List ℕ)). Consumes left new seen) was taken in
    subst (λ (left : Option (List ℕ)). Consumes (Some input) left seen) is known

pub no_feed : LostBytesHaveNoFeed
no_feed source reader failure input rest was is fits read =
    let whole = taken_of source.before.left source.after.left input rest read.0.0 was is read.0.1 in
    let parts : length input ≡ length read.0.0 + length rest = ap length whole ∙ length-append read.0.0 rest in
    let short : length read.0.0 ≤ INPUT_LIMIT - reader.before.taken = omega (arith, parts, fits) in
    (read.0.0, whole, subst HasNoFeed (take_all (INPUT_LIMIT - reader.before.taken) read.0.0 short) read.0.2)
