-- Lines that were read so far, and the first one that isn't passed over.
use Rattle.std.proofs.Common.{◌≡◌, ◌≢◌, inl, inr, ℕ, ◌-◌, List, [], ◌∷◌, ◌++◌, true, Ok, Err, All, refl, sym, ap, ◌∙◌, arith, Option, None, Some, append-nil, ◌⊎◌, ◌<◌, ◌^◌, length-append}
use Rattle.std.proofs.KnownBytes.{Consumes-nil, Consumes-kept, Consumes-trans}
use Rattle.std.specs.Io.KnownBytes.{IsAtEnd}
use Rattle.std.proofs.lemmas.List.Elements.{All-nil, All-cons, All-append}
use Rattle.byte_streams.specs.Streams.{SourceState, Change, from_to}
use Rattle.byte_streams.specs.Source.{TakesNone}
use Rattle.byte_streams.specs.declared.source.ReadFailed.{ReadFailed}
use Rattle.batch_lines.specs.Lines.{lines_of}
use Rattle.batch_lines.specs.Readings.{LineReaderModel, ReadsLine, CountsKnown, StopsReading, TakesNoLine}
use Rattle.batch_lines.specs.declared.lines.Line.{Line}
use Rattle.batch_lines.specs.declared.lines.LineKind.TheVariants.{PassedOver}
use Rattle.batch_lines.specs.declared.lines.TheConstants.{INPUT_LIMIT}
use Rattle.batch_lines.proofs.LineLemmas.{counted_at_once}
use Rattle.batch_runs.specs.Batches.{AreRead, AreAll, AreFirst, LosesLine, IsTooLong, TakesSome}
use Rattle.batch_runs.specs.FirstLines.{IsPassedOver, FindsFirst, HasRead, SeeksFirst}
use Rattle.batch_runs.proofs.BatchLemmas.{AreRead-more, AreFirst-read, TakesSome-line, CountsKnown-more}

-- a reader that has taken nothing
abbrev pub fresh : LineReaderModel
fresh = record { lines = 0; taken = 0; kept = [] }

pub HasRead-none : (a : SourceState) → HasRead (from_to a a) fresh []
HasRead-none a = record { read = none a.left; some = ([], Consumes-nil a.left); counted = counted_at_once a.left 0; numbered = refl }
  where
    none : (input : Option (List ℕ)) → AreRead input input []
    none None = tt
    none (Some bytes) = refl

-- one line more
pub HasRead-more : (a b c : SourceState) (r s : LineReaderModel) (lines : List (List ℕ)) (line : Line) → HasRead (from_to a b) r lines → (read : ReadsLine (from_to b c) (from_to r s) (Ok (Some line))) → HasRead (from_to a c) s (lines ++ read.0 ∷ [])
HasRead-more a b c r s lines line before read =
    let longer = length-append lines (read.0 ∷ []) in
    record {
      read = AreRead-more a.left b.left c.left lines read.0 before.read read.1;
      some = TakesSome-line a b c read.0 before.some read.1;
      counted = CountsKnown-more a.left b.left c.left 0 r.taken s.taken before.counted read.6;
      numbered = omega (arith, read.4, read.3, before.numbered, longer);
    }

ended : (input now : Option (List ℕ)) (lines : List (List ℕ)) → AreRead input now lines → IsAtEnd now → AreAll input lines
ended None now lines read end = tt
ended (Some input) None lines read end = absurd read
ended (Some input) (Some rest) lines read end = read ∙ ap (λ (bytes : List ℕ). lines ++ lines_of bytes) end ∙ append-nil lines

-- no line more
pub HasRead-end : (a b c : SourceState) (r s : LineReaderModel) (lines : List (List ℕ)) → HasRead (from_to a b) r lines → ReadsLine (from_to b c) (from_to r s) (Ok None) → AreAll a.left lines
HasRead-end a b c r s lines before read = ended a.left b.left lines before.read read.0.0

-- these are the first lines
pub HasRead-first : (a b : SourceState) (r : LineReaderModel) (lines : List (List ℕ)) → HasRead (from_to a b) r lines → AreFirst a.left lines
HasRead-first a b r lines before = AreFirst-read a.left b.left lines before.read

-- an input is too long where more bytes of it were counted than the limit
too_long : (a b c : Option (List ℕ)) (x y : ℕ) → CountsKnown a b 0 x → CountsKnown b c x y → INPUT_LIMIT < y → IsTooLong a
too_long None b c x y p q past = tt
too_long (Some input) None c x y p q past = absurd p
too_long (Some input) (Some left) None x y p q past = absurd q
too_long (Some input) (Some left) (Some rest) x y p q past = omega (arith, p, q, past)

-- why a line is lost
lost_for : (a b c : SourceState) (x y : ℕ) → CountsKnown a.left b.left 0 x → CountsKnown b.left c.left x y → StopsReading (from_to b c) y → (c.has_failed ≡ true) ⊎ IsTooLong a.left
lost_for a b c x y before now (inl failed) = inl failed
lost_for a b c x y before now (inr past) = inr (too_long a.left b.left c.left x y before now past)

-- the next line is lost
pub HasRead-lost : (a b c : SourceState) (r s : LineReaderModel) (lines : List (List ℕ)) (failure : ReadFailed) → HasRead (from_to a b) r lines → ReadsLine (from_to b c) (from_to r s) (Err failure) → LosesLine (from_to a c) lines
HasRead-lost a b c r s lines failure before lost =
    record { between = b; first = before.some; taken = r.taken; whole = before.read; counted = before.counted; lost = lost.0; cause = lost_for a b c r.taken s.taken before.counted lost.2 lost.3 }

-- ---- the first line that isn't passed over

-- what was taken, and then nothing
TakesSome-end : (a b c : SourceState) → TakesSome (from_to a b) → TakesNone (from_to b c) → TakesSome (from_to a c)
TakesSome-end a b c before none = (before.0, Consumes-kept a.left b.left c.left before.0 before.1 none)

-- what was taken, and then of a line that was lost
TakesSome-lost : (a b c : SourceState) (room : ℕ) → TakesSome (from_to a b) → TakesNoLine (from_to b c) room → TakesSome (from_to a c)
TakesSome-lost a b c room before (seen, taken, none) = (before.0 ++ seen, Consumes-trans a.left b.left c.left before.0 seen before.1 taken)

-- these lines were read, and all are passed over
pub record IsSearching (source : Change SourceState) (reader : LineReaderModel) : Type 0 where
  pub lines : List (List ℕ)
  pub read : HasRead source reader lines
  pub passed : All IsPassedOver lines

pub searching_begins : (a : SourceState) → IsSearching (from_to a a) fresh
searching_begins a = record { lines = []; read = HasRead-none a; passed = All-nil IsPassedOver }

-- one line more is passed over
pub searching_on : (a b c : SourceState) (r s : LineReaderModel) (line : Line) → IsSearching (from_to a b) r → ReadsLine (from_to b c) (from_to r s) (Ok (Some line)) → line.kind ≡ PassedOver → IsSearching (from_to a c) s
searching_on a b c r s line searching read passed = record {
  lines = searching.lines ++ read.0 ∷ [];
  read = HasRead-more a b c r s searching.lines line searching.read read;
  passed = All-append IsPassedOver searching.lines (read.0 ∷ []) searching.passed (All-cons IsPassedOver read.0 [] (sym read.2.judged ∙ passed) (All-nil IsPassedOver));
}

pub searching_ends : (a b c : SourceState) (r s : LineReaderModel) → IsSearching (from_to a b) r → ReadsLine (from_to b c) (from_to r s) (Ok None) → SeeksFirst (from_to a c) s (Ok None)
searching_ends a b c r s searching read =
    (TakesSome-end a b c searching.read.some read.0.1, (read.3.0.1, (searching.lines, HasRead-end a b c r s searching.lines searching.read read, searching.passed)))

pub searching_fails : (a b c : SourceState) (r s : LineReaderModel) (failure : ReadFailed) → IsSearching (from_to a b) r → ReadsLine (from_to b c) (from_to r s) (Err failure) → SeeksFirst (from_to a c) s (Err failure)
searching_fails a b c r s failure searching lost =
    (TakesSome-lost a b c (INPUT_LIMIT - r.taken) searching.read.some lost.0, (searching.lines, HasRead-lost a b c r s searching.lines failure searching.read lost, searching.passed))

pub searching_finds : (a b c : SourceState) (r s : LineReaderModel) (line : Line) → IsSearching (from_to a b) r → ReadsLine (from_to b c) (from_to r s) (Ok (Some line)) → line.kind ≢ PassedOver → line.number < 2 ^ 64 → SeeksFirst (from_to a c) s (Ok (Some line))
searching_finds a b c r s line searching read other small =
    let has = HasRead-more a b c r s searching.lines line searching.read read in
    let first : FindsFirst (from_to a c) searching.lines read.0 =
    record { read = has.read; before = searching.passed; here = λ over. other (read.2.judged ∙ over); few = omega (arith, read.3, searching.read.numbered, small) } in
    (has.some, (read.7.0.1, (searching.lines, read.0, first, has, read.2, omega (arith, read.3, searching.read.numbered))))
