-- The laws of the definitions. Each is the contract of a function that does nothing.
use Rattle.std.specs.Prelude.{ℕ, ◌≡◌, ◌≢◌, ◌+◌, true, false, List, [], ◌∷◌, ◌++◌, Option, None, Some, Result, Ok, Err, is_err}
use Rattle.byte_streams.specs.Streams.{SourceState, SinkState, Change}
use Rattle.byte_streams.specs.Source.{GivesNext, GivenByRead}
use Rattle.byte_streams.specs.Buffered.{AreNext, BufferedModel, GivenByFill}
use Rattle.byte_streams.specs.Sink.{Writes, Flushes, AreTaken, StopsAtFailure}
use Rattle.byte_streams.specs.declared.sink.WriteFailed.{WriteFailed}
use Rattle.byte_streams.specs.declared.source.ReadFailed.{ReadFailed}

-- where bytes are known to be left, the end is not answered
abbrev pub EndsAreTrue : Type 0
EndsAreTrue = (source : Change SourceState) (byte : ℕ) (rest : List ℕ) → source.before.left ≡ Some (byte ∷ rest) → ¬ GivesNext source (Ok None)

-- a byte that is answered is the first of those known to be left, and the others stay
abbrev pub BytesAreFirst : Type 0
BytesAreFirst =
    (source : Change SourceState) (left : List ℕ) (byte : ℕ)
    → source.before.left ≡ Some left
    → GivesNext source (Ok (Some byte))
    → (rest : List ℕ) × (left ≡ byte ∷ rest) × (source.after.left ≡ Some rest)

-- where bytes that are held come next, the first of them is the byte that is answered, and the others come next after it
abbrev pub HeldBytesComeNext : Type 0
HeldBytesComeNext =
    (source : Change SourceState) (left held : List ℕ) (first byte : ℕ)
    → source.before.left ≡ Some left
    → AreNext source.before.left (first ∷ held)
    → GivesNext source (Ok (Some byte))
    → (byte ≡ first) × AreNext source.after.left held

-- a failure takes none of the bytes known to be left
abbrev pub FailuresTakeNone : Type 0
FailuresTakeNone =
    (source : Change SourceState) (left : List ℕ) (failure : ReadFailed) → source.before.left ≡ Some left → GivesNext source (Err failure) → source.after.left ≡ Some left

-- a source has failed exactly where its last answer is a failure
abbrev pub AnswersTellFailures : Type 0
AnswersTellFailures = (source : Change SourceState) (answer : Result (Option ℕ) ReadFailed) → GivesNext source answer → source.after.has_failed ≡ is_err answer

-- a source that has failed answers neither a byte nor the end
abbrev pub FailuresLast : Type 0
FailuresLast = (source : Change SourceState) (answer : Option ℕ) → source.before.has_failed ≡ true → ¬ GivesNext source (Ok answer)

-- a sink has failed exactly where its last put failed
abbrev pub PutsTellFailures : Type 0
PutsTellFailures = (sink : Change SinkState) (bytes : List ℕ) (answer : Result (Unit {0}) WriteFailed) → Writes sink bytes answer → sink.after.has_failed ≡ is_err answer

-- and exactly where its last flush failed
abbrev pub FlushesTellFailures : Type 0
FlushesTellFailures = (sink : Change SinkState) (answer : Result (Unit {0}) WriteFailed) → Flushes sink answer → sink.after.has_failed ≡ is_err answer

-- a put adds its bytes behind what the sink is known to hold, or a beginning of them where it fails
abbrev pub PutsAddBytes : Type 0
PutsAddBytes =
    (sink : Change SinkState) (held bytes : List ℕ) (answer : Result (Unit {0}) WriteFailed)
    → sink.before.contents ≡ Some held
    → Writes sink bytes answer
    → (sent unsent : List ℕ) × (bytes ≡ sent ++ unsent) × (sink.after.contents ≡ Some (held ++ sent)) × (is_err answer ≡ false → unsent ≡ [])

-- a flush adds nothing to what the sink is known to hold, whatever it answers
abbrev pub FlushesAddNone : Type 0
FlushesAddNone = (sink : Change SinkState) (held : List ℕ) (answer : Result (Unit {0}) WriteFailed) → sink.before.contents ≡ Some held → Flushes sink answer → sink.after.contents ≡ Some held

-- every put to a sink that has failed fails, and adds nothing to what the sink is known to hold
abbrev pub PutFailuresLast : Type 0
PutFailuresLast =
    (sink : Change SinkState) (held bytes : List ℕ) (answer : Result (Unit {0}) WriteFailed)
    → sink.before.has_failed ≡ true
    → Writes sink bytes answer
    → (is_err answer ≡ true) × (sink.before.contents ≡ Some held → sink.after.contents ≡ Some held)

-- and every flush to it fails
abbrev pub FlushFailuresLast : Type 0
FlushFailuresLast = (sink : Change SinkState) (answer : Result (Unit {0}) WriteFailed) → sink.before.has_failed ≡ true → Flushes sink answer → is_err answer ≡ true

-- what is noted of calls: how many there were, and the bytes that they gave or took
pub record Notes : Type 0 where
  pub calls : ℕ
  pub bytes : List ℕ

-- with one call more, of these bytes
abbrev pub one_more : Notes → List ℕ → Notes
one_more notes bytes = record { calls = notes.calls + 1; bytes = notes.bytes ++ bytes }

-- Where a reader notes each read, one read more is noted of a byte that a source answers, which gave this byte and those that are held. So it is
-- of the end, where the read gave none.
abbrev pub ReadsAreNoted : {R : Type 0} → (R → List ℕ → R → Type 0) → Type 0
ReadsAreNoted {R} gives =
    (notes : R → Notes)
    → ((old new : R) (bytes : List ℕ) → gives old bytes new → notes new ≡ one_more (notes old) bytes)
    → ((reader : Change R) → GivenByRead gives reader None → notes reader.after ≡ one_more (notes reader.before) [])
    × ((reader : Change R) (byte : ℕ) → GivenByRead gives reader (Some byte) → notes reader.after ≡ one_more (notes reader.before) (byte ∷ []))
    × ((source : Change (BufferedModel R)) → GivenByFill gives source None → notes source.after.reader ≡ one_more (notes source.before.reader) [])
    × ((source : Change (BufferedModel R)) (byte : ℕ) → GivenByFill gives source (Some byte) → notes source.after.reader ≡ one_more (notes source.before.reader) (byte ∷ source.after.held))

-- a writer notes the bytes that each write took, and counts the writes that failed
pub record NotesWrites {W : Type 0} (takes : W → List ℕ → W → Type 0) (fails : W → W → Type 0) (noted : W → List ℕ) (failures : W → ℕ) : Type 0 where
  pub took : (old new : W) (bytes : List ℕ) → takes old bytes new → (noted new ≡ noted old ++ bytes) × (failures new ≡ failures old)
  pub failed : (old new : W) → fails old new → (noted new ≡ noted old) × (failures new ≡ failures old + 1)

-- Of a put that succeeds such a writer notes all bytes, and no failure. Of one that stops it notes bytes that it began with, not all of them, and
-- one failure.
pub record WritesAreNoted {W : Type 0} (takes : W → List ℕ → W → Type 0) (fails : W → W → Type 0) : Type 0 where
  pub puts : (noted : W → List ℕ) (failures : W → ℕ)
      → NotesWrites takes fails noted failures
      → (old new : W) (bytes : List ℕ)
      → AreTaken takes old bytes new
      → (noted new ≡ noted old ++ bytes) × (failures new ≡ failures old)
  pub stops : (noted : W → List ℕ) (failures : W → ℕ)
      → NotesWrites takes fails noted failures
      → (writer : Change W) (bytes : List ℕ)
      → StopsAtFailure takes fails writer bytes
      → (sent unsent : List ℕ) × (bytes ≡ sent ++ unsent) × (unsent ≢ []) × (noted writer.after ≡ noted writer.before ++ sent) × (failures writer.after ≡ failures writer.before + 1)
