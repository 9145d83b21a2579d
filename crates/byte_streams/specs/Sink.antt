-- What a sink takes.
use Rattle.std.specs.Prelude.{ℕ, ◌≡◌, ◌<◌, true, false, List, [], ◌++◌, length, Result, Ok, Err}
use Rattle.std.specs.Io.KnownBytes.{Appends, Keeps}
use Rattle.byte_streams.specs.Streams.{SinkState, Change}

-- all of the bytes were written after those that the sink held
abbrev pub Puts : Change SinkState → List ℕ → Type 0
Puts sink bytes = Appends sink.before.contents sink.after.contents bytes

-- no byte was written
abbrev pub PutsNone : Change SinkState → Type 0
PutsNone sink = Keeps sink.before.contents sink.after.contents

-- a beginning of the bytes was written: none, some or all of them
pub record PutsBeginning (sink : Change SinkState) (bytes : List ℕ) : Type 0 where
  pub sent : List ℕ
  pub unsent : List ℕ
  pub parts : bytes ≡ sent ++ unsent
  pub put : Puts sink sent

-- the sink hadn't failed before, and has not since
abbrev pub WritesOn : Change SinkState → Type 0
WritesOn sink = (sink.before.has_failed ≡ false) × (sink.after.has_failed ≡ false)

-- all of the bytes were written, to a sink that hasn't failed
abbrev pub WritesAll : Change SinkState → List ℕ → Type 0
WritesAll sink bytes = Puts sink bytes × WritesOn sink

-- the sink has failed, and a beginning of the bytes was written, and nothing where it had failed before
abbrev pub FailsWriting : Change SinkState → List ℕ → Type 0
FailsWriting sink bytes = PutsBeginning sink bytes × (sink.after.has_failed ≡ true) × (sink.before.has_failed ≡ true → PutsNone sink)

-- the one or the other, as the answer says
abbrev pub Writes : {E : Type 0} → Change SinkState → List ℕ → Result (Unit {0}) E → Type 0
Writes sink bytes (Ok done) = WritesAll sink bytes
Writes sink bytes (Err fault) = FailsWriting sink bytes

-- nothing was written, and what was held back was passed on; or the sink has failed
abbrev pub Flushes : {E : Type 0} → Change SinkState → Result (Unit {0}) E → Type 0
Flushes sink (Ok done) = PutsNone sink × WritesOn sink
Flushes sink (Err fault) = PutsNone sink × (sink.after.has_failed ≡ true)

-- A chain of writes leads from the old state, and together they took the bytes, front to back.
pub data AreTaken {W : Type 0} (takes : W → List ℕ → W → Type 0) (old : W) : List ℕ → W → Type 0 where
  by_none : AreTaken takes old [] old
  by_one_more : (sent part : List ℕ) (before new : W) → AreTaken takes old sent before → takes before part new → AreTaken takes old (sent ++ part) new

-- a chain of writes took a beginning of the bytes, and one more write, of bytes that were left, failed
pub record StopsAtFailure {W : Type 0} (takes : W → List ℕ → W → Type 0) (fails : W → W → Type 0) (writer : Change W) (bytes : List ℕ) : Type 0 where
  pub sent : List ℕ
  pub unsent : List ℕ
  pub between : W
  pub parts : bytes ≡ sent ++ unsent
  pub left : 0 < length unsent
  pub taken : AreTaken takes writer.before sent between
  pub failed : fails between writer.after
