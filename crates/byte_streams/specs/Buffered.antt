-- What a clause reads of a `BufferedSource`, and when the next bytes are known.
use Rattle.std.specs.Prelude.{ℕ, ◌≡◌, ◌≢◌, ◌≤◌, ◌<◌, ◌-◌, ◌++◌, Bool, true, false, List, [], ◌∷◌, Option, None, Some, Result, Ok, Err, ⊤, length, take, drop}
use Rattle.std.specs.Io.KnownBytes.{prepend_known, Consumes, IsAtEnd, Keeps}
use Rattle.byte_streams.specs.Streams.{SourceState, Change}
use Rattle.byte_streams.specs.declared.source.ReadFailed.{ReadFailed}
use Rattle.byte_streams.specs.declared.buffered.BufferedSource.TheInside.{Inside}

-- what is left begins with these bytes, where it is known
abbrev pub AreNext : Option (List ℕ) → List ℕ → Type 0
AreNext None held = ⊤
AreNext (Some left) held = (more : List ℕ) × (left ≡ held ++ more)

-- a reader, the bytes that were read of it and not given yet, and whether reading has failed
pub record BufferedModel (R : Type 0) : Type 0 where
  pub reader : R
  pub held : List ℕ
  pub has_failed : Bool

-- what is left of it: the bytes that it holds, and then what is left of the reader
abbrev pub buffered_state : {R : Type 0} → (R → Option (List ℕ)) → BufferedModel R → SourceState
buffered_state left source = record { left = prepend_known source.held (left source.reader); has_failed = source.has_failed }

-- one read gave the byte and those that are held behind it, or none at the end
abbrev pub GivenByFill : {R : Type 0} → (R → List ℕ → R → Type 0) → Change (BufferedModel R) → Option ℕ → Type 0
GivenByFill gives source None = gives source.before.reader [] source.after.reader
GivenByFill gives source (Some byte) = gives source.before.reader (byte ∷ source.after.held) source.after.reader

-- ---- what lies in memory

-- the bytes from one place of the buffer up to another are held
abbrev pub buffered_of : {R : Type 0} → Inside R → BufferedModel R
buffered_of inside = record { reader = inside.reader; held = take (inside.end - inside.first) (drop inside.first inside.buffer.items); has_failed = inside.has_failed }

-- the places are in their order and in the buffer, which has room
pub record IsBuffer {R : Type 0} (inside : Inside R) : Type 0 where
  pub order : inside.first ≤ inside.end
  pub within : inside.end ≤ length inside.buffer.items
  pub room : 0 < length inside.buffer.items

-- ---- a read into a buffer that holds nothing

-- Something was read, and is held; or nothing was left, and nothing is; or reading has failed. No byte is lost.
abbrev pub Fills : {R : Type 0} → (R → Option (List ℕ)) → Change (BufferedModel R) → Result Bool ReadFailed → Type 0
Fills left source (Ok true) = (source.after.held ≢ []) × Keeps (left source.before.reader) (buffered_state left source.after).left × (source.after.has_failed ≡ source.before.has_failed)
Fills left source (Ok false) = (source.after.held ≡ []) × Consumes (left source.before.reader) (left source.after.reader) [] × IsAtEnd (left source.after.reader) × (source.after.has_failed ≡ source.before.has_failed)
Fills left source (Err failure) = (source.after.held ≡ []) × Keeps (left source.before.reader) (left source.after.reader) × (source.after.has_failed ≡ true)
