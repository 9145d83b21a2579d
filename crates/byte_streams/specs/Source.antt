-- What a source gives.
use Rattle.std.specs.Prelude.{ℕ, ◌≡◌, true, false, List, [], ◌∷◌, Option, None, Some, Result, Ok, Err}
use Rattle.std.specs.Io.KnownBytes.{Consumes, IsAtEnd, Keeps}
use Rattle.byte_streams.specs.Streams.{SourceState, Change}
use Rattle.byte_streams.specs.declared.source.ReadFailed.{ReadFailed}

-- these bytes were taken from the front of what was left
abbrev pub Takes : Change SourceState → List ℕ → Type 0
Takes source bytes = Consumes source.before.left source.after.left bytes

-- no byte was taken
abbrev pub TakesNone : Change SourceState → Type 0
TakesNone source = Keeps source.before.left source.after.left

-- no byte was left, and none is
abbrev pub IsEnded : Change SourceState → Type 0
IsEnded source = IsAtEnd source.before.left × TakesNone source

-- the source hadn't failed before, and has not since
abbrev pub ReadsOn : Change SourceState → Type 0
ReadsOn source = (source.before.has_failed ≡ false) × (source.after.has_failed ≡ false)

-- The first byte that was left was taken and is answered, or none at the end; or the source has failed, and no byte is lost. One that had failed before fails.
abbrev pub GivesNext : Change SourceState → Result (Option ℕ) ReadFailed → Type 0
GivesNext source (Ok None) = IsEnded source × ReadsOn source
GivesNext source (Ok (Some byte)) = Takes source (byte ∷ []) × ReadsOn source
GivesNext source (Err failure) = TakesNone source × (source.after.has_failed ≡ true)

-- one read gave the byte, or none at the end
abbrev pub GivenByRead : {R : Type 0} → (R → List ℕ → R → Type 0) → Change R → Option ℕ → Type 0
GivenByRead gives reader None = gives reader.before [] reader.after
GivenByRead gives reader (Some byte) = gives reader.before (byte ∷ []) reader.after
