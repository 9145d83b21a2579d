-- What a reader of lines takes from its source.
use Rattle.std.specs.Prelude.{ℕ, ◌≡◌, ◌≢◌, ◌⊎◌, ◌+◌, ◌-◌, ◌<◌, ◌≤◌, true, List, [], ◌∷◌, ◌++◌, length, take, Option, None, Some, Result, Ok, Err, ⊤}
use Rattle.std.specs.List.{AllByRecursion}
use Rattle.byte_streams.specs.Streams.{SourceState, Change}
use Rattle.byte_streams.specs.Source.{Takes, IsEnded, ReadsOn}
use Rattle.byte_streams.specs.declared.source.ReadFailed.{ReadFailed}
use Rattle.batch_lines.specs.Lines.{lines_of, without_return, line_kind_of}
use Rattle.batch_lines.specs.Starts.{IsScanned}
use Rattle.batch_lines.specs.declared.lines.Line.{Line}
use Rattle.batch_lines.specs.declared.lines.LineKind.{LineKind}
use Rattle.batch_lines.specs.declared.lines.Scan.{Scan}
use Rattle.batch_lines.specs.declared.lines.LineKind.TheVariants.{Within}
use Rattle.batch_lines.specs.declared.lines.TheConstants.{INPUT_LIMIT}

-- the state of a reader: how many lines and how many bytes it has taken, and what it keeps of the last line
pub record LineReaderModel : Type 0 where
  pub lines : ℕ
  pub taken : ℕ
  pub kept : List ℕ

-- no byte of these is a line feed
abbrev pub HasNoFeed : List ℕ → Type 0
HasNoFeed bytes = AllByRecursion (λ b. b ≢ 10) bytes

-- the first line of the input is taken, with its line feed if it has one, and nothing behind it
pub record TakesFirst (input rest line : List ℕ) : Type 0 where
  pub first : lines_of input ≡ line ∷ lines_of rest
  pub whole : (input ≡ line ++ 10 ∷ rest) ⊎ ((input ≡ line) × (rest ≡ []))

-- the same of what is left of a source, where that is known
abbrev pub TakesKnown : Option (List ℕ) → Option (List ℕ) → List ℕ → Type 0
TakesKnown None new line = ⊤
TakesKnown (Some input) None line = ⊥
TakesKnown (Some input) (Some rest) line = TakesFirst input rest line

-- the first line of what is left is taken
abbrev pub TakesLine : Change SourceState → List ℕ → Type 0
TakesLine source line = TakesKnown source.before.left source.after.left line

-- a line of these bytes is judged: its kind, and where it is within the limit its bytes are kept, without a carriage return at their end
pub record IsJudged (line : List ℕ) (kind : LineKind) (kept : List ℕ) : Type 0 where
  pub judged : kind ≡ line_kind_of line
  pub whole : kind ≡ Within → kept ≡ without_return line

-- each byte that is taken is counted, where what is left is known
abbrev pub CountsKnown : Option (List ℕ) → Option (List ℕ) → ℕ → ℕ → Type 0
CountsKnown None new before after = ⊤
CountsKnown (Some input) None before after = ⊥
CountsKnown (Some input) (Some rest) before after = before + length input ≡ after + length rest

-- each byte that is taken is counted
abbrev pub CountsTaken : Change SourceState → Change ℕ → Type 0
CountsTaken source taken = CountsKnown source.before.left source.after.left taken.before taken.after

-- no line is taken whole: no byte that was taken within the limit is a line feed
abbrev pub TakesNoLine : Change SourceState → ℕ → Type 0
TakesNoLine source room = (seen : List ℕ) × Takes source seen × HasNoFeed (take room seen)

-- the source hasn't failed, and no more bytes were taken than an input may have
abbrev pub GoesOn : Change SourceState → ℕ → Type 0
GoesOn source taken = ReadsOn source × (taken ≤ INPUT_LIMIT)

-- the source has failed, or more bytes were taken than an input may have
abbrev pub StopsReading : Change SourceState → ℕ → Type 0
StopsReading source taken = (source.after.has_failed ≡ true) ⊎ (INPUT_LIMIT < taken)

-- The next line is taken and numbered; or none is left and nothing is taken; or the line is lost.
abbrev pub ReadsLine : Change SourceState → Change LineReaderModel → Result (Option Line) ReadFailed → Type 0
ReadsLine source reader (Ok None) = IsEnded source × (reader.after.lines ≡ reader.before.lines) × (reader.after.taken ≡ reader.before.taken) × GoesOn source reader.after.taken
ReadsLine source reader (Ok (Some line)) =
    (bytes : List ℕ) × TakesLine source bytes × IsJudged bytes line.kind reader.after.kept × (line.number ≡ reader.before.lines + 1) × (reader.after.lines ≡ line.number) × (reader.before.taken < reader.after.taken)
    × CountsTaken source (record { before = reader.before.taken; after = reader.after.taken }) × GoesOn source reader.after.taken
ReadsLine source reader (Err failure) =
    TakesNoLine source (INPUT_LIMIT - reader.before.taken) × (reader.after.lines ≡ reader.before.lines)
    × CountsTaken source (record { before = reader.before.taken; after = reader.after.taken }) × StopsReading source reader.after.taken

-- The next line is taken, and so much is remembered of it; or none is left and nothing is taken; or the line is lost. What is taken is counted.
abbrev pub ScansLine : Change SourceState → Change ℕ → List ℕ → Result (Option Scan) ReadFailed → Type 0
ScansLine source taken kept (Ok None) = IsEnded source × (taken.after ≡ taken.before) × GoesOn source taken.after
ScansLine source taken kept (Ok (Some scan)) = (line : List ℕ) × TakesLine source line × IsScanned line kept scan × (taken.before < taken.after) × CountsTaken source taken × GoesOn source taken.after
ScansLine source taken kept (Err failure) = TakesNoLine source (INPUT_LIMIT - taken.before) × CountsTaken source taken × StopsReading source taken.after × (taken.before ≤ taken.after)
