-- The laws of the definitions. Each is the contract of a function that does nothing.
use Rattle.std.specs.Prelude.{ℕ, ◌≡◌, ◌+◌, ◌≤◌, true, List, ◌∷◌, ◌++◌, length, None, Some, Ok, Err}
use Rattle.byte_streams.specs.Streams.{SourceState, Change}
use Rattle.byte_streams.specs.declared.source.ReadFailed.{ReadFailed}
use Rattle.batch_lines.specs.Lines.{lines_of}
use Rattle.batch_lines.specs.Readings.{LineReaderModel, HasNoFeed, ReadsLine}
use Rattle.batch_lines.specs.declared.lines.Line.{Line}
use Rattle.batch_lines.specs.declared.lines.TheConstants.{INPUT_LIMIT}

-- at the end a reader has taken as many lines and bytes as before
abbrev pub EndsTakeNothing : Type 0
EndsTakeNothing =
    (source : Change SourceState) (reader : Change LineReaderModel) → ReadsLine source reader (Ok None) → (reader.after.lines ≡ reader.before.lines) × (reader.after.taken ≡ reader.before.taken)

-- the line that is answered is the first line of what was left, and its number is the count of the lines taken, itself among them
abbrev pub LinesAreNumbered : Type 0
LinesAreNumbered =
    (source : Change SourceState) (reader : Change LineReaderModel) (line : Line) (input : List ℕ)
    → source.before.left ≡ Some input
    → ReadsLine source reader (Ok (Some line))
    → (bytes rest : List ℕ) × (source.after.left ≡ Some rest) × (lines_of input ≡ bytes ∷ lines_of rest) × (line.number ≡ reader.before.lines + 1) × (reader.after.lines ≡ reader.before.lines + 1)

-- a fresh reader loses a line of an input within the limit only where the source has failed
abbrev pub LinesAreLostToFailures : Type 0
LinesAreLostToFailures =
    (source : Change SourceState) (reader : Change LineReaderModel) (failure : ReadFailed) (input : List ℕ)
    → source.before.left ≡ Some input
    → reader.before.taken + length input ≤ INPUT_LIMIT
    → ReadsLine source reader (Err failure)
    → source.after.has_failed ≡ true

-- where a line of an input within the limit is lost, no byte that was taken is a line feed
abbrev pub LostBytesHaveNoFeed : Type 0
LostBytesHaveNoFeed =
    (source : Change SourceState) (reader : Change LineReaderModel) (failure : ReadFailed) (input rest : List ℕ)
    → source.before.left ≡ Some input
    → source.after.left ≡ Some rest
    → reader.before.taken + length input ≤ INPUT_LIMIT
    → ReadsLine source reader (Err failure)
    → (seen : List ℕ) × (input ≡ seen ++ rest) × HasNoFeed seen
