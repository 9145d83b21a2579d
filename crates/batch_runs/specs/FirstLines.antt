-- What was read of an input so far, and its first line that isn't passed over.
use Rattle.std.specs.Prelude.{ℕ, ◌≡◌, ◌+◌, ◌^◌, ◌<◌, List, [], ◌∷◌, ◌++◌, length, Option, None, Some, Result, Ok, Err, All}
use Rattle.byte_streams.specs.Streams.{SourceState, Change, from_to}
use Rattle.byte_streams.specs.declared.source.ReadFailed.{ReadFailed}
use Rattle.batch_lines.specs.Lines.{line_kind_of}
use Rattle.batch_lines.specs.Readings.{LineReaderModel, CountsTaken, IsJudged}
use Rattle.batch_lines.specs.declared.lines.Line.{Line}
use Rattle.batch_lines.specs.declared.lines.LineKind.TheVariants.{PassedOver}
use Rattle.batch_runs.specs.Batches.{AreRead, AreAll, TakesSome, LosesLine, IsReadable}

-- the line is passed over
abbrev pub IsPassedOver : List ℕ → Type 0
IsPassedOver line = line_kind_of line ≡ PassedOver

-- these are the lines that were read whole since the input began, and the reader has counted them and their bytes
pub record HasRead (source : Change SourceState) (reader : LineReaderModel) (lines : List (List ℕ)) : Type 0 where
  pub read : AreRead source.before.left source.after.left lines
  pub some : TakesSome source
  pub counted : CountsTaken source (from_to 0 reader.taken)
  pub numbered : reader.lines ≡ length lines

-- some lines were read that are passed over, and then this one, which isn't
pub record FindsFirst (source : Change SourceState) (passed : List (List ℕ)) (line : List ℕ) : Type 0 where
  pub read : AreRead source.before.left source.after.left (passed ++ line ∷ [])
  pub before : All IsPassedOver passed
  pub here : ¬ IsPassedOver line
  pub few : length passed + 1 < 2 ^ 64

-- every line is passed over
abbrev pub PassesAll : Change SourceState → Type 0
PassesAll source = (lines : List (List ℕ)) × AreAll source.before.left lines × All IsPassedOver lines

-- the lines that were read whole are passed over, and the next one is lost
abbrev pub LosesFirst : Change SourceState → Type 0
LosesFirst source = (lines : List (List ℕ)) × LosesLine source lines × All IsPassedOver lines

-- the first line that isn't passed over is found, with its number, and its bytes are kept where they are to be read; or there is none; or it is lost
abbrev pub FindsLine : Change SourceState → LineReaderModel → Result (Option Line) ReadFailed → Type 0
FindsLine source reader (Ok None) = IsReadable source × PassesAll source
FindsLine source reader (Ok (Some line)) =
    IsReadable source
    × ((passed : List (List ℕ)) × (bytes : List ℕ) × FindsFirst source passed bytes × HasRead source reader (passed ++ bytes ∷ []) × IsJudged bytes line.kind reader.kept × (line.number ≡ length passed + 1))
FindsLine source reader (Err failure) = LosesFirst source

-- some bytes are taken, from the front, and the search ends so
abbrev pub SeeksFirst : Change SourceState → LineReaderModel → Result (Option Line) ReadFailed → Type 0
SeeksFirst source reader result = TakesSome source × FindsLine source reader result
