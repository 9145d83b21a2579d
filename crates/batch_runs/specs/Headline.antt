-- The main theorem: what a reader of the output may believe.
use Rattle.std.specs.Prelude.{ℕ, ◌≡◌, ◌<◌, ◌+◌, ◌^◌, ◌⊎◌, List, ◌++◌, [], length, slice_get, None, Some, Result, Ok, Err, codes}
use Rattle.serde_json.specs.Data.{Data}
use Rattle.board.specs.Boards.{BoardModel}
use Rattle.byte_streams.specs.Streams.{SourceState, SinkState, Change}
use Rattle.byte_streams.specs.Sink.{Puts, PutsBeginning}
use Rattle.batch_lines.specs.Lines.{lines_of}
use Rattle.outcomes.specs.Outcomes.{Task}
use Rattle.batch_runs.specs.ReportReadings.{SaysText, HasStatus}
use Rattle.batch_runs.specs.Batches.{Rules, IsTruthful, Answer, AnswersLines, answers_text, AreAll, AreFirst, status_of_counts}
use Rattle.batch_runs.specs.Meanings.{questions, IsQuestion, Names, HasFault, IsReply, SaysLeast, SaysNone, SaysBound, SaysRefused, AreAllDecided}
use Rattle.batch_runs.specs.declared.batch.Summary.{Summary}
use Rattle.batch_runs.specs.declared.faults.LinesFault.{LinesFault}

-- What is said of the board that starts the task, and is named by this id, is true.
pub record IsTrueOfBoard (task : Task) (id : List ℕ) (d : Data) : Type 0 where
  pub status : HasStatus d (codes "optimal") ⊎ HasStatus d (codes "unsolvable") ⊎ HasStatus d (codes "bounded")
  pub named : SaysText d (codes "id") id
  pub optimal : HasStatus d (codes "optimal") → SaysLeast task d
  pub unsolvable : HasStatus d (codes "unsolvable") → SaysNone task d
  pub bounded : HasStatus d (codes "bounded") → SaysBound task d

-- The output has one line for each line of the input that isn't passed over, in their order, and each is read as JSON. What it says of a
-- board that a line names is true, or it refuses the line by V3, where the rules allow that. Of a line that names none, it says a fault.
pub record TellsTheTruth (rules : Rules) (lines : List (List ℕ)) (output : List ℕ) : Type 0 where
  pub one_each : length (lines_of output) ≡ length (questions 1 lines)
  pub json : (k : ℕ) → k < length (lines_of output) → (d : Data) × IsReply output k d
  pub named : (k n : ℕ) (line id : List ℕ) (b : BoardModel) (d : Data) → IsQuestion lines k n line → Names rules.grid line id b → IsReply output k d → IsTrueOfBoard (rules.task b) id d ⊎ SaysRefused d (codes "V3") n × rules.allows b None
  pub unnamed : (k n : ℕ) (line : List ℕ) (d : Data) → IsQuestion lines k n line → ((id : List ℕ) (b : BoardModel) → ¬ Names rules.grid line id b) → IsReply output k d → (code : List ℕ) × HasFault rules.grid line code × SaysRefused d code n

-- what is written of the answers of a truthful solver tells the truth
abbrev pub AnswersTellTheTruth : Rules → Type 0
AnswersTellTheTruth rules =
    IsTruthful rules
    → (lines : List (List ℕ)) (answers : List Answer)
    → length lines < 2 ^ 64
    → AnswersLines rules lines answers
    → TellsTheTruth rules lines (answers_text 1 answers)

-- ---- runs

-- an output was written that tells the truth of all lines of the input; and with the status 0 none of its lines is bounded or refused
pub record WritesTruth (rules : Rules) (source : Change SourceState) (sink : Change SinkState) (status : ℕ) : Type 0 where
  pub lines : List (List ℕ)
  pub output : List ℕ
  pub all : AreAll source.before.left lines
  pub put : Puts sink output
  pub truth : TellsTheTruth rules lines output
  pub settled : status ≡ 0 → AreAllDecided output

-- a beginning was written of an output that tells the truth of the first lines of the input
pub record BeginsTruth (rules : Rules) (source : Change SourceState) (sink : Change SinkState) : Type 0 where
  pub lines : List (List ℕ)
  pub output : List ℕ
  pub first : AreFirst source.before.left lines
  pub begun : PutsBeginning sink output
  pub truth : TellsTheTruth rules lines output

-- the one where the run ends well, else the other
abbrev pub IsTrueRun : Rules → Change SourceState → Change SinkState → Result Summary LinesFault → Type 0
IsTrueRun rules source sink (Ok counts) = WritesTruth rules source sink (status_of_counts counts)
IsTrueRun rules source sink (Err fault) = BeginsTruth rules source sink

-- in a beginning of an output each line that another one follows is a line of the output
abbrev pub BeginningsAreOfLines : Type 0
BeginningsAreOfLines = (begun rest : List ℕ) (k : ℕ) → k + 1 < length (lines_of begun) → slice_get (lines_of (begun ++ rest)) k ≡ slice_get (lines_of begun) k

-- where the input is known and the output was empty, what the sink holds tells the truth of the input's lines
abbrev pub BatchOutputsTellTheTruth : Rules → Type 0
BatchOutputsTellTheTruth rules =
    (source : Change SourceState) (sink : Change SinkState) (status : ℕ) (input : List ℕ)
    → source.before.left ≡ Some input
    → sink.before.contents ≡ Some []
    → WritesTruth rules source sink status
    → (output : List ℕ) × (sink.after.contents ≡ Some output) × TellsTheTruth rules (lines_of input) output × (status ≡ 0 → AreAllDecided output)

-- and after a run that ends early the sink holds a beginning of what tells the truth of the input's first lines
abbrev pub BeginningsTellTheTruth : Rules → Type 0
BeginningsTellTheTruth rules =
    (source : Change SourceState) (sink : Change SinkState) (input : List ℕ)
    → source.before.left ≡ Some input
    → sink.before.contents ≡ Some []
    → BeginsTruth rules source sink
    → (lines more : List (List ℕ)) × (written unwritten : List ℕ) × (lines_of input ≡ lines ++ more) × (sink.after.contents ≡ Some written) × TellsTheTruth rules lines (written ++ unwritten)
