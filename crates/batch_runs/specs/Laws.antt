-- The laws of the definitions. Each is the contract of a function that does nothing.
use Rattle.std.specs.Prelude.{ℕ, ◌≡◌, ◌≢◌, ◌≤◌, ◌<◌, true, false, List, [], ◌∷◌, ◌⊎◌, length, slice_get, ◌++◌, Some, None, Result, Ok, Err, Option, Vec, codes, unwrap_or, option_and_then, count_by}
use Rattle.std.specs.declared.alloc.Global.{Global}
use Rattle.board.specs.declared.moves.Move.{Move}
use Rattle.board.specs.Plans.{Leads, NothingBelow, IsLeast}
use Rattle.outcomes.specs.Outcomes.{Task, AllowsWhy, AllowsCause}
use Rattle.outcomes.specs.declared.outcome.Cause.{Cause}
use Rattle.outcomes.specs.declared.outcome.Why.{Why}
use Rattle.outcomes.specs.declared.outcome.Ending.{Ending}
use Rattle.outcomes.specs.declared.outcome.Ending.TheVariants.{Optimal, Unsolvable, Bounded}
use Rattle.batch_runs.specs.Reports.{outcome_data, refused_data}
use Rattle.batch_runs.specs.ReportReadings.{Reads}
use Rattle.std.specs.Str.{bytes_eq}
use Rattle.serde_json.specs.Data.{Data}
use Rattle.serde_json.specs.Find.{get, as_str}
use Rattle.serde_json.specs.Read.{read}
use Rattle.board.specs.Boards.{BoardModel, IsBoard}
use Rattle.board.specs.Weights.{WeightsModel}
use Rattle.lower_bound.specs.Tables.{IsTables}
use Rattle.byte_streams.specs.Streams.{SourceState, SinkState, Change}
use Rattle.batch_lines.specs.Lines.{lines_of, without_return}
use Rattle.batch_lines.specs.Words.{IsEntry}
use Rattle.batch_lines.specs.declared.lines.TheConstants.{INPUT_LIMIT}
use Rattle.batch_runs.specs.declared.batch.Summary.{Summary}
use Rattle.batch_runs.specs.declared.faults.LinesFault.{LinesFault}
use Rattle.batch_runs.specs.declared.faults.LinesFault.TheVariants.{Read, Write}
use Rattle.batch_runs.specs.Batches.{Rules, Answer, AnswersLines, LosesLine, ReportsLines, answers_text}
use Rattle.batch_runs.specs.Headline.{IsTrueOfBoard, TellsTheTruth}
use Rattle.batch_runs.specs.Setups.{SetupModel, IsFoldedSetup, plain_setup, task_of_setup}
use Rattle.batch_runs.specs.Stats.{HandsFigures}
use Rattle.batch_runs.specs.declared.stats.Solved.{Solved}
use Rattle.batch_runs.specs.Meanings.{asks, IsQuestion, Names, HasFault, IsReply, SaysLeast, SaysNone, SaysBound, AreAllDecided}

-- a line of an input within the limit is lost only where the source has failed
abbrev pub BatchLinesAreLostToFailures : Type 0
BatchLinesAreLostToFailures =
    (source : Change SourceState) (lines : List (List ℕ)) (input : List ℕ) → source.before.left ≡ Some input → length input ≤ INPUT_LIMIT → LosesLine source lines → source.after.has_failed ≡ true

-- where the input is known and the output was empty, a run that ends well leaves an answer to each line, and nothing else
abbrev pub OutputsAreAnswers : Rules → Type 0
OutputsAreAnswers rules =
    (source : Change SourceState) (sink : Change SinkState) (counts : Summary) (input : List ℕ)
    → source.before.left ≡ Some input
    → sink.before.contents ≡ Some []
    → ReportsLines rules source sink (Ok counts)
    → (answers : List Answer) × AnswersLines rules (lines_of input) answers × (sink.after.contents ≡ Some (answers_text 1 answers))

-- a sink fails only in a run that says so
abbrev pub FailedWritesAreTold : Rules → Type 0
FailedWritesAreTold rules =
    (source : Change SourceState) (sink : Change SinkState) (result : Result Summary LinesFault) → sink.before.has_failed ≡ false → result ≢ Err Write → ReportsLines rules source sink result → sink.after.has_failed ≡ false

-- a run says that the output cannot be written only where the sink has failed
abbrev pub WriteFaultsAreFailures : Rules → Type 0
WriteFaultsAreFailures rules = (source : Change SourceState) (sink : Change SinkState) → ReportsLines rules source sink (Err Write) → sink.after.has_failed ≡ true

-- and that an input within the limit cannot be read only where the source has failed
abbrev pub ReadFaultsAreFailures : Rules → Type 0
ReadFaultsAreFailures rules =
    (source : Change SourceState) (sink : Change SinkState) (input : List ℕ)
    → source.before.left ≡ Some input
    → length input ≤ INPUT_LIMIT
    → ReportsLines rules source sink (Err Read)
    → source.after.has_failed ≡ true

-- where the report of a plan is true of a board, the plan leads to the goal at the cost that is reported, and no plan costs less
abbrev pub OptimalReportsAreLeast : Type 0
OptimalReportsAreLeast =
    (task : Task) (id name : List ℕ) (cost : ℕ) (plan : Vec Move Global)
    → IsTrueOfBoard task id (outcome_data name (Optimal cost plan))
    → Leads task.rule task.start plan.items task.goal cost × IsLeast task.rule task.start task.goal cost

-- where the report that there is no plan is true of a board, no plan leads to the goal
abbrev pub UnsolvableReportsHaveNoPlan : Type 0
UnsolvableReportsHaveNoPlan =
    (task : Task) (id name : List ℕ) (why : Why) → IsTrueOfBoard task id (outcome_data name (Unsolvable why)) → (plan : List Move) (cost : ℕ) → ¬ Leads task.rule task.start plan task.goal cost

-- and the reason that it names is true
abbrev pub ReasonsAreTrue : Type 0
ReasonsAreTrue = (task : Task) (id name : List ℕ) (why : Why) → IsTrueOfBoard task id (outcome_data name (Unsolvable why)) → AllowsWhy task why

-- where the report of a bound is true of a board, no plan costs less
abbrev pub BoundedReportsAreBelow : Type 0
BoundedReportsAreBelow =
    (task : Task) (id name : List ℕ) (bound : ℕ) (best : Option (ℕ × Vec Move Global)) (cause : Cause)
    → IsTrueOfBoard task id (outcome_data name (Bounded bound best cause))
    → NothingBelow task.rule task.start task.goal bound

-- the best plan that it names leads to the goal at its cost, which is above the bound
abbrev pub BestPlansLead : Type 0
BestPlansLead =
    (task : Task) (id name : List ℕ) (bound cost : ℕ) (plan : Vec Move Global) (cause : Cause)
    → IsTrueOfBoard task id (outcome_data name (Bounded bound (Some (cost, plan)) cause))
    → Leads task.rule task.start plan.items task.goal cost × (bound < cost)

-- and the cause that it names is true
abbrev pub CausesAreTrue : Type 0
CausesAreTrue =
    (task : Task) (id name : List ℕ) (bound : ℕ) (best : Option (ℕ × Vec Move Global)) (cause : Cause)
    → IsTrueOfBoard task id (outcome_data name (Bounded bound best cause))
    → AllowsCause bound cause

-- and a report that is true of a board has the name of its line
abbrev pub ReportsAreNamed : Type 0
ReportsAreNamed = (task : Task) (id name : List ℕ) (ending : Ending) → IsTrueOfBoard task id (outcome_data name ending) → name ≡ id

-- ---- what is taken from an output that tells the truth

-- what is true of a board says a least plan, or that there is none, or a bound
abbrev pub BoardsAreAnswered : Type 0
BoardsAreAnswered = (task : Task) (id : List ℕ) (d : Data) → IsTrueOfBoard task id d → SaysLeast task d ⊎ SaysNone task d ⊎ SaysBound task d

-- a line that names a board is refused by V3 alone, with its own number, and only where the rules allow that memory is refused for the board
abbrev pub RefusedBoardsLackMemory : Rules → Type 0
RefusedBoardsLackMemory rules =
    (lines : List (List ℕ)) (output : List ℕ) (k n m : ℕ) (line id code : List ℕ) (b : BoardModel)
    → TellsTheTruth rules lines output
    → IsQuestion lines k n line
    → Names rules.grid line id b
    → IsReply output k (refused_data code m)
    → (code ≡ codes "V3") × (m ≡ n) × rules.allows b None

-- a line with a fault is refused by the code of that fault alone, with its own number
abbrev pub RefusedLinesAreFaulty : Rules → Type 0
RefusedLinesAreFaulty rules =
    (lines : List (List ℕ)) (output : List ℕ) (k n m : ℕ) (line code fault : List ℕ)
    → TellsTheTruth rules lines output
    → IsQuestion lines k n line
    → HasFault rules.grid line fault
    → IsReply output k (refused_data code m)
    → (code ≡ fault) × (m ≡ n)

-- where a line that names a board is answered by the report of an ending, the report is true of that board, and has the id of that line
abbrev pub AnsweredBoardsAreTold : Rules → Type 0
AnsweredBoardsAreTold rules =
    (lines : List (List ℕ)) (output : List ℕ) (k n : ℕ) (line id name : List ℕ) (b : BoardModel) (ending : Ending)
    → TellsTheTruth rules lines output
    → IsQuestion lines k n line
    → Names rules.grid line id b
    → IsReply output k (outcome_data name ending)
    → IsTrueOfBoard (rules.task b) id (outcome_data name ending)

-- a line with a fault is answered by no ending
abbrev pub FaultyLinesHaveNoEnding : Rules → Type 0
FaultyLinesHaveNoEnding rules =
    (lines : List (List ℕ)) (output : List ℕ) (k n : ℕ) (line fault name : List ℕ) (ending : Ending)
    → TellsTheTruth rules lines output
    → IsQuestion lines k n line
    → HasFault rules.grid line fault
    → ¬ IsReply output k (outcome_data name ending)

-- the number of a line counts the lines that are passed over before it, but its place in the output doesn't
abbrev pub LinesPassedOverAreCounted : Type 0
LinesPassedOverAreCounted = (passed line : List ℕ) → asks passed ≡ false → asks line ≡ true → IsQuestion (passed ∷ line ∷ []) 0 2 line

-- each line of the output is read as JSON
abbrev pub OutputLinesAreRead : Rules → Type 0
OutputLinesAreRead rules = (lines : List (List ℕ)) (output : List ℕ) (k : ℕ) (line : List ℕ) → TellsTheTruth rules lines output → slice_get (lines_of output) k ≡ Some line → (d : Data) × Reads line d

-- an empty output doesn't tell the truth of a line that asks for an answer
abbrev pub SilenceIsNoTruth : Rules → Type 0
SilenceIsNoTruth rules = (line : List ℕ) → asks line ≡ true → ¬ TellsTheTruth rules (line ∷ []) []

-- where all lines of an output are decided, none is refused
abbrev pub DecidedLinesAreAccepted : Type 0
DecidedLinesAreAccepted = (output : List ℕ) (k m : ℕ) (code : List ℕ) → AreAllDecided output → ¬ IsReply output k (refused_data code m)

-- and none is bounded
abbrev pub DecidedLinesAreSettled : Type 0
DecidedLinesAreSettled =
    (output : List ℕ) (k bound : ℕ) (id : List ℕ) (best : Option (ℕ × Vec Move Global)) (cause : Cause) → AreAllDecided output → ¬ IsReply output k (outcome_data id (Bounded bound best cause))

-- ---- figures

-- Where figures were handed over and the output was empty, each report of an ending has figures. Its place in the output, the k-th, is that of
-- a line of the input among those that ask for an answer. This line names a board by the id of the report. The figures of that board were
-- handed over with this id, beside an ending that has this report.
abbrev pub FiguresBelongToReports : Rules → (List ℕ → BoardModel → Solved → Type 0) → Type 0
FiguresBelongToReports rules handed =
    (input : List ℕ) (sink : Change SinkState)
    → sink.before.contents ≡ Some []
    → HandsFigures rules handed (Some input) sink
    → (written unwritten : List ℕ) × (sink.after.contents ≡ Some written)
    × ((k : ℕ) (id : List ℕ) (ending : Ending)
    → IsReply (written ++ unwritten) k (outcome_data id ending)
    → (n : ℕ) × (line : List ℕ) × (b : BoardModel) × (solved : Solved)
    × IsQuestion (lines_of input) k n line × IsEntry rules.grid (without_return line) id b
    × handed id b solved × (outcome_data id solved.ending ≡ outcome_data id ending))

-- ---- counts

-- the status that a line of an output names; none where it isn't read as JSON, or names none
abbrev pub status_in : List ℕ → List ℕ
status_in line = unwrap_or (option_and_then as_str (option_and_then (get (codes "status")) (read line))) []

-- how many lines of an output have this status
abbrev pub count_status : List ℕ → List ℕ → ℕ
count_status word output = count_by (λ line. bytes_eq (status_in line) word) (lines_of output)

-- each count of a run is that of the lines of its output with the status of this name, where the output was empty
abbrev pub CountsAreOfReports : Rules → Type 0
CountsAreOfReports rules =
    (source : Change SourceState) (sink : Change SinkState) (counts : Summary)
    → sink.before.contents ≡ Some []
    → ReportsLines rules source sink (Ok counts)
    → (output : List ℕ) × (sink.after.contents ≡ Some output)
    × (counts.optimal ≡ count_status (codes "optimal") output) × (counts.unsolvable ≡ count_status (codes "unsolvable") output)
    × (counts.bounded ≡ count_status (codes "bounded") output) × (counts.refused ≡ count_status (codes "refused") output)

-- ---- setups

-- what is asked of a board by the second is the same, within the same limit and by the same workers; and no sum of its tables is higher
pub record AsksAlike (setup folded : SetupModel) : Type 0 where
  pub goal : folded.goal ≡ setup.goal
  pub rule : folded.rule ≡ setup.rule
  pub limit : folded.limit ≡ setup.limit
  pub workers : folded.workers ≡ setup.workers
  pub spread : folded.spread ≡ setup.spread
  pub sums : IsTables setup.tables → (start : BoardModel) → IsBoard start → start.grid ≡ setup.tables.split.grid → (task_of_setup folded start).sum start ≤ (task_of_setup setup start).sum start

-- so asks a folded setup
abbrev pub FoldedSetupsAskAlike : Type 0
FoldedSetupsAskAlike = (setup folded : SetupModel) → IsFoldedSetup setup folded → AsksAlike setup folded

-- without tables each sum is 0
abbrev pub NewSetupsHaveNoSums : Type 0
NewSetupsHaveNoSums = (goal start b : BoardModel) (rule : WeightsModel) → (task_of_setup (plain_setup goal rule) start).sum b ≡ 0
