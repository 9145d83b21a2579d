-- What is written for an input: a report for each line that isn't passed over, in order.
use Rattle.std.specs.Prelude.{ℕ, ◌≡◌, ◌⊎◌, ◌+◌, ◌-◌, ◌<◌, ◌^◌, true, false, List, [], ◌∷◌, ◌++◌, length, Option, None, Some, Result, Ok, Err, All, IfSome, ⊤, ◌==◌, ◌&&◌, if◌then◌else◌, codes}
use Rattle.memory.specs.declared.OutOfMemory.{OutOfMemory}
use Rattle.board.specs.Shapes.{ShapeModel}
use Rattle.board.specs.Boards.{BoardModel}
use Rattle.byte_streams.specs.Streams.{SourceState, SinkState, Change, from_to}
use Rattle.byte_streams.specs.Source.{Takes}
use Rattle.byte_streams.specs.Sink.{Puts, PutsBeginning}
use Rattle.batch_lines.specs.Lines.{lines_of, without_return, line_kind_of}
use Rattle.batch_lines.specs.Readings.{TakesNoLine, CountsTaken}
use Rattle.batch_lines.specs.Words.{IsEntry, IsFirstEntryFault, entry_code}
use Rattle.batch_lines.specs.declared.words.EntryFault.{EntryFault}
use Rattle.batch_lines.specs.declared.lines.LineKind.{LineKind}
use Rattle.batch_lines.specs.declared.lines.LineKind.TheVariants.{PassedOver, Within, TooLong}
use Rattle.batch_lines.specs.declared.lines.TheConstants.{INPUT_LIMIT}
use Rattle.batch_runs.specs.ReportReadings.{HasSmallNumbers}
use Rattle.batch_runs.specs.Reports.{outcome_data, refused_data, report_text}
use Rattle.outcomes.specs.declared.outcome.Ending.{Ending}
use Rattle.outcomes.specs.Outcomes.{Task}
use Rattle.outcomes.specs.Endings.{EndAnswers}
use Rattle.outcomes.specs.declared.outcome.Ending.TheVariants.{Optimal, Unsolvable, Bounded}
use Rattle.batch_runs.specs.declared.batch.Summary.{Summary}
use Rattle.batch_runs.specs.declared.stats.Solved.{Solved}
use Rattle.batch_runs.specs.declared.faults.LinesFault.{LinesFault}
use Rattle.batch_runs.specs.declared.faults.LinesFault.TheVariants.{Read, Write, Memory}

-- the shape of the boards, what is asked of each, and which outcomes it may be answered by; None is a refusal of memory before the first step
pub record Rules : Type 1 where
  pub grid : ShapeModel
  pub task : BoardModel → Task
  pub allows : BoardModel → Option Ending → Type 0

-- each outcome that a board may be answered by answers what is asked of it
abbrev pub IsTruthful : Rules → Type 0
IsTruthful rules = (b : BoardModel) (outcome : Ending) → rules.allows b (Some outcome) → EndAnswers (rules.task b) outcome

-- a solver gives an ending that the board may be answered by, or says that memory was refused, where the rules allow that
abbrev pub MayGive : Rules → BoardModel → Result Solved OutOfMemory → Type 0
MayGive rules b (Ok solved) = rules.allows b (Some solved.ending)
MayGive rules b (Err refused) = rules.allows b None

-- each of these boards may be answered by the ending beside it
abbrev pub AreAllowed : Rules → List (BoardModel × Option Solved) → Type 0
AreAllowed rules ready = All (λ it. IfSome it.1 (λ solved. rules.allows it.0 (Some solved.ending))) ready

-- ---- the answer to a line

-- a line is passed over; or it is refused by a fault with this code; or its board, with this id, is answered by an outcome
pub data Answer : Type 0 where
  passed_over : Answer
  refused : (code : List ℕ) → Answer
  answered : (id : List ℕ) (outcome : Ending) → Answer

-- A line to be read is refused by its first fault. Or it is answered by an outcome that is allowed for its board, with numbers that a report
-- can state. Or V3 refuses it, where the rules allow for its board that memory is refused before the first step.
pub data AnswersEntry (rules : Rules) (line : List ℕ) : Answer → Type 0 where
  by_fault : (fault : EntryFault) → IsFirstEntryFault rules.grid line fault → AnswersEntry rules line (refused (entry_code fault))
  by_outcome : (id : List ℕ) (b : BoardModel) (outcome : Ending) → IsEntry rules.grid line id b → rules.allows b (Some outcome) → HasSmallNumbers outcome → AnswersEntry rules line (answered id outcome)
  by_want : (id : List ℕ) (b : BoardModel) → IsEntry rules.grid line id b → rules.allows b None → AnswersEntry rules line (refused (codes "V3"))

-- the answer to a line of this kind with these bytes
abbrev pub AnswersKind : Rules → LineKind → List ℕ → Answer → Type 0
AnswersKind rules PassedOver bytes answer = answer ≡ passed_over
AnswersKind rules TooLong bytes answer = answer ≡ refused (codes "E12")
AnswersKind rules Within bytes answer = AnswersEntry rules bytes answer

-- the answer to a line
abbrev pub AnswersLine : Rules → List ℕ → Answer → Type 0
AnswersLine rules line answer = AnswersKind rules (line_kind_of line) (without_return line) answer

-- an answer to each of the lines, in their order
abbrev pub AnswersLines : Rules → List (List ℕ) → List Answer → Type 0
AnswersLines rules [] [] = ⊤
AnswersLines rules [] (answer ∷ answers) = ⊥
AnswersLines rules (line ∷ lines) [] = ⊥
AnswersLines rules (line ∷ lines) (answer ∷ answers) = AnswersLine rules line answer × AnswersLines rules lines answers

-- ---- what is written of answers, and how they are counted

-- what is written of the answer to line n
abbrev pub answer_text : ℕ → Answer → List ℕ
answer_text n passed_over = []
answer_text n (refused code) = report_text (refused_data code n)
answer_text n (answered id outcome) = report_text (outcome_data id outcome)

-- what is written of the answers to lines that are numbered from n on
abbrev pub answers_text : ℕ → List Answer → List ℕ
answers_text n [] = []
answers_text n (answer ∷ answers) = answer_text n answer ++ answers_text (n + 1) answers

-- one line more of the kind of this outcome
abbrev pub with_outcome : Summary → Ending → Summary
with_outcome counts (Optimal cost plan) = record counts { optimal = counts.optimal + 1 }
with_outcome counts (Unsolvable why) = record counts { unsolvable = counts.unsolvable + 1 }
with_outcome counts (Bounded bound best cause) = record counts { bounded = counts.bounded + 1 }

-- one refused line more
abbrev pub with_refused : Summary → Summary
with_refused counts = record counts { refused = counts.refused + 1 }

-- one line more with this answer
abbrev pub with_answer : Summary → Answer → Summary
with_answer counts passed_over = counts
with_answer counts (refused code) = with_refused counts
with_answer counts (answered id outcome) = with_outcome counts outcome

-- more lines with these answers
abbrev pub with_answers : Summary → List Answer → Summary
with_answers counts [] = counts
with_answers counts (answer ∷ answers) = with_answers (with_answer counts answer) answers

-- no line is counted yet
abbrev pub no_lines : Summary
no_lines = record { optimal = 0; unsolvable = 0; bounded = 0; refused = 0 }

-- one line more can be counted
pub record CanCountMore (counts : Summary) : Type 0 where
  pub optimal : counts.optimal + 1 < 2 ^ 64
  pub unsolvable : counts.unsolvable + 1 < 2 ^ 64
  pub bounded : counts.bounded + 1 < 2 ^ 64
  pub refused : counts.refused + 1 < 2 ^ 64

-- the status of a run with these counts: 1 where some line is bounded or refused
abbrev pub status_of_counts : Summary → ℕ
status_of_counts counts = if counts.bounded == 0 && counts.refused == 0 then 0 else 1

-- ---- what a run reads and writes

-- these are the lines that were read whole, where the input is known
abbrev pub AreRead : Option (List ℕ) → Option (List ℕ) → List (List ℕ) → Type 0
AreRead None now lines = ⊤
AreRead (Some input) None lines = ⊥
AreRead (Some input) (Some rest) lines = lines_of input ≡ lines ++ lines_of rest

-- these are the lines of the input, where it is known
abbrev pub AreAll : Option (List ℕ) → List (List ℕ) → Type 0
AreAll None lines = ⊤
AreAll (Some input) lines = lines_of input ≡ lines

-- these are the first lines of the input, where it is known
abbrev pub AreFirst : Option (List ℕ) → List (List ℕ) → Type 0
AreFirst None lines = ⊤
AreFirst (Some input) lines = (more : List (List ℕ)) × (lines_of input ≡ lines ++ more)

-- the input has more bytes than it may
abbrev pub IsTooLong : Option (List ℕ) → Type 0
IsTooLong None = ⊤
IsTooLong (Some input) = INPUT_LIMIT < length input

-- some bytes were taken, from the front
abbrev pub TakesSome : Change SourceState → Type 0
TakesSome source = (seen : List ℕ) × Takes source seen

-- these lines were read whole, and what was taken after them, within the limit, has no whole line in it: the source failed, or the input is too long
pub record LosesLine (source : Change SourceState) (lines : List (List ℕ)) : Type 0 where
  pub between : SourceState
  pub first : TakesSome (from_to source.before between)
  pub taken : ℕ
  pub whole : AreRead source.before.left between.left lines
  pub counted : CountsTaken (from_to source.before between) (from_to 0 taken)
  pub lost : TakesNoLine (from_to between source.after) (INPUT_LIMIT - taken)
  pub cause : (source.after.has_failed ≡ true) ⊎ IsTooLong source.before.left

-- the reports of all lines were written, and these are their counts
pub record ReportsAll (rules : Rules) (source : Change SourceState) (sink : Change SinkState) (counts : Summary) : Type 0 where
  pub lines : List (List ℕ)
  pub answers : List Answer
  pub few : length lines < 2 ^ 64
  pub all : AreAll source.before.left lines
  pub answered : AnswersLines rules lines answers
  pub written : Puts sink (answers_text 1 answers)
  pub counted : counts ≡ with_answers no_lines answers

-- a line was lost, and the reports of the lines before it were written
pub record ReportsWhole (rules : Rules) (source : Change SourceState) (sink : Change SinkState) : Type 0 where
  pub lines : List (List ℕ)
  pub answers : List Answer
  pub few : length lines < 2 ^ 64
  pub lost : LosesLine source lines
  pub answered : AnswersLines rules lines answers
  pub written : Puts sink (answers_text 1 answers)

-- the reports of the first lines were written, and nothing of the next
pub record ReportsFirst (rules : Rules) (source : Change SourceState) (sink : Change SinkState) : Type 0 where
  pub lines : List (List ℕ)
  pub answers : List Answer
  pub few : length lines < 2 ^ 64
  pub first : AreFirst source.before.left lines
  pub answered : AnswersLines rules lines answers
  pub written : Puts sink (answers_text 1 answers)

-- a beginning of the reports of the first lines was written
pub record ReportsSome (rules : Rules) (source : Change SourceState) (sink : Change SinkState) : Type 0 where
  pub lines : List (List ℕ)
  pub answers : List Answer
  pub few : length lines < 2 ^ 64
  pub first : AreFirst source.before.left lines
  pub answered : AnswersLines rules lines answers
  pub begun : PutsBeginning sink (answers_text 1 answers)

-- reading has not failed
abbrev pub IsReadable : Change SourceState → Type 0
IsReadable source = source.after.has_failed ≡ false

-- the sink has failed
abbrev pub HasFailed : SinkState → Type 0
HasFailed sink = sink.has_failed ≡ true

-- what was put is flushed, or nothing was put, or the sink has failed
abbrev pub LeavesFlushed : {K : Type 0} → (K → Type 0) → (K → SinkState) → K → K → Type 0
LeavesFlushed is_flushed state before after = is_flushed after ⊎ (after ≡ before) ⊎ HasFailed (state after)

-- the sink has failed only if it had before
abbrev pub KeepsFailure : Change SinkState → Type 0
KeepsFailure sink = sink.after.has_failed ≡ sink.before.has_failed

-- How a run over lines ends. All lines are reported. Or reading failed, and the lines before are reported. Or writing failed, and a beginning
-- of the reports is written. Or memory was refused for a report, and those before it are written.
abbrev pub ReportsLines : Rules → Change SourceState → Change SinkState → Result Summary LinesFault → Type 0
ReportsLines rules source sink (Ok counts) = ReportsAll rules source sink counts × IsReadable source × KeepsFailure sink
ReportsLines rules source sink (Err Read) = ReportsWhole rules source sink × KeepsFailure sink
ReportsLines rules source sink (Err Write) = ReportsSome rules source sink × IsReadable source × HasFailed sink.after
ReportsLines rules source sink (Err (Memory lacking)) = ReportsFirst rules source sink × IsReadable source × KeepsFailure sink
