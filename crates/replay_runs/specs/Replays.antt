-- What is written for a replay: a board line, and the lines of steps behind it.
use Rattle.std.specs.Prelude.{ℕ, ◌≡◌, ◌≢◌, ◌≤◌, ◌⊎◌, ◌↔◌, ◌+◌, true, false, List, [], ◌∷◌, ◌++◌, length, drop, Option, Some, Result, Ok, Err, All, codes, ⊤}
use Rattle.board.specs.declared.moves.Move.{Move}
use Rattle.board.specs.Shapes.{ShapeModel}
use Rattle.board.specs.Boards.{BoardModel}
use Rattle.board.specs.Rows.{IsLowerBound}
use Rattle.byte_streams.specs.Streams.{SourceState, SinkState, Change, from_to}
use Rattle.byte_streams.specs.Sink.{Puts, PutsBeginning, WritesAll, FailsWriting}
use Rattle.batch_lines.specs.Lines.{lines_of, without_return, line_kind_of}
use Rattle.batch_lines.specs.declared.lines.TheConstants.{INPUT_LIMIT}
use Rattle.batch_lines.specs.declared.lines.LineKind.TheVariants.{Within}
use Rattle.outcomes.specs.Outcomes.{Answers}
use Rattle.outcomes.specs.Endings.{without_rows, EndAnswers}
use Rattle.outcomes.specs.declared.outcome.Outcome.{Outcome}
use Rattle.serde_json.specs.Data.{Data}
use Rattle.batch_runs.specs.ReportReadings.{Reads, HasStatus}
use Rattle.batch_runs.specs.Reports.{outcome_data, refused_data, report_text}
use Rattle.replay_runs.specs.Answers.{answer_word}
use Rattle.world_model.specs.declared.steps.Refusal.{Refusal}
use Rattle.world_model.specs.declared.steps.Step.{Step}
use Rattle.world_model.specs.Steps.{Next}
use Rattle.world_model.specs.Turns.{turn}
use Rattle.world_model.specs.Openings.{Job, IsJob, opening}
use Rattle.world_model.specs.Outcomes.{IsGiven}
use Rattle.world_model.specs.Worlds.{WorldState}
use Rattle.batch_runs.specs.Batches.{AreAll, AreFirst, LosesLine, IsReadable, HasFailed, KeepsFailure}
use Rattle.batch_runs.specs.Headline.{IsTrueOfBoard}
use Rattle.batch_runs.specs.Meanings.{questions, IsQuestion, Names, HasFault}
use Rattle.batch_runs.specs.declared.faults.LinesFault.{LinesFault}
use Rattle.batch_runs.specs.declared.report.NoReport.{NoReport}
use Rattle.batch_runs.specs.declared.faults.LinesFault.TheVariants.{Read, Write, Memory}
use Rattle.batch_runs.specs.FirstLines.{IsPassedOver, FindsFirst}
use Rattle.replay_runs.specs.Replies.{Reply, TextSays, replies_text, are_fine, replay_status_of}
use Rattle.replay_runs.specs.Stepping.{IsReplied, IsReportOf, output_of}

-- the shape of the boards, the job that a board starts, and when memory is refused before its first step
pub record Jobs : Type 1 where
  pub grid : ShapeModel
  pub job : BoardModel → Job
  pub lacks : BoardModel → Type 0

-- the job is one, and the sums that guide it are never above the cost of a plan
abbrev pub IsGuidedJob : Job → Type 0
IsGuidedJob job = IsJob job × IsLowerBound job.task.rule job.task.sum job.task.goal

-- ---- the board line: the first line that isn't passed over

-- the line has a fault with this code; or it names a board, and memory was refused
abbrev pub IsLineRefusedBy : Jobs → List ℕ → List ℕ → Type 0
IsLineRefusedBy jobs line code =
    HasFault jobs.grid line code ⊎ ((id : List ℕ) × (board : BoardModel) × Names jobs.grid line id board × jobs.lacks board × (code ≡ codes "V3"))

-- the line is to be read, and these are its bytes
abbrev pub IsReadLine : List ℕ → List ℕ → Type 0
IsReadLine line bytes = (line_kind_of line ≡ Within) × (bytes ≡ without_return line)

-- the line names a board by this id, and the board's job opens with this world
pub record OpensRun (jobs : Jobs) (line id : List ℕ) (w : WorldState) : Type 0 where
  pub board : BoardModel
  pub via : Move
  pub named : Names jobs.grid line id board
  pub opens : w ≡ opening (jobs.job board) via
  pub guided : IsGuidedJob (jobs.job board)

-- the first line that isn't passed over is refused, and this is its report
pub record RefusesFirst (jobs : Jobs) (source : Change SourceState) (output : List ℕ) : Type 0 where
  pub passed : List (List ℕ)
  pub line : List ℕ
  pub code : List ℕ
  pub first : FindsFirst source passed line
  pub cause : IsLineRefusedBy jobs line code
  pub text : output ≡ report_text (refused_data code (length passed + 1))

-- The first of these lines are passed over, and the next one names a board by this id. The later ones are replied to in a run of the
-- board's job, which reaches this world.
pub record IsPlay (jobs : Jobs) (lines : List (List ℕ)) (id : List ℕ) (replies : List Reply) (w : WorldState) : Type 0 where
  pub passed : List (List ℕ)
  pub line : List ℕ
  pub later : List (List ℕ)
  pub board : BoardModel
  pub via : Move
  pub parts : lines ≡ passed ++ line ∷ later
  pub before : All IsPassedOver passed
  pub named : Names jobs.grid line id board
  pub replied : IsReplied (from_to (opening (jobs.job board) via) w) later replies

-- The same, and the outcome is one that the reached world gives. It answers the board's task.
pub record IsEnd (jobs : Jobs) (lines : List (List ℕ)) (id : List ℕ) (replies : List Reply) (outcome : Outcome) : Type 0 where
  pub world : WorldState
  pub play : IsPlay jobs lines id replies world
  pub given : IsReportOf world outcome
  pub answers : Answers (jobs.job play.board).task outcome

-- ---- what a replay reads and writes

-- every line is passed over, and nothing was written
abbrev pub WritesNothing : Change SourceState → Change SinkState → ℕ → Type 0
WritesNothing source sink status = (lines : List (List ℕ)) × AreAll source.before.left lines × All IsPassedOver lines × Puts sink [] × (status ≡ 0)

-- the board line is refused, nothing behind it was read, and its report was written
abbrev pub WritesRefusal : Jobs → Change SourceState → Change SinkState → ℕ → Type 0
WritesRefusal jobs source sink status = (output : List ℕ) × RefusesFirst jobs source output × Puts sink output × (status ≡ 1)

-- all lines were read, and the replies and the report of the outcome were written
abbrev pub WritesPlay : Jobs → Change SourceState → Change SinkState → ℕ → Type 0
WritesPlay jobs source sink status =
    (lines : List (List ℕ)) × (id : List ℕ) × (replies : List Reply) × (outcome : Outcome) × AreAll source.before.left lines × IsEnd jobs lines id replies outcome
    × Puts sink (output_of replies id outcome) × (status ≡ replay_status_of (are_fine replies) (without_rows outcome))

-- a line was lost, and what is due for the lines before it was written
abbrev pub LosesReplay : Jobs → Change SourceState → Change SinkState → Type 0
LosesReplay jobs source sink =
    (lines : List (List ℕ)) × LosesLine source lines
    × ((All IsPassedOver lines × Puts sink []) ⊎ ((id : List ℕ) × (replies : List Reply) × (w : WorldState) × IsPlay jobs lines id replies w × Puts sink (replies_text replies)))

-- a beginning was written of what is due for the lines that were read
abbrev pub BeginsReplay : Jobs → Change SourceState → Change SinkState → Type 0
BeginsReplay jobs source sink =
    ((output : List ℕ) × RefusesFirst jobs source output × PutsBeginning sink output)
    ⊎ ((lines : List (List ℕ)) × (id : List ℕ) × (replies : List Reply) × (w : WorldState) × AreFirst source.before.left lines × IsPlay jobs lines id replies w × PutsBeginning sink (replies_text replies))
    ⊎ ((lines : List (List ℕ)) × (id : List ℕ) × (replies : List Reply) × (outcome : Outcome) × AreAll source.before.left lines × IsEnd jobs lines id replies outcome
    × PutsBeginning sink (output_of replies id outcome))

-- all was written but the report, for which memory was refused
abbrev pub LacksReport : Jobs → Change SourceState → Change SinkState → Type 0
LacksReport jobs source sink =
    ((output : List ℕ) × RefusesFirst jobs source output × Puts sink [])
    ⊎ ((lines : List (List ℕ)) × (id : List ℕ) × (replies : List Reply) × (w : WorldState) × AreAll source.before.left lines × IsPlay jobs lines id replies w × Puts sink (replies_text replies))

-- How a replay ends.
abbrev pub Replays : Jobs → Change SourceState → Change SinkState → Result ℕ LinesFault → Type 0
Replays jobs source sink (Ok status) =
    (WritesNothing source sink status ⊎ WritesRefusal jobs source sink status ⊎ WritesPlay jobs source sink status) × IsReadable source × KeepsFailure sink
Replays jobs source sink (Err Read) = LosesReplay jobs source sink × KeepsFailure sink
Replays jobs source sink (Err Write) = BeginsReplay jobs source sink × IsReadable source × HasFailed sink.after
Replays jobs source sink (Err (Memory lacking)) = LacksReport jobs source sink × IsReadable source × KeepsFailure sink

-- ---- a refusal

-- the report of line n with this code was written; or writing it failed, or memory was refused for it
abbrev pub ReportsRefusal : Change SinkState → List ℕ → ℕ → Result ℕ LinesFault → Type 0
ReportsRefusal sink code n (Ok status) = WritesAll sink (report_text (refused_data code n)) × (status ≡ 1)
ReportsRefusal sink code n (Err Read) = ⊥
ReportsRefusal sink code n (Err Write) = FailsWriting sink (report_text (refused_data code n))
ReportsRefusal sink code n (Err (Memory lacking)) = sink.after ≡ sink.before

-- ---- laws: the contracts of functions without effect

-- of these lines, the board line has this number, and it names this board by this id
abbrev pub AsksFirst : Jobs → List (List ℕ) → ℕ → List ℕ → BoardModel → Type 0
AsksFirst jobs lines n id board = (line : List ℕ) × IsQuestion lines 0 n line × Names jobs.grid line id board

-- The board that is played is the one that the board line names, and the lines behind that line are replied to in a run of its job.
-- The outcome at the end answers the task of that board, with its rows and without them, and the world that the run reaches gives it.
pub record PlaysNamedBoards (jobs : Jobs) : Type 0 where
  pub played :
      (lines : List (List ℕ)) (n : ℕ) (name id : List ℕ) (board : BoardModel) (replies : List Reply) (w : WorldState)
      → AsksFirst jobs lines n name board
      → IsPlay jobs lines id replies w
      → (id ≡ name) × ((via : Move) × IsReplied (from_to (opening (jobs.job board) via) w) (drop n lines) replies)
  pub answered :
      (lines : List (List ℕ)) (n : ℕ) (name id : List ℕ) (board : BoardModel) (replies : List Reply) (outcome : Outcome)
      → AsksFirst jobs lines n name board
      → IsEnd jobs lines id replies outcome
      → Answers (jobs.job board).task outcome × EndAnswers (jobs.job board).task (without_rows outcome)
      × ((w : WorldState) × IsPlay jobs lines name replies w × IsReportOf w outcome)

-- A refusal is that of the board line of a known input. Where the line names a board, V3 refuses it, and memory was refused for the
-- board. Where it names none, it is refused by the code of a fault that it has.
pub record RefusesFirstLines (jobs : Jobs) : Type 0 where
  pub named :
      (source : Change SourceState) (input output : List ℕ) (n : ℕ) (id : List ℕ) (board : BoardModel)
      → source.before.left ≡ Some input
      → AsksFirst jobs (lines_of input) n id board
      → RefusesFirst jobs source output
      → jobs.lacks board × (output ≡ report_text (refused_data (codes "V3") n))
  pub unnamed :
      (source : Change SourceState) (input output : List ℕ) (n : ℕ) (line : List ℕ)
      → source.before.left ≡ Some input
      → IsQuestion (lines_of input) 0 n line
      → ((id : List ℕ) (board : BoardModel) → ¬ Names jobs.grid line id board)
      → RefusesFirst jobs source output
      → (code : List ℕ) × HasFault jobs.grid line code × (output ≡ report_text (refused_data code n))

-- a replay that says that writing failed leaves a sink that has failed, and a sink fails only in a replay that says so
abbrev pub FailedReplayWritesAreTold : Jobs → Type 0
FailedReplayWritesAreTold jobs =
    ((source : Change SourceState) (sink : Change SinkState) → Replays jobs source sink (Err Write) → sink.after.has_failed ≡ true)
    × ((source : Change SourceState) (sink : Change SinkState) (result : Result ℕ LinesFault)
    → sink.before.has_failed ≡ false → result ≢ Err Write → Replays jobs source sink result → sink.after.has_failed ≡ false)

-- where an input is within the limit, a replay that says that reading failed leaves a source that has failed; and a source fails only in a replay that says so
abbrev pub FailedReplayReadsAreTold : Jobs → Type 0
FailedReplayReadsAreTold jobs =
    ((source : Change SourceState) (sink : Change SinkState) (input : List ℕ)
    → source.before.left ≡ Some input → length input ≤ INPUT_LIMIT → Replays jobs source sink (Err Read) → source.after.has_failed ≡ true)
    × ((source : Change SourceState) (sink : Change SinkState) (result : Result ℕ LinesFault) → result ≢ Err Read → Replays jobs source sink result → source.after.has_failed ≡ false)

-- The output replies to the lines behind line n, whose steps are a run of the board's job, and then reports, by this id, an outcome that the
-- reached world gives. It answers the board's task, and this is the status.
pub record AnswersNamedBoard (jobs : Jobs) (lines : List (List ℕ)) (n : ℕ) (id : List ℕ) (board : BoardModel) (output : List ℕ) (status : ℕ) : Type 0 where
  pub replies : List Reply
  pub via : Move
  pub end : WorldState
  pub outcome : Outcome
  pub replied : IsReplied (from_to (opening (jobs.job board) via) end) (drop n lines) replies
  pub given : IsReportOf end outcome
  pub answers : EndAnswers (jobs.job board).task (without_rows outcome)
  pub text : output ≡ replies_text replies ++ report_text (outcome_data id (without_rows outcome))
  pub told : status ≡ replay_status_of (are_fine replies) (without_rows outcome)

-- line n is refused by V3, since memory was refused for its board
abbrev pub LacksBoard : Jobs → ℕ → BoardModel → List ℕ → ℕ → Type 0
LacksBoard jobs n board output status = jobs.lacks board × (output ≡ report_text (refused_data (codes "V3") n)) × (status ≡ 1)

-- What a replay that ends well leaves in an empty sink. Where the board line of the input names a board, the output answers the board,
-- or V3 refuses the line. Where that line names none, the output is the report of a fault of the line. Where there is no board line, it is empty.
pub record LeavesAnswers (jobs : Jobs) (source : Change SourceState) (sink : Change SinkState) (status : ℕ) (input output : List ℕ) : Type 0 where
  pub left : sink.after.contents ≡ Some output
  pub named :
      (n : ℕ) (id : List ℕ) (board : BoardModel)
      → AsksFirst jobs (lines_of input) n id board
      → AnswersNamedBoard jobs (lines_of input) n id board output status ⊎ LacksBoard jobs n board output status
  pub unnamed :
      (n : ℕ) (line : List ℕ)
      → IsQuestion (lines_of input) 0 n line
      → ((id : List ℕ) (board : BoardModel) → ¬ Names jobs.grid line id board)
      → (code : List ℕ) × HasFault jobs.grid line code × (output ≡ report_text (refused_data code n)) × (status ≡ 1)
  pub silent : questions 1 (lines_of input) ≡ [] → (output ≡ []) × (status ≡ 0)

-- where the input is known and the sink was empty, a replay that ends well leaves such an output
abbrev pub ReplayOutputsAreAnswers : Jobs → Type 0
ReplayOutputsAreAnswers jobs =
    (source : Change SourceState) (sink : Change SinkState) (status : ℕ) (input : List ℕ)
    → source.before.left ≡ Some input
    → sink.before.contents ≡ Some []
    → Replays jobs source sink (Ok status)
    → (output : List ℕ) × LeavesAnswers jobs source sink status input output

-- the text has a reply to each of the first lines behind line n, whose steps are a run of the board's job, and nothing else
pub record RepliesToFirstSteps (jobs : Jobs) (lines : List (List ℕ)) (n : ℕ) (board : BoardModel) (text : List ℕ) : Type 0 where
  pub first : List (List ℕ)
  pub more : List (List ℕ)
  pub replies : List Reply
  pub via : Move
  pub end : WorldState
  pub parts : drop n lines ≡ first ++ more
  pub replied : IsReplied (from_to (opening (jobs.job board) via) end) first replies
  pub is : text ≡ replies_text replies

-- the sink holds a beginning of such replies, or of what answers the board, or of the report by which V3 refuses its line
pub record BeginsAnswer (jobs : Jobs) (sink : Change SinkState) (lines : List (List ℕ)) (n : ℕ) (id : List ℕ) (board : BoardModel) : Type 0 where
  pub written : List ℕ
  pub unwritten : List ℕ
  pub left : sink.after.contents ≡ Some written
  pub due :
      RepliesToFirstSteps jobs lines n board (written ++ unwritten)
      ⊎ ((status : ℕ) × (AnswersNamedBoard jobs lines n id board (written ++ unwritten) status ⊎ LacksBoard jobs n board (written ++ unwritten) status))

-- where the input is known, its board line names the board, and the sink was empty, a replay that ends early leaves such a beginning
abbrev pub EarlyReplaysBeginAnswers : Jobs → Type 0
EarlyReplaysBeginAnswers jobs =
    (source : Change SourceState) (sink : Change SinkState) (fault : LinesFault) (input : List ℕ) (n : ℕ) (id : List ℕ) (board : BoardModel)
    → source.before.left ≡ Some input
    → sink.before.contents ≡ Some []
    → AsksFirst jobs (lines_of input) n id board
    → Replays jobs source sink (Err fault)
    → BeginsAnswer jobs sink (lines_of input) n id board

-- the text has a reply to each of these lines behind line n, whose steps are a run of the board's job, and nothing else
pub record RepliesToAllSteps (jobs : Jobs) (lines : List (List ℕ)) (n : ℕ) (board : BoardModel) (text : List ℕ) : Type 0 where
  pub replies : List Reply
  pub via : Move
  pub reached : WorldState
  pub replied : IsReplied (from_to (opening (jobs.job board) via) reached) (drop n lines) replies
  pub is : text ≡ replies_text replies

-- the sink holds such replies to all of these lines
abbrev pub HoldsReplies : Jobs → Change SinkState → List (List ℕ) → ℕ → BoardModel → Type 0
HoldsReplies jobs sink lines n board = (text : List ℕ) × (sink.after.contents ≡ Some text) × RepliesToAllSteps jobs lines n board text

-- The input is known, its board line names the board, and the sink was empty. A replay that loses a line leaves the replies to all lines that
-- were read whole, and nothing where each of these is passed over. One that lacks memory for the report leaves the replies to all lines of the
-- input, and nothing where memory was refused for the board.
pub record EarlyReplaysAnswerAllRead (jobs : Jobs) : Type 0 where
  pub lost :
      (source : Change SourceState) (sink : Change SinkState) (input : List ℕ) (n : ℕ) (id : List ℕ) (board : BoardModel)
      → source.before.left ≡ Some input
      → sink.before.contents ≡ Some []
      → AsksFirst jobs (lines_of input) n id board
      → Replays jobs source sink (Err Read)
      → (read : List (List ℕ)) × LosesLine source read × ((All IsPassedOver read × (sink.after.contents ≡ Some [])) ⊎ HoldsReplies jobs sink read n board)
  pub lacking :
      (source : Change SourceState) (sink : Change SinkState) (input : List ℕ) (n : ℕ) (id : List ℕ) (board : BoardModel) (report : NoReport)
      → source.before.left ≡ Some input
      → sink.before.contents ≡ Some []
      → AsksFirst jobs (lines_of input) n id board
      → Replays jobs source sink (Err (Memory report))
      → (jobs.lacks board × (sink.after.contents ≡ Some [])) ⊎ HoldsReplies jobs sink (lines_of input) n board

-- the line names no board
abbrev pub NamesNone : Jobs → List ℕ → Type 0
NamesNone jobs line = (id : List ℕ) (board : BoardModel) → ¬ Names jobs.grid line id board

-- The input is known, its board line names no board, and the sink was empty. A replay that loses a line leaves nothing, and each line that was
-- read whole is passed over. One whose sink fails leaves a beginning of the report of a fault of the board line. One that lacks memory for
-- this report leaves nothing. Where there is no board line, nothing is left, and a replay ends early only where a line is lost.
pub record EarlyReplaysOfNoBoard (jobs : Jobs) : Type 0 where
  pub lost :
      (source : Change SourceState) (sink : Change SinkState) (input : List ℕ) (n : ℕ) (line : List ℕ)
      → source.before.left ≡ Some input
      → sink.before.contents ≡ Some []
      → IsQuestion (lines_of input) 0 n line
      → NamesNone jobs line
      → Replays jobs source sink (Err Read)
      → (read : List (List ℕ)) × LosesLine source read × All IsPassedOver read × (sink.after.contents ≡ Some [])
  pub failed :
      (source : Change SourceState) (sink : Change SinkState) (input : List ℕ) (n : ℕ) (line : List ℕ)
      → source.before.left ≡ Some input
      → sink.before.contents ≡ Some []
      → IsQuestion (lines_of input) 0 n line
      → NamesNone jobs line
      → Replays jobs source sink (Err Write)
      → (code written unwritten : List ℕ) × HasFault jobs.grid line code × (sink.after.contents ≡ Some written)
      × (written ++ unwritten ≡ report_text (refused_data code n))
  pub lacking :
      (source : Change SourceState) (sink : Change SinkState) (input : List ℕ) (n : ℕ) (line : List ℕ) (report : NoReport)
      → source.before.left ≡ Some input
      → sink.before.contents ≡ Some []
      → IsQuestion (lines_of input) 0 n line
      → NamesNone jobs line
      → Replays jobs source sink (Err (Memory report))
      → sink.after.contents ≡ Some []
  pub silent :
      (source : Change SourceState) (sink : Change SinkState) (fault : LinesFault) (input : List ℕ)
      → source.before.left ≡ Some input
      → sink.before.contents ≡ Some []
      → questions 1 (lines_of input) ≡ []
      → Replays jobs source sink (Err fault)
      → (fault ≡ Read) × (sink.after.contents ≡ Some [])

-- the line is to be read, and says this step
pub record IsStepLine (line : List ℕ) (step : Step) : Type 0 where
  pub within : line_kind_of line ≡ Within
  pub says : TextSays (without_return line) step

-- Replies follow a run of the board's job. Those to first lines are those to all of these lines. Among them, a line that says a step has what
-- the step answers in the world that the lines before it reach. In what answers a board, the report behind them is that of an outcome which
-- the last world gives. Without lines behind the board line, this is the world that the job opens with, and nothing else is written.
pub record AnswersFollowRuns (jobs : Jobs) : Type 0 where
  pub first :
      (lines : List (List ℕ)) (n : ℕ) (board : BoardModel) (text : List ℕ)
      → RepliesToFirstSteps jobs lines n board text
      → (begun more : List (List ℕ)) × (drop n lines ≡ begun ++ more) × RepliesToAllSteps jobs begun 0 board text
  pub replied :
      (lines : List (List ℕ)) (n : ℕ) (board : BoardModel) (text : List ℕ) (before after : List (List ℕ)) (line : List ℕ) (step : Step)
      → RepliesToAllSteps jobs lines n board text
      → drop n lines ≡ before ++ line ∷ after
      → IsStepLine line step
      → (via : Move) × (first rest : List Reply) × (reached left end : WorldState) × (said : Step) × (refusal : Option Refusal)
      × IsStepLine line said
      × IsReplied (from_to (opening (jobs.job board) via) reached) before first
      × Next said (turn reached refusal left)
      × IsReplied (from_to left end) after rest
      × (text ≡ replies_text first ++ ((answer_word refusal ++ 10 ∷ []) ++ replies_text rest))
  pub answered :
      (lines : List (List ℕ)) (n : ℕ) (id : List ℕ) (board : BoardModel) (output : List ℕ) (status : ℕ) (before after : List (List ℕ)) (line : List ℕ) (step : Step)
      → AnswersNamedBoard jobs lines n id board output status
      → drop n lines ≡ before ++ line ∷ after
      → IsStepLine line step
      → (via : Move) × (first rest : List Reply) × (reached left end : WorldState) × (said : Step) × (refusal : Option Refusal) × (outcome : Outcome)
      × IsStepLine line said
      × IsReplied (from_to (opening (jobs.job board) via) reached) before first
      × Next said (turn reached refusal left)
      × IsReplied (from_to left end) after rest
      × IsGiven end outcome
      × (output ≡ (replies_text first ++ ((answer_word refusal ++ 10 ∷ []) ++ replies_text rest)) ++ report_text (outcome_data id (without_rows outcome)))
  pub alone :
      (lines : List (List ℕ)) (n : ℕ) (id : List ℕ) (board : BoardModel) (output : List ℕ) (status : ℕ)
      → AnswersNamedBoard jobs lines n id board output status
      → drop n lines ≡ []
      → (via : Move) × (outcome : Outcome) × IsGiven (opening (jobs.job board) via) outcome × (output ≡ report_text (outcome_data id (without_rows outcome)))

-- ---- laws of the replies to lines, whatever the board

-- Where a line among others says a step, what is written has this line's answer between those to the lines before it and behind it. It is the
-- word of what the step answers in the world that the lines before it reach, and the lines behind it go on from the world that the step leaves.
abbrev pub SaidStepsAreAnswered : Type 0
SaidStepsAreAnswered =
    (world : Change WorldState) (before after : List (List ℕ)) (line : List ℕ) (replies : List Reply) (step : Step)
    → IsStepLine line step
    → IsReplied world (before ++ line ∷ after) replies
    → (first rest : List Reply) × (reached left : WorldState) × (said : Step) × (refusal : Option Refusal)
    × IsStepLine line said
    × IsReplied (from_to world.before reached) before first
    × Next said (turn reached refusal left)
    × IsReplied (from_to left world.after) after rest
    × (replies_text replies ≡ replies_text first ++ ((answer_word refusal ++ 10 ∷ []) ++ replies_text rest))

-- where a line says no step, B4 is written for it, and it leaves the world as it was
abbrev pub UnsaidStepsAreRefused : Type 0
UnsaidStepsAreRefused =
    (world : Change WorldState) (before after : List (List ℕ)) (line : List ℕ) (replies : List Reply)
    → ¬ IsPassedOver line
    → ((step : Step) → line_kind_of line ≡ Within → ¬ TextSays (without_return line) step)
    → IsReplied world (before ++ line ∷ after) replies
    → (first rest : List Reply) × (reached : WorldState)
    × IsReplied (from_to world.before reached) before first
    × IsReplied (from_to reached world.after) after rest
    × (replies_text replies ≡ replies_text first ++ ((codes "B4" ++ 10 ∷ []) ++ replies_text rest))

-- where a line is passed over, nothing is written for it, and it leaves the world as it was
abbrev pub PassedLinesAreSilent : Type 0
PassedLinesAreSilent =
    (world : Change WorldState) (before after : List (List ℕ)) (line : List ℕ) (replies : List Reply)
    → IsPassedOver line
    → IsReplied world (before ++ line ∷ after) replies
    → (first rest : List Reply) × (reached : WorldState)
    × IsReplied (from_to world.before reached) before first
    × IsReplied (from_to reached world.after) after rest
    × (replies_text replies ≡ replies_text first ++ replies_text rest)

-- each of the lines is passed over, or says a step
abbrev pub SayTheirSteps : List (List ℕ) → Type 0
SayTheirSteps [] = ⊤
SayTheirSteps (line ∷ lines) = (IsPassedOver line ⊎ ((step : Step) × (line_kind_of line ≡ Within) × TextSays (without_return line) step)) × SayTheirSteps lines

-- The last line of what answers the board that the board line names is read as JSON, and what it says of the board is true. The status is
-- 0 where it says a least plan or that there is none, and each line behind the board line is passed over or says a step. Else it is 1.
abbrev pub ReplayReportsAreTrue : Jobs → Type 0
ReplayReportsAreTrue jobs =
    (lines : List (List ℕ)) (n : ℕ) (id : List ℕ) (board : BoardModel) (output : List ℕ) (status : ℕ)
    → AsksFirst jobs lines n id board
    → AnswersNamedBoard jobs lines n id board output status
    → (replies line : List ℕ) × (d : Data) × (output ≡ replies ++ (line ++ 10 ∷ [])) × Reads line d × IsTrueOfBoard (jobs.job board).task id d
    × ((status ≡ 0) ↔ (SayTheirSteps (drop n lines) × (HasStatus d (codes "optimal") ⊎ HasStatus d (codes "unsolvable"))))
    × ((status ≡ 0) ⊎ (status ≡ 1))

-- where the board line of a known input is refused, no line behind it is taken
abbrev pub RefusedBoardsLeaveTheRest : Jobs → Type 0
RefusedBoardsLeaveTheRest jobs =
    (source : Change SourceState) (input rest output : List ℕ)
    → source.before.left ≡ Some input
    → source.after.left ≡ Some rest
    → RefusesFirst jobs source output
    → (passed : List (List ℕ)) × (line : List ℕ) × (lines_of input ≡ passed ++ line ∷ lines_of rest) × All IsPassedOver passed × (¬ IsPassedOver line)
