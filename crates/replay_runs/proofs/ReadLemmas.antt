-- Replies to lines, one after the other.
use Rattle.std.proofs.Common.{◌≡◌, ◌≢◌, ◌↔◌, inl, inr, ℕ, ◌+◌, ◌≤◌, List, [], ◌∷◌, ◌++◌, Bool, true, false, Result, Ok, Err, All, length, refl, sym, ap, ◌∙◌, subst, arith, append_assoc, codes, if◌then◌else◌, Option, None, Some, append-nil}
use Rattle.std.proofs.KnownBytes.{Appends-nil, Appends-trans}
use Rattle.byte_streams.specs.Streams.{SourceState, SinkState, Change, from_to}
use Rattle.byte_streams.specs.declared.source.ReadFailed.{ReadFailed}
use Rattle.batch_lines.specs.Lines.{is_passed_over, without_return}
use Rattle.batch_lines.specs.Readings.{IsJudged, LineReaderModel, ReadsLine}
use Rattle.batch_lines.specs.declared.lines.Line.{Line}
use Rattle.batch_lines.specs.declared.lines.LineKind.TheVariants.{PassedOver, Within, TooLong}
use Rattle.batch_runs.specs.Batches.{HasFailed}
use Rattle.batch_runs.specs.FirstLines.{IsPassedOver, FindsFirst, HasRead}
use Rattle.batch_runs.proofs.FindingLemmas.{HasRead-more, HasRead-end, HasRead-first, HasRead-lost}
use Rattle.std.specs.Prelude.{nat_lt, ◌&&◌, unwrap_or}
use Rattle.byte_streams.specs.Sink.{Puts, WritesAll, FailsWriting, PutsBeginning}
use Rattle.byte_streams.proofs.SinkLemmas.{PutsBeginning-after}
use Rattle.batch_lines.specs.declared.lines.LineKind.{LineKind}
use Rattle.world_model.specs.declared.steps.Refusal.{Refusal}
use Rattle.world_model.specs.declared.steps.Step.{Step}
use Rattle.world_model.specs.Worlds.{WorldState}
use Rattle.world_model.specs.Steps.{IsRun}
use Rattle.replay_runs.specs.Replies.{Reply, replies_text, replay_status_of, TextSays, RepliesToText, RepliesToKind, RepliesTo, RepliesToEach, Changes, steps_of, reply_text, reply_to, is_fine, are_fine, StepsAreTaken}
use Rattle.replay_runs.specs.Replies.Reply.{passed_over, no_step, taken}
use Rattle.batch_runs.specs.declared.faults.LinesFault.TheVariants.{Read, Write, Memory}
use Rattle.replay_runs.specs.Stepping.{IsReplied, IsReportOf, output_of, RepliesToLines, Finishes}
use Rattle.board.specs.Boards.{BoardModel}
use Rattle.batch_lines.specs.Words.{IsEntry, IsFirstEntryFault, entry_code}
use Rattle.batch_lines.specs.declared.words.EntryFault.{EntryFault}
use Rattle.outcomes.specs.declared.outcome.Outcome.{Outcome}
use Rattle.outcomes.specs.Endings.{without_rows}
use Rattle.batch_runs.specs.Reports.{outcome_data, refused_data, report_text}
use Rattle.world_model.specs.Laws.{RunsAnswer}
use Rattle.batch_runs.specs.Meanings.{Names}
use Rattle.batch_runs.specs.declared.faults.LinesFault.{LinesFault}
use Rattle.replay_runs.specs.Replays.{Jobs, IsReadLine, OpensRun, IsLineRefusedBy, RefusesFirst, IsPlay, IsEnd, WritesNothing, WritesRefusal, WritesPlay, Replays, ReportsRefusal}
use Rattle.replay_runs.specs.Replays.{AsksFirst, PlaysNamedBoards, RefusesFirstLines, AnswersNamedBoard, LacksBoard, LeavesAnswers, ReplayOutputsAreAnswers, LosesReplay, BeginsReplay, LacksReport, RepliesToFirstSteps, BeginsAnswer, EarlyReplaysBeginAnswers, RepliesToAllSteps, HoldsReplies, EarlyReplaysAnswerAllRead}
use Rattle.std.specs.Prelude.{drop, slice_get, not, ◌⊎◌}
use Rattle.std.proofs.Math.Seq.{drop-append-add}
use Rattle.std.proofs.lemmas.List.Elements.{All-head, All-tail}
use Rattle.board.specs.Shapes.{ShapeModel}
use Rattle.board.specs.declared.moves.Move.{Move}
use Rattle.board.specs.declared.moves.Move.TheVariants.{U}
use Rattle.batch_lines.specs.Lines.{lines_of, line_kind_of}
use Rattle.outcomes.specs.Outcomes.{Task, Answers}
use Rattle.outcomes.specs.Endings.{EndAnswers}
use Rattle.outcomes.specs.declared.outcome.Outcome.TheVariants as out
use Rattle.world_model.specs.Openings.{opening}
use Rattle.batch_runs.specs.Batches.{AreAll, AreFirst, LosesLine}
use Rattle.batch_runs.specs.Meanings.{HasFault, questions, IsQuestion}
use Rattle.batch_runs.proofs.TruthLemmas.{same_name, no_fault, truth}
use Rattle.std.specs.List.{AllByRecursion}
use Rattle.std.proofs.Common.{get_or, ⊎_elim}
use Rattle.std.proofs.lemmas.Bool.{ne_eqb}
use Rattle.serde_json.specs.Data.{Data, null, boolean, number, string, array, object}
use Rattle.serde_json.specs.Written.{compact_text}
use Rattle.batch_runs.specs.ReportReadings.{HasSmallNumbers, HasStatus, IsReport}
use Rattle.batch_runs.specs.ReportReadings.IsReport.{of_outcome}
use Rattle.batch_runs.proofs.ReadLemmas.{report_read}
use Rattle.batch_runs.proofs.TextLemmas.{text_other}
use Rattle.outcomes.specs.declared.outcome.Ending.{Ending}
use Rattle.outcomes.specs.declared.outcome.Ending.TheVariants as kinds
use Rattle.batch_lines.specs.Lines.{onto_first}
use Rattle.batch_runs.specs.Batches.{Rules, AnswersKind, AnswersLine, AreRead, answers_text}
use Rattle.batch_runs.specs.Batches.Answer.{answered}
use Rattle.batch_runs.specs.Batches.AnswersEntry.{by_outcome}
use Rattle.batch_runs.specs.Headline.{IsTrueOfBoard}
use Rattle.batch_runs.specs.Meanings.{IsReply, SaysRefused}
use Rattle.std.specs.Prelude.{◌<◌, ◌-◌, min, replicate}
use Rattle.std.proofs.lemmas.Bool.{cases_lt, cases_eq}
use Rattle.std.proofs.lemmas.List.{length-set, length-replicate}
use Rattle.world_model.proofs.ChangeLemmas.{get_set_other, at_replicate}
use Rattle.world_model.specs.declared.limits.TheConstants.{GREATEST_GRANT}
use Rattle.world_model.specs.declared.steps.Refusal.TheVariants.{NoSuchWorker}
use Rattle.world_model.specs.declared.steps.Step.TheVariants.{Draw, Grant}
use Rattle.world_model.specs.BookSteps.{AtBook}
use Rattle.world_model.specs.Openings.{Job, first_worker, idle_worker}
use Rattle.world_model.specs.Steps.{Next}
use Rattle.world_model.specs.Turns.{turn}
use Rattle.world_model.specs.Workers.{WorkerState}
use Rattle.world_model.specs.Worlds.{IsWorker}
use Rattle.batch_runs.specs.Setups.{SetupModel, owner_by, task_of_setup}
use Rattle.replay_runs.specs.Openings.{setup_jobs, ReplaysOpenAsSetUp}
use Rattle.replay_runs.specs.Replays.{SaidStepsAreAnswered, UnsaidStepsAreRefused, PassedLinesAreSilent, SayTheirSteps, ReplayReportsAreTrue, RefusedBoardsLeaveTheRest}
use Rattle.batch_runs.proofs.BatchLemmas.{AreFirst-read, held}

-- ---- one reply more

each_more : (lines : List (List ℕ)) (replies : List Reply) (line : List ℕ) (reply : Reply) → RepliesToEach lines replies → RepliesTo line reply → RepliesToEach (lines ++ line ∷ []) (replies ++ reply ∷ [])
each_more [] [] line reply before now = (now, tt)
each_more [] (other ∷ replies) line reply before now = absurd before
each_more (next ∷ lines) [] line reply before now = absurd before
each_more (next ∷ lines) (first ∷ replies) line reply before now = (before.0, each_more lines replies line reply before.1 now)

steps_more : (replies : List Reply) (reply : Reply) → steps_of (replies ++ reply ∷ []) ≡ steps_of replies ++ steps_of (reply ∷ [])
steps_more [] reply = refl
steps_more (passed_over ∷ replies) reply = steps_more replies reply
steps_more (no_step ∷ replies) reply = steps_more replies reply
steps_more (taken step refusal ∷ replies) reply = ap (λ (made : List (Step × Option Refusal)). (step, refusal) ∷ made) (steps_more replies reply)

pub text_more : (replies : List Reply) (reply : Reply) → replies_text (replies ++ reply ∷ []) ≡ replies_text replies ++ reply_text reply
text_more [] reply = append-nil (reply_text reply)
text_more (first ∷ replies) reply = ap (λ (text : List ℕ). reply_text first ++ text) (text_more replies reply) ∙ sym (append_assoc (reply_text first) (replies_text replies) (reply_text reply))

and_swap : (a b c : Bool) → (a && (b && c)) ≡ (b && (a && c))
and_swap true b c = refl
and_swap false true c = refl
and_swap false false c = refl

pub fine_more : (replies : List Reply) (reply : Reply) → are_fine (replies ++ reply ∷ []) ≡ (is_fine reply && are_fine replies)
fine_more [] reply = refl
fine_more (first ∷ replies) reply = ap (λ (b : Bool). is_fine first && b) (fine_more replies reply) ∙ and_swap (is_fine first) (is_fine reply) (are_fine replies)

run_on : (w v u : WorldState) (made more : List (Step × Option Refusal)) → IsRun w made v → IsRun v more u → IsRun w (made ++ more) u
run_on w v u [] more first next = subst (λ (x : WorldState). IsRun x more u) first next
run_on w v u (step ∷ made) more first next = (first.0, first.1, run_on first.0 v u made more first.2 next)

run_one : (v u : WorldState) (reply : Reply) → Changes (from_to v u) reply → IsRun v (steps_of (reply ∷ [])) u
run_one v u passed_over same = same
run_one v u no_step same = same
run_one v u (taken step refusal) next = (u, next, refl)

-- nothing is replied yet
pub IsReplied-none : (w : WorldState) → IsReplied (from_to w w) [] []
IsReplied-none w = record { each = tt; run = refl }

-- one line more is replied to
pub IsReplied-more : (w v u : WorldState) (later : List (List ℕ)) (replies : List Reply) (line : List ℕ) (reply : Reply) → IsReplied (from_to w v) later replies → RepliesTo line reply → Changes (from_to v u) reply → IsReplied (from_to w u) (later ++ line ∷ []) (replies ++ reply ∷ [])
IsReplied-more w v u later replies line reply before now changes = record {
  each = each_more later replies line reply before.each now;
  run = subst (λ (made : List (Step × Option Refusal)). IsRun w made u) (sym (steps_more replies reply)) (run_on w v u (steps_of replies) (steps_of (reply ∷ [])) before.run (run_one v u reply changes));
}

-- the reply by the bytes that were kept is the reply to the line
pub reply_is : (line : List ℕ) (kind : LineKind) (kept : List ℕ) (reply : Reply) → IsJudged line kind kept → RepliesToKind kind kept reply → RepliesTo line reply
reply_is line PassedOver kept reply judged is = subst (λ (kind : LineKind). RepliesToKind kind (without_return line) reply) judged.judged is
reply_is line TooLong kept reply judged is = subst (λ (kind : LineKind). RepliesToKind kind (without_return line) reply) judged.judged is
reply_is line Within kept reply judged is =
    subst (λ (kind : LineKind). RepliesToKind kind (without_return line) reply) judged.judged (subst (λ (bytes : List ℕ). RepliesToText bytes reply) (judged.whole refl) is)

-- a line that is neither passed over nor to be read is too long
pub long_said : (kind : LineKind) (bytes : List ℕ) → kind ≢ PassedOver → kind ≢ Within → RepliesToKind kind bytes no_step
long_said PassedOver bytes here long = absurd (here refl)
long_said Within bytes here long = absurd (long refl)
long_said TooLong bytes here long = refl

-- ---- lines that are answered

-- the lines `later` were read and replied to, and the replies are written
pub record IsAnswering (source : Change SourceState) (reader : Change LineReaderModel) (world : Change WorldState) (sink : Change SinkState) (fine : Bool) : Type 0 where
  pub later : List (List ℕ)
  pub replies : List Reply
  pub read : (begun : SourceState) (lines : List (List ℕ)) → HasRead (from_to begun source.before) reader.before lines → HasRead (from_to begun source.after) reader.after (lines ++ later)
  pub replied : IsReplied world later replies
  pub written : Puts sink (replies_text replies)
  pub said : fine ≡ are_fine replies

pub answering_begins : (a : SourceState) (r : LineReaderModel) (w : WorldState) (x : SinkState) → IsAnswering (from_to a a) (from_to r r) (from_to w w) (from_to x x) true
answering_begins a r w x = record {
  later = [];
  replies = [];
  read = λ begun lines has. subst (λ (ls : List (List ℕ)). HasRead (from_to begun a) r ls) (sym (append-nil lines)) has;
  replied = IsReplied-none w;
  written = Appends-nil x.contents;
  said = refl;
}

-- a line is read and replied to
pub record IsOneMore (source : Change SourceState) (reader : Change LineReaderModel) (world : Change WorldState) (reply : Reply) : Type 0 where
  pub line : Line
  pub read : ReadsLine source reader (Ok (Some line))
  pub is : RepliesToKind line.kind reader.after.kept reply
  pub changes : Changes world reply

-- the lines so far, and one more
has_more : (begun a b c : SourceState) (q r s : LineReaderModel) (later lines : List (List ℕ)) (line : Line) → ((start : SourceState) (before : List (List ℕ)) → HasRead (from_to start a) q before → HasRead (from_to start b) r (before ++ later)) → (read : ReadsLine (from_to b c) (from_to r s) (Ok (Some line))) → HasRead (from_to begun a) q lines → HasRead (from_to begun c) s (lines ++ (later ++ read.0 ∷ []))
has_more begun a b c q r s later lines line so_far read has =
    subst (λ (ls : List (List ℕ)). HasRead (from_to begun c) s ls) (append_assoc lines later (read.0 ∷ [])) (HasRead-more begun b c r s (lines ++ later) line (so_far begun lines has) read)

pub answering_on : (a b c : SourceState) (q r s : LineReaderModel) (w v u : WorldState) (x y z : SinkState) (fine : Bool) (reply : Reply) → IsAnswering (from_to a b) (from_to q r) (from_to w v) (from_to x y) fine → IsOneMore (from_to b c) (from_to r s) (from_to v u) reply → Puts (from_to y z) (reply_text reply) → IsAnswering (from_to a c) (from_to q s) (from_to w u) (from_to x z) (is_fine reply && fine)
answering_on a b c q r s w v u x y z fine reply answering next put = record {
  later = answering.later ++ next.read.0 ∷ [];
  replies = answering.replies ++ reply ∷ [];
  read = λ begun lines has. has_more begun a b c q r s answering.later lines next.line answering.read next.read has;
  replied = IsReplied-more w v u answering.later answering.replies next.read.0 reply answering.replied (reply_is next.read.0 next.line.kind s.kept reply next.read.2 next.is) next.changes;
  written = subst (λ (text : List ℕ). Puts (from_to x z) text) (sym (text_more answering.replies reply)) (Appends-trans x.contents y.contents z.contents (replies_text answering.replies) (reply_text reply) answering.written put);
  said = ap (λ (b : Bool). is_fine reply && b) answering.said ∙ sym (fine_more answering.replies reply);
}

-- the reply to one line more is written in part
pub answers_fail : (a b c : SourceState) (q r s : LineReaderModel) (w v u : WorldState) (x y z : SinkState) (fine : Bool) (reply : Reply) → IsAnswering (from_to a b) (from_to q r) (from_to w v) (from_to x y) fine → IsOneMore (from_to b c) (from_to r s) (from_to v u) reply → PutsBeginning (from_to y z) (reply_text reply) → c.has_failed ≡ false → HasFailed z
    → (begun : SourceState) (lines : List (List ℕ)) → HasRead (from_to begun a) q lines → RepliesToLines (from_to begun c) lines (from_to w u) (from_to x z) (Err Write)
answers_fail a b c q r s w v u x y z fine reply answering next begins readable failed begun lines has =
    let now = has_more begun a b c q r s answering.later lines next.line answering.read next.read has in (
      answering.later ++ next.read.0 ∷ [],
      answering.replies ++ reply ∷ [],
      HasRead-first begun c s (lines ++ (answering.later ++ next.read.0 ∷ [])) now,
      IsReplied-more w v u answering.later answering.replies next.read.0 reply answering.replied (reply_is next.read.0 next.line.kind s.kept reply next.read.2 next.is) next.changes,
      subst (λ (text : List ℕ). PutsBeginning (from_to x z) text) (sym (text_more answering.replies reply)) (PutsBeginning-after x y z (replies_text answering.replies) (reply_text reply) answering.written begins),
      readable,
      failed,
    )

-- no line is left
pub answers_end : (a b c : SourceState) (q r s : LineReaderModel) (w v : WorldState) (x y : SinkState) (fine : Bool) → IsAnswering (from_to a b) (from_to q r) (from_to w v) (from_to x y) fine → ReadsLine (from_to b c) (from_to r s) (Ok None) → y.has_failed ≡ x.has_failed
    → (begun : SourceState) (lines : List (List ℕ)) → HasRead (from_to begun a) q lines → RepliesToLines (from_to begun c) lines (from_to w v) (from_to x y) (Ok fine)
answers_end a b c q r s w v x y fine answering read kept begun lines has =
    (answering.later, answering.replies, HasRead-end begun b c r s (lines ++ answering.later) (answering.read begun lines has) read, answering.replied, answering.written, answering.said, read.3.0.1, kept)

-- the next line is lost
pub answers_lost : (a b c : SourceState) (q r s : LineReaderModel) (w v : WorldState) (x y : SinkState) (fine : Bool) (failure : ReadFailed) → IsAnswering (from_to a b) (from_to q r) (from_to w v) (from_to x y) fine → ReadsLine (from_to b c) (from_to r s) (Err failure) → y.has_failed ≡ x.has_failed
    → (begun : SourceState) (lines : List (List ℕ)) → HasRead (from_to begun a) q lines → RepliesToLines (from_to begun c) lines (from_to w v) (from_to x y) (Err Read)
answers_lost a b c q r s w v x y fine failure answering lost kept begun lines has =
    (answering.later, answering.replies, HasRead-lost begun b c r s (lines ++ answering.later) failure (answering.read begun lines has) lost, answering.replied, answering.written, kept)

-- a line of this kind is passed over
pub over_said : (kind : LineKind) (bytes : List ℕ) → kind ≡ PassedOver → RepliesToKind kind bytes passed_over
over_said kind bytes is = subst (λ (k : LineKind). RepliesToKind k bytes passed_over) (sym is) refl

-- a line that is to be read says a step, or none
pub step_said : (kind : LineKind) (bytes : List ℕ) (step : Option Step) (refusal : Option Refusal) → kind ≡ Within → ((s : Step) → (step ≡ Some s) ↔ TextSays bytes s) → RepliesToKind kind bytes (reply_to step refusal)
step_said kind bytes None refusal is says = subst (λ (k : LineKind). RepliesToKind k bytes no_step) (sym is) (λ s said. let never : None ≡ Some s = (says s).1 said in absurd (cc))
step_said kind bytes (Some step) refusal is says = subst (λ (k : LineKind). RepliesToKind k bytes (taken step refusal)) (sym is) ((says step).0 refl)

-- ---- How replays end.

-- ---- the report of the outcome

-- the report is written behind the replies
pub finishes : (source : Change SourceState) (lines : List (List ℕ)) (w v : WorldState) (x y z : SinkState) (id : List ℕ) (fine : Bool) (outcome : Outcome) (status : ℕ) → RepliesToLines source lines (from_to w v) (from_to x y) (Ok fine) → IsReportOf v outcome → WritesAll (from_to y z) (report_text (outcome_data id (without_rows outcome))) → status ≡ replay_status_of fine (without_rows outcome)
    → Finishes source lines w id (from_to x z) (Ok status)
finishes source lines w v x y z id fine outcome status (later, replies, all, replied, put, said, readable, kept) given written is =
    (later, replies, v, outcome, all, replied, given, Appends-trans x.contents y.contents z.contents (replies_text replies) (report_text (outcome_data id (without_rows outcome))) put written.0, is ∙ ap (λ (b : Bool). replay_status_of b (without_rows outcome)) said, readable, written.1.1 ∙ sym written.1.0 ∙ kept)

-- a beginning of it is
pub finishes_part : (source : Change SourceState) (lines : List (List ℕ)) (w v : WorldState) (x y z : SinkState) (id : List ℕ) (fine : Bool) (outcome : Outcome) → RepliesToLines source lines (from_to w v) (from_to x y) (Ok fine) → IsReportOf v outcome → FailsWriting (from_to y z) (report_text (outcome_data id (without_rows outcome)))
    → Finishes source lines w id (from_to x z) (Err Write)
finishes_part source lines w v x y z id fine outcome (later, replies, all, replied, put, said, readable, kept) given failed =
    inr (later, replies, v, outcome, all, replied, given, PutsBeginning-after x y z (replies_text replies) (report_text (outcome_data id (without_rows outcome))) put failed.0, readable, failed.1)

-- ---- the board line

-- a line that is to be read is within the limit
limit_of : (over long : Bool) → (if over then PassedOver else if long then TooLong else Within) ≡ Within → long ≡ false
limit_of true long e = absurd (cc)
limit_of false true e = absurd (cc)
limit_of false false e = refl

pub line_short : (line kept : List ℕ) (kind : LineKind) → IsJudged line kind kept → kind ≡ Within → length kept ≤ 1024
line_short line kept kind judged within =
    let short : nat_lt 1024 (length (without_return line)) ≡ false = limit_of (is_passed_over (without_return line)) (nat_lt 1024 (length (without_return line))) (sym judged.judged ∙ within) in
    let same : length kept ≡ length (without_return line) = ap length (judged.whole within) in
    grind arith

-- a refusal is written for the board line
pub refused : (jobs : Jobs) (a b : SourceState) (x y : SinkState) (passed : List (List ℕ)) (line code : List ℕ) (n : ℕ) (result : Result ℕ LinesFault) → FindsFirst (from_to a b) passed line → IsLineRefusedBy jobs line code → n ≡ length passed + 1 → b.has_failed ≡ false → ReportsRefusal (from_to x y) code n result → Replays jobs (from_to a b) (from_to x y) result
refused jobs a b x y passed line code n (Ok status) first cause at readable (written, is) =
    (inr (inl (report_text (refused_data code n), record { passed = passed; line = line; code = code; first = first; cause = cause; text = ap (λ (k : ℕ). report_text (refused_data code k)) at }, written.0, is)), readable, written.1.1 ∙ sym written.1.0)
refused jobs a b x y passed line code n (Err Read) first cause at readable never = absurd never
refused jobs a b x y passed line code n (Err Write) first cause at readable failed =
    (inl (report_text (refused_data code n), record { passed = passed; line = line; code = code; first = first; cause = cause; text = ap (λ (k : ℕ). report_text (refused_data code k)) at }, failed.0), readable, failed.1)
refused jobs a b x y passed line code n (Err (Memory lacking)) first cause at readable same =
    let none : Puts (from_to x y) [] = subst (λ (s : SinkState). Puts (from_to x s) []) (sym same) (Appends-nil x.contents) in
    (inl (report_text (refused_data code n), record { passed = passed; line = line; code = code; first = first; cause = cause; text = ap (λ (k : ℕ). report_text (refused_data code k)) at }, none), readable, ap (λ (s : SinkState). s.has_failed) same)

-- a line that is neither passed over nor to be read is too long
pub refused_long : (jobs : Jobs) (line kept : List ℕ) (kind : LineKind) → IsJudged line kind kept → ¬ IsPassedOver line → kind ≢ Within → IsLineRefusedBy jobs line (codes "E12")
refused_long jobs line kept PassedOver judged here long = absurd (here (sym judged.judged))
refused_long jobs line kept Within judged here long = absurd (long refl)
refused_long jobs line kept TooLong judged here long = inl (inl (sym judged.judged, refl))

-- the bytes that were kept of a line that is to be read are its own
pub within_bytes : (line kept bytes : List ℕ) (kind : LineKind) → IsJudged line kind kept → kind ≡ Within → bytes ≡ kept → IsReadLine line bytes
within_bytes line kept bytes kind judged within same = (sym judged.judged ∙ within, same ∙ judged.whole within)

-- a line that is to be read has a first fault
pub refused_fault : (jobs : Jobs) (line bytes : List ℕ) (fault : EntryFault) → IsReadLine line bytes → IsFirstEntryFault jobs.grid bytes fault → IsLineRefusedBy jobs line (entry_code fault)
refused_fault jobs line bytes fault (within, same) first = inl (inr (within, (fault, subst (λ (bs : List ℕ). IsFirstEntryFault jobs.grid bs fault) same first, refl)))

-- it names a board
pub names_by : (jobs : Jobs) (line bytes id : List ℕ) (board : BoardModel) → IsReadLine line bytes → IsEntry jobs.grid bytes id board → Names jobs.grid line id board
names_by jobs line bytes id board (within, same) entry = (within, subst (λ (bs : List ℕ). IsEntry jobs.grid bs id board) same entry)

-- ---- a play

abbrev pub begun_play : (jobs : Jobs) (passed later : List (List ℕ)) (line id : List ℕ) (w end : WorldState) (replies : List Reply) → All IsPassedOver passed → (begun : OpensRun jobs line id w) → IsReplied (from_to w end) later replies → (play : IsPlay jobs ((passed ++ line ∷ []) ++ later) id replies end) × (play.board ≡ begun.board)
begun_play jobs passed later line id w end replies before begun replied = (
  record {
    passed = passed;
    line = line;
    later = later;
    board = begun.board;
    via = begun.via;
    parts = append_assoc passed (line ∷ []) later;
    before = before;
    named = begun.named;
    replied = subst (λ (o : WorldState). IsReplied (from_to o end) later replies) begun.opens replied;
  },
  refl,
)

begun_end : RunsAnswer → (jobs : Jobs) (passed later : List (List ℕ)) (line id : List ℕ) (w end : WorldState) (replies : List Reply) (outcome : Outcome) → All IsPassedOver passed → OpensRun jobs line id w → IsReplied (from_to w end) later replies → IsReportOf end outcome → IsEnd jobs ((passed ++ line ∷ []) ++ later) id replies outcome
begun_end law jobs passed later line id w end replies outcome before begun replied given =
    let play = begun_play jobs passed later line id w end replies before begun replied in
    record {
      world = end;
      play = play.0;
      given = given;
      answers = law (jobs.job begun.board) begun.via _ end outcome begun.guided.0 begun.guided.1 play.0.replied.run given.0;
    }

pub played : RunsAnswer → (jobs : Jobs) (source : Change SourceState) (sink : Change SinkState) (passed : List (List ℕ)) (line id : List ℕ) (w : WorldState) (result : Result ℕ LinesFault) → All IsPassedOver passed → OpensRun jobs line id w → Finishes source (passed ++ line ∷ []) w id sink result → Replays jobs source sink result
played law jobs source sink passed line id w (Ok status) before begun (later, replies, end, outcome, all, replied, given, put, is, readable, kept) =
    (inr (inr ((passed ++ line ∷ []) ++ later, id, replies, outcome, all, begun_end law jobs passed later line id w end replies outcome before begun replied given, put, is)), readable, kept)
played law jobs source sink passed line id w (Err Read) before begun (later, replies, end, lost, replied, put, kept) =
    (((passed ++ line ∷ []) ++ later, lost, inr (id, replies, end, (begun_play jobs passed later line id w end replies before begun replied).0, put)), kept)
played law jobs source sink passed line id w (Err Write) before begun (inl (later, replies, end, first, replied, begins, readable, failed)) =
    (inr (inl ((passed ++ line ∷ []) ++ later, id, replies, end, first, (begun_play jobs passed later line id w end replies before begun replied).0, begins)), readable, failed)
played law jobs source sink passed line id w (Err Write) before begun (inr (later, replies, end, outcome, all, replied, given, begins, readable, failed)) =
    (inr (inr ((passed ++ line ∷ []) ++ later, id, replies, outcome, all, begun_end law jobs passed later line id w end replies outcome before begun replied given, begins)), readable, failed)
played law jobs source sink passed line id w (Err (Memory lacking)) before begun (later, replies, end, all, replied, put, readable, kept) =
    (inr ((passed ++ line ∷ []) ++ later, id, replies, end, all, (begun_play jobs passed later line id w end replies before begun replied).0, put), readable, kept)

-- ---- a text that says a step

-- it says one step alone, since one is read from it
pub reply_taken : (bytes : List ℕ) (found : Option Step) → ((step : Step) → (found ≡ Some step) ↔ TextSays bytes step) → StepsAreTaken bytes
reply_taken bytes found read step passed_over says replies = absurd replies
reply_taken bytes found read step no_step says replies = absurd (replies step says)
reply_taken bytes found read step (taken other refusal) says replies =
    let same : ◌≡◌ {A = Option Step} (Some other) (Some step) = sym ((read other).1 replies) ∙ (read step).1 says in
    (refusal, ap (λ (s : Step). taken s refusal) (ap (λ (o : Option Step). unwrap_or o other) same))

-- ---- what the definitions say of the first line that asks

over_not : (over long : Bool) → ¬ ((if over then PassedOver else if long then TooLong else Within) ≡ PassedOver) → over ≡ false
over_not true long here = absurd (here refl)
over_not false long here = refl

over_is : (over long : Bool) → (if over then PassedOver else if long then TooLong else Within) ≡ PassedOver → over ≡ true
over_is true long is = refl
over_is false true is = absurd (cc)
over_is false false is = absurd (cc)

-- a line of a board isn't passed over
pub named_here : (grid : ShapeModel) (line id : List ℕ) (board : BoardModel) → Names grid line id board → ¬ IsPassedOver line
named_here grid line id board names over = let both : PassedOver ≡ Within = sym over ∙ names.0 in absurd (cc)

-- the questions, by whether the first line is passed over
abbrev asked_by : ℕ → List ℕ → List (List ℕ) → Bool → List (ℕ × List ℕ)
asked_by n line lines over = if over then questions (n + 1) lines else (n, line) ∷ questions (n + 1) lines

by_over : (n : ℕ) (line : List ℕ) (lines : List (List ℕ)) → questions n (line ∷ lines) ≡ asked_by n line lines (is_passed_over (without_return line))
by_over n line lines = of (is_passed_over (without_return line))
  where
    of : (over : Bool) → (if not over then (n, line) ∷ questions (n + 1) lines else questions (n + 1) lines) ≡ asked_by n line lines over
    of true = refl
    of false = refl

-- behind lines that are passed over, the next one is the first question
first_question : (n : ℕ) (passed later : List (List ℕ)) (line : List ℕ) → All IsPassedOver passed → ¬ IsPassedOver line → (first : ℕ) × (rest : List (ℕ × List ℕ)) × (questions n (passed ++ line ∷ later) ≡ (first, line) ∷ rest) × (first ≡ length passed + n)
first_question n [] later line over here =
    let asks_it = over_not (is_passed_over (without_return line)) (nat_lt 1024 (length (without_return line))) here in
    (n, questions (n + 1) later, by_over n line later ∙ ap (asked_by n line later) asks_it, omega arith)
first_question n (next ∷ passed) later line over here =
    let tail = first_question (n + 1) passed later line (All-tail IsPassedOver next passed over) here in
    let skips = over_is (is_passed_over (without_return next)) (nat_lt 1024 (length (without_return next))) (All-head IsPassedOver next passed over) in
    (tail.0, tail.1, by_over n next (passed ++ line ∷ later) ∙ ap (asked_by n next (passed ++ line ∷ later)) skips ∙ tail.2, omega (arith, tail.3))

-- lines that are passed over have no question
no_questions : (n : ℕ) (lines : List (List ℕ)) → All IsPassedOver lines → questions n lines ≡ []
no_questions n [] over = refl
no_questions n (next ∷ lines) over =
    let skips = over_is (is_passed_over (without_return next)) (nat_lt 1024 (length (without_return next))) (All-head IsPassedOver next lines over) in
    by_over n next lines ∙ ap (asked_by n next lines) skips ∙ no_questions (n + 1) lines (All-tail IsPassedOver next lines over)

abbrev asked_or : ℕ × List ℕ → Option (ℕ × List ℕ) → ℕ × List ℕ
asked_or other None = other
asked_or other (Some asked) = asked

-- the number and the line of the first question, and the lines behind it
pub first_is : (lines passed later : List (List ℕ)) (line asked : List ℕ) (n : ℕ) → lines ≡ passed ++ line ∷ later → All IsPassedOver passed → ¬ IsPassedOver line → IsQuestion lines 0 n asked → (n ≡ length passed + 1) × (asked ≡ line) × (drop n lines ≡ later)
first_is lines passed later line asked n parts over here question =
    let found = first_question 1 passed later line over here in
    let same : Some (found.0, line) ≡ Some (n, asked) = sym (ap (λ (qs : List (ℕ × List ℕ)). slice_get qs 0) (ap (questions 1) parts ∙ found.2)) ∙ question in
    let number : n ≡ length passed + 1 = sym (ap (λ (o : Option (ℕ × List ℕ)). (asked_or (n, asked) o).0) same) ∙ found.3 in
    (number, sym (ap (λ (o : Option (ℕ × List ℕ)). (asked_or (n, asked) o).1) same), ap (λ (k : ℕ). drop k lines) number ∙ ap (λ (ls : List (List ℕ)). drop (length passed + 1) ls) parts ∙ drop-append-add passed (line ∷ later) 1)

-- the board that is played, and its id, are those that the first question names
played_is : (jobs : Jobs) (lines : List (List ℕ)) (n : ℕ) (name id : List ℕ) (board : BoardModel) (replies : List Reply) (w : WorldState) → AsksFirst jobs lines n name board → (play : IsPlay jobs lines id replies w) → (id ≡ name) × (play.board ≡ board) × (drop n lines ≡ play.later)
played_is jobs lines n name id board replies w (asked, question, names) play =
    let first = first_is lines play.passed play.later play.line asked n play.parts play.before (named_here jobs.grid play.line id play.board play.named) question in
    let same = same_name jobs.grid play.line name id board play.board (subst (λ (line : List ℕ). Names jobs.grid line name board) first.1 names) play.named in
    (same.0, same.1, first.2)

named_played : (jobs : Jobs) (lines : List (List ℕ)) (n : ℕ) (name id : List ℕ) (board : BoardModel) (replies : List Reply) (w : WorldState) → AsksFirst jobs lines n name board → IsPlay jobs lines id replies w → (id ≡ name) × ((via : Move) × IsReplied (from_to (opening (jobs.job board) via) w) (drop n lines) replies)
named_played jobs lines n name id board replies w asks_it play =
    let is = played_is jobs lines n name id board replies w asks_it play in
    let behind : IsReplied (from_to (opening (jobs.job play.board) play.via) w) (drop n lines) replies = subst (λ (later : List (List ℕ)). IsReplied (from_to (opening (jobs.job play.board) play.via) w) later replies) (sym is.2) play.replied in
    (is.0, (play.via, subst (λ (b : BoardModel). IsReplied (from_to (opening (jobs.job b) play.via) w) (drop n lines) replies) is.1 behind))

rows_left : (task : Task) (outcome : Outcome) → Answers task outcome → EndAnswers task (without_rows outcome)
rows_left task (out.Optimal cost plan rows) (leads, least, are, low, few) = (leads, least, (rows.items, are), low, few)
rows_left task (out.Unsolvable why) answers = answers
rows_left task (out.Bounded bound best cause (Some rows)) (is, are) = (is, (rows.items, are))
rows_left task (out.Bounded bound best cause None) (is, alone, proof) = (is, proof)

named_answered : (jobs : Jobs) (lines : List (List ℕ)) (n : ℕ) (name id : List ℕ) (board : BoardModel) (replies : List Reply) (outcome : Outcome) → AsksFirst jobs lines n name board → IsEnd jobs lines id replies outcome → Answers (jobs.job board).task outcome × EndAnswers (jobs.job board).task (without_rows outcome) × ((w : WorldState) × IsPlay jobs lines name replies w × IsReportOf w outcome)
named_answered jobs lines n name id board replies outcome asks_it end =
    let is = played_is jobs lines n name id board replies end.world asks_it end.play in
    let answers : Answers (jobs.job board).task outcome = subst (λ (b : BoardModel). Answers (jobs.job b).task outcome) is.1 end.answers in
    (answers, rows_left (jobs.job board).task outcome answers, (end.world, subst (λ (i : List ℕ). IsPlay jobs lines i replies end.world) is.0 end.play, end.given))

pub plays_named : (jobs : Jobs) → PlaysNamedBoards jobs
plays_named jobs = record { played = named_played jobs; answered = named_answered jobs }

-- the lines of a known input, where the first that isn't passed over was found
pub found_in : (source : Change SourceState) (input : List ℕ) (passed : List (List ℕ)) (line : List ℕ) → source.before.left ≡ Some input → FindsFirst source passed line → (later : List (List ℕ)) × (lines_of input ≡ passed ++ line ∷ later)
found_in source input passed line known found =
    let first : (more : List (List ℕ)) × (lines_of input ≡ (passed ++ line ∷ []) ++ more) = subst (λ (left : Option (List ℕ)). AreFirst left (passed ++ line ∷ [])) known (AreFirst-read source.before.left source.after.left (passed ++ line ∷ []) found.read) in
    (first.0, first.1 ∙ append_assoc passed (line ∷ []) first.0)

-- the refused line is the first question
refused_is : (jobs : Jobs) (source : Change SourceState) (input output : List ℕ) (n : ℕ) (line : List ℕ) → source.before.left ≡ Some input → IsQuestion (lines_of input) 0 n line → RefusesFirst jobs source output → (code : List ℕ) × IsLineRefusedBy jobs line code × (output ≡ report_text (refused_data code n))
refused_is jobs source input output n line known question refuses =
    let found = found_in source input refuses.passed refuses.line known refuses.first in
    let first = first_is (lines_of input) refuses.passed found.0 refuses.line line n found.1 refuses.first.before refuses.first.here question in
    (refuses.code, subst (λ (l : List ℕ). IsLineRefusedBy jobs l refuses.code) (sym first.1) refuses.cause, refuses.text ∙ ap (λ (k : ℕ). report_text (refused_data refuses.code k)) (sym first.0))

want_of : (jobs : Jobs) (line id code : List ℕ) (board : BoardModel) → Names jobs.grid line id board → IsLineRefusedBy jobs line code → jobs.lacks board × (code ≡ codes "V3")
want_of jobs line id code board names (inl fault) = absurd (no_fault jobs.grid line id code board names fault)
want_of jobs line id code board names (inr (other, b, named, lacks, is)) = (subst jobs.lacks (same_name jobs.grid line id other board b names named).1 lacks, is)

refused_by_want : (jobs : Jobs) (source : Change SourceState) (input output : List ℕ) (n : ℕ) (id : List ℕ) (board : BoardModel) → source.before.left ≡ Some input → AsksFirst jobs (lines_of input) n id board → RefusesFirst jobs source output → jobs.lacks board × (output ≡ report_text (refused_data (codes "V3") n))
refused_by_want jobs source input output n id board known (line, question, names) refuses =
    let is = refused_is jobs source input output n line known question refuses in
    let want = want_of jobs line id is.0 board names is.1 in
    (want.0, is.2 ∙ ap (λ (code : List ℕ). report_text (refused_data code n)) want.1)

fault_of : (jobs : Jobs) (line code : List ℕ) → ((id : List ℕ) (board : BoardModel) → ¬ Names jobs.grid line id board) → IsLineRefusedBy jobs line code → HasFault jobs.grid line code
fault_of jobs line code none (inl fault) = fault
fault_of jobs line code none (inr (id, board, named, lacks, is)) = absurd (none id board named)

pub refused_by_fault : (jobs : Jobs) (source : Change SourceState) (input output : List ℕ) (n : ℕ) (line : List ℕ) → source.before.left ≡ Some input → IsQuestion (lines_of input) 0 n line → ((id : List ℕ) (board : BoardModel) → ¬ Names jobs.grid line id board) → RefusesFirst jobs source output → (code : List ℕ) × HasFault jobs.grid line code × (output ≡ report_text (refused_data code n))
refused_by_fault jobs source input output n line known question none refuses =
    let is = refused_is jobs source input output n line known question refuses in
    (is.0, fault_of jobs line is.0 none is.1, is.2)

pub refuses_first : (jobs : Jobs) → RefusesFirstLines jobs
refuses_first jobs = record { named = refused_by_want jobs; unnamed = refused_by_fault jobs }

-- ---- what they say of outputs

no_first : (asked : ℕ × List ℕ) → None ≢ Some asked
no_first asked is = absurd (cc)

none_asked : (lines : List (List ℕ)) (n : ℕ) (line : List ℕ) → questions 1 lines ≡ [] → ¬ IsQuestion lines 0 n line
none_asked lines n line none question = no_first (n, line) (sym (ap (λ (qs : List (ℕ × List ℕ)). slice_get qs 0) none) ∙ question)

asked_none : (asked : ℕ × List ℕ) (rest : List (ℕ × List ℕ)) → asked ∷ rest ≢ []
asked_none asked rest is = absurd (cc)

-- where a line isn't passed over, some line asks
pub some_asked : (lines passed later : List (List ℕ)) (line : List ℕ) → lines ≡ passed ++ line ∷ later → All IsPassedOver passed → ¬ IsPassedOver line → questions 1 lines ≢ []
some_asked lines passed later line parts over here none =
    let found = first_question 1 passed later line over here in
    asked_none (found.0, line) found.1 (sym (ap (questions 1) parts ∙ found.2) ∙ none)

module _ (jobs : Jobs) (source : Change SourceState) (sink : Change SinkState) (status : ℕ) (input : List ℕ) (known : source.before.left ≡ Some input) (empty : sink.before.contents ≡ Some []) where
  abbrev Leaves : Type 0
  Leaves = (output : List ℕ) × LeavesAnswers jobs source sink status input output

  all_are : (lines : List (List ℕ)) → AreAll source.before.left lines → lines_of input ≡ lines
  all_are lines all = subst (λ (left : Option (List ℕ)). AreAll left lines) known all

  leaves_nothing : WritesNothing source sink status → Leaves
  leaves_nothing (lines, all, over, put, is) =
      let none : questions 1 (lines_of input) ≡ [] = ap (questions 1) (all_are lines all) ∙ no_questions 1 lines over in (
        [],
        record {
          left = held sink.before.contents sink.after.contents [] empty put;
          named = λ n id board asks_it. absurd (none_asked (lines_of input) n asks_it.0 none asks_it.1);
          unnamed = λ n line question names. absurd (none_asked (lines_of input) n line none question);
          silent = λ asked. (refl, is);
        },
      )

  leaves_refusal : WritesRefusal jobs source sink status → Leaves
  leaves_refusal (output, refuses, put, is) =
      let found = found_in source input refuses.passed refuses.line known refuses.first in (
        output,
        record {
          left = held sink.before.contents sink.after.contents output empty put;
          named = λ n id board asks_it. let want = refused_by_want jobs source input output n id board known asks_it refuses in inr (want.0, want.1, is);
          unnamed = λ n line question names. let fault = refused_by_fault jobs source input output n line known question names refuses in (fault.0, fault.1, fault.2, is);
          silent = λ none. absurd (some_asked (lines_of input) refuses.passed found.0 refuses.line found.1 refuses.first.before refuses.first.here none);
        },
      )

  leaves_play : WritesPlay jobs source sink status → Leaves
  leaves_play (lines, name, replies, outcome, all, end, put, is) =
      let ended : IsEnd jobs (lines_of input) name replies outcome = subst (λ (ls : List (List ℕ)). IsEnd jobs ls name replies outcome) (sym (all_are lines all)) end in
      let play = ended.play in
      let here = named_here jobs.grid play.line name play.board play.named in
      let text : List ℕ = replies_text replies ++ report_text (outcome_data name (without_rows outcome)) in (
        text,
        record {
          left = held sink.before.contents sink.after.contents text empty put;
          named = λ n id board asks_it.
              let played = named_played jobs (lines_of input) n id name board replies ended.world asks_it play in
              let answered = named_answered jobs (lines_of input) n id name board replies outcome asks_it ended in
              inl (record { replies = replies; via = played.1.0; end = ended.world; outcome = outcome; replied = played.1.1; given = ended.given; answers = answered.1; text = ap (λ (i : List ℕ). replies_text replies ++ report_text (outcome_data i (without_rows outcome))) played.0; told = is });
          unnamed = λ n line question names.
              let first = first_is (lines_of input) play.passed play.later play.line line n play.parts play.before here question in
              absurd (names name play.board (subst (λ (l : List ℕ). Names jobs.grid l name play.board) (sym first.1) play.named));
          silent = λ none. absurd (some_asked (lines_of input) play.passed play.later play.line play.parts play.before here none);
        },
      )

  leaves : WritesNothing source sink status ⊎ WritesRefusal jobs source sink status ⊎ WritesPlay jobs source sink status → Leaves
  leaves (inl nothing) = leaves_nothing nothing
  leaves (inr (inl refusal)) = leaves_refusal refusal
  leaves (inr (inr play)) = leaves_play play

pub outputs_answer : (jobs : Jobs) → ReplayOutputsAreAnswers jobs
outputs_answer jobs source sink status input known empty replays = leaves jobs source sink status input known empty replays.0

-- ---- what they say of replays that end early

module _ (jobs : Jobs) (source : Change SourceState) (sink : Change SinkState) (input : List ℕ) (n : ℕ) (id : List ℕ) (board : BoardModel) (known : source.before.left ≡ Some input) (empty : sink.before.contents ≡ Some []) (asks_it : AsksFirst jobs (lines_of input) n id board) where
  abbrev Due : List ℕ → Type 0
  Due text = RepliesToFirstSteps jobs (lines_of input) n board text ⊎ ((status : ℕ) × (AnswersNamedBoard jobs (lines_of input) n id board text status ⊎ LacksBoard jobs n board text status))

  abbrev Begins : Type 0
  Begins = BeginsAnswer jobs sink (lines_of input) n id board

  none_due : Due []
  none_due = inl (record { first = []; more = drop n (lines_of input); replies = []; via = U; end = opening (jobs.job board) U; parts = refl; replied = IsReplied-none (opening (jobs.job board) U); is = refl })

  begun : (text : List ℕ) → Due text → PutsBeginning sink text → Begins
  begun text due begins = record { written = begins.sent; unwritten = begins.unsent; left = held sink.before.contents sink.after.contents begins.sent empty begins.put; due = subst Due begins.parts due }

  put_all : (text : List ℕ) → Due text → Puts sink text → Begins
  put_all text due put = begun text due (record { sent = text; unsent = []; parts = sym (append-nil text); put = put })

  replies_due : (lines : List (List ℕ)) (name : List ℕ) (replies : List Reply) (w : WorldState) → AreFirst source.before.left lines → IsPlay jobs lines name replies w → Due (replies_text replies)
  replies_due lines name replies w begins play =
      let some : (more : List (List ℕ)) × (lines_of input ≡ lines ++ more) = subst (λ (left : Option (List ℕ)). AreFirst left lines) known begins in
      let parts : lines_of input ≡ play.passed ++ play.line ∷ (play.later ++ some.0) = some.1 ∙ ap (λ (ls : List (List ℕ)). ls ++ some.0) play.parts ∙ append_assoc play.passed (play.line ∷ play.later) some.0 in
      let here = first_is (lines_of input) play.passed (play.later ++ some.0) play.line asks_it.0 n parts play.before (named_here jobs.grid play.line name play.board play.named) asks_it.1 in
      let same = same_name jobs.grid play.line id name board play.board (subst (λ (line : List ℕ). Names jobs.grid line id board) here.1 asks_it.2) play.named in
      inl (record { first = play.later; more = some.0; replies = replies; via = play.via; end = w; parts = here.2; replied = subst (λ (b : BoardModel). IsReplied (from_to (opening (jobs.job b) play.via) w) play.later replies) same.1 play.replied; is = refl })

  refusal_due : (output : List ℕ) → RefusesFirst jobs source output → Due output
  refusal_due output refuses = let want = refused_by_want jobs source input output n id board known asks_it refuses in inr (1, inr (want.0, want.1, refl))

  end_due : (lines : List (List ℕ)) (name : List ℕ) (replies : List Reply) (outcome : Outcome) → AreAll source.before.left lines → IsEnd jobs lines name replies outcome → Due (output_of replies name outcome)
  end_due lines name replies outcome all end =
      let ended : IsEnd jobs (lines_of input) name replies outcome = subst (λ (ls : List (List ℕ)). IsEnd jobs ls name replies outcome) (sym (subst (λ (left : Option (List ℕ)). AreAll left lines) known all)) end in
      let played = named_played jobs (lines_of input) n id name board replies ended.world asks_it ended.play in
      let answered = named_answered jobs (lines_of input) n id name board replies outcome asks_it ended in
      inr (replay_status_of (are_fine replies) (without_rows outcome), inl (record { replies = replies; via = played.1.0; end = ended.world; outcome = outcome; replied = played.1.1; given = ended.given; answers = answered.1; text = ap (λ (i : List ℕ). replies_text replies ++ report_text (outcome_data i (without_rows outcome))) played.0; told = refl }))

  all_first : (lines : List (List ℕ)) → AreAll source.before.left lines → AreFirst source.before.left lines
  all_first lines all = of source.before.left all
    where
      of : (left : Option (List ℕ)) → AreAll left lines → AreFirst left lines
      of None all = tt
      of (Some bytes) all = ([], all ∙ sym (append-nil lines))

  loses : LosesReplay jobs source sink → Begins
  loses (lines, lost, inl (over, put)) = put_all [] none_due put
  loses (lines, lost, inr (name, replies, w, play, put)) = put_all (replies_text replies) (replies_due lines name replies w (AreFirst-read source.before.left lost.between.left lines lost.whole) play) put

  begins_replay : BeginsReplay jobs source sink → Begins
  begins_replay (inl (output, refuses, begins)) = begun output (refusal_due output refuses) begins
  begins_replay (inr (inl (lines, name, replies, w, first, play, begins))) = begun (replies_text replies) (replies_due lines name replies w first play) begins
  begins_replay (inr (inr (lines, name, replies, outcome, all, end, begins))) = begun (output_of replies name outcome) (end_due lines name replies outcome all end) begins

  lacks_report : LacksReport jobs source sink → Begins
  lacks_report (inl (output, refuses, put)) = put_all [] none_due put
  lacks_report (inr (lines, name, replies, w, all, play, put)) = put_all (replies_text replies) (replies_due lines name replies w (all_first lines all) play) put

pub early_begins : (jobs : Jobs) → EarlyReplaysBeginAnswers jobs
early_begins jobs source sink Read input n id board known empty asks_it replays = loses jobs source sink input n id board known empty asks_it replays.0
early_begins jobs source sink Write input n id board known empty asks_it replays = begins_replay jobs source sink input n id board known empty asks_it replays.0
early_begins jobs source sink (Memory lacking) input n id board known empty asks_it replays = lacks_report jobs source sink input n id board known empty asks_it replays.0

-- the replies to the first lines of an input, whose board line is among them, are those to all lines behind that line
replies_to_all : (jobs : Jobs) (all lines more : List (List ℕ)) (n : ℕ) (id name : List ℕ) (board : BoardModel) (replies : List Reply) (w : WorldState) → all ≡ lines ++ more → AsksFirst jobs all n id board → IsPlay jobs lines name replies w → RepliesToAllSteps jobs lines n board (replies_text replies)
replies_to_all jobs all lines more n id name board replies w is asks_it play =
    let parts : all ≡ play.passed ++ play.line ∷ (play.later ++ more) = is ∙ ap (λ (ls : List (List ℕ)). ls ++ more) play.parts ∙ append_assoc play.passed (play.line ∷ play.later) more in
    let here = first_is all play.passed (play.later ++ more) play.line asks_it.0 n parts play.before (named_here jobs.grid play.line name play.board play.named) asks_it.1 in
    let same = same_name jobs.grid play.line id name board play.board (subst (λ (line : List ℕ). Names jobs.grid line id board) here.1 asks_it.2) play.named in
    let behind : drop n lines ≡ play.later = ap (λ (k : ℕ). drop k lines) here.0 ∙ ap (λ (ls : List (List ℕ)). drop (length play.passed + 1) ls) play.parts ∙ drop-append-add play.passed (play.line ∷ play.later) 1 in
    let replied : IsReplied (from_to (opening (jobs.job play.board) play.via) w) (drop n lines) replies = subst (λ (later : List (List ℕ)). IsReplied (from_to (opening (jobs.job play.board) play.via) w) later replies) (sym behind) play.replied in
    record { replies = replies; via = play.via; reached = w; replied = subst (λ (b : BoardModel). IsReplied (from_to (opening (jobs.job b) play.via) w) (drop n lines) replies) same.1 replied; is = refl }

module _ (jobs : Jobs) (source : Change SourceState) (sink : Change SinkState) (input : List ℕ) (n : ℕ) (id : List ℕ) (board : BoardModel) (known : source.before.left ≡ Some input) (empty : sink.before.contents ≡ Some []) (asks_it : AsksFirst jobs (lines_of input) n id board) where
  -- what was put is what the sink holds, since it was empty
  now_held : (text : List ℕ) → Puts sink text → sink.after.contents ≡ Some text
  now_held text put = held sink.before.contents sink.after.contents text empty put

  lost_answers : LosesReplay jobs source sink → (lines : List (List ℕ)) × LosesLine source lines × ((All IsPassedOver lines × (sink.after.contents ≡ Some [])) ⊎ HoldsReplies jobs sink lines n board)
  lost_answers (lines, lost, inl (over, put)) = (lines, lost, inl (over, now_held [] put))
  lost_answers (lines, lost, inr (name, replies, w, play, put)) =
      let some : (more : List (List ℕ)) × (lines_of input ≡ lines ++ more) = subst (λ (left : Option (List ℕ)). AreFirst left lines) known (AreFirst-read source.before.left lost.between.left lines lost.whole) in
      (lines, lost, inr (replies_text replies, now_held (replies_text replies) put, replies_to_all jobs (lines_of input) lines some.0 n id name board replies w some.1 asks_it play))

  lacking_answers : LacksReport jobs source sink → (jobs.lacks board × (sink.after.contents ≡ Some [])) ⊎ HoldsReplies jobs sink (lines_of input) n board
  lacking_answers (inl (output, refuses, put)) = inl ((refused_by_want jobs source input output n id board known asks_it refuses).0, now_held [] put)
  lacking_answers (inr (lines, name, replies, w, all, play, put)) =
      let same : lines_of input ≡ lines = subst (λ (left : Option (List ℕ)). AreAll left lines) known all in
      let whole : IsPlay jobs (lines_of input) name replies w = subst (λ (ls : List (List ℕ)). IsPlay jobs ls name replies w) (sym same) play in
      inr (replies_text replies, now_held (replies_text replies) put, replies_to_all jobs (lines_of input) (lines_of input) [] n id name board replies w (sym (append-nil (lines_of input))) asks_it whole)

pub early_answers : (jobs : Jobs) → EarlyReplaysAnswerAllRead jobs
early_answers jobs = record {
  lost = λ source sink input n id board known empty asks_it replays. lost_answers jobs source sink input n id board known empty asks_it replays.0;
  lacking = λ source sink input n id board report known empty asks_it replays. lacking_answers jobs source sink input n id board known empty asks_it replays.0;
}

-- ---- the reply to one line among others

steps_parts : (first more : List Reply) → steps_of (first ++ more) ≡ steps_of first ++ steps_of more
steps_parts [] more = refl
steps_parts (passed_over ∷ first) more = steps_parts first more
steps_parts (no_step ∷ first) more = steps_parts first more
steps_parts (taken step refusal ∷ first) more = ap (λ (made : List (Step × Option Refusal)). (step, refusal) ∷ made) (steps_parts first more)

text_parts : (first more : List Reply) → replies_text (first ++ more) ≡ replies_text first ++ replies_text more
text_parts [] more = refl
text_parts (reply ∷ first) more = ap (λ (text : List ℕ). reply_text reply ++ text) (text_parts first more) ∙ sym (append_assoc (reply_text reply) (replies_text first) (replies_text more))

-- a run goes through a world between its first steps and the others
run_parts : (w u : WorldState) (made more : List (Step × Option Refusal)) → IsRun w (made ++ more) u → (v : WorldState) × IsRun w made v × IsRun v more u
run_parts w u [] more run = (w, refl, run)
run_parts w u (step ∷ made) more (middle, next, rest) = let parts = run_parts middle u made more rest in (parts.0, (middle, next, parts.1), parts.2)

-- the replies to lines are those to the first, to one, and to the others
record ArePartsOf (before after : List (List ℕ)) (line : List ℕ) (replies : List Reply) : Type 0 where
  first : List Reply
  reply : Reply
  rest : List Reply
  parts : replies ≡ first ++ reply ∷ rest
  each : RepliesToEach before first
  now : RepliesTo line reply
  later : RepliesToEach after rest

each_parts : (before after : List (List ℕ)) (line : List ℕ) (replies : List Reply) → RepliesToEach (before ++ line ∷ after) replies → ArePartsOf before after line replies
each_parts [] after line [] never = absurd never
each_parts [] after line (reply ∷ rest) each = record { first = []; reply = reply; rest = rest; parts = refl; each = tt; now = each.0; later = each.1 }
each_parts (next ∷ before) after line [] never = absurd never
each_parts (next ∷ before) after line (reply ∷ replies) each =
    let parts = each_parts before after line replies each.1 in
    record { first = reply ∷ parts.first; reply = parts.reply; rest = parts.rest; parts = ap (λ (all : List Reply). reply ∷ all) parts.parts; each = (each.0, parts.each); now = parts.now; later = parts.later }

-- the line is replied to in a world that those before it reach
record IsRepliedAt (world : Change WorldState) (before after : List (List ℕ)) (line : List ℕ) (replies : List Reply) : Type 0 where
  first : List Reply
  reply : Reply
  rest : List Reply
  reached : WorldState
  left : WorldState
  earlier : IsReplied (from_to world.before reached) before first
  now : RepliesTo line reply
  changes : Changes (from_to reached left) reply
  later : IsReplied (from_to left world.after) after rest
  text : replies_text replies ≡ replies_text first ++ (reply_text reply ++ replies_text rest)

-- what a reply does, and the steps behind it
run_reply : (v u : WorldState) (reply : Reply) (rest : List Reply) → IsRun v (steps_of (reply ∷ rest)) u → (left : WorldState) × Changes (from_to v left) reply × IsRun left (steps_of rest) u
run_reply v u passed_over rest run = (v, refl, run)
run_reply v u no_step rest run = (v, refl, run)
run_reply v u (taken step refusal) rest (left, next, run) = (left, next, run)

replied_at : (world : Change WorldState) (before after : List (List ℕ)) (line : List ℕ) (replies : List Reply) → IsReplied world (before ++ line ∷ after) replies → IsRepliedAt world before after line replies
replied_at world before after line replies replied =
    let parts = each_parts before after line replies replied.each in
    let steps : steps_of replies ≡ steps_of parts.first ++ steps_of (parts.reply ∷ parts.rest) = ap steps_of parts.parts ∙ steps_parts parts.first (parts.reply ∷ parts.rest) in
    let runs = run_parts world.before world.after (steps_of parts.first) (steps_of (parts.reply ∷ parts.rest)) (subst (λ (made : List (Step × Option Refusal)). IsRun world.before made world.after) steps replied.run) in
    let now = run_reply runs.0 world.after parts.reply parts.rest runs.2 in
    record {
      first = parts.first;
      reply = parts.reply;
      rest = parts.rest;
      reached = runs.0;
      left = now.0;
      earlier = record { each = parts.each; run = runs.1 };
      now = parts.now;
      changes = now.1;
      later = record { each = parts.later; run = now.2 };
      text = ap replies_text parts.parts ∙ text_parts parts.first (parts.reply ∷ parts.rest);
    }

-- the reply to a line that says a step is that a step was taken
taken_is : (line : List ℕ) (step : Step) (reply : Reply) → line_kind_of line ≡ Within → TextSays (without_return line) step → RepliesTo line reply → (said : Step) × (refusal : Option Refusal) × (reply ≡ taken said refusal) × TextSays (without_return line) said
taken_is line step reply within says is = by_reply reply (subst (λ (kind : LineKind). RepliesToKind kind (without_return line) reply) within is)
  where
    by_reply : (reply : Reply) → RepliesToText (without_return line) reply → (said : Step) × (refusal : Option Refusal) × (reply ≡ taken said refusal) × TextSays (without_return line) said
    by_reply passed_over never = absurd never
    by_reply no_step none = absurd (none step says)
    by_reply (taken said refusal) text = (said, refusal, refl, text)

pub steps_answered : SaidStepsAreAnswered
steps_answered world before after line replies step says replied =
    let at = replied_at world before after line replies replied in
    let reply = taken_is line step at.reply says.within says.says at.now in
    let next : Changes (from_to at.reached at.left) (taken reply.0 reply.1) = subst (λ (r : Reply). Changes (from_to at.reached at.left) r) reply.2 at.changes in
    (at.first, at.rest, at.reached, at.left, reply.0, reply.1, record { within = says.within; says = reply.3 }, at.earlier, next, at.later, at.text ∙ ap (λ (r : Reply). replies_text at.first ++ (reply_text r ++ replies_text at.rest)) reply.2)

-- the reply to a line that says none is that it says none
unsaid_is : (line : List ℕ) (reply : Reply) → ¬ IsPassedOver line → ((step : Step) → line_kind_of line ≡ Within → ¬ TextSays (without_return line) step) → RepliesTo line reply → reply ≡ no_step
unsaid_is line reply here none is = by_kind (line_kind_of line) refl
  where
    by_text : (reply : Reply) → line_kind_of line ≡ Within → RepliesToText (without_return line) reply → reply ≡ no_step
    by_text passed_over within never = absurd never
    by_text no_step within says = refl
    by_text (taken step refusal) within says = absurd (none step within says)

    by_kind : (kind : LineKind) → line_kind_of line ≡ kind → reply ≡ no_step
    by_kind PassedOver over = absurd (here over)
    by_kind TooLong long = subst (λ (kind : LineKind). RepliesToKind kind (without_return line) reply) long is
    by_kind Within within = by_text reply within (subst (λ (kind : LineKind). RepliesToKind kind (without_return line) reply) within is)

pub steps_refused : UnsaidStepsAreRefused
steps_refused world before after line replies here none replied =
    let at = replied_at world before after line replies replied in
    let reply : at.reply ≡ no_step = unsaid_is line at.reply here none at.now in
    let same : at.left ≡ at.reached = subst (λ (r : Reply). Changes (from_to at.reached at.left) r) reply at.changes in
    (at.first, at.rest, at.reached, at.earlier, subst (λ (w : WorldState). IsReplied (from_to w world.after) after at.rest) same at.later, at.text ∙ ap (λ (r : Reply). replies_text at.first ++ (reply_text r ++ replies_text at.rest)) reply)

pub passed_silent : PassedLinesAreSilent
passed_silent world before after line replies over replied =
    let at = replied_at world before after line replies replied in
    let reply : at.reply ≡ passed_over = subst (λ (kind : LineKind). RepliesToKind kind (without_return line) at.reply) over at.now in
    let same : at.left ≡ at.reached = subst (λ (r : Reply). Changes (from_to at.reached at.left) r) reply at.changes in
    (at.first, at.rest, at.reached, at.earlier, subst (λ (w : WorldState). IsReplied (from_to w world.after) after at.rest) same at.later, at.text ∙ ap (λ (r : Reply). replies_text at.first ++ (reply_text r ++ replies_text at.rest)) reply)

-- ---- the report at the end, and the status

-- with one line more, replies are fine exactly where this line too is passed over or says a step
fine_line : (line : List ℕ) (lines : List (List ℕ)) (reply : Reply) (replies : List Reply) → ((are_fine replies ≡ true) ↔ SayTheirSteps lines) → RepliesTo line reply → ((is_fine reply && are_fine replies) ≡ true) ↔ SayTheirSteps (line ∷ lines)
fine_line line lines reply replies rest is = by_kind (line_kind_of line) refl
  where
    by_text : (reply : Reply) → line_kind_of line ≡ Within → RepliesToText (without_return line) reply → ((is_fine reply && are_fine replies) ≡ true) ↔ SayTheirSteps (line ∷ lines)
    by_text passed_over within never = absurd never
    by_text no_step within none = (
      (λ fine. absurd (cc)),
      (λ say. ⊎_elim (λ (over : IsPassedOver line). let both : PassedOver ≡ Within = sym over ∙ within in absurd (cc)) (λ (says : (step : Step) × (line_kind_of line ≡ Within) × TextSays (without_return line) step). absurd (none says.0 says.2)) say.0),
    )
    by_text (taken step refusal) within says = ((λ fine. (inr (step, within, says), rest.0 fine)), (λ say. rest.1 say.1))

    fine_of : (reply : Reply) → reply ≡ passed_over → ((is_fine reply && are_fine replies) ≡ true) ↔ (are_fine replies ≡ true)
    fine_of reply over = subst (λ (r : Reply). ((is_fine r && are_fine replies) ≡ true) ↔ (are_fine replies ≡ true)) (sym over) ((λ fine. fine), (λ fine. fine))

    unfine_of : (reply : Reply) → reply ≡ no_step → ((is_fine reply && are_fine replies) ≡ true) → ⊥
    unfine_of reply none fine = let never : false ≡ true = subst (λ (r : Reply). (is_fine r && are_fine replies) ≡ true) none fine in absurd (cc)

    by_kind : (kind : LineKind) → line_kind_of line ≡ kind → ((is_fine reply && are_fine replies) ≡ true) ↔ SayTheirSteps (line ∷ lines)
    by_kind PassedOver over =
        let same = fine_of reply (subst (λ (kind : LineKind). RepliesToKind kind (without_return line) reply) over is) in
        ((λ fine. (inl over, rest.0 (same.0 fine))), (λ say. same.1 (rest.1 say.1)))
    by_kind TooLong long =
        let none : reply ≡ no_step = subst (λ (kind : LineKind). RepliesToKind kind (without_return line) reply) long is in (
          (λ fine. absurd (unfine_of reply none fine)),
          (λ say. ⊎_elim (λ (over : IsPassedOver line). let both : PassedOver ≡ TooLong = sym over ∙ long in absurd (cc)) (λ (says : (step : Step) × (line_kind_of line ≡ Within) × TextSays (without_return line) step). let both : TooLong ≡ Within = sym long ∙ says.1 in absurd (cc)) say.0),
        )
    by_kind Within within = by_text reply within (subst (λ (kind : LineKind). RepliesToKind kind (without_return line) reply) within is)

-- replies are fine exactly where each line is passed over or says a step
fine_said : (lines : List (List ℕ)) (replies : List Reply) → RepliesToEach lines replies → (are_fine replies ≡ true) ↔ SayTheirSteps lines
fine_said [] [] each = ((λ fine. tt), (λ say. refl))
fine_said [] (reply ∷ replies) never = absurd never
fine_said (line ∷ lines) [] never = absurd never
fine_said (line ∷ lines) (reply ∷ replies) each = fine_line line lines reply replies (fine_said lines replies each.1) each.0

abbrev text_in : Data → List ℕ
text_in null = []
text_in (boolean b) = []
text_in (number n) = []
text_in (string s) = s
text_in (array ds) = []
text_in (object ms) = []

abbrev first_letter : Option Data → ℕ
first_letter None = 0
first_letter (Some d) = get_or (text_in d) 0 0

-- the status tells of the report, and of whether each line said a step
abbrev Settles : Data → Type 0
Settles d = HasStatus d (codes "optimal") ⊎ HasStatus d (codes "unsolvable")

status_told : (id : List ℕ) (fine : Bool) (ending : Ending) → (replay_status_of fine ending ≡ 0) ↔ ((fine ≡ true) × Settles (outcome_data id ending))
status_told id true (kinds.Optimal cost plan) = ((λ zero. (refl, inl refl)), (λ both. refl))
status_told id false (kinds.Optimal cost plan) = ((λ one. absurd (omega (arith, one))), (λ both. absurd (cc)))
status_told id true (kinds.Unsolvable why) = ((λ zero. (refl, inr refl)), (λ both. refl))
status_told id false (kinds.Unsolvable why) = ((λ one. absurd (omega (arith, one))), (λ both. absurd (cc)))
status_told id fine (kinds.Bounded bound best cause) = (
  (λ one. absurd (omega (arith, one))),
  (λ both. ⊎_elim (λ (is : HasStatus (outcome_data id (kinds.Bounded bound best cause)) (codes "optimal")). let z = ap first_letter is in absurd (omega (arith, z))) (λ (is : HasStatus (outcome_data id (kinds.Bounded bound best cause)) (codes "unsolvable")). let z = ap first_letter is in absurd (omega (arith, z))) both.1),
)

status_either : (fine : Bool) (ending : Ending) → (replay_status_of fine ending ≡ 0) ⊎ (replay_status_of fine ending ≡ 1)
status_either true (kinds.Optimal cost plan) = inl refl
status_either false (kinds.Optimal cost plan) = inr refl
status_either true (kinds.Unsolvable why) = inl refl
status_either false (kinds.Unsolvable why) = inr refl
status_either fine (kinds.Bounded bound best cause) = inr refl

-- a report is the first line of its text, and is read as what it says
no_feed_ends : (line : List ℕ) → AllByRecursion (λ b. b ≢ 10) line → lines_of (line ++ 10 ∷ []) ≡ line ∷ []
no_feed_ends [] none = refl
no_feed_ends (b ∷ bs) none = rw (ne_eqb b 10 none.0) (ap (onto_first b) (no_feed_ends bs none.1))

report_reply : (d : Data) → IsReport d → IsReply (report_text d) 0 d
report_reply d report = (compact_text d, ap (λ (ls : List (List ℕ)). slice_get ls 0) (no_feed_ends (compact_text d) (text_other d)), report_read d report)

-- a board may be answered by what answers its task
abbrev IfTrueEnding : Task → Option Ending → Type 0
IfTrueEnding task None = ⊥
IfTrueEnding task (Some ending) = EndAnswers task ending

abbrev task_rules : Jobs → Rules
task_rules jobs = record { grid = jobs.grid; task = λ b. (jobs.job b).task; allows = λ b ending. IfTrueEnding (jobs.job b).task ending }

report_true : (jobs : Jobs) (line id : List ℕ) (board : BoardModel) (ending : Ending) → Names jobs.grid line id board → EndAnswers (jobs.job board).task ending → HasSmallNumbers ending → IsTrueOfBoard (jobs.job board).task id (outcome_data id ending)
report_true jobs line id board ending names answers small =
    let rules = task_rules jobs in
    let d = outcome_data id ending in
    let is : AnswersLine rules line (answered id ending) = subst (λ (kind : LineKind). AnswersKind rules kind (without_return line) (answered id ending)) (sym names.0) (by_outcome id board ending names.1 answers small) in
    let tells = truth rules (λ b e allowed. allowed) (line ∷ []) (answered id ending ∷ []) (omega arith) (is, tt) in
    let asked = first_question 1 [] [] line (λ k d k_in. absurd (omega (arith, k_in))) (named_here jobs.grid line id board names) in
    let question : IsQuestion (line ∷ []) 0 asked.0 line = ap (λ (qs : List (ℕ × List ℕ)). slice_get qs 0) asked.2 in
    let text : answers_text 1 (answered id ending ∷ []) ≡ report_text d = append-nil (report_text d) in
    let reply : IsReply (answers_text 1 (answered id ending ∷ [])) 0 d = subst (λ (output : List ℕ). IsReply output 0 d) (sym text) (report_reply d (of_outcome id ending small)) in
    ⊎_elim (λ (it : IsTrueOfBoard (jobs.job board).task id d). it) (λ (never : SaysRefused d (codes "V3") asked.0 × ⊥). absurd never.1) (tells.named 0 asked.0 line id board d question names reply)

pub reports_true : (jobs : Jobs) → ReplayReportsAreTrue jobs
reports_true jobs lines n id board output status (line, question, names) answers =
    let ending = without_rows answers.outcome in
    let d = outcome_data id ending in
    let said = fine_said (drop n lines) answers.replies answers.replied.each in
    let told = status_told id (are_fine answers.replies) ending in (
      replies_text answers.replies,
      compact_text d,
      d,
      answers.text,
      report_read d (of_outcome id ending answers.given.1),
      report_true jobs line id board ending names answers.answers answers.given.1,
      ((λ zero. let both = told.0 (sym answers.told ∙ zero) in (said.0 both.0, both.1)), (λ both. answers.told ∙ told.1 (said.1 both.0, both.1))),
      subst (λ (s : ℕ). (s ≡ 0) ⊎ (s ≡ 1)) (sym answers.told) (status_either (are_fine answers.replies) ending),
    )

-- ---- what is taken

pub rest_left : (jobs : Jobs) → RefusedBoardsLeaveTheRest jobs
rest_left jobs source input rest output known left refuses =
    let lines = refuses.passed ++ refuses.line ∷ [] in
    let read : lines_of input ≡ lines ++ lines_of rest = subst (λ (now : Option (List ℕ)). AreRead (Some input) now lines) left (subst (λ (before : Option (List ℕ)). AreRead before source.after.left lines) known refuses.first.read) in
    (refuses.passed, refuses.line, read ∙ append_assoc refuses.passed (refuses.line ∷ []) (lines_of rest), refuses.first.before, refuses.first.here)

-- ---- the replays of a setup

-- a worker that isn't the board's owner begins without credit
no_purse : (job : Job) (via : Move) (i : ℕ) (worker : WorkerState) → IsWorker (opening job via) i worker → i ≢ job.owner job.task.start → worker.purse ≡ 0
no_purse job via i worker there other =
    let idle = idle_worker job.count in
    let first = first_worker job.count job.task via in
    ap (λ (x : WorkerState). x.purse) (at_replicate job.count i idle worker (sym (get_set_other (replicate job.count idle) (job.owner job.task.start) i first other) ∙ there))

module _ (setup : SetupModel) (board : BoardModel) (via : Move) where
  abbrev opened : WorldState
  opened = opening ((setup_jobs setup).job board) via

  workers_are : length opened.workers ≡ setup.workers
  workers_are =
      let idle = idle_worker setup.workers in
      length-set (replicate setup.workers idle) (owner_by setup.spread setup.workers board) (first_worker setup.workers (task_of_setup setup board) via) ∙ length-replicate setup.workers idle

  beyond_refused : (i : ℕ) (refusal : Option Refusal) (w : WorldState) → setup.workers ≤ i → Next (Draw i) (turn opened refusal w) → refusal ≡ Some NoSuchWorker
  beyond_refused i refusal w beyond (inl (none, (is, same))) = is
  beyond_refused i refusal w beyond (inr (there, step)) = let count = workers_are in absurd (there (omega (arith, count, beyond)))

  owner_draws : (i : ℕ) (w : WorldState) → Next (Draw i) (turn opened None w) → (i < setup.workers) × (i ≡ owner_by setup.spread setup.workers board)
  owner_draws i w (inl (none, (is, same))) = absurd (cc)
  owner_draws i w (inr (there, (worker, at, here, inl (stopped, (is, same)), after))) = absurd (cc)
  owner_draws i w (inr (there, (worker, at, here, inr (going, inl (empty, (is, same))), after))) = absurd (cc)
  owner_draws i w (inr (there, (worker, at, here, inr (going, inr (some, rest)), after))) =
      let count = workers_are in (
        ⊎_elim (λ (low : i < setup.workers). low) (λ (high : setup.workers ≤ i). absurd (there (omega (arith, count, high)))) (cases_lt i setup.workers),
        ⊎_elim (λ (same : i ≡ owner_by setup.spread setup.workers board). same) (λ (other : i ≢ owner_by setup.spread setup.workers board). absurd (some (no_purse ((setup_jobs setup).job board) via i worker here other))) (cases_eq i (owner_by setup.spread setup.workers board)),
      )

  limit_grants : (i : ℕ) (w : WorldState) → Next (Grant i) (turn opened None w) → w.book.granted ≡ min GREATEST_GRANT setup.limit
  limit_grants i w (inl (none, (is, same))) = absurd (cc)
  limit_grants i w (inr (there, (worker, at, here, inl (stopped, (is, same)), after))) = absurd (cc)
  limit_grants i w (inr (there, (worker, at, here, inr (going, inl (nothing, (is, same))), after))) = absurd (cc)
  limit_grants i w (inr (there, (worker, at, here, inr (going, inr (some, inl (allowed, (is, same)))), after))) = absurd (cc)
  limit_grants i w (inr (there, (worker, at, here, inr (going, inr (some, inr (used, inl (full, (is, same))))), after))) = absurd (cc)
  limit_grants i w (inr (there, (worker, at, here, inr (going, inr (some, inr (used, inr (more, (is, becomes))))), after))) =
      let left : setup.limit - 0 ≡ setup.limit = omega arith in
      let none : 0 + min GREATEST_GRANT (setup.limit - 0) ≡ min GREATEST_GRANT (setup.limit - 0) = omega arith in
      ap (λ (x : WorldState). x.book.granted) after ∙ ap (λ (x : AtBook). x.book.granted) becomes ∙ none ∙ ap (λ (k : ℕ). min GREATEST_GRANT k) left

pub set_up : ReplaysOpenAsSetUp
set_up setup = record {
  workers = beyond_refused setup;
  draws = owner_draws setup;
  grants = limit_grants setup;
  asks = λ board via w is. (ap (λ (x : WorldState). x.task.start) is, ap (λ (x : WorldState). x.task.goal) is, ap (λ (x : WorldState). x.task.rule) is, λ b. ap (λ (x : WorldState). x.task.sum b) is);
  limits = λ board via w is. ap (λ (x : WorldState). x.book.limit) is;
  shares = λ board via w is. (ap (λ (x : WorldState). length x.workers) is ∙ workers_are setup board via, λ b. ap (λ (x : WorldState). x.owner b) is);
  shape = refl;
  lacks = λ board refused. refused;
}
