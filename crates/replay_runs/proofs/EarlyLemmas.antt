-- What replays that end early leave, and how replies follow runs.
use Rattle.std.proofs.Common.{◌≡◌, inl, inr, ◌⊎◌, ℕ, List, [], ◌∷◌, ◌++◌, Err, All, refl, sym, ap, ◌∙◌, subst, append_assoc, append-nil, Option, Some}
use Rattle.std.specs.Prelude.{drop}
use Rattle.board.specs.Boards.{BoardModel}
use Rattle.board.specs.declared.moves.Move.{Move}
use Rattle.byte_streams.specs.Streams.{SourceState, SinkState, Change, from_to}
use Rattle.byte_streams.specs.Sink.{Puts, PutsBeginning}
use Rattle.batch_lines.specs.Lines.{lines_of}
use Rattle.outcomes.specs.declared.outcome.Outcome.{Outcome}
use Rattle.outcomes.specs.Endings.{without_rows}
use Rattle.batch_runs.specs.Batches.{AreAll, AreFirst, LosesLine}
use Rattle.batch_runs.specs.FirstLines.{IsPassedOver}
use Rattle.batch_runs.specs.Meanings.{Names, HasFault, questions, IsQuestion}
use Rattle.batch_runs.specs.Reports.{outcome_data, refused_data, report_text}
use Rattle.batch_runs.specs.declared.faults.LinesFault.{LinesFault}
use Rattle.batch_runs.specs.declared.faults.LinesFault.TheVariants.{Read, Write, Memory}
use Rattle.batch_runs.proofs.BatchLemmas.{AreFirst-read, held}
use Rattle.world_model.specs.Openings.{opening}
use Rattle.world_model.specs.Outcomes.{IsGiven}
use Rattle.world_model.specs.Steps.{Next}
use Rattle.world_model.specs.Turns.{turn}
use Rattle.world_model.specs.Worlds.{WorldState}
use Rattle.world_model.specs.declared.steps.Refusal.{Refusal}
use Rattle.world_model.specs.declared.steps.Step.{Step}
use Rattle.replay_runs.specs.Answers.{answer_word}
use Rattle.replay_runs.specs.Replies.{Reply, replies_text, RepliesToEach}
use Rattle.replay_runs.specs.Stepping.{IsReplied}
use Rattle.replay_runs.specs.Replays.{Jobs, IsPlay, RefusesFirst, Replays, LosesReplay, BeginsReplay, LacksReport, NamesNone, EarlyReplaysOfNoBoard, IsStepLine, AnswersNamedBoard, RepliesToFirstSteps, RepliesToAllSteps, AnswersFollowRuns}
use Rattle.replay_runs.proofs.ReadLemmas.{named_here, first_is, found_in, some_asked, refused_by_fault, steps_answered}

-- ---- replays whose board line names no board

-- the lines of a play are the first lines of the input: its board line is that of the input
record IsPlayOf (jobs : Jobs) (input : List ℕ) (name : List ℕ) (replies : List Reply) (w : WorldState) : Type 0 where
  lines : List (List ℕ)
  more : List (List ℕ)
  play : IsPlay jobs lines name replies w
  is : lines_of input ≡ lines ++ more

-- the input has the lines of the play first, and others behind them
play_parts : (jobs : Jobs) (input name : List ℕ) (replies : List Reply) (w : WorldState) (it : IsPlayOf jobs input name replies w) → lines_of input ≡ it.play.passed ++ it.play.line ∷ (it.play.later ++ it.more)
play_parts jobs input name replies w it = it.is ∙ ap (λ (ls : List (List ℕ)). ls ++ it.more) it.play.parts ∙ append_assoc it.play.passed (it.play.line ∷ it.play.later) it.more

module _ (jobs : Jobs) (source : Change SourceState) (input : List ℕ) (known : source.before.left ≡ Some input) (name : List ℕ) (replies : List Reply) (w : WorldState) (lines : List (List ℕ)) (play : IsPlay jobs lines name replies w) where
  of_first : AreFirst source.before.left lines → IsPlayOf jobs input name replies w
  of_first first =
      let some : (more : List (List ℕ)) × (lines_of input ≡ lines ++ more) = subst (λ (left : Option (List ℕ)). AreFirst left lines) known first in
      record { lines = lines; more = some.0; play = play; is = some.1 }

  of_all : AreAll source.before.left lines → IsPlayOf jobs input name replies w
  of_all all =
      let same : lines_of input ≡ lines = subst (λ (left : Option (List ℕ)). AreAll left lines) known all in
      record { lines = lines; more = []; play = play; is = same ∙ sym (append-nil lines) }

  of_lost : LosesLine source lines → IsPlayOf jobs input name replies w
  of_lost lost = of_first (AreFirst-read source.before.left lost.between.left lines lost.whole)

-- there is no play where the board line names no board
no_play : (jobs : Jobs) (input line : List ℕ) (n : ℕ) → IsQuestion (lines_of input) 0 n line → NamesNone jobs line → (name : List ℕ) (replies : List Reply) (w : WorldState) → ¬ IsPlayOf jobs input name replies w
no_play jobs input line n question none name replies w it =
    let play = it.play in
    let here = first_is (lines_of input) play.passed (play.later ++ it.more) play.line line n (play_parts jobs input name replies w it) play.before (named_here jobs.grid play.line name play.board play.named) question in
    none name play.board (subst (λ (l : List ℕ). Names jobs.grid l name play.board) (sym here.1) play.named)

-- nor where there is no board line
no_line : (jobs : Jobs) (input : List ℕ) → questions 1 (lines_of input) ≡ [] → (name : List ℕ) (replies : List Reply) (w : WorldState) → ¬ IsPlayOf jobs input name replies w
no_line jobs input none name replies w it =
    let play = it.play in
    some_asked (lines_of input) play.passed (play.later ++ it.more) play.line (play_parts jobs input name replies w it) play.before (named_here jobs.grid play.line name play.board play.named) none

module _ (jobs : Jobs) (source : Change SourceState) (sink : Change SinkState) (input : List ℕ) (known : source.before.left ≡ Some input) (empty : sink.before.contents ≡ Some []) (never : (name : List ℕ) (replies : List Reply) (w : WorldState) → ¬ IsPlayOf jobs input name replies w) where
  -- what was put is what the sink holds, since it was empty
  now_held : (text : List ℕ) → Puts sink text → sink.after.contents ≡ Some text
  now_held text put = held sink.before.contents sink.after.contents text empty put

  lost_none : LosesReplay jobs source sink → (read : List (List ℕ)) × LosesLine source read × All IsPassedOver read × (sink.after.contents ≡ Some [])
  lost_none (lines, lost, inl (over, put)) = (lines, lost, over, now_held [] put)
  lost_none (lines, lost, inr (name, replies, w, play, put)) = absurd (never name replies w (of_lost jobs source input known name replies w lines play lost))

  failed_none : BeginsReplay jobs source sink → (output : List ℕ) × RefusesFirst jobs source output × PutsBeginning sink output
  failed_none (inl begins) = begins
  failed_none (inr (inl (lines, name, replies, w, first, play, begins))) = absurd (never name replies w (of_first jobs source input known name replies w lines play first))
  failed_none (inr (inr (lines, name, replies, outcome, all, end, begins))) = absurd (never name replies end.world (of_all jobs source input known name replies end.world lines end.play all))

  lacking_none : LacksReport jobs source sink → (output : List ℕ) × RefusesFirst jobs source output × Puts sink []
  lacking_none (inl lacks) = lacks
  lacking_none (inr (lines, name, replies, w, all, play, put)) = absurd (never name replies w (of_all jobs source input known name replies w lines play all))

-- nothing is refused where there is no board line
none_refused : (jobs : Jobs) (source : Change SourceState) (input output : List ℕ) → source.before.left ≡ Some input → questions 1 (lines_of input) ≡ [] → ¬ RefusesFirst jobs source output
none_refused jobs source input output known none refuses =
    let found = found_in source input refuses.passed refuses.line known refuses.first in
    some_asked (lines_of input) refuses.passed found.0 refuses.line found.1 refuses.first.before refuses.first.here none

failed_text : (jobs : Jobs) (source : Change SourceState) (sink : Change SinkState) (input : List ℕ) (n : ℕ) (line : List ℕ) → source.before.left ≡ Some input → sink.before.contents ≡ Some [] → IsQuestion (lines_of input) 0 n line → NamesNone jobs line → BeginsReplay jobs source sink
    → (code written unwritten : List ℕ) × HasFault jobs.grid line code × (sink.after.contents ≡ Some written) × (written ++ unwritten ≡ report_text (refused_data code n))
failed_text jobs source sink input n line known empty question none begins =
    let is = failed_none jobs source sink input known empty (no_play jobs input line n question none) begins in
    let fault = refused_by_fault jobs source input is.0 n line known question none is.1 in
    (fault.0, is.2.sent, is.2.unsent, fault.1, held sink.before.contents sink.after.contents is.2.sent empty is.2.put, sym is.2.parts ∙ fault.2)

none_left : (jobs : Jobs) (source : Change SourceState) (sink : Change SinkState) (fault : LinesFault) (input : List ℕ) → source.before.left ≡ Some input → sink.before.contents ≡ Some [] → questions 1 (lines_of input) ≡ [] → Replays jobs source sink (Err fault) → (fault ≡ Read) × (sink.after.contents ≡ Some [])
none_left jobs source sink Read input known empty none replays =
    let is = lost_none jobs source sink input known empty (no_line jobs input none) replays.0 in
    (refl, is.3)
none_left jobs source sink Write input known empty none replays =
    let is = failed_none jobs source sink input known empty (no_line jobs input none) replays.0 in
    absurd (none_refused jobs source input is.0 known none is.1)
none_left jobs source sink (Memory lacking) input known empty none replays =
    let is = lacking_none jobs source sink input known empty (no_line jobs input none) replays.0 in
    absurd (none_refused jobs source input is.0 known none is.1)

pub early_of_none : (jobs : Jobs) → EarlyReplaysOfNoBoard jobs
early_of_none jobs = record {
  lost = λ source sink input n line known empty question none replays. lost_none jobs source sink input known empty (no_play jobs input line n question none) replays.0;
  failed = λ source sink input n line known empty question none replays. failed_text jobs source sink input n line known empty question none replays.0;
  lacking = λ source sink input n line report known empty question none replays.
      let is = lacking_none jobs source sink input known empty (no_play jobs input line n question none) replays.0 in
      held sink.before.contents sink.after.contents [] empty is.2;
  silent = none_left jobs;
}

-- ---- replies and runs

-- where there are no lines, there are no replies, and the world is as it was
none_replied : (w u : WorldState) (later : List (List ℕ)) (replies : List Reply) → later ≡ [] → IsReplied (from_to w u) later replies → (replies ≡ []) × (u ≡ w)
none_replied w u later replies is replied = of replies (subst (λ (ls : List (List ℕ)). IsReplied (from_to w u) ls replies) is replied)
  where
    of : (replies : List Reply) → IsReplied (from_to w u) [] replies → (replies ≡ []) × (u ≡ w)
    of [] none = (refl, none.run)
    of (reply ∷ replies) none = absurd none.each

follow_first : (jobs : Jobs) (lines : List (List ℕ)) (n : ℕ) (board : BoardModel) (text : List ℕ) → RepliesToFirstSteps jobs lines n board text → (begun more : List (List ℕ)) × (drop n lines ≡ begun ++ more) × RepliesToAllSteps jobs begun 0 board text
follow_first jobs lines n board text it = (it.first, it.more, it.parts, record { replies = it.replies; via = it.via; reached = it.end; replied = it.replied; is = it.is })

module _ (jobs : Jobs) (lines : List (List ℕ)) (n : ℕ) (board : BoardModel) (before after : List (List ℕ)) (line : List ℕ) (step : Step) (parts : drop n lines ≡ before ++ line ∷ after) (says : IsStepLine line step) where
  follow_replied : (text : List ℕ) → RepliesToAllSteps jobs lines n board text
      → (via : Move) × (first rest : List Reply) × (reached left end : WorldState) × (said : Step) × (refusal : Option Refusal)
      × IsStepLine line said × IsReplied (from_to (opening (jobs.job board) via) reached) before first × Next said (turn reached refusal left) × IsReplied (from_to left end) after rest
      × (text ≡ replies_text first ++ ((answer_word refusal ++ 10 ∷ []) ++ replies_text rest))
  follow_replied text it =
      let world = from_to (opening (jobs.job board) it.via) it.reached in
      let at = steps_answered world before after line it.replies step says (subst (λ (ls : List (List ℕ)). IsReplied world ls it.replies) parts it.replied) in
      (it.via, at.0, at.1, at.2, at.3, it.reached, at.4, at.5, at.6, at.7, at.8, at.9, it.is ∙ at.10)

  follow_answered : (id output : List ℕ) (status : ℕ) → AnswersNamedBoard jobs lines n id board output status
      → (via : Move) × (first rest : List Reply) × (reached left end : WorldState) × (said : Step) × (refusal : Option Refusal) × (outcome : Outcome)
      × IsStepLine line said × IsReplied (from_to (opening (jobs.job board) via) reached) before first × Next said (turn reached refusal left) × IsReplied (from_to left end) after rest
      × IsGiven end outcome
      × (output ≡ (replies_text first ++ ((answer_word refusal ++ 10 ∷ []) ++ replies_text rest)) ++ report_text (outcome_data id (without_rows outcome)))
  follow_answered id output status it =
      let world = from_to (opening (jobs.job board) it.via) it.end in
      let at = steps_answered world before after line it.replies step says (subst (λ (ls : List (List ℕ)). IsReplied world ls it.replies) parts it.replied) in
      let report = report_text (outcome_data id (without_rows it.outcome)) in
      (it.via, at.0, at.1, at.2, at.3, it.end, at.4, at.5, it.outcome, at.6, at.7, at.8, at.9, it.given.0, it.text ∙ ap (λ (text : List ℕ). text ++ report) at.10)

follow_alone : (jobs : Jobs) (lines : List (List ℕ)) (n : ℕ) (id : List ℕ) (board : BoardModel) (output : List ℕ) (status : ℕ) → AnswersNamedBoard jobs lines n id board output status → drop n lines ≡ []
    → (via : Move) × (outcome : Outcome) × IsGiven (opening (jobs.job board) via) outcome × (output ≡ report_text (outcome_data id (without_rows outcome)))
follow_alone jobs lines n id board output status it none =
    let same = none_replied (opening (jobs.job board) it.via) it.end (drop n lines) it.replies none it.replied in
    let report = report_text (outcome_data id (without_rows it.outcome)) in
    (it.via, it.outcome, subst (λ (w : WorldState). IsGiven w it.outcome) same.1 it.given.0, it.text ∙ ap (λ (replies : List Reply). replies_text replies ++ report) same.0)

pub answers_follow : (jobs : Jobs) → AnswersFollowRuns jobs
answers_follow jobs = record {
  first = follow_first jobs;
  replied = λ lines n board text before after line step it parts says. follow_replied jobs lines n board before after line step parts says text it;
  answered = λ lines n id board output status before after line step it parts says. follow_answered jobs lines n board before after line step parts says id output status it;
  alone = follow_alone jobs;
}
