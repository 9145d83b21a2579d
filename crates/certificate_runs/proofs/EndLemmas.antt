-- How a run that draws a certificate ends, what its reader may believe, and what is left by runs that end early.
use Rattle.std.proofs.Common.{ℕ, ◌≡◌, ◌≢◌, ◌⊎◌, ◌∙◌, ◌+◌, ◌<◌, ◌^◌, List, [], ◌∷◌, ◌++◌, length, slice_get, Option, Some, None, Result, Ok, Err, true, false, refl, sym, ap, subst, inl, inr, arith, append-nil}
use Rattle.std.specs.Prelude.{IfSome, ◌↔◌, codes, IsSome}
use Rattle.std.proofs.lemmas.List.Elements.{recursion_from_All}
use Rattle.serde_json.specs.Data.{Data}
use Rattle.serde_json.specs.Written.{compact_text}
use Rattle.memory.specs.declared.OutOfMemory.{OutOfMemory}
use Rattle.board.specs.Boards.{BoardModel}
use Rattle.board.specs.Shapes.{ShapeModel}
use Rattle.board.specs.Weights.{WeightsModel}
use Rattle.board.specs.Plans.{Leads, NothingBelow, IsLeast}
use Rattle.board.specs.declared.moves.Move.{Move}
use Rattle.outcomes.specs.Outcomes.{Task}
use Rattle.byte_streams.specs.Streams.{SourceState, SinkState, Change}
use Rattle.byte_streams.specs.Sink.{Puts}
use Rattle.outcomes.specs.declared.outcome.Ending.{Ending}
use Rattle.outcomes.specs.declared.outcome.Ending.TheVariants.{Optimal, Unsolvable, Bounded}
use Rattle.pattern_index.specs.Partitions.{PartitionModel}
use Rattle.batch_lines.specs.Lines.{lines_of, line_kind_of, without_return}
use Rattle.batch_lines.specs.Words.{entry_code}
use Rattle.batch_lines.specs.declared.lines.LineKind.{LineKind}
use Rattle.batch_lines.specs.declared.lines.LineKind.TheVariants.{PassedOver, TooLong, Within}
use Rattle.batch_runs.specs.ReportReadings.{HasSmallNumbers, HasStatus, IsReport, Reads}
use Rattle.batch_runs.specs.ReportReadings.IsReport.{of_outcome, of_line, of_certificate}
use Rattle.batch_runs.proofs.ReadLemmas.{report_read}
use Rattle.batch_runs.proofs.TextLemmas.{text_other}
use Rattle.batch_runs.specs.Reports.{outcome_data, refused_data, refused_certificate_data, report_text}
use Rattle.certificate.specs.Certificates.{CertificateModel, upgraded}
use Rattle.certificate.specs.Readings.{certificate, HasNoFault, IsFirstFormatFault}
use Rattle.certificate.specs.Laws.{TellsOfBytes}
use Rattle.certificate.specs.declared.certificate.Version.TheVariants.{Two}
use Rattle.certificate.specs.declared.faults.FormatFault.{FormatFault}
use Rattle.certificate.specs.declared.faults.FormatFault.TheVariants.{Truncated}
use Rattle.certificate.specs.Spellings.{spelling}
use Rattle.certificate.specs.Faults.{format_code}
use Rattle.certificate.specs.Sources.{ReadsCertificate, TellsOfInput}
use Rattle.certificate.specs.declared.faults.ReadFault.{ReadFault}
use Rattle.certificate.specs.declared.faults.ReadFault.TheVariants.{Format, Failed, NoMemory}
use Rattle.certificate.proofs.LawLemmas.{spelled_read, one_first_fault, not_both, told_of_bytes, upgrade_keeps}
use Rattle.certificate_check.specs.Refusals.{IsProved, ItsPlanLeads, IsFirstRefusal, IsUnfitAt, refusal_code}
use Rattle.certificate_check.specs.declared.refusals.Refusal.{Refusal}
use Rattle.certificate_check.specs.declared.refusals.Refusal.TheVariants.{UnfitGroup}
use Rattle.certificate_check.proofs.RefusalLemmas.{proved_has_none, first_once, other_shape_refused}
use Rattle.lower_bound.specs.Tables.{BoundModel}
use Rattle.certificate_runs.specs.Built.{AreBuiltFor}
use Rattle.drawings.specs.declared.drawing.Style.{Style}
use Rattle.drawings.specs.Drawings.{IsDrawing}
use Rattle.batch_runs.specs.Batches.{Answer, AnswersEntry, AnswersKind, AnswersLine, AreAll, AreFirst, AreRead, answer_text, no_lines, with_outcome, status_of_counts}
use Rattle.batch_runs.specs.Batches.AnswersEntry.{by_outcome, by_fault, by_want}
use Rattle.batch_runs.specs.FirstLines.{IsPassedOver}
use Rattle.batch_runs.specs.Headline.{TellsTheTruth}
use Rattle.batch_runs.specs.Meanings.{Names, IsReply, questions}
use Rattle.batch_runs.proofs.BatchLemmas.{AreFirst-read, held, lost}
use Rattle.batch_runs.proofs.TruthLemmas.{same_name, no_fault}
use Rattle.certificate_runs.specs.Outputs.{Output}
use Rattle.certificate_runs.specs.Rules.{ProofRules, MayReport, report_rules}
use Rattle.certificate_runs.specs.Certifying.{Replies, HasFirst, CertifiesLine, IsReportDue, IsUncertified, NeedsReport, first_line, report_of}
use Rattle.certificate_runs.specs.Checking.{Checks, IsJudgement, IsRefusedReport, IsVerdictOutput, HasVerdict, PutsVerdict, WantsMemory, claim_data}
use Rattle.certificate_runs.specs.Showing.{IsShowOutput, PutsRefusal, LacksDrawing, EndsShow, Shows}
use Rattle.certificate_runs.specs.Upgrading.{EndsUpgrade, Upgrades}
use Rattle.certificate_runs.specs.Headline.{CertifiesTruly, ClaimsTruly, IsMistaken, WritesVerdict, WritesShow, IsTrueShow}
use Rattle.certificate_runs.specs.Laws.{OtherFaultsDrawNothing, OtherFaultsUpgradeNothing, EarlyVerdictsBegin, EarlyUpgradesBegin, EarlyDrawingsBegin, DrawingsLackTheirOwn, ReportsLackTheirOwn, EarlyCertificatesBegin, EarlyReportsBegin, StatusTellsOutput, AnswerStatusesTell, VerdictStatusesTell, FailedCertificatesAreTold, FailedVerdictsAreTold, FailedLinesAreTold, FailedRepliesAreTold, NothingBehindIsTaken, CertificatesAreAccepted, ChecksAcceptWhatIsProved, ChecksRefuseForACause, CertificatesAreDrawn, CertificatesAreKept, CertificatesAreTakenAsWritten, MemoryHidesNoFault}
use Rattle.certificate_runs.specs.declared.faults.CertifyFault.{CertifyFault}
use Rattle.certificate_runs.specs.declared.faults.CertifyFault.TheVariants as certify
use Rattle.certificate_runs.specs.declared.faults.CheckFault.{CheckFault}
use Rattle.certificate_runs.specs.declared.faults.CheckFault.TheVariants.{CertificateRead, CertificateMemory, Write, Memory}
use Rattle.certificate_runs.specs.declared.faults.UpgradeFault.{UpgradeFault}
use Rattle.certificate_runs.specs.declared.faults.UpgradeFault.TheVariants as upgrade
use Rattle.certificate_runs.proofs.HeadlineLemmas.{feed_ends, none_ask, one_asks, last_true, certifies_truly, reports_truthful, verdict_written, claim_is_report, greatest_small, accepted_status, statuses_tell, one_certificate, no_fault as faultless}

module _ (style : Style) (source : Change SourceState) (sink : Change SinkState) (read : Result CertificateModel ReadFault) (reads : ReadsCertificate source read) where
  pub shown : (output : Output) (result : Result ℕ CheckFault) → IsShowOutput style read output → PutsVerdict sink output result → Shows style source sink result
  shown output (Ok status) is put = (read, reads, (output, is, put.0, put.1))
  shown output (Err fault) is put = (read, reads, subst (λ (f : CheckFault). EndsShow style read sink (Err f)) (sym put.1) (output, is, put.0))

  pub refusal_shown : (code : List ℕ) (result : Result ℕ CheckFault) → ((output : Output) → IsRefusedReport code output → IsShowOutput style read output) → PutsRefusal code sink result → Shows style source sink result
  refusal_shown code (Ok status) is (output, refused, put, told) = (read, reads, (output, is output refused, put, told))
  refusal_shown code (Err Write) is (output, refused, fails) = (read, reads, (output, is output refused, fails))
  refusal_shown code (Err (Memory lacking)) is same =
      let output : Output = record { text = report_text (refused_certificate_data code); status = 5 } in
      (read, reads, ((output, is output refl, refl), same))
  refusal_shown code (Err CertificateRead) is never = absurd never
  refusal_shown code (Err (CertificateMemory refused)) is never = absurd never

-- ---- what was written is true

module _ (style : Style) (sink : Change SinkState) (input : List ℕ) (output : Output) (status : ℕ) (put : Puts sink output.text) (told : status ≡ output.status) where
  mistaken : (code : List ℕ) → IsRefusedReport code output → Puts sink (report_text (refused_certificate_data code)) × (status ≡ 5)
  mistaken code refused = (subst (Puts sink) (ap (λ (o : Output). o.text) refused) put, told ∙ ap (λ (o : Output). o.status) refused)

  shown_written : (read : Result CertificateModel ReadFault) → TellsOfInput read input → IsShowOutput style read output → WritesShow style sink status input
  shown_written (Ok c) tells (inl drawn) = inl (c, output.text, spelled_read input c tells, drawn.leads, drawn.drawn, put, told ∙ drawn.well)
  shown_written (Ok c) tells (inr (refusal, first, refused)) =
      let line = mistaken (refusal_code refusal) refused in
      inr (refusal_code refusal, inr (c, refusal, spelled_read input c tells, first, refl), line.0, line.1)
  shown_written (Err (Format fault)) tells refused =
      let line = mistaken (format_code fault) refused in
      inr (format_code fault, inl (fault, tells, refl), line.0, line.1)
  shown_written (Err Failed) tells never = absurd never
  shown_written (Err (NoMemory refused)) tells never = absurd never

shown_known : (style : Style) (sink : Change SinkState) (input : Option (List ℕ)) (output : Output) (status : ℕ) → Puts sink output.text → status ≡ output.status → (read : Result CertificateModel ReadFault) → IfSome input (TellsOfInput read) → IsShowOutput style read output → IfSome input (WritesShow style sink status)
shown_known style sink None output status put told read tells is = tt
shown_known style sink (Some input) output status put told read tells is = shown_written style sink input output status put told read tells is

pub show_true : (style : Style) (source : Change SourceState) (sink : Change SinkState) (result : Result ℕ CheckFault) → Shows style source sink result → IsTrueShow style source sink result
show_true style source sink (Ok status) (read, reads, (output, is, put, told)) = shown_known style sink source.before.left output status put.0 told read reads.tells is
show_true style source sink (Err fault) shows = tt

-- ---- what faults leave

pub drew_nothing : OtherFaultsDrawNothing
drew_nothing style source sink CertificateRead other shows = shows.2.1
drew_nothing style source sink (CertificateMemory refused) other shows = shows.2.1
drew_nothing style source sink Write other shows = absurd (other refl)
drew_nothing style source sink (Memory lacking) other shows = shows.2.1

pub upgraded_nothing : OtherFaultsUpgradeNothing
upgraded_nothing source sink fault other (Ok c, reads, ends) = absurd (other ends.1)
upgraded_nothing source sink fault other (Err (Format wrong), reads, ends) = ends.0
upgraded_nothing source sink fault other (Err Failed, reads, ends) = ends.0
upgraded_nothing source sink fault other (Err (NoMemory refused), reads, ends) = ends.0

-- what was read tells of a known input
tells_of : (source : Change SourceState) (input : List ℕ) (read : Result CertificateModel ReadFault) → source.before.left ≡ Some input → ReadsCertificate source read → TellsOfInput read input
tells_of source input read known reads = subst (λ (left : Option (List ℕ)). IfSome left (TellsOfInput read)) known reads.tells

-- an empty sink that takes all of a text
abbrev filled : List ℕ → Change SinkState
filled text = record { before = record { contents = Some []; has_failed = false }; after = record { contents = Some text; has_failed = false } }

pub early_verdicts : EarlyVerdictsBegin
early_verdicts source sink input known empty (read, reads, (output, verdict, fails)) =
    let begun = fails.0 in
    let truth : WritesVerdict (filled output.text) input = verdict_written (filled output.text) input output refl read (tells_of source input read known reads) verdict in
    let is : output.text ≡ truth.line ++ 10 ∷ [] = truth.put in
    (truth.line, begun.sent, begun.unsent, truth.value, held sink.before.contents sink.after.contents begun.sent empty begun.put, sym is ∙ begun.parts, truth.json, truth.truth)

-- the place of an upgrade's fault among all
abbrev upgrade_fault_place : UpgradeFault → ℕ
upgrade_fault_place upgrade.CertificateRead = 1
upgrade_fault_place (upgrade.CertificateMemory refused) = 2
upgrade_fault_place upgrade.CertificateWrite = 3

-- the place of an upgrade's answer among all
abbrev upgrade_place : Result ℕ UpgradeFault → ℕ
upgrade_place (Ok status) = 0
upgrade_place (Err upgrade.CertificateRead) = 1
upgrade_place (Err (upgrade.CertificateMemory refused)) = 2
upgrade_place (Err upgrade.CertificateWrite) = 3

pub early_upgrades : EarlyUpgradesBegin
early_upgrades source sink input known empty (Ok c, reads, ends) =
    let begun = ends.0.0 in
    (c, begun.sent, begun.unsent, spelled_read input c (tells_of source input (Ok c) known reads), held sink.before.contents sink.after.contents begun.sent empty begun.put, begun.parts)
early_upgrades source sink input known empty (Err (Format wrong), reads, ends) = let z = ap upgrade_place ends.1 in absurd (omega (arith, z))
early_upgrades source sink input known empty (Err Failed, reads, ends) = let z = ap upgrade_place ends.1 in absurd (omega (arith, z))
early_upgrades source sink input known empty (Err (NoMemory refused), reads, ends) = let z = ap upgrade_place ends.1 in absurd (omega (arith, z))

-- what was to be shown of a known input
abbrev IsShown : Style → List ℕ → List ℕ → Type 0
IsShown style input text =
    ((c : CertificateModel) × (certificate input ≡ Ok (c, [])) × ItsPlanLeads c × IsDrawing style c text) ⊎ ((code : List ℕ) × IsMistaken input code × (text ≡ report_text (refused_certificate_data code)))

shown_of : (style : Style) (input text : List ℕ) (status : ℕ) → WritesShow style (filled text) status input → IsShown style input text
shown_of style input text status (inl (c, drawing, read, leads, draws, put, is)) = inl (c, read, leads, subst (IsDrawing style c) (sym put) draws)
shown_of style input text status (inr (code, mistaken, put, is)) = inr (code, mistaken, put)

pub early_drawings : EarlyDrawingsBegin
early_drawings style source sink input known empty (read, reads, (output, is, fails)) =
    let begun = fails.0 in
    let shows = shown_written style (filled output.text) input output output.status refl refl read (tells_of source input read known reads) is in
    (output.text, begun.sent, begun.unsent, held sink.before.contents sink.after.contents begun.sent empty begun.put, begun.parts, shown_of style input output.text output.status shows)

-- what is shown with the status 5 is a mistake of the input
mistake_of : (style : Style) (input text : List ℕ) (status : ℕ) → status ≡ 5 → WritesShow style (filled text) status input → (code : List ℕ) × IsMistaken input code
mistake_of style input text status five (inl (c, drawing, read, leads, draws, put, is)) = absurd (omega (arith, five, is))
mistake_of style input text status five (inr (code, mistaken, put, is)) = (code, mistaken)

place_none : (c : CertificateModel) (refused : OutOfMemory) → LacksDrawing (Ok c) refused → ItsPlanLeads c
place_none c refused (inl never) = absurd (cc)
place_none c refused (inr (d, same, leads)) = subst ItsPlanLeads (ap (read_or c) (sym same)) leads
  where
    read_or : CertificateModel → Result CertificateModel ReadFault → CertificateModel
    read_or none (Ok it) = it
    read_or none (Err fault) = none

pub drawings_lack : DrawingsLackTheirOwn
drawings_lack = (
  λ style source sink lacking input known shows.
      let read = shows.0 in
      let due = shows.2.0 in
      mistake_of style input due.0.text due.0.status due.2 (shown_written style (filled due.0.text) input due.0 due.0.status refl refl read (tells_of source input read known shows.1) due.1),
  λ style sink refused c ends. place_none c refused ends.0,
)

-- what is due for a line that names a board is a report of the board
due_of : (rules : ProofRules) (line id : List ℕ) (b : BoardModel) → IsReportDue rules (line_kind_of line) (without_return line) → Names rules.grid line id b → (ending : Option Ending) × (report_rules rules).allows b ending
due_of rules line id b due names = by_due (subst (λ (kind : LineKind). IsReportDue rules kind (without_return line)) names.0 due)
  where
    by_due : IsReportDue rules Within (without_return line) → (ending : Option Ending) × (report_rules rules).allows b ending
    by_due (inl (fault, first)) = absurd (no_fault rules.grid line id (entry_code fault) b names (inr (names.0, (fault, first, refl))))
    by_due (inr (other, board, ending, entry, may)) =
        (ending, subst (λ (p : BoardModel). MayReport rules p ending) (same_name rules.grid line id other b board names (names.0, entry)).1 may)

pub reports_lack : (rules : ProofRules) → ReportsLackTheirOwn rules
reports_lack rules split source sink lacking replies =
    let lacks = replies.1.1 in
    (lacks.0, λ id b names. due_of rules lacks.0.line id b lacks.1 names)

-- ---- replies that can't be written

-- the first lines of a known input, up to the one that asks
lines_first : (source : Change SourceState) (input : List ℕ) → source.before.left ≡ Some input → (first : HasFirst source) → (more : List (List ℕ)) × (lines_of input ≡ (first.passed ++ first.line ∷ []) ++ more)
lines_first source input known first = subst (λ (left : Option (List ℕ)). AreFirst left (first.passed ++ first.line ∷ [])) known (AreFirst-read source.before.left source.after.left (first.passed ++ first.line ∷ []) first.finds.read)

-- of them that one alone asks
first_asks : (source : Change SourceState) (first : HasFirst source) → questions 1 (first.passed ++ first.line ∷ []) ≡ (1 + length first.passed, first.line) ∷ []
first_asks source first = one_asks 1 first.passed first.line (recursion_from_All IsPassedOver first.passed first.finds.before) first.finds.here

pub early_certificates : (rules : ProofRules) → EarlyCertificatesBegin rules
early_certificates rules split source sink input known empty (some, (readable, (output, (first, within, (c, (id, b, given, entry, allowed, claims, rows, of), written)), fails))) =
    let begun = fails.0 in
    let lines = lines_first source input known first in
    let text : spelling c ≡ begun.sent ++ begun.unsent = sym (ap (λ (o : Output). o.text) written) ∙ begun.parts in
    (first.passed ++ first.line ∷ [], lines.0, 1 + length first.passed, first.line, id, begun.sent, begun.unsent, b, c, lines.1, first_asks source first, (within, entry), held sink.before.contents sink.after.contents begun.sent empty begun.put, subst (CertifiesTruly split (rules.task b) c) text (certifies_truly split (rules.task b) c of))

pub early_reports : (rules : ProofRules) → EarlyReportsBegin rules
early_reports rules truthful split source sink input known empty (some, (readable, (output, (first, (answer, is, needs, written)), fails))) =
    let begun = fails.0 in
    let lines = lines_first source input known first in
    let over = recursion_from_All IsPassedOver first.passed first.finds.before in
    let text : answer_text (length first.passed + 1) answer ≡ begun.sent ++ begun.unsent = sym (ap (λ (o : Output). o.text) written) ∙ begun.parts in
    (first.passed ++ first.line ∷ [], lines.0, 1 + length first.passed, first.line, begun.sent, begun.unsent, lines.1, first_asks source first, held sink.before.contents sink.after.contents begun.sent empty begun.put, subst (TellsTheTruth (report_rules rules) (first.passed ++ first.line ∷ [])) text (last_true (report_rules rules) (reports_truthful rules truthful) first.passed first.line answer first.finds.few over is))

-- ---- what statuses tell

-- a report is read as what it says
replied_as : (d : Data) → IsReport d → IsReply (report_text d) 0 d
replied_as d report = (compact_text d, ap (λ (lines : List (List ℕ)). slice_get lines 0) (feed_ends (compact_text d) (text_other d)), report_read d report)

-- a report says this with this status
abbrev IsSaid : List ℕ → ℕ → Type 0
IsSaid text status = (d : Data) × IsReply text 0 d × ((HasStatus d (codes "unsolvable") × (status ≡ 0)) ⊎ ((HasStatus d (codes "bounded") ⊎ HasStatus d (codes "refused")) × (status ≡ 1)))

module _ (rules : ProofRules) (line : List ℕ) (n : ℕ) (small : n < 2 ^ 64) where
  refused_said : (code : List ℕ) → IsSaid (report_text (refused_data code n)) 1
  refused_said code = (refused_data code n, replied_as (refused_data code n) (of_line code n small), inr (inr refl, refl))

  ending_said : (id : List ℕ) (ending : Ending) → HasSmallNumbers ending → IsUncertified ending → IsSaid (report_text (outcome_data id ending)) (status_of_counts (with_outcome no_lines ending))
  ending_said id (Optimal cost plan) fits never = absurd never
  ending_said id (Unsolvable why) fits alone = (outcome_data id (Unsolvable why), replied_as (outcome_data id (Unsolvable why)) (of_outcome id (Unsolvable why) fits), inl (refl, refl))
  ending_said id (Bounded bound best cause) fits alone = (outcome_data id (Bounded bound best cause), replied_as (outcome_data id (Bounded bound best cause)) (of_outcome id (Bounded bound best cause) fits), inr (inl refl, refl))

  entry_said : (answer : Answer) → AnswersEntry (report_rules rules) (without_return line) answer → NeedsReport answer → IsSaid (report_of n answer).text (report_of n answer).status
  entry_said answer (by_fault fault first) needs = refused_said (entry_code fault)
  entry_said answer (by_outcome id b ending entry may fits) needs = ending_said id ending fits needs
  entry_said answer (by_want id b entry lacking) needs = refused_said (codes "V3")

  line_said : (answer : Answer) → ¬ IsPassedOver line → AnswersLine (report_rules rules) line answer → NeedsReport answer → IsSaid (report_of n answer).text (report_of n answer).status
  line_said answer here is needs = by_kind (line_kind_of line) refl
    where
      by_kind : (kind : LineKind) → line_kind_of line ≡ kind → IsSaid (report_of n answer).text (report_of n answer).status
      by_kind PassedOver over = absurd (here over)
      by_kind TooLong long =
          let told = subst (λ (kind : LineKind). AnswersKind (report_rules rules) kind (without_return line) answer) long is in
          subst (λ (a : Answer). IsSaid (report_of n a).text (report_of n a).status) (sym told) (refused_said (codes "E12"))
      by_kind Within within = entry_said answer (subst (λ (kind : LineKind). AnswersKind (report_rules rules) kind (without_return line) answer) within is) needs

-- what a reply of the first line leaves, with its status
first_said : (split : PartitionModel) (rules : ProofRules) (source : Change SourceState) (output : Output) (first : HasFirst source) → CertifiesLine split rules (first_line source first) (without_return first.line) output → StatusTellsOutput (first.passed ++ first.line ∷ []) output.text output.status
first_said split rules source output first (inl (within, (c, (id, b, given, entry, allowed, claims, rows, of), written))) =
    let read : certificate (spelling c) ≡ Ok (c, []) = spelled_read (spelling c) c (of.certificate, refl) in
    let told = statuses_tell c in
    subst (λ (o : Output). StatusTellsOutput (first.passed ++ first.line ∷ []) o.text o.status) (sym written) (inr (inl (c, read, told.0, told.1)))
first_said split rules source output first (inr (answer, is, needs, written)) =
    subst (λ (o : Output). StatusTellsOutput (first.passed ++ first.line ∷ []) o.text o.status) (sym written) (inr (inr (line_said rules first.line (length first.passed + 1) first.finds.few answer first.finds.here is needs)))

pub answer_statuses : (rules : ProofRules) → AnswerStatusesTell rules
answer_statuses rules split source sink status input known empty (some, (readable, inl ((lines, all, over), same, told))) =
    let are : lines_of input ≡ lines = subst (λ (left : Option (List ℕ)). AreAll left lines) known all in
    (lines, [], [], are ∙ sym (append-nil lines), ap (λ (s : SinkState). s.contents) same ∙ empty, inl (none_ask 1 lines (recursion_from_All IsPassedOver lines over), refl, told))
answer_statuses rules split source sink status input known empty (some, (readable, inr (output, (first, replies), put, told))) =
    let lines = lines_first source input known first in
    (first.passed ++ first.line ∷ [], lines.0, output.text, lines.1, held sink.before.contents sink.after.contents output.text empty put.0, subst (StatusTellsOutput (first.passed ++ first.line ∷ []) output.text) (sym told) (first_said split rules source output first replies))

module _ (sink : Change SinkState) (status : ℕ) (input : List ℕ) (empty : sink.before.contents ≡ Some []) where
  -- a line is left, which says so with the status
  abbrev IsLeft : Type 0
  IsLeft = (line : List ℕ) × (d : Data) × (sink.after.contents ≡ Some (line ++ 10 ∷ [])) × Reads line d × ((HasStatus d (codes "accepted") × (status ≡ 0)) ⊎ (HasStatus d (codes "refused") × (status ≡ 5)))

  refused_left : (output : Output) (code : List ℕ) → Puts sink output.text → status ≡ output.status → IsRefusedReport code output → IsLeft
  refused_left output code put told is =
      let d = refused_certificate_data code in
      (compact_text d, d, held sink.before.contents sink.after.contents (report_text d) empty (subst (Puts sink) (ap (λ (o : Output). o.text) is) put), report_read d (of_certificate code), inr (refl, told ∙ ap (λ (o : Output). o.status) is))

  verdict_left : (output : Output) (read : Result CertificateModel ReadFault) → TellsOfInput read input → Puts sink output.text → status ≡ output.status → IsVerdictOutput read output → IsLeft
  verdict_left output (Ok c) tells put told (tables, built, inl accepted) =
      let d = claim_data c.plan c.cost in
      (compact_text d, d, held sink.before.contents sink.after.contents (report_text d) empty (subst (Puts sink) (ap (λ (o : Output). o.text) accepted.written) put), report_read d (claim_is_report c.plan c.cost (greatest_small c.plan c.cost tells.0.cost)), inl (accepted_status c.plan c.cost, told ∙ ap (λ (o : Output). o.status) accepted.written))
  verdict_left output (Ok c) tells put told (tables, built, inr (refusal, first, refused)) = refused_left output (refusal_code refusal) put told refused
  verdict_left output (Err (Format fault)) tells put told refused = refused_left output (format_code fault) put told refused
  verdict_left output (Err Failed) tells put told never = absurd never
  verdict_left output (Err (NoMemory refused)) tells put told never = absurd never

pub verdict_statuses : VerdictStatusesTell
verdict_statuses source sink status input known empty (read, reads, (output, verdict, put, told)) = verdict_left sink status input empty output read (tells_of source input read known reads) put.0 told verdict

-- a certificate whose rows prove it with the tables that are built for it is accepted
judged_proved : (c : CertificateModel) (output : Output) → ((tables : BoundModel) → AreBuiltFor c tables → IsProved c tables) → IsJudgement c output → output.status ≡ 0
judged_proved c output proved (tables, built, inl accepted) = ap (λ (o : Output). o.status) accepted.written
judged_proved c output proved (tables, built, inr (refusal, first, refused)) = absurd (proved_has_none c tables (proved tables built) refusal first.0)

pub certified_accepted : CertificatesAreAccepted
certified_accepted split task c source sink status input certifies known (read, reads, (output, verdict, put, told)) =
    told ∙ by_read read (tells_of source input read known reads) verdict
  where
    by_read : (read : Result CertificateModel ReadFault) → TellsOfInput read input → IsVerdictOutput read output → output.status ≡ 0
    by_read (Ok d) tells verdict =
        let same : d ≡ c = one_certificate input c d certifies.read (spelled_read input d tells) in
        judged_proved c output certifies.proved (subst (λ (e : CertificateModel). IsJudgement e output) same verdict)
    by_read (Err (Format fault)) tells verdict = absurd (faultless input c fault certifies.read tells)
    by_read (Err Failed) tells verdict = absurd verdict
    by_read (Err (NoMemory refused)) tells verdict = absurd verdict

-- what is refused has the status 5
refused_five : (status : ℕ) (output : Output) (code : List ℕ) → status ≡ output.status → IsRefusedReport code output → status ≡ 5
refused_five status output code told is = told ∙ ap (λ (o : Output). o.status) is

-- so what has the status 0 is proved
pub accepts_proved : ChecksAcceptWhatIsProved
accepts_proved source sink (read, reads, (output, verdict, put, told)) = by_read read reads verdict
  where
    by_read : (read : Result CertificateModel ReadFault) → ReadsCertificate source read → IsVerdictOutput read output
        → (c : CertificateModel) × (tables : BoundModel) × ReadsCertificate source (Ok c) × AreBuiltFor c tables × IsProved c tables × NothingBelow c.costs c.start c.goal c.cost × (IsSome c.plan → IsLeast c.costs c.start c.goal c.cost)
    by_read (Ok c) reads (tables, built, inl accepted) = (c, tables, reads, built, accepted.proved, accepted.below, accepted.least)
    by_read (Ok c) reads (tables, built, inr (refusal, first, refused)) = let five = refused_five 0 output (refusal_code refusal) told refused in absurd (omega (arith, five))
    by_read (Err (Format fault)) reads refused = let five = refused_five 0 output (format_code fault) told refused in absurd (omega (arith, five))
    by_read (Err Failed) reads never = absurd never
    by_read (Err (NoMemory refused)) reads never = absurd never

-- and what has another is refused for a cause
pub refuses_for_cause : ChecksRefuseForACause
refuses_for_cause source sink status other (read, reads, (output, verdict, put, told)) = by_read read reads verdict
  where
    by_read : (read : Result CertificateModel ReadFault) → ReadsCertificate source read → IsVerdictOutput read output
        → ((fault : FormatFault) × ReadsCertificate source (Err (Format fault)))
        ⊎ ((c : CertificateModel) × (tables : BoundModel) × (refusal : Refusal) × ReadsCertificate source (Ok c) × AreBuiltFor c tables × IsFirstRefusal c tables refusal)
    by_read (Ok c) reads (tables, built, inl accepted) = absurd (other (told ∙ ap (λ (o : Output). o.status) accepted.written))
    by_read (Ok c) reads (tables, built, inr (refusal, first, refused)) = inr (c, tables, refusal, reads, built, first)
    by_read (Err (Format fault)) reads refused = inl (fault, reads)
    by_read (Err Failed) reads never = absurd never
    by_read (Err (NoMemory refused)) reads never = absurd never

-- ---- streams that fail

-- the places of answers among all
abbrev check_place : Result ℕ CheckFault → ℕ
check_place (Ok status) = 0
check_place (Err CertificateRead) = 1
check_place (Err (CertificateMemory refused)) = 2
check_place (Err Write) = 3
check_place (Err (Memory lacking)) = 4

abbrev read_place : Result CertificateModel ReadFault → ℕ
read_place (Ok c) = 0
read_place (Err (Format fault)) = 1
read_place (Err Failed) = 2
read_place (Err (NoMemory refused)) = 3

not_wanted : (read : Result CertificateModel ReadFault) (refused : OutOfMemory) → WantsMemory read refused → read ≡ Err Failed → ⊥
not_wanted read refused (inl lacks) failed = let z = ap read_place (sym lacks ∙ failed) in absurd (omega (arith, z))
not_wanted read refused (inr (c, is)) failed = let z = ap read_place (sym is ∙ failed) in absurd (omega (arith, z))

wants_of : (read : Result CertificateModel ReadFault) (refused : OutOfMemory) → LacksDrawing read refused → WantsMemory read refused
wants_of read refused (inl lacks) = inl lacks
wants_of read refused (inr (c, is, leads)) = inr (c, is)

-- a certificate that says the truth of a task has a plan that leads, if it claims one
certified_leads : (split : PartitionModel) (task : Task) (c : CertificateModel) (input : List ℕ) → CertifiesTruly split task c input → ItsPlanLeads c
certified_leads split task c input certifies =
    subst (λ (rule : WeightsModel). IfSome c.plan (λ moves. Leads rule c.start moves c.goal c.cost)) (sym certifies.costs)
    (subst (λ (b : BoardModel). IfSome c.plan (λ moves. Leads task.rule b moves c.goal c.cost)) (sym certifies.start)
    (subst (λ (q : BoardModel). IfSome c.plan (λ moves. Leads task.rule task.start moves q c.cost)) (sym certifies.goal) (leads_of c.plan certifies.claim)))
  where
    leads_of : (plan : Option (List Move)) → ClaimsTruly task c.cost plan → IfSome plan (λ moves. Leads task.rule task.start moves task.goal c.cost)
    leads_of None claims = tt
    leads_of (Some plan) claims = claims.0

-- tables of the certificate's groups that are none
abbrev no_tables : CertificateModel → BoundModel
no_tables c = record { split = c.groups; lookups = []; folds = [] }

-- and of the same groups on boards with one row more
abbrev taller : CertificateModel → BoundModel
taller c = record { split = record { grid = record { rows = c.groups.grid.rows + 1; cols = c.groups.grid.cols }; groups = c.groups.groups }; lookups = []; folds = [] }

fit_at_first : (c : CertificateModel) → IsUnfitAt c (no_tables c) 0 → ⊥
fit_at_first c (inl (other, first)) = other refl
fit_at_first c (inr (inl differ)) = differ refl
fit_at_first c (inr (inr (inl (fold, at)))) = absurd cc
fit_at_first c (inr (inr (inr (table, at, none)))) = absurd cc

-- where the plan leads, no cause is the first with any tables
never_misled : (c : CertificateModel) → ItsPlanLeads c → (refusal : Refusal) → ((tables : BoundModel) → IsFirstRefusal c tables refusal) → ⊥
never_misled c leads refusal first =
    let differ : c.groups.grid ≢ (taller c).split.grid = λ same. let z = ap (λ (g : ShapeModel). g.rows) same in absurd (omega (arith, z)) in
    let unfit : refusal ≡ UnfitGroup 0 = first_once c (taller c) refusal (UnfitGroup 0) (first (taller c)) (other_shape_refused c (taller c) leads differ) in
    fit_at_first c (subst (λ (r : Refusal). IsFirstRefusal c (no_tables c) r) unfit (first (no_tables c))).0

-- such a certificate is drawn
pub certified_drawn : CertificatesAreDrawn
certified_drawn split task c style source sink status input certifies known (read, reads, (output, shown, put, told)) =
    told ∙ by_read read (tells_of source input read known reads) shown
  where
    by_read : (read : Result CertificateModel ReadFault) → TellsOfInput read input → IsShowOutput style read output → output.status ≡ 0
    by_read (Ok d) tells (inl drawn) = drawn.well
    by_read (Ok d) tells (inr (refusal, first, refused)) =
        let same : d ≡ c = one_certificate input c d certifies.read (spelled_read input d tells) in
        absurd (never_misled c (certified_leads split task c input certifies) refusal (subst (λ (e : CertificateModel). (tables : BoundModel) → IsFirstRefusal e tables refusal) same first))
    by_read (Err (Format fault)) tells shown = absurd (faultless input c fault certifies.read tells)
    by_read (Err Failed) tells shown = absurd shown
    by_read (Err (NoMemory refused)) tells shown = absurd shown

-- and an upgrade leaves it as it is
pub certified_kept : CertificatesAreKept
certified_kept split task c source sink status input certifies known empty (read, reads, ends) = by_read read (tells_of source input read known reads) ends
  where
    by_read : (read : Result CertificateModel ReadFault) → TellsOfInput read input → EndsUpgrade read sink (Ok status) → (sink.after.contents ≡ Some input) × (status ≡ 0)
    by_read (Ok d) tells ends =
        let same : d ≡ c = one_certificate input c d certifies.read (spelled_read input d tells) in
        let version : d.version ≡ Two = ap (λ (e : CertificateModel). e.version) same ∙ certifies.version in
        let text : spelling (upgraded d) ≡ input = ap spelling ((upgrade_keeps d tells.0).2 version) ∙ sym tells.1 in
        (held sink.before.contents sink.after.contents input empty (subst (Puts sink) text ends.0.0), ends.1)
    by_read (Err (Format fault)) tells ends = absurd (faultless input c fault certifies.read tells)
    by_read (Err Failed) tells ends = let z = ap upgrade_place ends.1 in absurd (omega (arith, z))
    by_read (Err (NoMemory refused)) tells ends = let z = ap upgrade_place ends.1 in absurd (omega (arith, z))

-- what was read of known bytes has no fault there, where it is a certificate or where memory was refused
sound_where : (source : Change SourceState) (read : Result CertificateModel ReadFault) (refused : OutOfMemory) (bytes left : List ℕ) → source.before.left ≡ Some (bytes ++ left) → source.after.left ≡ Some left → ReadsCertificate source read → WantsMemory read refused → HasNoFault certificate bytes
sound_where source read refused bytes left was is reads (inl lacks) =
    let cut : TellsOfBytes (Err (NoMemory refused)) bytes = subst (λ (r : Result CertificateModel ReadFault). TellsOfBytes r bytes) lacks (told_of_bytes source read bytes left was is reads) in
    λ fault f. one_first_fault bytes Truncated fault cut f
sound_where source read refused bytes left was is reads (inr (c, same)) =
    let spells : TellsOfBytes (Ok c) bytes = subst (λ (r : Result CertificateModel ReadFault). TellsOfBytes r bytes) same (told_of_bytes source read bytes left was is reads) in
    λ fault f. absurd (not_both bytes c fault spells f)

cut_where : (source : Change SourceState) (sink : Change SinkState) (refused : OutOfMemory) (bytes left : List ℕ) → source.before.left ≡ Some (bytes ++ left) → source.after.left ≡ Some left → Upgrades source sink (Err (upgrade.CertificateMemory refused)) → IsFirstFormatFault bytes Truncated
cut_where source sink refused bytes left was is (Ok c, reads, ends) = let z = ap upgrade_fault_place ends.1 in absurd (omega (arith, z))
cut_where source sink refused bytes left was is (Err (Format fault), reads, ends) = let z = ap upgrade_place ends.1 in absurd (omega (arith, z))
cut_where source sink refused bytes left was is (Err Failed, reads, ends) = let z = ap upgrade_place ends.1 in absurd (omega (arith, z))
cut_where source sink refused bytes left was is (Err (NoMemory other), reads, ends) = told_of_bytes source (Err (NoMemory other)) bytes left was is reads

pub taken_as_written : CertificatesAreTakenAsWritten
taken_as_written = record { drawn = certified_drawn; kept = certified_kept }

pub no_fault_hidden : MemoryHidesNoFault
no_fault_hidden = record {
  checks = λ source sink refused bytes left taken checks. sound_where source checks.0 refused bytes left taken.0 taken.1 checks.1 checks.2.0;
  shows = λ style source sink refused bytes left taken shows. sound_where source shows.0 refused bytes left taken.0 taken.1 shows.1 (wants_of shows.0 refused shows.2.0);
  upgrades = λ source sink refused bytes left taken upgrades. cut_where source sink refused bytes left taken.0 taken.1 upgrades;
}

check_reads : (source : Change SourceState) (sink : Change SinkState) (result : Result ℕ CheckFault) → Checks source sink result → (result ≡ Err CertificateRead) ↔ (source.after.has_failed ≡ true)
check_reads source sink (Ok status) (read, reads, (output, verdict, put, told)) =
    ((λ is. let z = ap check_place is in absurd (omega (arith, z))), (λ failed. absurd (subst (λ (r : Result CertificateModel ReadFault). IsVerdictOutput r output) (reads.failed.1 failed) verdict)))
check_reads source sink (Err CertificateRead) (read, reads, (is, same)) = ((λ e. reads.failed.0 is), (λ failed. refl))
check_reads source sink (Err (CertificateMemory refused)) (read, reads, (lacks, same)) =
    ((λ is. let z = ap check_place is in absurd (omega (arith, z))), (λ failed. absurd (not_wanted read refused lacks (reads.failed.1 failed))))
check_reads source sink (Err Write) (read, reads, (output, verdict, fails)) =
    ((λ is. let z = ap check_place is in absurd (omega (arith, z))), (λ failed. absurd (subst (λ (r : Result CertificateModel ReadFault). IsVerdictOutput r output) (reads.failed.1 failed) verdict)))
check_reads source sink (Err (Memory lacking)) (read, reads, (has, same)) =
    ((λ is. let z = ap check_place is in absurd (omega (arith, z))), (λ failed. absurd (subst (λ (r : Result CertificateModel ReadFault). HasVerdict r) (reads.failed.1 failed) has)))

show_reads : (style : Style) (source : Change SourceState) (sink : Change SinkState) (result : Result ℕ CheckFault) → Shows style source sink result → (result ≡ Err CertificateRead) ↔ (source.after.has_failed ≡ true)
show_reads style source sink (Ok status) (read, reads, (output, shown, put, told)) =
    ((λ is. let z = ap check_place is in absurd (omega (arith, z))), (λ failed. absurd (subst (λ (r : Result CertificateModel ReadFault). IsShowOutput style r output) (reads.failed.1 failed) shown)))
show_reads style source sink (Err CertificateRead) (read, reads, (is, same)) = ((λ e. reads.failed.0 is), (λ failed. refl))
show_reads style source sink (Err (CertificateMemory refused)) (read, reads, (lacks, same)) =
    ((λ is. let z = ap check_place is in absurd (omega (arith, z))), (λ failed. absurd (not_wanted read refused (wants_of read refused lacks) (reads.failed.1 failed))))
show_reads style source sink (Err Write) (read, reads, (output, shown, fails)) =
    ((λ is. let z = ap check_place is in absurd (omega (arith, z))), (λ failed. absurd (subst (λ (r : Result CertificateModel ReadFault). IsShowOutput style r output) (reads.failed.1 failed) shown)))
show_reads style source sink (Err (Memory lacking)) (read, reads, (due, same)) =
    ((λ is. let z = ap check_place is in absurd (omega (arith, z))), (λ failed. absurd (subst (λ (r : Result CertificateModel ReadFault). IsShowOutput style r due.0) (reads.failed.1 failed) due.1)))

abbrev failing : UpgradeFault → Result ℕ UpgradeFault
failing fault = Err fault

upgrade_reads : (source : Change SourceState) (sink : Change SinkState) (result : Result ℕ UpgradeFault) → Upgrades source sink result → (result ≡ Err upgrade.CertificateRead) ↔ (source.after.has_failed ≡ true)
upgrade_reads source sink (Ok status) (Ok c, reads, ends) = ((λ is. let z = ap upgrade_place is in absurd (omega (arith, z))), (λ failed. let z = ap read_place (reads.failed.1 failed) in absurd (omega (arith, z))))
upgrade_reads source sink (Err fault) (Ok c, reads, ends) = (
  (λ is. let z = ap upgrade_place (sym (ap failing ends.1) ∙ is) in absurd (omega (arith, z))),
  (λ failed. let z = ap read_place (reads.failed.1 failed) in absurd (omega (arith, z))),
)
upgrade_reads source sink result (Err (Format fault), reads, ends) = ((λ is. let z = ap upgrade_place (sym ends.1 ∙ is) in absurd (omega (arith, z))), (λ failed. let z = ap read_place (reads.failed.1 failed) in absurd (omega (arith, z))))
upgrade_reads source sink result (Err Failed, reads, ends) = ((λ is. reads.failed.0 refl), (λ failed. ends.1))
upgrade_reads source sink result (Err (NoMemory refused), reads, ends) = ((λ is. let z = ap upgrade_place (sym ends.1 ∙ is) in absurd (omega (arith, z))), (λ failed. let z = ap read_place (reads.failed.1 failed) in absurd (omega (arith, z))))

pub failed_certificates : FailedCertificatesAreTold
failed_certificates = (check_reads, show_reads, upgrade_reads)

-- a sink that was left as it was has failed only if it had before
kept_failure : (sink : Change SinkState) → sink.after ≡ sink.before → sink.after.has_failed ≡ sink.before.has_failed
kept_failure sink same = ap (λ (s : SinkState). s.has_failed) same

check_writes : (source : Change SourceState) (sink : Change SinkState) (result : Result ℕ CheckFault) → result ≢ Err Write → Checks source sink result → sink.after.has_failed ≡ sink.before.has_failed
check_writes source sink (Ok status) other (read, reads, (output, verdict, put, told)) = put.1.1 ∙ sym put.1.0
check_writes source sink (Err CertificateRead) other (read, reads, ends) = kept_failure sink ends.1
check_writes source sink (Err (CertificateMemory refused)) other (read, reads, ends) = kept_failure sink ends.1
check_writes source sink (Err Write) other checks = absurd (other refl)
check_writes source sink (Err (Memory lacking)) other (read, reads, ends) = kept_failure sink ends.1

show_writes : (style : Style) (source : Change SourceState) (sink : Change SinkState) (result : Result ℕ CheckFault) → result ≢ Err Write → Shows style source sink result → sink.after.has_failed ≡ sink.before.has_failed
show_writes style source sink (Ok status) other (read, reads, (output, shown, put, told)) = put.1.1 ∙ sym put.1.0
show_writes style source sink (Err CertificateRead) other (read, reads, ends) = kept_failure sink ends.1
show_writes style source sink (Err (CertificateMemory refused)) other (read, reads, ends) = kept_failure sink ends.1
show_writes style source sink (Err Write) other shows = absurd (other refl)
show_writes style source sink (Err (Memory lacking)) other (read, reads, ends) = kept_failure sink ends.1

upgrade_failed : (source : Change SourceState) (sink : Change SinkState) → Upgrades source sink (Err upgrade.CertificateWrite) → sink.after.has_failed ≡ true
upgrade_failed source sink (Ok c, reads, ends) = ends.0.1
upgrade_failed source sink (Err (Format fault), reads, ends) = let z = ap upgrade_place ends.1 in absurd (omega (arith, z))
upgrade_failed source sink (Err Failed, reads, ends) = let z = ap upgrade_place ends.1 in absurd (omega (arith, z))
upgrade_failed source sink (Err (NoMemory refused), reads, ends) = let z = ap upgrade_place ends.1 in absurd (omega (arith, z))

upgrade_writes : (source : Change SourceState) (sink : Change SinkState) (result : Result ℕ UpgradeFault) → result ≢ Err upgrade.CertificateWrite → Upgrades source sink result → sink.after.has_failed ≡ sink.before.has_failed
upgrade_writes source sink (Ok status) other (Ok c, reads, ends) = ends.0.1.1 ∙ sym ends.0.1.0
upgrade_writes source sink (Err fault) other (Ok c, reads, ends) = absurd (other (ap (λ (f : UpgradeFault). Err f) ends.1))
upgrade_writes source sink result other (Err (Format fault), reads, ends) = kept_failure sink ends.0
upgrade_writes source sink result other (Err Failed, reads, ends) = kept_failure sink ends.0
upgrade_writes source sink result other (Err (NoMemory refused), reads, ends) = kept_failure sink ends.0

pub failed_verdicts : FailedVerdictsAreTold
failed_verdicts = (
  (λ source sink checks. checks.2.2.1),
  check_writes,
  (λ style source sink shows. shows.2.2.1),
  show_writes,
  upgrade_failed,
  upgrade_writes,
)

lines_read : (rules : ProofRules) (split : PartitionModel) (source : Change SourceState) (sink : Change SinkState) (result : Result ℕ CertifyFault) → result ≢ Err certify.Read → Replies split rules source sink result → source.after.has_failed ≡ false
lines_read rules split source sink (Ok status) other replies = replies.1.0
lines_read rules split source sink (Err certify.Read) other replies = absurd (other refl)
lines_read rules split source sink (Err certify.Write) other replies = replies.1.0
lines_read rules split source sink (Err (certify.Memory lacking)) other replies = replies.1.0
lines_read rules split source sink (Err (certify.GroupsMemory wanting)) other replies = replies.1.0
lines_read rules split source sink (Err certify.CertificateWrite) other replies = replies.1.0

pub failed_lines : (rules : ProofRules) → FailedLinesAreTold rules
failed_lines rules = (
  (λ split source sink input known short replies. lost source replies.1.0.0 input known short replies.1.0.1),
  lines_read rules,
)

abbrev certify_place : CertifyFault → ℕ
certify_place certify.Read = 0
certify_place certify.Write = 1
certify_place (certify.Memory lacking) = 2
certify_place (certify.GroupsMemory wanting) = 3
certify_place certify.CertificateWrite = 4

replies_failed : (rules : ProofRules) (split : PartitionModel) (source : Change SourceState) (sink : Change SinkState) (fault : CertifyFault) → (fault ≡ certify.Write) ⊎ (fault ≡ certify.CertificateWrite) → Replies split rules source sink (Err fault) → sink.after.has_failed ≡ true
replies_failed rules split source sink certify.Write either replies = replies.1.1.2.1
replies_failed rules split source sink certify.CertificateWrite either replies = replies.1.1.2.1
replies_failed rules split source sink certify.Read (inl is) replies = let z = ap certify_place is in absurd (omega (arith, z))
replies_failed rules split source sink certify.Read (inr is) replies = let z = ap certify_place is in absurd (omega (arith, z))
replies_failed rules split source sink (certify.Memory lacking) (inl is) replies = let z = ap certify_place is in absurd (omega (arith, z))
replies_failed rules split source sink (certify.Memory lacking) (inr is) replies = let z = ap certify_place is in absurd (omega (arith, z))
replies_failed rules split source sink (certify.GroupsMemory wanting) (inl is) replies = let z = ap certify_place is in absurd (omega (arith, z))
replies_failed rules split source sink (certify.GroupsMemory wanting) (inr is) replies = let z = ap certify_place is in absurd (omega (arith, z))

replies_kept : (rules : ProofRules) (split : PartitionModel) (source : Change SourceState) (sink : Change SinkState) (result : Result ℕ CertifyFault) → result ≢ Err certify.Write → result ≢ Err certify.CertificateWrite → Replies split rules source sink result → sink.after.has_failed ≡ sink.before.has_failed
replies_kept rules split source sink (Ok status) other others (some, (readable, inl (all, same, told))) = kept_failure sink same
replies_kept rules split source sink (Ok status) other others (some, (readable, inr (output, replies, put, told))) = put.1.1 ∙ sym put.1.0
replies_kept rules split source sink (Err certify.Read) other others replies = kept_failure sink replies.1.1
replies_kept rules split source sink (Err certify.Write) other others replies = absurd (other refl)
replies_kept rules split source sink (Err (certify.Memory lacking)) other others replies = kept_failure sink replies.1.2
replies_kept rules split source sink (Err (certify.GroupsMemory wanting)) other others replies = kept_failure sink replies.1.2
replies_kept rules split source sink (Err certify.CertificateWrite) other others replies = absurd (others refl)

pub failed_replies : (rules : ProofRules) → FailedRepliesAreTold rules
failed_replies rules = (replies_failed rules, replies_kept rules)

-- ---- what is taken

pub none_behind : (rules : ProofRules) → NothingBehindIsTaken rules
none_behind rules split source sink status input rest known left asked (some, (readable, inl ((lines, all, over), same, told))) =
    let are : lines_of input ≡ lines = subst (λ (left : Option (List ℕ)). AreAll left lines) known all in
    absurd (asked (ap (questions 1) are ∙ none_ask 1 lines (recursion_from_All IsPassedOver lines over)))
none_behind rules split source sink status input rest known left asked (some, (readable, inr (output, (first, replies), put, told))) =
    let lines = first.passed ++ first.line ∷ [] in
    let read : lines_of input ≡ lines ++ lines_of rest = subst (λ (now : Option (List ℕ)). AreRead (Some input) now lines) left (subst (λ (before : Option (List ℕ)). AreRead before source.after.left lines) known first.finds.read) in
    (lines, 1 + length first.passed, first.line, read, first_asks source first)
