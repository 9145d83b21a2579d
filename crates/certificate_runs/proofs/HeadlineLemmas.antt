-- What was written for a line, or of a certificate, is true.
use Rattle.std.proofs.Common.{ℕ, ◌≡◌, List, Option, None, Some, Vec, inl, inr, Ok, Err, refl, sym, subst, arith, ap, true, ◌<◌, ◌+◌, [], ◌∷◌, ◌++◌, length, ◌∙◌, length-append, ◌≢◌, suc, ◌^◌, Bool, false, cond, Result, append-nil, get_or, not, slice_get, option_and_then}
use Rattle.std.specs.declared.alloc.Global.{Global}
use Rattle.std.specs.Io.KnownBytes.{Appends, Keeps}
use Rattle.std.proofs.KnownBytes.{Appends-nil, Keeps-refl}
use Rattle.std.proofs.lemmas.List.Elements.{recursion_from_All}
use Rattle.std.specs.Prelude.{◌↔◌, ◌⊎◌, IsSome, ◌≤◌, IfSome, codes, nat_lt, unwrap_or}
use Rattle.std.specs.List.{AllByRecursion}
use Rattle.std.proofs.lemmas.Bool.{ne_eqb}
use Rattle.serde_json.specs.Data.{Data, null, boolean, number, unsigned, string, array, object}
use Rattle.serde_json.specs.Find.{as_str, as_number, as_u64}
use Rattle.serde_json.specs.Read.{read}
use Rattle.serde_json.specs.Written.{compact_text}
use Rattle.board.specs.declared.moves.Move.{Move}
use Rattle.board.specs.Boards.{BoardModel}
use Rattle.board.specs.Weights.{WeightsModel}
use Rattle.board.specs.Plans.{Leads, NothingBelow, IsLeast}
use Rattle.outcomes.specs.declared.outcome.Cause.{Cause}
use Rattle.outcomes.specs.declared.outcome.Ending.{Ending}
use Rattle.outcomes.specs.declared.outcome.Ending.TheVariants.{Bounded, Optimal, Unsolvable}
use Rattle.outcomes.specs.declared.outcome.Outcome.{Outcome}
use Rattle.outcomes.specs.declared.outcome.Why.TheVariants.{Exhausted}
use Rattle.outcomes.specs.Endings.{EndAnswers, without_rows}
use Rattle.outcomes.specs.Outcomes.{Answers, Task}
use Rattle.outcomes.specs.declared.outcome.Cause.TheVariants.{Memory}
use Rattle.outcomes.specs.declared.outcome.Want.TheVariants.{Refused}
use Rattle.pattern_index.specs.Partitions.{PartitionModel}
use Rattle.byte_streams.specs.Streams.{SourceState, SinkState, Change}
use Rattle.byte_streams.specs.Sink.{Puts, PutsNone}
use Rattle.batch_lines.specs.declared.lines.TheConstants.{LINE_LIMIT}
use Rattle.batch_lines.specs.declared.lines.LineKind.{LineKind}
use Rattle.batch_lines.specs.declared.lines.LineKind.TheVariants.{PassedOver, TooLong, Within}
use Rattle.batch_lines.specs.Words.{entry_code}
use Rattle.batch_lines.specs.Lines.{line_kind_of, without_return, lines_of, onto_first, is_passed_over}
use Rattle.batch_runs.specs.Reports.{outcome_data, refused_data, accepted_data, accepted_bound_data, refused_certificate_data, report_text}
use Rattle.batch_runs.specs.ReportReadings.{HasSmallNumbers, HasStatus, IsReport, IsSmall, SaysText, SaysNumber}
use Rattle.batch_runs.specs.ReportReadings.IsReport.{of_outcome, of_line, of_cost, of_bound, of_certificate}
use Rattle.batch_runs.proofs.ReadLemmas.{report_read}
use Rattle.batch_runs.proofs.TextLemmas.{text_other}
use Rattle.certificate.specs.Certificates.{CertificateModel, greatest, upgraded}
use Rattle.certificate.specs.Readings.{Reading, certificate, IsFirstFormatFault}
use Rattle.certificate.specs.declared.faults.FormatFault.{FormatFault}
use Rattle.certificate.specs.Spellings.{Spells, spelling}
use Rattle.certificate.specs.Faults.{format_code}
use Rattle.certificate.specs.Sources.{TellsOfInput}
use Rattle.certificate.specs.declared.faults.ReadFault.{ReadFault}
use Rattle.certificate.specs.declared.faults.ReadFault.TheVariants.{Format, Failed, NoMemory}
use Rattle.certificate.proofs.LawLemmas.{spelled_read, one_first_fault}
use Rattle.certificate_check.specs.Refusals.{ItsPlanLeads, IsFirstRefusal, refusal_code}
use Rattle.drawings.specs.declared.drawing.Style.{Style}
use Rattle.drawings.specs.Drawings.{IsDrawing}
use Rattle.certificate_runs.specs.Built.{AreBuiltFor}
use Rattle.batch_runs.specs.Batches.{AnswersEntry, AnswersKind, AnswersLine, Rules, IsTruthful, Answer, AnswersLines, AreAll, AreFirst, answer_text, answers_text}
use Rattle.batch_runs.proofs.BatchLemmas.{AreFirst-read, held}
use Rattle.batch_runs.specs.Batches.AnswersEntry.{by_outcome, by_fault, by_want}
use Rattle.batch_runs.specs.Batches.Answer.{answered, passed_over}
use Rattle.batch_runs.specs.Meanings.{Names, IsReply, asks, questions}
use Rattle.batch_runs.specs.Headline.{TellsTheTruth}
use Rattle.batch_runs.proofs.TruthLemmas.{same_name, truth}
use Rattle.certificate_runs.specs.Rules.{ProofRules, report_rules, rows_of, MayReport, ProvesTruly}
use Rattle.certificate_runs.specs.Certifying.{claim_status, IsUncertified, NeedsReport, IsCertificateOf, HasFirst, CertifiesLine, Replies, first_line}
use Rattle.batch_runs.specs.FirstLines.{IsPassedOver, PassesAll}
use Rattle.certificate_runs.specs.Outputs.{Output, IsUntouched}
use Rattle.certificate_runs.specs.declared.faults.CertifyFault.{CertifyFault}
use Rattle.certificate_runs.specs.declared.faults.CheckFault.{CheckFault}
use Rattle.certificate_runs.specs.declared.faults.UpgradeFault.{UpgradeFault}
use Rattle.certificate_runs.specs.declared.faults.UpgradeFault.TheVariants.{CertificateRead, CertificateMemory}
use Rattle.certificate_runs.specs.Upgrading.{EndsUpgrade, Upgrades}
use Rattle.certificate_runs.specs.Checking.{claim_data, IsJudgement, IsVerdictOutput, Checks}
use Rattle.certificate_runs.specs.Headline.{BoundsLackRows, CertifiesTruly, ClaimsTruly, AnswersFirst, WritesAnswer, IsTrueAnswer, IsCertificateRefusedBy, SaysOf, SaysClaim, IsTrueVerdict, WritesVerdict, IsTrueCheck, WritesUpgrade, IsTrueUpgrade, WritesShow, IsMistaken}
use Rattle.certificate_runs.specs.Headline.AnswersFirst.{by_none, by_certificate, by_report}
use Rattle.certificate_runs.proofs.CertifyLemmas.{silence}
use Rattle.certificate_runs.specs.Laws.{VerdictsAcceptOrRefuse, UnaskedLinesAreSilent, CertificatesAnswerTheQuestion, ReportsAnswerTheQuestion, CertifiedPlansAreLeast, CertifiedBoundsAreBelow, CertificatesAreOfTasks, CertificatesAreProved, FaultyInputsHaveTheirCode, RefusedCertificatesHaveACause, MistakenInputsHaveTheirCode, MistakenCertificatesHaveACause, VerdictsAreWritten, UpgradesAreWritten, DrawingsAreWritten, FirstLinesAreAnswered, SilentRunsAreUnasked, CertificatesAreOfOutcomes, WantsAreOfRules, GroupsAreWantedForRows, SaidBoundsLackRows, OutcomesWithRowsAreCertified, ReportedBoundsLackRows, BoundsAreCertified, ClaimsAreOfEndings, LeastPlansAreCertified, StatusesTellClaims, OtherFaultsLeaveTheSink, OtherFaultsWriteNoVerdict, VerdictsAreOnWhatWasRead, WantsAreForVerdicts, AcceptedCostsAreLeast, AcceptedBoundsAreBelow, RefusedInputsHaveTheFault}
use Rattle.outcomes.specs.declared.outcome.Outcome.TheVariants as outcome
use Rattle.certificate_runs.specs.declared.faults.CertifyFault.TheVariants as certify
use Rattle.certificate_runs.specs.declared.faults.CheckFault.TheVariants as check

-- ---- outcomes without rows

-- a bound as an outcome without rows
abbrev lone : Ending → Outcome
lone (Optimal cost plan) = outcome.Unsolvable Exhausted
lone (Unsolvable why) = outcome.Unsolvable why
lone (Bounded bound best cause) = outcome.Bounded bound best cause None

-- what says a bound and has no rows is this
pub lone_bound : (given : Outcome) (bound : ℕ) (best : Option (ℕ × Vec Move Global)) (cause : Cause) → without_rows given ≡ Bounded bound best cause → rows_of given ≡ None → given ≡ outcome.Bounded bound best cause None
lone_bound (outcome.Optimal cost plan rows) bound best cause says none = absurd (cc)
lone_bound (outcome.Unsolvable why) bound best cause says none = absurd (cc)
lone_bound (outcome.Bounded bound' best' cause' (Some rows)) bound best cause says none = absurd (cc)
lone_bound (outcome.Bounded bound' best' cause' None) bound best cause says none = ap lone says

-- what answers a task does so without rows too
pub ends_answered : (task : Task) (given : Outcome) → Answers task given → EndAnswers task (without_rows given)
ends_answered task (outcome.Optimal cost plan rows) answers = (answers.0, answers.1, (rows.items, answers.2), answers.3, answers.4)
ends_answered task (outcome.Unsolvable why) answers = answers
ends_answered task (outcome.Bounded bound best cause (Some rows)) answers = (answers.0, (rows.items, answers.1))
ends_answered task (outcome.Bounded bound best cause None) answers = (answers.0, answers.2)

-- ---- what was written is true: the lines that ask

abbrev is_over : LineKind → Bool
is_over PassedOver = true
is_over TooLong = false
is_over Within = false

over_or : (over long : Bool) → is_over (cond over PassedOver (cond long TooLong Within)) ≡ over
over_or true long = refl
over_or false true = refl
over_or false false = refl

over_is : (line : List ℕ) → is_over (line_kind_of line) ≡ is_passed_over (without_return line)
over_is line = over_or (is_passed_over (without_return line)) (nat_lt LINE_LIMIT (length (without_return line)))

asks_not : (line : List ℕ) → IsPassedOver line → asks line ≡ false
asks_not line over = ap not (sym (over_is line) ∙ ap is_over over)

kind_over : (kind : LineKind) → is_over kind ≡ true → kind ≡ PassedOver
kind_over PassedOver e = refl
kind_over TooLong e = absurd cc
kind_over Within e = absurd cc

asks_so : (line : List ℕ) → ¬ IsPassedOver line → asks line ≡ true
asks_so line here = by_case (is_passed_over (without_return line)) refl
  where
    by_case : (over : Bool) → is_passed_over (without_return line) ≡ over → asks line ≡ true
    by_case true e = absurd (here (kind_over (line_kind_of line) (over_is line ∙ e)))
    by_case false e = ap not e

-- lines that are passed over ask nothing
pub none_ask : (n : ℕ) (lines : List (List ℕ)) → AllByRecursion IsPassedOver lines → questions n lines ≡ []
none_ask n [] over = refl
none_ask n (line ∷ lines) over = rw (asks_not line over.0) (none_ask (n + 1) lines over.1)

pub one_asks : (n : ℕ) (passed : List (List ℕ)) (line : List ℕ) → AllByRecursion IsPassedOver passed → ¬ IsPassedOver line → questions n (passed ++ line ∷ []) ≡ (n + length passed, line) ∷ []
one_asks n [] line over here =
    let at : n ≡ n + 0 = omega arith in
    rw (asks_so line here) (ap (λ (k : ℕ). (k, line) ∷ []) at)
one_asks n (other ∷ passed) line over here =
    let at : (n + 1) + length passed ≡ n + suc (length passed) = omega arith in
    rw (asks_not other over.0) (one_asks (n + 1) passed line over.1 here ∙ ap (λ (k : ℕ). (k, line) ∷ []) at)

-- ---- the answers to lines where the last alone asks

abbrev last_answer : List (List ℕ) → Answer → List Answer
last_answer [] answer = answer ∷ []
last_answer (line ∷ passed) answer = passed_over ∷ last_answer passed answer

last_text : (n : ℕ) (passed : List (List ℕ)) (answer : Answer) → answers_text n (last_answer passed answer) ≡ answer_text (n + length passed) answer
last_text n [] answer =
    let at : n ≡ n + 0 = omega arith in
    append-nil (answer_text n answer) ∙ ap (λ (k : ℕ). answer_text k answer) at
last_text n (line ∷ passed) answer =
    let at : (n + 1) + length passed ≡ n + suc (length passed) = omega arith in
    last_text (n + 1) passed answer ∙ ap (λ (k : ℕ). answer_text k answer) at

module _ (rules : Rules) where
  last_answers : (passed : List (List ℕ)) (line : List ℕ) (answer : Answer) → AllByRecursion IsPassedOver passed → AnswersLine rules line answer → AnswersLines rules (passed ++ line ∷ []) (last_answer passed answer)
  last_answers [] line answer over is = (is, tt)
  last_answers (other ∷ passed) line answer over is =
      (subst (λ (kind : LineKind). AnswersKind rules kind (without_return other) passed_over) (sym over.0) refl, last_answers passed line answer over.1 is)

  -- a report of the last line alone tells the truth
  pub last_true : IsTruthful rules → (passed : List (List ℕ)) (line : List ℕ) (answer : Answer) → length passed + 1 < 2 ^ 64 → AllByRecursion IsPassedOver passed → AnswersLine rules line answer → TellsTheTruth rules (passed ++ line ∷ []) (answer_text (length passed + 1) answer)
  last_true truthful passed line answer few over is =
      let longer = length-append passed (line ∷ []) in
      let at : 1 + length passed ≡ length passed + 1 = omega arith in
      subst (TellsTheTruth rules (passed ++ line ∷ [])) (last_text 1 passed answer ∙ ap (λ (k : ℕ). answer_text k answer) at) (truth rules truthful (passed ++ line ∷ []) (last_answer passed answer) (omega (arith, longer)) (last_answers passed line answer over is))

-- ---- a certificate

-- a fact of a certificate's costs, start and goal is one of the task's
moved : (P : WeightsModel → BoardModel → BoardModel → Type 0) (task : Task) (c : CertificateModel) → c.costs ≡ task.rule → c.start ≡ task.start → c.goal ≡ task.goal → P c.costs c.start c.goal → P task.rule task.start task.goal
moved P task c costs start goal fact =
    subst (λ (q : BoardModel). P task.rule task.start q) goal (subst (λ (b : BoardModel). P task.rule b c.goal) start (subst (λ (rule : WeightsModel). P rule c.start c.goal) costs fact))

-- what a certificate claims is true of the task
claims_truly : (task : Task) (cost : ℕ) (plan : Option (List Move)) → IfSome plan (λ moves. Leads task.rule task.start moves task.goal cost) → NothingBelow task.rule task.start task.goal cost → ClaimsTruly task cost plan
claims_truly task cost (Some plan) leads below = (leads, record { reached = (plan, leads); none_below = below })
claims_truly task cost None leads below = below

pub certifies_truly : (split : PartitionModel) (task : Task) (c : CertificateModel) → IsCertificateOf split task c → CertifiesTruly split task c (spelling c)
certifies_truly split task c of = record {
  read = spelled_read (spelling c) c (of.certificate, refl);
  version = of.version;
  groups = of.groups;
  start = of.start;
  goal = of.goal;
  costs = of.costs;
  claim = claims_truly task c.cost c.plan
      (moved (λ rule b q. IfSome c.plan (λ moves. Leads rule b moves q c.cost)) task c of.costs of.start of.goal of.leads)
      (moved (λ rule b q. NothingBelow rule b q c.cost) task c of.costs of.start of.goal of.below);
  proved = of.proved;
}

-- ---- a line in, a certificate out

-- what may be reported is true
pub reports_truthful : (rules : ProofRules) → ProvesTruly rules → IsTruthful (report_rules rules)
reports_truthful rules truthful b ending (given, allowed, says, none) = subst (EndAnswers (rules.task b)) says (ends_answered (rules.task b) given (truthful b given allowed))

first_all : (input : Option (List ℕ)) (lines : List (List ℕ)) → AreAll input lines → AreFirst input lines
first_all None lines all = tt
first_all (Some bytes) lines all = ([], all ∙ sym (append-nil lines))

untouched : (sink : Change SinkState) → IsUntouched sink → Puts sink []
untouched sink same = subst (λ (after : SinkState). Puts (record { before = sink.before; after = after }) []) (sym same) (Appends-nil sink.before.contents)

-- ---- a report of a bound

abbrev text_in : Data → List ℕ
text_in null = []
text_in (boolean b) = []
text_in (number n) = []
text_in (string s) = s
text_in (array ds) = []
text_in (object ms) = []

abbrev first_letter : Option Data → ℕ
first_letter None = 0
first_letter (Some d) = get_or (text_in d) 0 0

abbrev data_or : Data → Option Data → Data
data_or d None = d
data_or d (Some e) = e

abbrev line_or : Option (List ℕ) → List ℕ
line_or None = []
line_or (Some line) = line

pub feed_ends : (line : List ℕ) → AllByRecursion (λ b. b ≢ 10) line → lines_of (line ++ 10 ∷ []) ≡ line ∷ []
feed_ends [] none = refl
feed_ends (b ∷ bs) none = rw (ne_eqb b 10 none.0) (ap (onto_first b) (feed_ends bs none.1))

-- a report is read as the value that it was made of
reply_is : (e d : Data) → IsReport e → IsReply (report_text e) 0 d → e ≡ d
reply_is e d report (line, at, reads) =
    let text : compact_text e ≡ line = ap line_or (sym (ap (λ (ls : List (List ℕ)). slice_get ls 0) (feed_ends (compact_text e) (text_other e))) ∙ at) in
    ap (data_or e) (sym (report_read e report) ∙ ap read text ∙ reads)

module _ (rules : ProofRules) (line : List ℕ) (n : ℕ) (small : n < 2 ^ 64) where
  refused_lacks : (code : List ℕ) → BoundsLackRows rules line (report_text (refused_data code n))
  refused_lacks code d reply bounded =
      let e : HasStatus (refused_data code n) (codes "bounded") = subst (λ (f : Data). HasStatus f (codes "bounded")) (sym (reply_is (refused_data code n) d (of_line code n small) reply)) bounded in
      let z = ap first_letter e in
      absurd (omega arith)

  ending_lacks : (id : List ℕ) (b : BoardModel) (ending : Ending) → Names rules.grid line id b → MayReport rules b (Some ending) → HasSmallNumbers ending → IsUncertified ending → BoundsLackRows rules line (report_text (outcome_data id ending))
  ending_lacks id b (Optimal cost plan) names may fits alone d reply bounded = absurd alone
  ending_lacks id b (Unsolvable why) names may fits alone d reply bounded =
      let e : HasStatus (outcome_data id (Unsolvable why)) (codes "bounded") = subst (λ (f : Data). HasStatus f (codes "bounded")) (sym (reply_is (outcome_data id (Unsolvable why)) d (of_outcome id (Unsolvable why) fits) reply)) bounded in
      let z = ap first_letter e in
      absurd (omega arith)
  ending_lacks id b (Bounded bound best cause) names (given, allowed, says, none) fits (no_plan, (refused, is)) d reply bounded =
      let same = reply_is (outcome_data id (Bounded bound best cause)) d (of_outcome id (Bounded bound best cause) fits) reply in
      let alone : given ≡ outcome.Bounded bound None (Memory (Refused refused)) None = lone_bound given bound best cause says none ∙ (λ i. outcome.Bounded bound (no_plan i) (is i) None) in
      (id, b, bound, refused, names, subst (λ (f : Data). SaysNumber f (codes "bound") bound) same refl, subst (λ (o : Outcome). rules.allows b (Some o)) alone allowed)

  entry_lacks : (answer : Answer) → line_kind_of line ≡ Within → AnswersEntry (report_rules rules) (without_return line) answer → NeedsReport answer → BoundsLackRows rules line (answer_text n answer)
  entry_lacks answer within (by_fault fault first) needs = refused_lacks (entry_code fault)
  entry_lacks answer within (by_outcome id b ending entry may fits) needs = ending_lacks id b ending (within, entry) may fits needs
  entry_lacks answer within (by_want id b entry lacking) needs = refused_lacks (codes "V3")

  line_lacks : (answer : Answer) → ¬ IsPassedOver line → AnswersLine (report_rules rules) line answer → NeedsReport answer → BoundsLackRows rules line (answer_text n answer)
  line_lacks answer here is needs = by_kind (line_kind_of line) refl
    where
      by_kind : (kind : LineKind) → line_kind_of line ≡ kind → BoundsLackRows rules line (answer_text n answer)
      by_kind PassedOver over = absurd (here over)
      by_kind TooLong long =
          let told = subst (λ (kind : LineKind). AnswersKind (report_rules rules) kind (without_return line) answer) long is in
          subst (λ (a : Answer). BoundsLackRows rules line (answer_text n a)) (sym told) (refused_lacks (codes "E12"))
      by_kind Within within = entry_lacks answer within (subst (λ (kind : LineKind). AnswersKind (report_rules rules) kind (without_return line) answer) within is) needs

-- ---- what was written

module _ (split : PartitionModel) (rules : ProofRules) (truthful : ProvesTruly rules) (source : Change SourceState) (sink : Change SinkState) where
  none_answered : PassesAll source → IsUntouched sink → WritesAnswer split rules source sink
  none_answered (lines, all, over) same = record {
    lines = lines;
    output = [];
    first = first_all source.before.left lines all;
    put = untouched sink same;
    answer = by_none (none_ask 1 lines (recursion_from_All IsPassedOver lines over)) refl;
    silent = λ none. all;
  }

  first_answered : (output : Output) (first : HasFirst source) → CertifiesLine split rules (first_line source first) (without_return first.line) output → AnswersFirst split rules (first.passed ++ first.line ∷ []) output.text
  first_answered output first (inl (within, (c, (id, b, given, entry, allowed, claims, rows, of), written))) =
      let over = recursion_from_All IsPassedOver first.passed first.finds.before in
      by_certificate (1 + length first.passed) first.line id b c (one_asks 1 first.passed first.line over first.finds.here) (within, entry)
      (subst (CertifiesTruly split (rules.task b) c) (sym (ap (λ (o : Output). o.text) written)) (certifies_truly split (rules.task b) c of))
  first_answered output first (inr (answer, is, needs, written)) =
      let over = recursion_from_All IsPassedOver first.passed first.finds.before in
      by_report (1 + length first.passed) first.line (one_asks 1 first.passed first.line over first.finds.here)
      (subst (TellsTheTruth (report_rules rules) (first.passed ++ first.line ∷ [])) (sym (ap (λ (o : Output). o.text) written)) (last_true (report_rules rules) (reports_truthful rules truthful) first.passed first.line answer first.finds.few over is))
      (subst (BoundsLackRows rules first.line) (sym (ap (λ (o : Output). o.text) written)) (line_lacks rules first.line (length first.passed + 1) first.finds.few answer first.finds.here is needs))

  -- what answers a line that asks is not nothing
  spoken : (lines : List (List ℕ)) (n : ℕ) (line output : List ℕ) → questions 1 lines ≡ (n, line) ∷ [] → AnswersFirst split rules lines output → output ≡ [] → ⊥
  spoken lines n line output asked answers none =
      let one = ap (λ (asking : List (ℕ × List ℕ)). length asking) asked in
      let unasked = ap (λ (asking : List (ℕ × List ℕ)). length asking) (silence rules split lines (subst (AnswersFirst split rules lines) none answers)) in
      absurd (omega (arith, one, unasked))

  pub answer_true : (result : Result ℕ CertifyFault) → Replies split rules source sink result → IsTrueAnswer split rules source sink result
  answer_true (Ok status) (some, (readable, inl (all, same, told))) = none_answered all same
  answer_true (Ok status) (some, (readable, inr (output, (first, replies), put, told))) = record {
    lines = first.passed ++ first.line ∷ [];
    output = output.text;
    first = AreFirst-read source.before.left source.after.left (first.passed ++ first.line ∷ []) first.finds.read;
    put = put.0;
    answer = first_answered output first replies;
    silent = λ none. absurd (spoken (first.passed ++ first.line ∷ []) (1 + length first.passed) first.line output.text (one_asks 1 first.passed first.line (recursion_from_All IsPassedOver first.passed first.finds.before) first.finds.here) (first_answered output first replies) none);
  }
  answer_true (Err fault) replies = tt

pub first_lines : (rules : ProofRules) → FirstLinesAreAnswered rules
first_lines rules split source sink status input known empty answer =
    let first : (more : List (List ℕ)) × (lines_of input ≡ answer.lines ++ more) = subst (λ (left : Option (List ℕ)). AreFirst left answer.lines) known answer.first in
    (answer.lines, first.0, answer.output, first.1, held sink.before.contents sink.after.contents answer.output empty answer.put, answer.answer)

pub silent_runs : (rules : ProofRules) → SilentRunsAreUnasked rules
silent_runs rules split source sink status input known empty left answer =
    let holds = held sink.before.contents sink.after.contents answer.output empty answer.put in
    let none : answer.output ≡ [] = ap line_or (sym holds ∙ left) in
    let all : lines_of input ≡ answer.lines = subst (λ (read : Option (List ℕ)). AreAll read answer.lines) known (answer.silent none) in
    subst (λ (lines : List (List ℕ)). questions 1 lines ≡ []) (sym all) (silence rules split answer.lines (subst (AnswersFirst split rules answer.lines) none answer.answer))

-- ---- a certificate in, a verdict out

-- what is said of a claim that is proved
said_of : (c : CertificateModel) (plan : Option (List Move)) → IfSome plan (λ p. Leads c.costs c.start p c.goal c.cost) → NothingBelow c.costs c.start c.goal c.cost → (IsSome plan → IsLeast c.costs c.start c.goal c.cost) → SaysOf c plan (claim_data plan c.cost)
said_of c (Some plan) leads below least = (refl, leads, least refl)
said_of c None leads below least = (refl, below)

pub accepted_status : (plan : Option (List Move)) (cost : ℕ) → HasStatus (claim_data plan cost) (codes "accepted")
accepted_status (Some plan) cost = refl
accepted_status None bound = refl

not_refused : (plan : Option (List Move)) (cost : ℕ) → HasStatus (claim_data plan cost) (codes "refused") → ⊥
not_refused (Some plan) cost e = let z = ap first_letter e in absurd (omega arith)
not_refused None bound e = let z = ap first_letter e in absurd (omega arith)

accepted_true : (input : List ℕ) (c : CertificateModel) → Spells c input → ItsPlanLeads c → NothingBelow c.costs c.start c.goal c.cost → (IsSome c.plan → IsLeast c.costs c.start c.goal c.cost) → IsTrueVerdict input (claim_data c.plan c.cost)
accepted_true input c spells leads below least = record {
  status = inl (accepted_status c.plan c.cost);
  accepted = λ e. (c, spelled_read input c spells, said_of c c.plan leads below least);
  refused = λ e. absurd (not_refused c.plan c.cost e);
}

refused_true : (input code : List ℕ) → IsCertificateRefusedBy input code → IsTrueVerdict input (refused_certificate_data code)
refused_true input code by = record {
  status = inr refl;
  accepted = λ e. let z = ap first_letter e in absurd (omega arith);
  refused = λ e. (code, refl, by);
}

pub claim_is_report : (plan : Option (List Move)) (cost : ℕ) → IsSmall cost → IsReport (claim_data plan cost)
claim_is_report (Some plan) cost small = of_cost cost small
claim_is_report None bound small = of_bound bound small

pub greatest_small : (plan : Option (List Move)) (cost : ℕ) → cost ≤ greatest plan → IsSmall cost
greatest_small (Some plan) cost low = omega (arith, low)
greatest_small None bound low = omega (arith, low)

accepted_written : (sink : Change SinkState) (input : List ℕ) (c : CertificateModel) → Puts sink (report_text (claim_data c.plan c.cost)) → Spells c input → ItsPlanLeads c → NothingBelow c.costs c.start c.goal c.cost → (IsSome c.plan → IsLeast c.costs c.start c.goal c.cost) → WritesVerdict sink input
accepted_written sink input c put spells leads below least =
    let d = claim_data c.plan c.cost in
    record { line = compact_text d; value = d; put = put; json = report_read d (claim_is_report c.plan c.cost (greatest_small c.plan c.cost spells.0.cost)); truth = accepted_true input c spells leads below least }

refused_written : (sink : Change SinkState) (input code : List ℕ) → Puts sink (report_text (refused_certificate_data code)) → IsCertificateRefusedBy input code → WritesVerdict sink input
refused_written sink input code put by =
    record { line = compact_text (refused_certificate_data code); value = refused_certificate_data code; put = put; json = report_read (refused_certificate_data code) (of_certificate code); truth = refused_true input code by }

module _ (sink : Change SinkState) (input : List ℕ) (output : Output) (put : Puts sink output.text) where
  -- the output is this one
  put_text : (text : List ℕ) (status : ℕ) → output ≡ record { text = text; status = status } → Puts sink text
  put_text text status is = subst (Puts sink) (ap (λ (o : Output). o.text) is) put

  judged : (c : CertificateModel) → Spells c input → IsJudgement c output → WritesVerdict sink input
  judged c spells (tables, built, inl accepted) = accepted_written sink input c (put_text (report_text (claim_data c.plan c.cost)) 0 accepted.written) spells accepted.proved.plan accepted.below accepted.least
  judged c spells (tables, built, inr (refusal, first, refused)) =
      refused_written sink input (refusal_code refusal) (put_text (report_text (refused_certificate_data (refusal_code refusal))) 5 refused) (inr (c, tables, refusal, spelled_read input c spells, built, first, refl))

  pub verdict_written : (read : Result CertificateModel ReadFault) → TellsOfInput read input → IsVerdictOutput read output → WritesVerdict sink input
  verdict_written (Ok c) tells verdict = judged c tells verdict
  verdict_written (Err (Format fault)) tells verdict = refused_written sink input (format_code fault) (put_text (report_text (refused_certificate_data (format_code fault))) 5 verdict) (inl (fault, tells, refl))
  verdict_written (Err Failed) tells verdict = absurd verdict
  verdict_written (Err (NoMemory refused)) tells verdict = absurd verdict

known : (input : Option (List ℕ)) (sink : Change SinkState) (output : Output) (read : Result CertificateModel ReadFault) → IfSome input (TellsOfInput read) → Puts sink output.text → IsVerdictOutput read output → IfSome input (WritesVerdict sink)
known None sink output read tells put verdict = tt
known (Some input) sink output read tells put verdict = verdict_written sink input output put read tells verdict

pub check_true : (source : Change SourceState) (sink : Change SinkState) (result : Result ℕ CheckFault) → Checks source sink result → IsTrueCheck source sink result
check_true source sink (Ok status) (read, reads, (output, verdict, put, told)) = known source.before.left sink output read reads.tells put.0 verdict
check_true source sink (Err fault) checks = tt

-- ---- a certificate in, the same in version 2 out

abbrev answered_by : ℕ → Result ℕ UpgradeFault
answered_by status = Ok status

status_in : Result ℕ UpgradeFault → ℕ
status_in (Ok status) = status
status_in (Err fault) = 0

-- an answer has one status
one_status : (status n : ℕ) → answered_by status ≡ answered_by n → status ≡ n
unfolding status_in
one_status status n is = ap status_in is

-- and is no fault
no_status : (status : ℕ) (fault : UpgradeFault) → answered_by status ≡ Err fault → ⊥
no_status status fault is = absurd (cc)

none_put : (sink : Change SinkState) → IsUntouched sink → PutsNone sink
none_put sink same = subst (λ (after : SinkState). PutsNone (record { before = sink.before; after = after })) (sym same) (Keeps-refl sink.before.contents)

module _ (sink : Change SinkState) (status : ℕ) where
  upgrade_written : (input : List ℕ) (read : Result CertificateModel ReadFault) → TellsOfInput read input → EndsUpgrade read sink (Ok status) → WritesUpgrade sink status input
  upgrade_written input (Ok c) tells ends = inl (c, spelled_read input c tells, ends.0.0, ends.1)
  upgrade_written input (Err (Format fault)) tells ends = inr (fault, tells, none_put sink ends.0, one_status status 5 ends.1)
  upgrade_written input (Err Failed) tells ends = absurd (no_status status CertificateRead ends.1)
  upgrade_written input (Err (NoMemory refused)) tells ends = absurd (no_status status (CertificateMemory refused) ends.1)

  upgrade_known : (input : Option (List ℕ)) (read : Result CertificateModel ReadFault) → IfSome input (TellsOfInput read) → EndsUpgrade read sink (Ok status) → IfSome input (WritesUpgrade sink status)
  upgrade_known None read tells ends = tt
  upgrade_known (Some input) read tells ends = upgrade_written input read tells ends

pub upgrade_true : (source : Change SourceState) (sink : Change SinkState) (result : Result ℕ UpgradeFault) → Upgrades source sink result → IsTrueUpgrade source sink result
upgrade_true source sink (Ok status) (read, reads, ends) = upgrade_known sink status source.before.left read reads.tells ends
upgrade_true source sink (Err fault) upgrades = tt

-- ---- What faults leave.

pub left : (rules : ProofRules) → OtherFaultsLeaveTheSink rules
left rules split source sink certify.Read other others replies = replies.1.1
left rules split source sink certify.Write other others replies = absurd (other refl)
left rules split source sink (certify.Memory lacking) other others replies = replies.1.2
left rules split source sink (certify.GroupsMemory wanting) other others replies = replies.1.2
left rules split source sink certify.CertificateWrite other others replies = absurd (others refl)

pub no_verdict : OtherFaultsWriteNoVerdict
no_verdict source sink check.CertificateRead other checks = checks.2.1
no_verdict source sink (check.CertificateMemory refused) other checks = checks.2.1
no_verdict source sink check.Write other checks = absurd (other refl)
no_verdict source sink (check.Memory lacking) other checks = checks.2.1

pub certified : LeastPlansAreCertified
certified id cost plan none = none

pub bounds_certified : BoundsAreCertified
bounds_certified id bound best cause alone = alone

-- a line to be read whose board is reported as bounded
entry_bounded : (rules : ProofRules) (line id : List ℕ) (bound : ℕ) (best : Option (ℕ × Vec Move Global)) (cause : Cause) → line_kind_of line ≡ Within → AnswersEntry (report_rules rules) (without_return line) (answered id (Bounded bound best cause)) → (b : BoardModel) × Names rules.grid line id b × rules.allows b (Some (outcome.Bounded bound best cause None))
entry_bounded rules line id bound best cause within (by_outcome name b ending entry (given, allowed, says, none) small) =
    (b, (within, entry), subst (λ (o : Outcome). rules.allows b (Some o)) (lone_bound given bound best cause says none) allowed)

-- only such a line is answered by an ending
entry_answered : (rules : ProofRules) (line id : List ℕ) (ending : Ending) → AnswersLine (report_rules rules) line (answered id ending) → (line_kind_of line ≡ Within) × AnswersEntry (report_rules rules) (without_return line) (answered id ending)
entry_answered rules line id ending is = by_kind (line_kind_of line) refl
  where
    answers_as : (kind : LineKind) → line_kind_of line ≡ kind → AnswersKind (report_rules rules) kind (without_return line) (answered id ending)
    answers_as kind e = subst (λ (k : LineKind). AnswersKind (report_rules rules) k (without_return line) (answered id ending)) e is

    by_kind : (kind : LineKind) → line_kind_of line ≡ kind → (line_kind_of line ≡ Within) × AnswersEntry (report_rules rules) (without_return line) (answered id ending)
    by_kind PassedOver over = let told = answers_as PassedOver over in absurd (cc)
    by_kind TooLong long = let told = answers_as TooLong long in absurd (cc)
    by_kind Within within = (within, answers_as Within within)

pub reported_lack : (rules : ProofRules) → ReportedBoundsLackRows rules
reported_lack rules line id bound best cause is =
    let answers = entry_answered rules line id (Bounded bound best cause) is in
    entry_bounded rules line id bound best cause answers.0 answers.1

-- no ending is reported of a board whose outcomes all have rows
none_reported : (rules : ProofRules) (line id name : List ℕ) (b : BoardModel) (ending : Ending) → Names rules.grid line id b → ((given : Outcome) → rules.allows b (Some given) → IsSome (rows_of given)) → ¬ AnswersEntry (report_rules rules) (without_return line) (answered name ending)
none_reported rules line id name b ending names all (by_outcome other b' told entry (given, allowed, says, none) small) =
    let same = same_name rules.grid line id other b b' names (names.0, entry) in
    let has = subst (λ (rows : Option (List (BoardModel × ℕ))). IsSome rows) none (all given (subst (λ (p : BoardModel). rules.allows p (Some given)) same.1 allowed)) in
    absurd (cc)

pub all_certified : (rules : ProofRules) → OutcomesWithRowsAreCertified rules
all_certified rules line id name b ending names all is =
    none_reported rules line id name b ending names all (entry_answered rules line name ending is).1

pub claims_of_endings : ClaimsAreOfEndings
claims_of_endings = ((λ c cost plan claims. claims), (λ c why claims. claims), (λ c bound best cause claims. claims))

pub statuses_tell : StatusesTellClaims
statuses_tell c = by_plan c.plan refl
  where
    by_plan : (plan : Option (List Move)) → c.plan ≡ plan → ((claim_status c.plan ≡ 0) ↔ IsSome c.plan) × ((claim_status c.plan ≡ 1) ↔ (c.plan ≡ None))
    by_plan (Some plan) is = subst (λ (o : Option (List Move)). ((claim_status o ≡ 0) ↔ IsSome o) × ((claim_status o ≡ 1) ↔ (o ≡ None))) (sym is) (((λ e. refl), (λ e. refl)), ((λ e. absurd (omega (arith, e))), (λ e. absurd (cc))))
    by_plan None is = subst (λ (o : Option (List Move)). ((claim_status o ≡ 0) ↔ IsSome o) × ((claim_status o ≡ 1) ↔ (o ≡ None))) (sym is) (((λ e. absurd (omega (arith, e))), (λ e. absurd (cc))), ((λ e. refl), (λ e. refl)))

pub on_what_was_read : VerdictsAreOnWhatWasRead
on_what_was_read (Ok c) output verdict = inl (c, refl)
on_what_was_read (Err (Format fault)) output verdict = inr (fault, refl)
on_what_was_read (Err Failed) output verdict = absurd verdict
on_what_was_read (Err (NoMemory refused)) output verdict = absurd verdict

pub for_verdicts : WantsAreForVerdicts
for_verdicts (Ok c) sink lacking ends = inl (c, refl)
for_verdicts (Err (Format fault)) sink lacking ends = inr (fault, refl)
for_verdicts (Err Failed) sink lacking ends = absurd ends.0
for_verdicts (Err (NoMemory refused)) sink lacking ends = absurd ends.0

-- what is certified is what an outcome says
pub of_outcomes : (rules : ProofRules) → CertificatesAreOfOutcomes rules
of_outcomes rules split bytes c (id, b, given, entry, allowed, claims, rows, of) = (id, b, given, entry, allowed, claims, rows)

pub wants_of_rules : (rules : ProofRules) → WantsAreOfRules rules
wants_of_rules rules b may = may

pub groups_wanted : (rules : ProofRules) → GroupsAreWantedForRows rules
groups_wanted rules line bytes wanting lacks = lacks.1

pub bounds_lack : (rules : ProofRules) → SaidBoundsLackRows rules
bounds_lack rules line output d lacks reply bounded = lacks d reply bounded

-- ---- what a true verdict says

abbrev said_number : Option Data → ℕ
said_number o = unwrap_or (option_and_then as_u64 (option_and_then as_number o)) 0

abbrev said_text : Option Data → List ℕ
said_text o = unwrap_or (option_and_then as_str o) []

-- what is said of a cost is of a plan, since there is no bound
cost_said : (c : CertificateModel) (cost : ℕ) (claimed : Option (List Move)) → SaysOf c claimed (accepted_data cost) → (plan : List Move) × (claimed ≡ Some plan) × Leads c.costs c.start plan c.goal cost × IsLeast c.costs c.start c.goal cost
cost_said c cost (Some plan) says =
    let same : cost ≡ c.cost = ap said_number says.0 in
    let both = subst (λ (n : ℕ). Leads c.costs c.start plan c.goal n × IsLeast c.costs c.start c.goal n) (sym same) (says.1, says.2) in
    (plan, refl, both.0, both.1)
cost_said c cost None says = let none : ◌≡◌ {A = Option Data} None (Some (number (unsigned c.cost))) = says.0 in absurd (cc)

bound_said : (c : CertificateModel) (bound : ℕ) (claimed : Option (List Move)) → SaysOf c claimed (accepted_bound_data bound) → (claimed ≡ None) × NothingBelow c.costs c.start c.goal bound
bound_said c bound (Some plan) says = let none : ◌≡◌ {A = Option Data} None (Some (number (unsigned c.cost))) = says.0 in absurd (cc)
bound_said c bound None says =
    let same : bound ≡ c.cost = ap said_number says.0 in
    (refl, subst (NothingBelow c.costs c.start c.goal) (sym same) says.1)

pub accepted_least : AcceptedCostsAreLeast
accepted_least input cost verdict =
    let claim = verdict.accepted refl in
    let said = cost_said claim.0 cost claim.0.plan claim.2 in
    (claim.0, said.0, claim.1, said.1, said.2, said.3)

pub accepted_below : AcceptedBoundsAreBelow
accepted_below input bound verdict =
    let claim = verdict.accepted refl in
    let said = bound_said claim.0 bound claim.0.plan claim.2 in
    (claim.0, claim.1, said.0, said.1)

pub refused_by : RefusedInputsHaveTheFault
refused_by input code verdict =
    let said = verdict.refused refl in
    let same : code ≡ said.0 = ap said_text said.1 in
    subst (IsCertificateRefusedBy input) (sym same) said.2

pub either_said : VerdictsAcceptOrRefuse
either_said input d verdict = by_status verdict.status
  where
    by_status : HasStatus d (codes "accepted") ⊎ HasStatus d (codes "refused") → (HasStatus d (codes "accepted") × SaysClaim input d) ⊎ (HasStatus d (codes "refused") × ((code : List ℕ) × SaysText d (codes "fault") code × IsCertificateRefusedBy input code))
    by_status (inl accepted) = inl (accepted, verdict.accepted accepted)
    by_status (inr refused) = inr (refused, verdict.refused refused)

-- ---- what a certificate says of its task

pub certified_least : CertifiedPlansAreLeast
certified_least split task c bytes plan certifies is = subst (ClaimsTruly task c.cost) is certifies.claim

pub certified_below : CertifiedBoundsAreBelow
certified_below split task c bytes certifies is = subst (ClaimsTruly task c.cost) is certifies.claim

pub certified_task : CertificatesAreOfTasks
certified_task split task c bytes certifies = (certifies.read, certifies.version, certifies.groups, certifies.start, certifies.goal, certifies.costs)

pub certified_proved : CertificatesAreProved
certified_proved split task c bytes tables certifies built = certifies.proved tables built

-- ---- what is wrong with an input

abbrev found : CertificateModel → Reading CertificateModel
found c = Ok (c, [])

-- bytes that are a certificate have no fault
pub no_fault : (input : List ℕ) (c : CertificateModel) (fault : FormatFault) → certificate input ≡ found c → IsFirstFormatFault input fault → ⊥
no_fault input c fault read first = let both = sym read ∙ first.1 in absurd (cc)

-- and are no other certificate
pub one_certificate : (input : List ℕ) (c d : CertificateModel) → certificate input ≡ found c → certificate input ≡ found d → d ≡ c
one_certificate input c d read other = ap (read_or c) (sym other ∙ read)
  where
    read_or : CertificateModel → Reading CertificateModel → CertificateModel
    read_or none (Ok p) = p.0
    read_or none (Err f) = none

pub faulty_code : FaultyInputsHaveTheirCode
faulty_code input code fault first (inl (other, found, is)) = is ∙ ap format_code (one_first_fault input fault other first found)
faulty_code input code fault first (inr (c, tables, refusal, read, built, cause, is)) = absurd (no_fault input c fault read first)

pub refused_cause : RefusedCertificatesHaveACause
refused_cause input code c read (inl (fault, first, is)) = absurd (no_fault input c fault read first)
refused_cause input code c read (inr (d, tables, refusal, other, built, cause, is)) =
    let same : d ≡ c = one_certificate input c d read other in
    record { tables = tables; built = subst (λ (e : CertificateModel). AreBuiltFor e tables) same built; cause = record { refusal = refusal; first = subst (λ (e : CertificateModel). IsFirstRefusal e tables refusal) same cause; told = is } }

pub mistaken_code : MistakenInputsHaveTheirCode
mistaken_code input code fault first (inl (other, found, is)) = is ∙ ap format_code (one_first_fault input fault other first found)
mistaken_code input code fault first (inr (c, refusal, read, cause, is)) = absurd (no_fault input c fault read first)

pub mistaken_cause : MistakenCertificatesHaveACause
mistaken_cause input code c tables read (inl (fault, first, is)) = absurd (no_fault input c fault read first)
mistaken_cause input code c tables read (inr (d, refusal, other, cause, is)) =
    let same : d ≡ c = one_certificate input c d read other in
    record { refusal = refusal; first = subst (λ (e : CertificateModel). IsFirstRefusal e tables refusal) same (cause tables); told = is }

-- ---- what a sink holds in the end

kept_empty : (before after : Option (List ℕ)) → before ≡ Some [] → Keeps before after → after ≡ Some []
kept_empty before after empty keeps = of_after after (subst (λ (contents : Option (List ℕ)). Keeps contents after) empty keeps)
  where
    of_after : (after : Option (List ℕ)) → Keeps (Some []) after → after ≡ Some []
    of_after None none = absurd none
    of_after (Some now) is = ap (λ (l : List ℕ). Some l) is

pub verdicts_written : VerdictsAreWritten
verdicts_written source sink status input known empty checked =
    let verdict : WritesVerdict sink input = subst (λ (left : Option (List ℕ)). IfSome left (WritesVerdict sink)) known checked in
    (verdict.line, verdict.value, held sink.before.contents sink.after.contents (verdict.line ++ 10 ∷ []) empty verdict.put, verdict.json, verdict.truth)

pub upgrades_written : UpgradesAreWritten
upgrades_written source sink status input known empty ended = by_end (subst (λ (left : Option (List ℕ)). IfSome left (WritesUpgrade sink status)) known ended)
  where
    by_end : WritesUpgrade sink status input → ((c : CertificateModel) × (certificate input ≡ Ok (c, [])) × (sink.after.contents ≡ Some (spelling (upgraded c))) × (status ≡ 0)) ⊎ ((fault : FormatFault) × IsFirstFormatFault input fault × (sink.after.contents ≡ Some []) × (status ≡ 5))
    by_end (inl (c, read, put, is)) = inl (c, read, held sink.before.contents sink.after.contents (spelling (upgraded c)) empty put, is)
    by_end (inr (fault, first, none, is)) = inr (fault, first, kept_empty sink.before.contents sink.after.contents empty none, is)

pub drawings_written : DrawingsAreWritten
drawings_written style source sink status input known empty drawn = by_end (subst (λ (left : Option (List ℕ)). IfSome left (WritesShow style sink status)) known drawn)
  where
    by_end : WritesShow style sink status input → ((c : CertificateModel) × (drawing : List ℕ) × (certificate input ≡ Ok (c, [])) × ItsPlanLeads c × IsDrawing style c drawing × (sink.after.contents ≡ Some drawing) × (status ≡ 0)) ⊎ ((code : List ℕ) × IsMistaken input code × (sink.after.contents ≡ Some (report_text (refused_certificate_data code))) × (status ≡ 5))
    by_end (inl (c, drawing, read, leads, draws, put, is)) = inl (c, drawing, read, leads, draws, held sink.before.contents sink.after.contents drawing empty put, is)
    by_end (inr (code, mistaken, put, is)) = inr (code, mistaken, held sink.before.contents sink.after.contents (report_text (refused_certificate_data code)) empty put, is)

-- ---- what answers the line that asks

module _ (rules : ProofRules) where
  pub unasked : UnaskedLinesAreSilent rules
  unasked split lines output none (by_none also empty) = empty
  unasked split lines output none (by_certificate n line id b c asked names certifies) =
      let one = ap (λ (asking : List (ℕ × List ℕ)). length asking) (sym none ∙ asked) in
      absurd (omega (arith, one))
  unasked split lines output none (by_report n line asked tells lacks) =
      let one = ap (λ (asking : List (ℕ × List ℕ)). length asking) (sym none ∙ asked) in
      absurd (omega (arith, one))

  pub certificates_answer : CertificatesAnswerTheQuestion rules
  certificates_answer split lines output n line no_reply asked (by_none unasked empty) =
      let one = ap (λ (asking : List (ℕ × List ℕ)). length asking) (sym unasked ∙ asked) in
      absurd (omega (arith, one))
  certificates_answer split lines output n line no_reply asked (by_certificate m other id b c also names certifies) =
      let same : other ≡ line = ap (λ (asking : List (ℕ × List ℕ)). (get_or asking 0 (0, [])).1) (sym also ∙ asked) in
      (id, b, c, subst (λ (l : List ℕ). Names rules.grid l id b) same names, certifies)
  certificates_answer split lines output n line no_reply asked (by_report m other also tells lacks) =
      let many = tells.one_each in
      let one = ap (λ (asking : List (ℕ × List ℕ)). length asking) asked in
      let reply = tells.json 0 (omega (arith, many, one)) in
      absurd (no_reply reply.0 reply.1)

  pub reports_answer : ReportsAnswerTheQuestion rules
  reports_answer split lines output n line none asked (by_none unasked empty) =
      let one = ap (λ (asking : List (ℕ × List ℕ)). length asking) (sym unasked ∙ asked) in
      absurd (omega (arith, one))
  reports_answer split lines output n line none asked (by_certificate m other id b c also names certifies) = absurd (none c certifies.read)
  reports_answer split lines output n line none asked (by_report m other also tells lacks) =
      let same : other ≡ line = ap (λ (asking : List (ℕ × List ℕ)). (get_or asking 0 (0, [])).1) (sym also ∙ asked) in
      (tells, subst (λ (l : List ℕ). BoundsLackRows rules l output) same lacks)
