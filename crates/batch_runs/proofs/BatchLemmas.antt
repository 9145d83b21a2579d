-- The reports of lines, of a beginning, and of whole runs.
use Rattle.std.proofs.Common.{◌≡◌, ◌≢◌, codes, ◌⊎◌, ℕ, suc, ◌+◌, ◌^◌, ◌<◌, ◌≤◌, List, [], ◌∷◌, ◌++◌, Option, None, Some, Result, Ok, Err, length, refl, sym, ap, ◌∙◌, subst, inl, inr, arith, append_assoc, append-nil, length-append, zero, Bool, true, false, cond, ◌==◌, slice_get}
use Rattle.std.proofs.KnownBytes.{Appends-nil, Appends-trans, Appends-kept, Consumes-nil, Consumes-trans}
use Rattle.std.proofs.lemmas.Bool.{false≢true}
use Rattle.std.specs.Io.KnownBytes.{Consumes, Appends}
use Rattle.outcomes.specs.declared.outcome.Ending.TheVariants.{Optimal, Unsolvable, Bounded}
use Rattle.byte_streams.specs.Streams.{SourceState, SinkState, Change, from_to}
use Rattle.byte_streams.specs.Sink.{Puts, PutsBeginning, WritesAll, Writes, Flushes}
use Rattle.byte_streams.specs.declared.sink.WriteFailed.{WriteFailed}
use Rattle.byte_streams.proofs.SinkLemmas.{PutsBeginning-after}
use Rattle.batch_lines.specs.Lines.{lines_of, without_return, onto_first}
use Rattle.batch_lines.specs.Readings.{TakesKnown, TakesLine, CountsKnown, IsJudged}
use Rattle.batch_lines.specs.declared.lines.LineKind.{LineKind}
use Rattle.batch_lines.specs.declared.lines.LineKind.TheVariants.{PassedOver, Within, TooLong}
use Rattle.batch_lines.specs.declared.lines.TheConstants.{INPUT_LIMIT}
use Rattle.batch_runs.specs.Batches.{Rules, Answer, AnswersEntry, AnswersKind, AnswersLine, AnswersLines, answer_text, answers_text, with_answer, with_answers, no_lines, AreRead, AreFirst, TakesSome, ReportsFirst, ReportsSome, IsTruthful, ReportsLines, status_of_counts, AreAll, IsTooLong}
use Rattle.batch_runs.specs.Batches.Answer.{passed_over, refused, answered}
use Rattle.batch_runs.specs.Stats.{HandsOver, HandsAllOver, HandsFigures}
use Rattle.batch_runs.specs.declared.batch.Summary.{Summary}
use Rattle.batch_runs.specs.declared.stats.Solved.{Solved}
use Rattle.board.specs.Boards.{BoardModel}
use Rattle.batch_runs.specs.Headline.{IsTrueRun, TellsTheTruth, BatchOutputsTellTheTruth, BeginningsTellTheTruth}
use Rattle.batch_runs.specs.declared.faults.LinesFault.{LinesFault}
use Rattle.batch_runs.specs.declared.faults.LinesFault.TheVariants.{Read, Write, Memory}
use Rattle.batch_runs.specs.Laws.{BatchLinesAreLostToFailures, OutputsAreAnswers, FailedWritesAreTold, WriteFaultsAreFailures, ReadFaultsAreFailures, FiguresBelongToReports, CountsAreOfReports, status_in, FoldedSetupsAskAlike}
use Rattle.batch_runs.proofs.TruthLemmas.{truth, settled, report_first, kind_over, kind_asks, no_refusal, text_or}
use Rattle.std.specs.Prelude.{not, count_by, unwrap_or, option_and_then}
use Rattle.std.specs.Str.{bytes_eq}
use Rattle.std.proofs.lemmas.List.Sums.{sum_by-cons}
use Rattle.lower_bound.specs.Bounds.{sum_of}
use Rattle.lower_bound.specs.Tables.{BoundModel, parts_of}
use Rattle.lower_bound.proofs.PartLemmas.{folded_no_more}
use Rattle.batch_runs.specs.Setups.{SetupModel}
use Rattle.serde_json.specs.Find.{as_str}
use Rattle.serde_json.specs.Data.{Data}
use Rattle.serde_json.specs.Read.{read}
use Rattle.serde_json.specs.Written.{compact_text}
use Rattle.batch_runs.specs.Reports.{outcome_data, refused_data}
use Rattle.batch_runs.specs.ReportReadings.{IsReport, IsSmall, HasSmallNumbers, Reads, HasStatus}
use Rattle.batch_runs.specs.ReportReadings.IsReport.{of_outcome, of_line}
use Rattle.batch_runs.proofs.ReadLemmas.{report_read, data_or, text_at, own_id}
use Rattle.serde_json.specs.Find.{get}
use Rattle.batch_lines.specs.Lines.{is_passed_over, line_kind_of}
use Rattle.batch_lines.specs.Words.{IsEntry}
use Rattle.batch_runs.specs.Meanings.{asks, questions, IsReply}
use Rattle.outcomes.specs.declared.outcome.Ending.{Ending}
use Rattle.batch_runs.specs.Batches.AnswersEntry.{by_fault, by_outcome, by_want}

-- ---- the reports of lines, one line after the other: one answer more

AnswersLines-more : (rules : Rules) (lines : List (List ℕ)) (answers : List Answer) (line : List ℕ) (answer : Answer) → AnswersLines rules lines answers → AnswersLine rules line answer → AnswersLines rules (lines ++ line ∷ []) (answers ++ answer ∷ [])
AnswersLines-more rules [] [] line answer before now = (now, tt)
AnswersLines-more rules [] (other ∷ answers) line answer before now = absurd before
AnswersLines-more rules (next ∷ lines) [] line answer before now = absurd before
AnswersLines-more rules (next ∷ lines) (first ∷ answers) line answer before now = (before.0, AnswersLines-more rules lines answers line answer before.1 now)

-- as many answers as lines
AnswersLines-length : (rules : Rules) (lines : List (List ℕ)) (answers : List Answer) → AnswersLines rules lines answers → length answers ≡ length lines
AnswersLines-length rules [] [] before = refl
AnswersLines-length rules [] (other ∷ answers) before = absurd before
AnswersLines-length rules (next ∷ lines) [] before = absurd before
AnswersLines-length rules (next ∷ lines) (first ∷ answers) before = ap suc (AnswersLines-length rules lines answers before.1)

answers_text-more : (n : ℕ) (answers : List Answer) (answer : Answer) → answers_text n (answers ++ answer ∷ []) ≡ answers_text n answers ++ answer_text (n + length answers) answer
answers_text-more n [] answer =
    let at : n ≡ n + 0 = omega arith in
    append-nil (answer_text n answer) ∙ ap (λ (k : ℕ). answer_text k answer) at
answers_text-more n (first ∷ answers) answer =
    let at : (n + 1) + length answers ≡ n + suc (length answers) = omega arith in
    ap (λ (l : List ℕ). answer_text n first ++ l) (answers_text-more (n + 1) answers answer ∙ ap (λ (k : ℕ). answers_text (n + 1) answers ++ answer_text k answer) at)
    ∙ sym (append_assoc (answer_text n first) (answers_text (n + 1) answers) (answer_text (n + suc (length answers)) answer))

with_answers-more : (counts : Summary) (answers : List Answer) (answer : Answer) → with_answers counts (answers ++ answer ∷ []) ≡ with_answer (with_answers counts answers) answer
with_answers-more counts [] answer = refl
with_answers-more counts (first ∷ answers) answer = with_answers-more (with_answer counts first) answers answer

-- the answer by the bytes that were kept is the answer to the line
pub answer_is : (rules : Rules) (line : List ℕ) (kind : LineKind) (kept : List ℕ) (answer : Answer) → IsJudged line kind kept → AnswersKind rules kind kept answer → AnswersLine rules line answer
answer_is rules line PassedOver kept answer judged is = subst (λ (kind : LineKind). AnswersKind rules kind (without_return line) answer) judged.judged is
answer_is rules line TooLong kept answer judged is = subst (λ (kind : LineKind). AnswersKind rules kind (without_return line) answer) judged.judged is
answer_is rules line Within kept answer judged is =
    subst (λ (kind : LineKind). AnswersKind rules kind (without_return line) answer) judged.judged (subst (λ (bytes : List ℕ). AnswersEntry rules bytes answer) (judged.whole refl) is)

-- a line that is neither passed over nor to be read is too long
pub too_long : (rules : Rules) (kind : LineKind) (bytes : List ℕ) → kind ≢ PassedOver → kind ≢ Within → AnswersKind rules kind bytes (refused (codes "E12"))
too_long rules PassedOver bytes here long = absurd (here refl)
too_long rules Within bytes here long = absurd (long refl)
too_long rules TooLong bytes here long = refl

-- so are the figures that were handed over for it
pub hands_is : (rules : Rules) (handed : List ℕ → BoardModel → Solved → Type 0) (line : List ℕ) (kind : LineKind) (kept : List ℕ) (answer : Answer) → IsJudged line kind kept → AnswersKind rules kind kept answer → HandsOver rules.grid handed kept answer → HandsOver rules.grid handed (without_return line) answer
hands_is rules handed line kind kept passed_over judged is hands = tt
hands_is rules handed line kind kept (refused code) judged is hands = tt
hands_is rules handed line PassedOver kept (answered id ending) judged is hands = absurd (cc)
hands_is rules handed line TooLong kept (answered id ending) judged is hands = absurd (cc)
hands_is rules handed line Within kept (answered id ending) judged is hands = subst (λ (bytes : List ℕ). HandsOver rules.grid handed bytes (answered id ending)) (judged.whole refl) hands

HandsAllOver-more : (rules : Rules) (handed : List ℕ → BoardModel → Solved → Type 0) (lines : List (List ℕ)) (answers : List Answer) (line : List ℕ) (answer : Answer) → AnswersLines rules lines answers → HandsAllOver rules.grid handed lines answers → HandsOver rules.grid handed (without_return line) answer → HandsAllOver rules.grid handed (lines ++ line ∷ []) (answers ++ answer ∷ [])
HandsAllOver-more rules handed [] [] line answer are before now = (now, tt)
HandsAllOver-more rules handed [] (other ∷ answers) line answer are before now = absurd are
HandsAllOver-more rules handed (next ∷ lines) [] line answer are before now = absurd are
HandsAllOver-more rules handed (next ∷ lines) (first ∷ answers) line answer are before now = (before.0, HandsAllOver-more rules handed lines answers line answer are.1 before.1 now)

-- ---- how many lines are counted

abbrev pub total : Summary → ℕ
total counts = counts.optimal + counts.unsolvable + counts.bounded + counts.refused

-- a line is counted once at most
counted_once : (before : Summary) (answer : Answer) → total (with_answer before answer) ≤ total before + 1
counted_once before passed_over = omega arith
counted_once before (refused code) = omega arith
counted_once before (answered id (Optimal cost plan)) = omega arith
counted_once before (answered id (Unsolvable why)) = omega arith
counted_once before (answered id (Bounded bound best cause)) = omega arith

-- ---- one line more

pub AreRead-more : (input now new : Option (List ℕ)) (lines : List (List ℕ)) (line : List ℕ) → AreRead input now lines → TakesKnown now new line → AreRead input new (lines ++ line ∷ [])
AreRead-more None now new lines line read taken = tt
AreRead-more (Some bytes) None new lines line read taken = absurd read
AreRead-more (Some bytes) (Some left) None lines line read taken = absurd taken
AreRead-more (Some bytes) (Some left) (Some rest) lines line read taken = read ∙ ap (λ (ls : List (List ℕ)). lines ++ ls) taken.first ∙ sym (append_assoc lines (line ∷ []) (lines_of rest))

pub AreFirst-read : (input now : Option (List ℕ)) (lines : List (List ℕ)) → AreRead input now lines → AreFirst input lines
AreFirst-read None now lines read = tt
AreFirst-read (Some bytes) None lines read = absurd read
AreFirst-read (Some bytes) (Some left) lines read = (lines_of left, read)

-- taking a line takes its bytes
takes_some : (old new : Option (List ℕ)) (line : List ℕ) → TakesKnown old new line → (seen : List ℕ) × Consumes old new seen
takes_some None new line taken = ([], tt)
takes_some (Some input) None line taken = absurd taken
takes_some (Some input) (Some rest) line taken = of_known taken.whole
  where
    of_known : (input ≡ line ++ 10 ∷ rest) ⊎ ((input ≡ line) × (rest ≡ [])) → (seen : List ℕ) × Consumes (Some input) (Some rest) seen
    of_known (inl fed) = (line ++ 10 ∷ [], fed ∙ sym (append_assoc line (10 ∷ []) rest))
    of_known (inr (ended, none)) = (line, ended ∙ sym (append-nil line) ∙ ap (λ (l : List ℕ). line ++ l) (sym none))

pub TakesSome-line : (a b c : SourceState) (line : List ℕ) → TakesSome (from_to a b) → TakesLine (from_to b c) line → TakesSome (from_to a c)
TakesSome-line a b c line before taken =
    let now = takes_some b.left c.left line taken in
    (before.0 ++ now.0, Consumes-trans a.left b.left c.left before.0 now.0 before.1 now.1)

-- the reports of the lines that were read are written
pub record IsRunning (rules : Rules) (handed : List ℕ → BoardModel → Solved → Type 0) (source : Change SourceState) (sink : Change SinkState) (numbered : ℕ) (counts : Summary) : Type 0 where
  pub lines : List (List ℕ)
  pub answers : List Answer
  pub read : AreRead source.before.left source.after.left lines
  pub taken : TakesSome source
  pub answered : AnswersLines rules lines answers
  pub written : Puts sink (answers_text 1 answers)
  pub counted : counts ≡ with_answers no_lines answers
  pub at : numbered ≡ length lines
  pub few : length lines < 2 ^ 64
  pub counted_few : total counts ≤ numbered
  pub figures : HandsAllOver rules.grid handed lines answers

-- nothing is read yet
pub IsRunning-none : (rules : Rules) (handed : List ℕ → BoardModel → Solved → Type 0) (a : SourceState) (x : SinkState) → IsRunning rules handed (from_to a a) (from_to x x) 0 no_lines
IsRunning-none rules handed a x = record {
  lines = [];
  answers = [];
  read = none a.left;
  taken = ([], Consumes-nil a.left);
  answered = tt;
  written = Appends-nil x.contents;
  counted = refl;
  at = refl;
  few = omega arith;
  counted_few = omega arith;
  figures = tt;
}
  where
    none : (input : Option (List ℕ)) → AreRead input input []
    none None = tt
    none (Some bytes) = refl

-- a line is read, which is judged so and has this answer
pub record IsNext (rules : Rules) (handed : List ℕ → BoardModel → Solved → Type 0) (source : Change SourceState) (numbered n : ℕ) (answer : Answer) : Type 0 where
  pub line : List ℕ
  pub kind : LineKind
  pub kept : List ℕ
  pub taken : TakesLine source line
  pub judged : IsJudged line kind kept
  pub number : n ≡ numbered + 1
  pub small : n < 2 ^ 64
  pub is : AnswersKind rules kind kept answer
  pub figures : HandsOver rules.grid handed kept answer

-- one line more was read and its report is written
pub IsRunning-more : (rules : Rules) (handed : List ℕ → BoardModel → Solved → Type 0) (a b c : SourceState) (x y z : SinkState) (numbered n : ℕ) (counts : Summary) (answer : Answer) → IsRunning rules handed (from_to a b) (from_to x y) numbered counts → IsNext rules handed (from_to b c) numbered n answer → Puts (from_to y z) (answer_text n answer)
    → IsRunning rules handed (from_to a c) (from_to x z) n (with_answer counts answer)
IsRunning-more rules handed a b c x y z numbered n counts answer running next put =
    let as_many = AnswersLines-length rules running.lines running.answers running.answered in
    let at : n ≡ 1 + length running.answers = omega (arith, running.at, next.number, as_many) in
    let longer = length-append running.lines (next.line ∷ []) in
    let text : answers_text 1 running.answers ++ answer_text n answer ≡ answers_text 1 (running.answers ++ answer ∷ []) = ap (λ (k : ℕ). answers_text 1 running.answers ++ answer_text k answer) at ∙ sym (answers_text-more 1 running.answers answer) in
    record {
      lines = running.lines ++ next.line ∷ [];
      answers = running.answers ++ answer ∷ [];
      read = AreRead-more a.left b.left c.left running.lines next.line running.read next.taken;
      taken = TakesSome-line a b c next.line running.taken next.taken;
      answered = AnswersLines-more rules running.lines running.answers next.line answer running.answered (answer_is rules next.line next.kind next.kept answer next.judged next.is);
      written = subst (λ (l : List ℕ). Puts (from_to x z) l) text (Appends-trans x.contents y.contents z.contents (answers_text 1 running.answers) (answer_text n answer) running.written put);
      counted = ap (λ (s : Summary). with_answer s answer) running.counted ∙ sym (with_answers-more no_lines running.answers answer);
      at = omega (arith, running.at, next.number, longer);
      few = omega (arith, running.at, next.number, next.small, longer);
      counted_few = omega (arith, running.counted_few, next.number, counted_once counts answer);
      figures = HandsAllOver-more rules handed running.lines running.answers next.line answer running.answered running.figures (hands_is rules handed next.line next.kind next.kept answer next.judged next.is next.figures);
    }

-- the report of one line more is written in part
pub reports_part : (rules : Rules) (handed : List ℕ → BoardModel → Solved → Type 0) (a b c : SourceState) (x y z : SinkState) (numbered n : ℕ) (counts : Summary) (answer : Answer) → IsRunning rules handed (from_to a b) (from_to x y) numbered counts → IsNext rules handed (from_to b c) numbered n answer → PutsBeginning (from_to y z) (answer_text n answer)
    → ReportsSome rules (from_to a c) (from_to x z)
reports_part rules handed a b c x y z numbered n counts answer running next begun =
    let as_many = AnswersLines-length rules running.lines running.answers running.answered in
    let at : n ≡ 1 + length running.answers = omega (arith, running.at, next.number, as_many) in
    let longer = length-append running.lines (next.line ∷ []) in
    let text : answers_text 1 running.answers ++ answer_text n answer ≡ answers_text 1 (running.answers ++ answer ∷ []) = ap (λ (k : ℕ). answers_text 1 running.answers ++ answer_text k answer) at ∙ sym (answers_text-more 1 running.answers answer) in
    record {
      lines = running.lines ++ next.line ∷ [];
      answers = running.answers ++ answer ∷ [];
      few = omega (arith, running.at, next.number, next.small, longer);
      first = AreFirst-read a.left c.left (running.lines ++ next.line ∷ []) (AreRead-more a.left b.left c.left running.lines next.line running.read next.taken);
      answered = AnswersLines-more rules running.lines running.answers next.line answer running.answered (answer_is rules next.line next.kind next.kept answer next.judged next.is);
      begun = subst (λ (l : List ℕ). PutsBeginning (from_to x z) l) text (PutsBeginning-after x y z (answers_text 1 running.answers) (answer_text n answer) running.written begun);
    }

-- nothing of the next line is written
pub reports_so_far : (rules : Rules) (handed : List ℕ → BoardModel → Solved → Type 0) (a b c : SourceState) (x y : SinkState) (numbered : ℕ) (counts : Summary) → IsRunning rules handed (from_to a b) (from_to x y) numbered counts → ReportsFirst rules (from_to a c) (from_to x y)
reports_so_far rules handed a b c x y numbered counts running = record {
  lines = running.lines;
  answers = running.answers;
  few = running.few;
  first = AreFirst-read a.left b.left running.lines running.read;
  answered = running.answered;
  written = running.written;
}

-- so are the figures of these lines handed over
pub hands_so_far : (rules : Rules) (handed : List ℕ → BoardModel → Solved → Type 0) (a b : SourceState) (x y : SinkState) (numbered : ℕ) (counts : Summary) → IsRunning rules handed (from_to a b) (from_to x y) numbered counts → HandsFigures rules handed a.left (from_to x y)
hands_so_far rules handed a b x y numbered counts running = record {
  lines = running.lines;
  answers = running.answers;
  few = running.few;
  first = AreFirst-read a.left b.left running.lines running.read;
  answered = running.answered;
  begun = record { sent = answers_text 1 running.answers; unsent = []; parts = sym (append-nil (answers_text 1 running.answers)); put = running.written };
  figures = running.figures;
}

-- and those of the line whose report is written in part
pub hands_part : (rules : Rules) (handed : List ℕ → BoardModel → Solved → Type 0) (a b c : SourceState) (x y z : SinkState) (numbered n : ℕ) (counts : Summary) (answer : Answer) → IsRunning rules handed (from_to a b) (from_to x y) numbered counts → IsNext rules handed (from_to b c) numbered n answer → PutsBeginning (from_to y z) (answer_text n answer)
    → HandsFigures rules handed a.left (from_to x z)
unfolding reports_part
hands_part rules handed a b c x y z numbered n counts answer running next begun =
    let part = reports_part rules handed a b c x y z numbered n counts answer running next begun in
    record {
      lines = part.lines;
      answers = part.answers;
      few = part.few;
      first = part.first;
      answered = part.answered;
      begun = part.begun;
      figures = HandsAllOver-more rules handed running.lines running.answers next.line answer running.answered running.figures (hands_is rules handed next.line next.kind next.kept answer next.judged next.is next.figures);
    }

-- a line more was read that is passed over
pub IsRunning-passed : (rules : Rules) (handed : List ℕ → BoardModel → Solved → Type 0) (a b c : SourceState) (x y : SinkState) (numbered n : ℕ) (counts : Summary) (line kept : List ℕ) (kind : LineKind) → IsRunning rules handed (from_to a b) (from_to x y) numbered counts → TakesLine (from_to b c) line → IsJudged line kind kept → n ≡ numbered + 1 → n < 2 ^ 64 → kind ≡ PassedOver → IsRunning rules handed (from_to a c) (from_to x y) n counts
IsRunning-passed rules handed a b c x y numbered n counts line kept kind running taken judged number small over =
    IsRunning-more rules handed a b c x y y numbered n counts passed_over running (record { line = line; kind = PassedOver; kept = kept; taken = taken; judged = subst (λ (k : LineKind). IsJudged line k kept) over judged; number = number; small = small; is = refl; figures = tt }) (Appends-nil y.contents)

-- all was written, and then passed on; or that failed
pub Writes-flushed : (a b c : SinkState) (bytes : List ℕ) (result : Result (Unit {0}) WriteFailed) → WritesAll (from_to a b) bytes → Flushes (from_to b c) result → Writes (from_to a c) bytes result
Writes-flushed a b c bytes (Ok done) written flushed = (Appends-kept a.contents b.contents c.contents bytes written.0 flushed.0, (written.1.0, flushed.1.1))
Writes-flushed a b c bytes (Err failure) written flushed =
    (record { sent = bytes; unsent = []; parts = sym (append-nil bytes); put = Appends-kept a.contents b.contents c.contents bytes written.0 flushed.0 }, flushed.1, λ failed. absurd (false≢true (sym written.1.0 ∙ failed)))

-- what was taken is counted on
pub CountsKnown-more : (a b c : Option (List ℕ)) (x y z : ℕ) → CountsKnown a b x y → CountsKnown b c y z → CountsKnown a c x z
CountsKnown-more None b c x y z p q = tt
CountsKnown-more (Some xs) None c x y z p q = absurd p
CountsKnown-more (Some xs) (Some ys) None x y z p q = absurd q
CountsKnown-more (Some xs) (Some ys) (Some zs) x y z p q = p ∙ q

-- ---- the lines of a beginning

later_same : (b : ℕ) (lines : List (List ℕ)) (k : ℕ) → slice_get (onto_first b lines) (suc k) ≡ slice_get lines (suc k)
later_same b [] k = refl
later_same b (line ∷ lines) k = refl

first_onto : (b : ℕ) (lines : List (List ℕ)) (line : List ℕ) → slice_get lines 0 ≡ Some line → slice_get (onto_first b lines) 0 ≡ Some (b ∷ line)
first_onto b [] line e = absurd (cc)
first_onto b (l ∷ lines) line e = ap (λ (o : Option (List ℕ)). Some (b ∷ text_or o)) e

some_first : (lines : List (List ℕ)) → 0 < length lines → (line : List ℕ) × (slice_get lines 0 ≡ Some line)
some_first [] some = absurd (omega arith)
some_first (line ∷ lines) some = (line, refl)

long_onto : (b : ℕ) (lines : List (List ℕ)) → 1 < length (onto_first b lines) → length (onto_first b lines) ≡ length lines
long_onto b [] long = absurd (omega arith)
long_onto b (line ∷ lines) long = refl

onto_same : (b : ℕ) (short long : List (List ℕ)) (k : ℕ) → k + 1 < length (onto_first b short) → (k + 1 < length short → slice_get long k ≡ slice_get short k) → slice_get (onto_first b long) k ≡ slice_get (onto_first b short) k
onto_same b short long zero few same =
    let some = some_first short (omega (arith, long_onto b short (omega arith))) in
    first_onto b long some.0 (same (omega (arith, long_onto b short (omega arith))) ∙ some.1) ∙ sym (first_onto b short some.0 some.1)
onto_same b short long (suc k) few same =
    later_same b long k ∙ same (omega (arith, long_onto b short (omega arith))) ∙ sym (later_same b short k)

either_same : (test : Bool) (b : ℕ) (short long : List (List ℕ)) (k : ℕ) → k + 1 < length (cond test ([] ∷ short) (onto_first b short)) → ((j : ℕ) → j + 1 < length short → slice_get long j ≡ slice_get short j) → slice_get (cond test ([] ∷ long) (onto_first b long)) k ≡ slice_get (cond test ([] ∷ short) (onto_first b short)) k
either_same true b short long zero few same = refl
either_same true b short long (suc k) few same = same k (omega arith)
either_same false b short long k few same = onto_same b short long k few (same k)

pub begun_same : (begun rest : List ℕ) (k : ℕ) → k + 1 < length (lines_of begun) → slice_get (lines_of (begun ++ rest)) k ≡ slice_get (lines_of begun) k
begun_same [] rest k few = absurd (omega arith)
begun_same (b ∷ bs) rest k few = either_same (b == 10) b (lines_of bs) (lines_of (bs ++ rest)) k few (begun_same bs rest)

-- ---- what a run wrote tells the truth

pub run_true : (rules : Rules) → IsTruthful rules → (source : Change SourceState) (sink : Change SinkState) (result : Result Summary LinesFault) → ReportsLines rules source sink result → IsTrueRun rules source sink result
run_true rules truthful source sink (Ok counts) (all, readable, kept) =
    record { lines = all.lines; output = answers_text 1 all.answers; all = all.all; put = all.written; truth = truth rules truthful all.lines all.answers all.few all.answered; settled = λ fine. settled rules all.lines all.answers all.few all.answered (ap status_of_counts (sym all.counted) ∙ fine) }
run_true rules truthful source sink (Err Read) (whole, kept) = record {
  lines = whole.lines;
  output = answers_text 1 whole.answers;
  first = AreFirst-read source.before.left whole.lost.between.left whole.lines whole.lost.whole;
  begun = record { sent = answers_text 1 whole.answers; unsent = []; parts = sym (append-nil (answers_text 1 whole.answers)); put = whole.written };
  truth = truth rules truthful whole.lines whole.answers whole.few whole.answered;
}
run_true rules truthful source sink (Err Write) (some, readable, failed) =
    record { lines = some.lines; output = answers_text 1 some.answers; first = some.first; begun = some.begun; truth = truth rules truthful some.lines some.answers some.few some.answered }
run_true rules truthful source sink (Err (Memory lacking)) (first, readable, kept) = record {
  lines = first.lines;
  output = answers_text 1 first.answers;
  first = first.first;
  begun = record { sent = answers_text 1 first.answers; unsent = []; parts = sym (append-nil (answers_text 1 first.answers)); put = first.written };
  truth = truth rules truthful first.lines first.answers first.few first.answered;
}

-- ---- what the definitions say of streams whose bytes are known, and of sinks that have not failed

-- an input within the limit is not too long
fits : (left : Option (List ℕ)) (input : List ℕ) → left ≡ Some input → length input ≤ INPUT_LIMIT → ¬ IsTooLong left
fits left input is short long = let more = subst (λ (l : Option (List ℕ)). IsTooLong l) is long in omega (arith, short, more)

pub lost : BatchLinesAreLostToFailures
lost source lines input is short losing = of_cause losing.cause
  where
    of_cause : (source.after.has_failed ≡ true) ⊎ IsTooLong source.before.left → source.after.has_failed ≡ true
    of_cause (inl failed) = failed
    of_cause (inr long) = absurd (fits source.before.left input is short long)

-- what was put into an empty sink is what it holds
pub held : (before after : Option (List ℕ)) (bytes : List ℕ) → before ≡ Some [] → Appends before after bytes → after ≡ Some bytes
held before after bytes empty put = of_after after (subst (λ (contents : Option (List ℕ)). Appends contents after bytes) empty put)
  where
    of_after : (after : Option (List ℕ)) → Appends (Some []) after bytes → after ≡ Some bytes
    of_after None none = absurd none
    of_after (Some now) is = ap (λ (l : List ℕ). Some l) is

pub outputs : (rules : Rules) → OutputsAreAnswers rules
outputs rules source sink counts input known empty reports =
    let all = reports.0 in
    let lines_are : lines_of input ≡ all.lines = subst (λ (left : Option (List ℕ)). AreAll left all.lines) known all.all in
    (all.answers, subst (λ (lines : List (List ℕ)). AnswersLines rules lines all.answers) (sym lines_are) all.answered, held sink.before.contents sink.after.contents (answers_text 1 all.answers) empty all.written)

pub outputs_true : (rules : Rules) → BatchOutputsTellTheTruth rules
outputs_true rules source sink status input known empty all =
    let lines_are : lines_of input ≡ all.lines = subst (λ (left : Option (List ℕ)). AreAll left all.lines) known all.all in
    (all.output, held sink.before.contents sink.after.contents all.output empty all.put, subst (λ (lines : List (List ℕ)). TellsTheTruth rules lines all.output) (sym lines_are) all.truth, all.settled)

pub beginnings_true : (rules : Rules) → BeginningsTellTheTruth rules
beginnings_true rules source sink input known empty some =
    let first : (more : List (List ℕ)) × (lines_of input ≡ some.lines ++ more) = subst (λ (left : Option (List ℕ)). AreFirst left some.lines) known some.first in
    let written = held sink.before.contents sink.after.contents some.begun.sent empty some.begun.put in
    (some.lines, first.0, some.begun.sent, some.begun.unsent, first.1, written, subst (TellsTheTruth rules some.lines) some.begun.parts some.truth)

pub told : (rules : Rules) → FailedWritesAreTold rules
told rules source sink (Ok counts) unfailed other reports = reports.2 ∙ unfailed
told rules source sink (Err Read) unfailed other reports = reports.1 ∙ unfailed
told rules source sink (Err Write) unfailed other reports = absurd (other refl)
told rules source sink (Err (Memory lacking)) unfailed other reports = reports.2 ∙ unfailed

pub write_failed : (rules : Rules) → WriteFaultsAreFailures rules
write_failed rules source sink (some, readable, failed) = failed

pub read_failed : (rules : Rules) → ReadFaultsAreFailures rules
read_failed rules source sink input is short (whole, kept) = lost source whole.lines input is short whole.lost

-- ---- figures belong to reports

-- the questions of the first lines are those of all lines
front_either : (b : Bool) (first q : ℕ × List ℕ) (xs ys : List (ℕ × List ℕ)) (k : ℕ) → ((j : ℕ) → slice_get xs j ≡ Some q → slice_get ys j ≡ Some q) → slice_get (cond b (first ∷ xs) xs) k ≡ Some q → slice_get (cond b (first ∷ ys) ys) k ≡ Some q
front_either true first q xs ys zero same e = e
front_either true first q xs ys (suc k) same e = same k e
front_either false first q xs ys k same e = same k e

questions_front : (n : ℕ) (lines more : List (List ℕ)) (k : ℕ) (q : ℕ × List ℕ) → slice_get (questions n lines) k ≡ Some q → slice_get (questions n (lines ++ more)) k ≡ Some q
questions_front n [] more k q e = absurd (cc)
questions_front n (line ∷ lines) more k q e = front_either (asks line) (n, line) q (questions (n + 1) lines) (questions (n + 1) (lines ++ more)) k (λ j. questions_front (n + 1) lines more j q) e

-- an answer that names an ending has numbers that a report can state
small_answer : (rules : Rules) (kind : LineKind) (bytes id : List ℕ) (ending : Ending) → AnswersKind rules kind bytes (answered id ending) → HasSmallNumbers ending
small_answer rules PassedOver bytes id ending is = absurd (cc)
small_answer rules TooLong bytes id ending is = absurd (cc)
small_answer rules Within bytes id ending (by_outcome _ b _ entry allowed small) = small

-- a line that is to be read isn't answered as one that is passed over
entry_not_over : (rules : Rules) (bytes : List ℕ) (answer : Answer) → AnswersEntry rules bytes answer → answer ≢ passed_over
entry_not_over rules bytes answer (by_fault fault first) e = absurd (cc)
entry_not_over rules bytes answer (by_outcome id b ending entry allowed small) e = absurd (cc)
entry_not_over rules bytes answer (by_want id b entry lacking) e = absurd (cc)

-- nor is one that asks
not_over : (rules : Rules) (kind : LineKind) (bytes : List ℕ) → (kind ≡ TooLong) ⊎ (kind ≡ Within) → ¬ AnswersKind rules kind bytes passed_over
not_over rules PassedOver bytes (inl e) is = absurd (cc)
not_over rules PassedOver bytes (inr e) is = absurd (cc)
not_over rules TooLong bytes asks is = absurd (cc)
not_over rules Within bytes asks is = entry_not_over rules bytes passed_over is refl

-- what is read of a line is what was written there
read_there : (d e : Data) (line : List ℕ) → IsReport d → Some (compact_text d) ≡ Some line → Reads line e → d ≡ e
read_there d e line is here reads = ap data_or (sym (report_read d is) ∙ ap (λ (o : Option (List ℕ)). read (text_or o)) here ∙ reads)

module _ (rules : Rules) (handed : List ℕ → BoardModel → Solved → Type 0) where
  -- the k-th line that asks has figures with this id, beside an ending that has this report
  abbrev Belong : List (ℕ × List ℕ) → ℕ → List ℕ → Ending → Type 0
  Belong qs k id ending =
      (n : ℕ) × (line : List ℕ) × (b : BoardModel) × (solved : Solved)
      × (slice_get qs k ≡ Some (n, line)) × IsEntry rules.grid (without_return line) id b
      × handed id b solved × (outcome_data id solved.ending ≡ outcome_data id ending)

  abbrev AllBelong : List (ℕ × List ℕ) → List (List ℕ) → Type 0
  AllBelong qs output = (k : ℕ) (id line : List ℕ) (ending : Ending) → slice_get output k ≡ Some line → Reads line (outcome_data id ending) → Belong qs k id ending

  belongs_here : (n : ℕ) (line : List ℕ) (qs : List (ℕ × List ℕ)) (answer : Answer) (rest : List (List ℕ)) → IsSmall n → AnswersLine rules line answer → HandsOver rules.grid handed (without_return line) answer → (line_kind_of line ≡ TooLong) ⊎ (line_kind_of line ≡ Within) → AllBelong qs rest → (text : List ℕ) → lines_of text ≡ rest → AllBelong ((n, line) ∷ qs) (lines_of (answer_text n answer ++ text))
  belongs_here n line qs passed_over rest small is hands asking others text same = absurd (not_over rules (line_kind_of line) (without_return line) asking is)
  belongs_here n line qs (refused code) rest small is hands asking others text same =
      subst (AllBelong ((n, line) ∷ qs)) (sym (report_first (refused_data code n) text ∙ ap (λ (ls : List (List ℕ)). compact_text (refused_data code n) ∷ ls) same)) at
    where
      at : AllBelong ((n, line) ∷ qs) (compact_text (refused_data code n) ∷ rest)
      at zero id l ending here reads = absurd (no_refusal id ending (subst (λ (d : Data). HasStatus d (codes "refused")) (read_there (refused_data code n) (outcome_data id ending) l (of_line code n small) here reads) refl))
      at (suc k) id l ending here reads = others k id l ending here reads
  belongs_here n line qs (answered name outcome) rest small is (b, solved, entry, given, same_ending) asking others text same =
      subst (AllBelong ((n, line) ∷ qs)) (sym (report_first (outcome_data name outcome) text ∙ ap (λ (ls : List (List ℕ)). compact_text (outcome_data name outcome) ∷ ls) same)) at
    where
      at : AllBelong ((n, line) ∷ qs) (compact_text (outcome_data name outcome) ∷ rest)
      at zero id l ending here reads =
          let fits = small_answer rules (line_kind_of line) (without_return line) name outcome is in
          let e = read_there (outcome_data name outcome) (outcome_data id ending) l (of_outcome name outcome fits) here reads in
          let named : name ≡ id = sym (own_id name outcome) ∙ ap (text_at (codes "id")) e ∙ own_id id ending in
          (n, line, b, solved, refl, subst (λ (i : List ℕ). IsEntry rules.grid (without_return line) i b) named entry, subst (λ (i : List ℕ). handed i b solved) named given, ap (outcome_data id) same_ending ∙ ap (λ (i : List ℕ). outcome_data i outcome) (sym named) ∙ e)
      at (suc k) id l ending here reads = others k id l ending here reads

  belongs_next : (n : ℕ) (line : List ℕ) (lines : List (List ℕ)) (answer : Answer) (text : List ℕ) → IsSmall n → AnswersLine rules line answer → HandsOver rules.grid handed (without_return line) answer → AllBelong (questions (n + 1) lines) (lines_of text) → (over : Bool) → is_passed_over (without_return line) ≡ over → AllBelong (questions n (line ∷ lines)) (lines_of (answer_text n answer ++ text))
  belongs_next n line lines answer text small is hands others true e =
      let here : answer ≡ passed_over = subst (λ (kind : LineKind). AnswersKind rules kind (without_return line) answer) (kind_over line e) is in
      let no_report : asks line ≡ false = ap not e in
      let same : lines_of (answer_text n answer ++ text) ≡ lines_of text = ap (λ (a : Answer). lines_of (answer_text n a ++ text)) here in
      rw (no_report, same) others
  belongs_next n line lines answer text small is hands others false e =
      let asking : asks line ≡ true = ap not e in
      rw asking (belongs_here n line (questions (n + 1) lines) answer (lines_of text) small is hands (kind_asks line e) others text refl)

  all_belong : (n : ℕ) (lines : List (List ℕ)) (answers : List Answer) → n + length lines ≤ 2 ^ 64 → AnswersLines rules lines answers → HandsAllOver rules.grid handed lines answers → AllBelong (questions n lines) (lines_of (answers_text n answers))
  all_belong n [] [] few are hands = λ k id line ending here reads. absurd (cc)
  all_belong n [] (answer ∷ answers) few are hands = absurd are
  all_belong n (line ∷ lines) [] few are hands = absurd are
  all_belong n (line ∷ lines) (answer ∷ answers) few are hands =
      belongs_next n line lines answer (answers_text (n + 1) answers) (omega arith) are.0 hands.0 (all_belong (n + 1) lines answers (omega arith) are.1 hands.1) (is_passed_over (without_return line)) refl

  pub figures_belong : FiguresBelongToReports rules handed
  figures_belong input sink empty figures =
      let written = held sink.before.contents sink.after.contents figures.begun.sent empty figures.begun.put in
      (figures.begun.sent, figures.begun.unsent, written, at)
    where
      at : (k : ℕ) (id : List ℕ) (ending : Ending) → IsReply (figures.begun.sent ++ figures.begun.unsent) k (outcome_data id ending) → Belong (questions 1 (lines_of input)) k id ending
      at k id ending (line, here, reads) =
          let whole = subst (λ (text : List ℕ). slice_get (lines_of text) k ≡ Some line) (sym figures.begun.parts) here in
          let (n, asking, b, solved, question, entry, given, same) = all_belong 1 figures.lines figures.answers (omega (arith, figures.few)) figures.answered figures.figures k id line ending whole reads in
          (n, asking, b, solved, subst (λ (lines : List (List ℕ)). slice_get (questions 1 lines) k ≡ Some (n, asking)) (sym figures.first.1) (questions_front 1 figures.lines figures.first.0 k (n, asking) question), entry, given, same)

-- ---- counts are those of reports

abbrev has_status : List ℕ → List ℕ → Bool
has_status word line = bytes_eq (status_in line) word

-- a line more with this status
count_more : (word status line : List ℕ) (lines : List (List ℕ)) → status_in line ≡ status → count_by (has_status word) (line ∷ lines) ≡ cond {A = ℕ} (bytes_eq status word) 1 0 + count_by (has_status word) lines
count_more word status line lines e =
    sum_by-cons (λ (l : List ℕ). cond {A = ℕ} (has_status word l) 1 0) line lines ∙ ap (λ (s : List ℕ). cond {A = ℕ} (bytes_eq s word) 1 0 + count_by (has_status word) lines) e

-- the status that a report names
report_status : (d : Data) → IsReport d → status_in (compact_text d) ≡ unwrap_or (option_and_then as_str (get (codes "status") d)) []
report_status d is = ap (λ (o : Option Data). unwrap_or (option_and_then as_str (option_and_then (get (codes "status")) o)) []) (report_read d is)

-- the counts after are those before and of these lines
record AreCounted (before after : Summary) (lines : List (List ℕ)) : Type 0 where
  optimal : after.optimal ≡ before.optimal + count_by (has_status (codes "optimal")) lines
  unsolvable : after.unsolvable ≡ before.unsolvable + count_by (has_status (codes "unsolvable")) lines
  bounded : after.bounded ≡ before.bounded + count_by (has_status (codes "bounded")) lines
  refused : after.refused ≡ before.refused + count_by (has_status (codes "refused")) lines

-- one line more, with this status
counted_more : (status : List ℕ) (before between after : Summary) (line : List ℕ) (lines : List (List ℕ)) → status_in line ≡ status
    → between.optimal ≡ before.optimal + cond {A = ℕ} (bytes_eq status (codes "optimal")) 1 0
    → between.unsolvable ≡ before.unsolvable + cond {A = ℕ} (bytes_eq status (codes "unsolvable")) 1 0
    → between.bounded ≡ before.bounded + cond {A = ℕ} (bytes_eq status (codes "bounded")) 1 0
    → between.refused ≡ before.refused + cond {A = ℕ} (bytes_eq status (codes "refused")) 1 0
    → AreCounted between after lines → AreCounted before after (line ∷ lines)
counted_more status before between after line lines e o u b r rest =
    let optimal = count_more (codes "optimal") status line lines e in
    let unsolvable = count_more (codes "unsolvable") status line lines e in
    let bounded = count_more (codes "bounded") status line lines e in
    let refused = count_more (codes "refused") status line lines e in
    record {
      optimal = omega (arith, rest.optimal, o, optimal);
      unsolvable = omega (arith, rest.unsolvable, u, unsolvable);
      bounded = omega (arith, rest.bounded, b, bounded);
      refused = omega (arith, rest.refused, r, refused);
    }

-- the report of an ending counts as its kind
counted_ending : (id : List ℕ) (ending : Ending) (before after : Summary) (lines : List (List ℕ)) → HasSmallNumbers ending → AreCounted (with_answer before (answered id ending)) after lines → AreCounted before after (compact_text (outcome_data id ending) ∷ lines)
counted_ending id (Optimal cost plan) before after lines small rest =
    counted_more (codes "optimal") before (with_answer before (answered id (Optimal cost plan))) after _ lines (report_status _ (of_outcome id (Optimal cost plan) small)) refl (omega arith) (omega arith) (omega arith) rest
counted_ending id (Unsolvable why) before after lines small rest =
    counted_more (codes "unsolvable") before (with_answer before (answered id (Unsolvable why))) after _ lines (report_status _ (of_outcome id (Unsolvable why) small)) (omega arith) refl (omega arith) (omega arith) rest
counted_ending id (Bounded bound best cause) before after lines small rest =
    counted_more (codes "bounded") before (with_answer before (answered id (Bounded bound best cause))) after _ lines (report_status _ (of_outcome id (Bounded bound best cause) small)) (omega arith) (omega arith) refl (omega arith) rest

-- counts that begin at 0
from_none : (count n : ℕ) → count ≡ 0 + n → count ≡ n
from_none count n e = omega (arith, e)

module _ (rules : Rules) where
  counted_lines : (n : ℕ) (lines : List (List ℕ)) (answers : List Answer) → n + length lines ≤ 2 ^ 64 → AnswersLines rules lines answers → (before : Summary) → AreCounted before (with_answers before answers) (lines_of (answers_text n answers))
  counted_lines n [] [] few are before = record { optimal = omega arith; unsolvable = omega arith; bounded = omega arith; refused = omega arith }
  counted_lines n [] (answer ∷ answers) few are before = absurd are
  counted_lines n (line ∷ lines) [] few are before = absurd are
  counted_lines n (line ∷ lines) (passed_over ∷ answers) few are before = counted_lines (n + 1) lines answers (omega arith) are.1 before
  counted_lines n (line ∷ lines) (refused code ∷ answers) few are before =
      let rest = counted_lines (n + 1) lines answers (omega arith) are.1 (with_answer before (refused code)) in
      subst (AreCounted before (with_answers (with_answer before (refused code)) answers)) (sym (report_first (refused_data code n) (answers_text (n + 1) answers)))
      (counted_more (codes "refused") before (with_answer before (refused code)) (with_answers (with_answer before (refused code)) answers) _ (lines_of (answers_text (n + 1) answers)) (report_status _ (of_line code n (omega arith))) (omega arith) (omega arith) (omega arith) refl rest)
  counted_lines n (line ∷ lines) (answered id ending ∷ answers) few are before =
      let rest = counted_lines (n + 1) lines answers (omega arith) are.1 (with_answer before (answered id ending)) in
      let small = small_answer rules (line_kind_of line) (without_return line) id ending are.0 in
      subst (AreCounted before (with_answers (with_answer before (answered id ending)) answers)) (sym (report_first (outcome_data id ending) (answers_text (n + 1) answers)))
      (counted_ending id ending before (with_answers (with_answer before (answered id ending)) answers) (lines_of (answers_text (n + 1) answers)) small rest)

  pub counts_of_reports : CountsAreOfReports rules
  counts_of_reports source sink counts empty reports =
      let all = reports.0 in
      let counted = subst (λ (c : Summary). AreCounted no_lines c (lines_of (answers_text 1 all.answers))) (sym all.counted) (counted_lines 1 all.lines all.answers (omega (arith, all.few)) all.answered no_lines) in
      (answers_text 1 all.answers, held sink.before.contents sink.after.contents (answers_text 1 all.answers) empty all.written, from_none _ _ counted.optimal, from_none _ _ counted.unsolvable, from_none _ _ counted.bounded, from_none _ _ counted.refused)

-- ---- a folded setup

pub folded_alike : FoldedSetupsAskAlike
folded_alike setup folded (tables, made, is) = record {
  goal = ap (λ (s : SetupModel). s.goal) is;
  rule = ap (λ (s : SetupModel). s.rule) is;
  limit = ap (λ (s : SetupModel). s.limit) is;
  workers = ap (λ (s : SetupModel). s.workers) is;
  spread = ap (λ (s : SetupModel). s.spread) is;
  sums = λ tabled start board sides. subst (λ (t : BoundModel). sum_of (parts_of t) start ≤ sum_of (parts_of setup.tables) start) (sym (ap (λ (s : SetupModel). s.tables) is)) (folded_no_more setup.tables tables tabled made start board sides);
}
