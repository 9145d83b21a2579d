-- What is read in a line of the output is what was reported of the line that it answers.
use Rattle.std.proofs.Common.{◌≡◌, ◌≢◌, ℕ, zero, suc, ◌<◌, List, [], ◌∷◌, Option, None, Some, length, refl, sym, ap, ◌∙◌, subst, inl, inr, arith, slice_get, ◌+◌, ◌^◌, ◌≤◌, ◌++◌, cond, append_assoc, codes, get_or, map, not, ◌==◌, ◌&&◌, Vec, Global, ⊎_elim}
use Rattle.std.specs.List.{AllByRecursion}
use Rattle.std.proofs.lemmas.Bool.{true≢false, ne_eqb, eqb-true, cases_lt}
use Rattle.std.proofs.lemmas.Option.{slice_get_within}
use Rattle.std.specs.Prelude.{Bool, true, false, nat_lt, ⊤, ◌⊎◌}
use Rattle.serde_json.specs.Data.{Data, number}
use Rattle.serde_json.specs.Read.{read}
use Rattle.serde_json.specs.Written.{compact_text}
use Rattle.board.specs.Shapes.{ShapeModel}
use Rattle.board.specs.Boards.{BoardModel}
use Rattle.board.specs.Faults.{tiles_code}
use Rattle.board.specs.Plans.{Leads, NothingBelow, IsLeast}
use Rattle.board.specs.declared.moves.Move.{Move}
use Rattle.board.specs.declared.faults.TilesFault.{TilesFault}
use Rattle.board.specs.declared.faults.TilesFault.TheVariants.{WrongCount, TileOutOfRange, TileRepeated}
use Rattle.outcomes.specs.Outcomes.{Task, IsBestPlan, AllowsWhy, AllowsCause, best_of}
use Rattle.outcomes.specs.Words.{why_word, cause_word}
use Rattle.outcomes.specs.declared.outcome.Why.{Why}
use Rattle.outcomes.specs.declared.outcome.Why.TheVariants.{Parity, Exhausted}
use Rattle.outcomes.specs.declared.outcome.Cause.{Cause}
use Rattle.outcomes.specs.declared.outcome.Cause.TheVariants.{Limit, Memory, Start, Cost, Cut}
use Rattle.outcomes.specs.Endings.{EndAnswers}
use Rattle.outcomes.specs.declared.outcome.Ending.{Ending}
use Rattle.outcomes.specs.declared.outcome.Ending.TheVariants.{Optimal, Unsolvable, Bounded}
use Rattle.batch_lines.specs.Lines.{without_return, lines_of, onto_first, is_passed_over, line_kind_of}
use Rattle.batch_lines.specs.Words.{IsEntry, SpellsDecimal, words_of, tile_words, IsFirstWordFault, IsFirstEntryFault, entry_code}
use Rattle.batch_lines.specs.declared.words.EntryFault.{EntryFault}
use Rattle.batch_lines.specs.declared.words.EntryFault.TheVariants.{NoText, NoBoard}
use Rattle.batch_lines.specs.declared.lines.LineKind.{LineKind}
use Rattle.batch_lines.specs.declared.lines.LineKind.TheVariants.{PassedOver, Within, TooLong}
use Rattle.batch_lines.specs.declared.lines.TheConstants.{LINE_LIMIT}
use Rattle.batch_runs.specs.Reports.{outcome_data, refused_data, report_text}
use Rattle.batch_runs.specs.ReportReadings.{IsSmall, HasSmallNumbers, IsReport, HasStatus, Reads}
use Rattle.batch_runs.specs.ReportReadings.IsReport.{of_outcome, of_line}
use Rattle.batch_lines.proofs.TextLemmas.{same_numbers, no_word_fault}
use Rattle.batch_runs.proofs.ReadLemmas.{report_read, data_or, text_in, number_in, first_letter, plan_of, own_plan, best_read, own_best}
use Rattle.batch_runs.proofs.TextLemmas.{text_other}
use Rattle.batch_runs.specs.Meanings.{Names, HasFault, asks, questions, IsQuestion, IsReply, SaysLeast, SaysNone, SaysBound, SaysRefused, AreAllDecided}
use Rattle.batch_runs.specs.Batches.{Rules, IsTruthful, Answer, AnswersEntry, AnswersKind, AnswersLine, AnswersLines, answer_text, answers_text, with_answer, with_answers, no_lines, status_of_counts}
use Rattle.batch_runs.specs.Batches.Answer.{passed_over, refused, answered}
use Rattle.batch_runs.specs.Batches.AnswersEntry.{by_fault, by_outcome, by_want}
use Rattle.batch_runs.specs.declared.batch.Summary.{Summary}
use Rattle.batch_runs.specs.Headline.{IsTrueOfBoard, TellsTheTruth}
use Rattle.batch_runs.specs.Laws.{OptimalReportsAreLeast, UnsolvableReportsHaveNoPlan, ReasonsAreTrue, BoundedReportsAreBelow, BestPlansLead, CausesAreTrue, ReportsAreNamed, BoardsAreAnswered, RefusedBoardsLackMemory, RefusedLinesAreFaulty, AnsweredBoardsAreTold, FaultyLinesHaveNoEnding, LinesPassedOverAreCounted, OutputLinesAreRead, SilenceIsNoTruth, DecidedLinesAreAccepted, DecidedLinesAreSettled}

-- ---- a line names one board, and then it has no fault

-- a line names one board by one id
pub same_name : (grid : ShapeModel) (line id id' : List ℕ) (b b' : BoardModel) → Names grid line id b → Names grid line id' b' → (id' ≡ id) × (b' ≡ b)
same_name grid line id id' b b' (within, h) (within', k) =
    let sides : b'.grid ≡ b.grid = k.sides ∙ sym h.sides in
    let tiles : b'.tiles ≡ b.tiles = same_numbers (tile_words (words_of (without_return line))) b.tiles b'.tiles h.spelled k.spelled in
    (k.named ∙ sym h.named, (λ i. record { grid = sides i; tiles = tiles i }))

abbrev pub text_or : Option (List ℕ) → List ℕ
text_or None = []
text_or (Some text) = text

no_entry_fault : (grid : ShapeModel) (line id : List ℕ) (b : BoardModel) → IsEntry grid line id b → (fault : EntryFault) → ¬ IsFirstEntryFault grid line fault
no_entry_fault grid line id b entry NoText found = found entry.text
no_entry_fault grid line id b entry (NoBoard fault) found = no_word_fault grid (tile_words (words_of line)) b entry.spelled entry.board entry.sides fault found.1

-- a line isn't of two kinds
abbrev is_long : LineKind → Bool
is_long PassedOver = false
is_long TooLong = true
is_long Within = false

not_both : TooLong ≢ Within
not_both e = true≢false (ap is_long e)

-- a line that names a board has no fault
pub no_fault : (grid : ShapeModel) (line id code : List ℕ) (b : BoardModel) → Names grid line id b → ¬ HasFault grid line code
no_fault grid line id code b (within, entry) (inl (long, is)) = not_both (sym long ∙ within)
no_fault grid line id code b (within, entry) (inr (within', (fault, first, is))) = no_entry_fault grid (without_return line) id b entry fault first

-- no place is out of range where another one before it or at it repeats a number, or it the other way round
not_two_places : (grid : ShapeModel) (words : List (List ℕ)) (place place' : ℕ) → IsFirstWordFault grid words (TileOutOfRange place) → ¬ IsFirstWordFault grid words (TileRepeated place')
not_two_places grid words place place' (word, first, at, large) (word', n, k, before, first', at', spell, low, less, there, same) = ⊎_elim
    (λ (earlier : place < place'). let seen = first'.in_range place word earlier at in absurd (omega (arith, seen.2, large seen.0 seen.1)))
    (λ (not_earlier : place' ≤ place). ⊎_elim
    (λ (later : place' < place). first.different k place' before word' n less later there at' same spell)
    (λ (not_later : place ≤ place').
    let here : place' ≡ place = omega arith in
    let one : word' ≡ word = ap text_or (sym at' ∙ ap (λ (j : ℕ). slice_get words j) here ∙ at) in
    absurd (omega (arith, low, large n (subst (λ (w : List ℕ). SpellsDecimal w n) one spell))))
    (cases_lt place' place))
    (cases_lt place place')

-- a line has the code of one fault
same_tiles_code : (grid : ShapeModel) (words : List (List ℕ)) (fault fault' : TilesFault) → IsFirstWordFault grid words fault → IsFirstWordFault grid words fault' → tiles_code fault ≡ tiles_code fault'
same_tiles_code grid words WrongCount WrongCount h k = refl
same_tiles_code grid words WrongCount (TileOutOfRange place) h k = absurd (h k.1.one_each)
same_tiles_code grid words WrongCount (TileRepeated place) h k = absurd (h k.4.one_each)
same_tiles_code grid words (TileOutOfRange place) WrongCount h k = absurd (k h.1.one_each)
same_tiles_code grid words (TileOutOfRange place) (TileOutOfRange place') h k = refl
same_tiles_code grid words (TileOutOfRange place) (TileRepeated place') h k = absurd (not_two_places grid words place place' h k)
same_tiles_code grid words (TileRepeated place) WrongCount h k = absurd (k h.4.one_each)
same_tiles_code grid words (TileRepeated place) (TileOutOfRange place') h k = absurd (not_two_places grid words place' place k h)
same_tiles_code grid words (TileRepeated place) (TileRepeated place') h k = refl

same_entry_code : (grid : ShapeModel) (line : List ℕ) (fault fault' : EntryFault) → IsFirstEntryFault grid line fault → IsFirstEntryFault grid line fault' → entry_code fault ≡ entry_code fault'
same_entry_code grid line NoText NoText h k = refl
same_entry_code grid line NoText (NoBoard fault') h k = absurd (h k.0)
same_entry_code grid line (NoBoard fault) NoText h k = absurd (k h.0)
same_entry_code grid line (NoBoard fault) (NoBoard fault') h k = same_tiles_code grid (tile_words (words_of line)) fault fault' h.1 k.1

same_code : (grid : ShapeModel) (line code code' : List ℕ) → HasFault grid line code → HasFault grid line code' → code ≡ code'
same_code grid line code code' (inl (long, is)) (inl (long', is')) = is ∙ sym is'
same_code grid line code code' (inl (long, is)) (inr (within, found)) = absurd (not_both (sym long ∙ within))
same_code grid line code code' (inr (within, found)) (inl (long, is)) = absurd (not_both (sym long ∙ within))
same_code grid line code code' (inr (within, (fault, first, is))) (inr (within', (fault', first', is'))) =
    is ∙ same_entry_code grid (without_return line) fault fault' first first' ∙ sym is'

-- ---- what is reported of a line is read in the output: lines

feed_ends : (line rest : List ℕ) → AllByRecursion (λ b. b ≢ 10) line → lines_of (line ++ 10 ∷ rest) ≡ line ∷ lines_of rest
feed_ends [] rest none = refl
feed_ends (b ∷ bs) rest none = rw (ne_eqb b 10 none.0) (ap (onto_first b) (feed_ends bs rest none.1))

-- a report is one line
pub report_first : (d : Data) (rest : List ℕ) → lines_of (report_text d ++ rest) ≡ compact_text d ∷ lines_of rest
report_first d rest = ap lines_of (append_assoc (compact_text d) (10 ∷ []) rest) ∙ feed_ends (compact_text d) rest (text_other d)

pub kind_over : (line : List ℕ) → is_passed_over (without_return line) ≡ true → line_kind_of line ≡ PassedOver
kind_over line e = rw e refl

either_kind : (b : Bool) → (cond b TooLong Within ≡ TooLong) ⊎ (cond b TooLong Within ≡ Within)
either_kind true = inl refl
either_kind false = inr refl

pub kind_asks : (line : List ℕ) → is_passed_over (without_return line) ≡ false → (line_kind_of line ≡ TooLong) ⊎ (line_kind_of line ≡ Within)
kind_asks line e =
    let long = nat_lt LINE_LIMIT (length (without_return line)) in
    let is : line_kind_of line ≡ cond long TooLong Within = rw e refl in
    subst (λ (kind : LineKind). (kind ≡ TooLong) ⊎ (kind ≡ Within)) (sym is) (either_kind long)

-- ---- what is reported of a line

-- the value may be reported of line n
data Tells (rules : Rules) (n : ℕ) (line : List ℕ) : Data → Type 0 where
  of_fault : (code : List ℕ) → IsSmall n → HasFault rules.grid line code → Tells rules n line (refused_data code n)
  of_want : (id : List ℕ) (b : BoardModel) → IsSmall n → Names rules.grid line id b → rules.allows b None → Tells rules n line (refused_data (codes "V3") n)
  of_board : (id : List ℕ) (b : BoardModel) (outcome : Ending) → Names rules.grid line id b → rules.allows b (Some outcome) → HasSmallNumbers outcome → Tells rules n line (outcome_data id outcome)

-- an answer that names a least plan, or that there is none
abbrev pub IsSettledAnswer : Answer → Type 0
IsSettledAnswer passed_over = ⊤
IsSettledAnswer (refused code) = ⊥
IsSettledAnswer (answered id (Optimal cost plan)) = ⊤
IsSettledAnswer (answered id (Unsolvable why)) = ⊤
IsSettledAnswer (answered id (Bounded bound best cause)) = ⊥

abbrev IsSettledData : Data → Type 0
IsSettledData d = HasStatus d (codes "optimal") ⊎ HasStatus d (codes "unsolvable")

outcome_settled : (id : List ℕ) (outcome : Ending) → IsSettledAnswer (answered id outcome) → IsSettledData (outcome_data id outcome)
outcome_settled id (Optimal cost plan) is = inl refl
outcome_settled id (Unsolvable why) is = inr refl
outcome_settled id (Bounded bound best cause) is = absurd is

-- S says that all answers are such
module _ (rules : Rules) (S : Type 0) where
  is_report : (n : ℕ) (line : List ℕ) (d : Data) → Tells rules n line d → IsReport d
  is_report n line d (of_fault code small fault) = of_line code n small
  is_report n line d (of_want id b small names lacking) = of_line (codes "V3") n small
  is_report n line d (of_board id b outcome names allowed small) = of_outcome id outcome small

  -- what is written of an answer is one report
  abbrev HasReport : ℕ → List ℕ → Answer → Type 0
  HasReport n line answer = (d : Data) × (answer_text n answer ≡ report_text d) × Tells rules n line d × (IsSettledAnswer answer → IsSettledData d)

  entry_told : (n : ℕ) (line : List ℕ) (answer : Answer) → IsSmall n → line_kind_of line ≡ Within → AnswersEntry rules (without_return line) answer → HasReport n line answer
  entry_told n line answer small within (by_fault fault first) = (refused_data (entry_code fault) n, refl, of_fault (entry_code fault) small (inr (within, (fault, first, refl))), λ is. absurd is)
  entry_told n line answer small within (by_outcome id b outcome entry allowed fits) = (outcome_data id outcome, refl, of_board id b outcome (within, entry) allowed fits, outcome_settled id outcome)
  entry_told n line answer small within (by_want id b entry lacking) = (refused_data (codes "V3") n, refl, of_want id b small (within, entry) lacking, λ is. absurd is)

  line_told : (n : ℕ) (line : List ℕ) (answer : Answer) → IsSmall n → AnswersLine rules line answer → (line_kind_of line ≡ TooLong) ⊎ (line_kind_of line ≡ Within) → HasReport n line answer
  line_told n line answer small is (inl long) =
      let here : answer ≡ refused (codes "E12") = subst (λ (kind : LineKind). AnswersKind rules kind (without_return line) answer) long is in
      (refused_data (codes "E12") n, ap (answer_text n) here, of_fault (codes "E12") small (inl (long, refl)), λ settled. absurd (subst IsSettledAnswer here settled))
  line_told n line answer small is (inr within) = entry_told n line answer small within (subst (λ (kind : LineKind). AnswersKind rules kind (without_return line) answer) within is)

  line_over : (n : ℕ) (line : List ℕ) (answer : Answer) → AnswersLine rules line answer → is_passed_over (without_return line) ≡ true → answer_text n answer ≡ []
  line_over n line answer is over =
      let here : answer ≡ passed_over = subst (λ (kind : LineKind). AnswersKind rules kind (without_return line) answer) (kind_over line over) is in
      ap (answer_text n) here

  -- these values may be reported of these lines, one of each
  abbrev Told : List (ℕ × List ℕ) → List Data → Type 0
  Told [] [] = ⊤
  Told [] (d ∷ ds) = ⊥
  Told (q ∷ qs) [] = ⊥
  Told (q ∷ qs) (d ∷ ds) = (Tells rules q.0 q.1 d × (S → IsSettledData d)) × Told qs ds

  -- the text is that of such values
  abbrev AreTold : ℕ → List (List ℕ) → List ℕ → Type 0
  AreTold n lines text = (ds : List Data) × (lines_of text ≡ map compact_text ds) × Told (questions n lines) ds

  told_over : (n : ℕ) (line : List ℕ) (lines : List (List ℕ)) (first rest : List ℕ) → first ≡ [] → asks line ≡ false → AreTold (n + 1) lines rest → AreTold n (line ∷ lines) (first ++ rest)
  told_over n line lines first rest nothing no_report told = (told.0, ap (λ (text : List ℕ). lines_of (text ++ rest)) nothing ∙ told.1, rw no_report told.2)

  told_more : (n : ℕ) (line : List ℕ) (lines : List (List ℕ)) (answer : Answer) (rest : List ℕ) → HasReport n line answer → (S → IsSettledAnswer answer) → asks line ≡ true → AreTold (n + 1) lines rest → AreTold n (line ∷ lines) (answer_text n answer ++ rest)
  told_more n line lines answer rest one settled asking told = (
    one.0 ∷ told.0,
    ap (λ (text : List ℕ). lines_of (text ++ rest)) one.1 ∙ report_first one.0 rest ∙ ap (λ (ls : List (List ℕ)). compact_text one.0 ∷ ls) told.1,
    rw asking ((one.2, λ all. one.3 (settled all)), told.2),
  )

  told_next : (n : ℕ) (line : List ℕ) (lines : List (List ℕ)) (answer : Answer) (rest : List ℕ) → IsSmall n → AnswersLine rules line answer → (S → IsSettledAnswer answer) → AreTold (n + 1) lines rest → (over : Bool) → is_passed_over (without_return line) ≡ over → AreTold n (line ∷ lines) (answer_text n answer ++ rest)
  told_next n line lines answer rest small is settled told true e = told_over n line lines (answer_text n answer) rest (line_over n line answer is e) (ap not e) told
  told_next n line lines answer rest small is settled told false e = told_more n line lines answer rest (line_told n line answer small is (kind_asks line e)) settled (ap not e) told

  answers_told : (n : ℕ) (lines : List (List ℕ)) (answers : List Answer) → n + length lines ≤ 2 ^ 64 → AnswersLines rules lines answers → (S → AllByRecursion IsSettledAnswer answers) → AreTold n lines (answers_text n answers)
  answers_told n [] [] few are settled = ([], refl, tt)
  answers_told n [] (answer ∷ answers) few are settled = absurd are
  answers_told n (line ∷ lines) [] few are settled = absurd are
  answers_told n (line ∷ lines) (answer ∷ answers) few are settled =
      let rest = answers_told (n + 1) lines answers (omega arith) are.1 (λ all. (settled all).1) in
      told_next n line lines answer (answers_text (n + 1) answers) (omega arith) are.0 (λ all. (settled all).0) rest (is_passed_over (without_return line)) refl

  told_length : (qs : List (ℕ × List ℕ)) (ds : List Data) → Told qs ds → length (map compact_text ds) ≡ length qs
  told_length [] [] told = refl
  told_length [] (d ∷ ds) told = absurd told
  told_length (q ∷ qs) [] told = absurd told
  told_length (q ∷ qs) (d ∷ ds) told = ap suc (told_length qs ds told.1)

  -- the value at a place may be reported of the line at this place
  abbrev ToldAt : List (ℕ × List ℕ) → List Data → ℕ → Type 0
  ToldAt qs ds k = (q : ℕ × List ℕ) × (d : Data) × (slice_get qs k ≡ Some q) × (slice_get (map compact_text ds) k ≡ Some (compact_text d)) × Tells rules q.0 q.1 d × (S → IsSettledData d)

  told_at : (qs : List (ℕ × List ℕ)) (ds : List Data) (k : ℕ) → Told qs ds → k < length qs → ToldAt qs ds k
  told_at [] ds k told few = absurd (omega arith)
  told_at (q ∷ qs) [] k told few = absurd told
  told_at (q ∷ qs) (d ∷ ds) zero told few = (q, d, refl, refl, told.0.0, told.0.1)
  told_at (q ∷ qs) (d ∷ ds) (suc k) told few = told_at qs ds k told.1 (omega arith)

-- ---- what is read is what was reported

abbrev question_or : Option (ℕ × List ℕ) → ℕ × List ℕ
question_or None = (0, [])
question_or (Some q) = q

outcome_true : (task : Task) (id : List ℕ) (outcome : Ending) → EndAnswers task outcome → IsTrueOfBoard task id (outcome_data id outcome)
outcome_true task id (Optimal cost plan) answers = record {
  status = inl refl;
  named = refl;
  optimal = λ e. (cost, plan.items, refl, refl, answers.0, answers.1);
  unsolvable = λ e. let z = ap first_letter e in absurd (omega arith);
  bounded = λ e. let z = ap first_letter e in absurd (omega arith);
}
outcome_true task id (Unsolvable why) answers = record {
  status = inr (inl refl);
  named = refl;
  optimal = λ e. let z = ap first_letter e in absurd (omega arith);
  unsolvable = λ e. (answers.0, (why, refl, answers.1));
  bounded = λ e. let z = ap first_letter e in absurd (omega arith);
}
outcome_true task id (Bounded bound best cause) answers = record {
  status = inr (inr refl);
  named = refl;
  optimal = λ e. let z = ap first_letter e in absurd (omega arith);
  unsolvable = λ e. let z = ap first_letter e in absurd (omega arith);
  bounded = λ e. (bound, best_of best, cause, refl, refl, refl, answers.0.0, answers.0.3, answers.0.4);
}

-- ---- what a true report says of plans

pub reported_least : OptimalReportsAreLeast
reported_least task id name cost plan true_of =
    let says = true_of.optimal refl in
    let costs : cost ≡ says.0 = ap number_in says.2 in
    let plans : plan.items ≡ says.1 = sym (own_plan plan.items) ∙ ap (λ (o : Option Data). plan_of (text_in o)) says.3 ∙ own_plan says.1 in
    let leads : Leads task.rule task.start plan.items task.goal says.0 = subst (λ (moves : List Move). Leads task.rule task.start moves task.goal says.0) (sym plans) says.4 in
    subst (λ (c : ℕ). Leads task.rule task.start plan.items task.goal c × IsLeast task.rule task.start task.goal c) (sym costs) (leads, says.5)

pub reported_none : UnsolvableReportsHaveNoPlan
reported_none task id name why true_of = (true_of.unsolvable refl).0

-- a reason with the word of an allowed one is allowed
allowed_why : (task : Task) (why why' : Why) → why_word why ≡ why_word why' → AllowsWhy task why' → AllowsWhy task why
allowed_why task Parity Parity e allowed = allowed
allowed_why task Parity Exhausted e allowed = let z = ap (λ (word : List ℕ). get_or word 0 0) e in absurd (omega arith)
allowed_why task Exhausted why' e allowed = tt

pub reported_why : ReasonsAreTrue
reported_why task id name why true_of = let says = (true_of.unsolvable refl).1 in allowed_why task why says.0 (ap text_in says.1) says.2

pub reported_bound : BoundedReportsAreBelow
reported_bound task id name bound best cause true_of =
    let says = true_of.bounded refl in
    let bounds : bound ≡ says.0 = ap number_in says.3 in
    subst (NothingBelow task.rule task.start task.goal) (sym bounds) says.6

pub reported_best : BestPlansLead
reported_best task id name bound cost plan cause true_of =
    let says = true_of.bounded refl in
    let best : Option (ℕ × List Move) = Some (cost, plan.items) in
    let bounds : bound ≡ says.0 = ap number_in says.3 in
    let plans : best ≡ says.1 = sym (own_best best) ∙ ap (λ (o : Option Data). best_read (data_or o)) says.4 ∙ own_best says.1 in
    let leads : IsBestPlan task says.0 best = subst (λ (it : Option (ℕ × List Move)). IsBestPlan task says.0 it) (sym plans) says.7 in
    subst (λ (c : ℕ). IsBestPlan task c best) (sym bounds) leads

-- a cause with the word of an allowed one is allowed
allowed_cause : (bound : ℕ) (cause cause' : Cause) → cause_word cause ≡ cause_word cause' → AllowsCause bound cause' → AllowsCause bound cause
allowed_cause bound Limit cause' e allowed = tt
allowed_cause bound (Memory want) cause' e allowed = tt
allowed_cause bound Start cause' e allowed = tt
allowed_cause bound Cut cause' e allowed = tt
allowed_cause bound Cost Cost e allowed = allowed
allowed_cause bound Cost Limit e allowed = let z = ap (λ (word : List ℕ). get_or word 0 0) e in absurd (omega arith)
allowed_cause bound Cost (Memory want) e allowed = let z = ap (λ (word : List ℕ). get_or word 0 0) e in absurd (omega arith)
allowed_cause bound Cost Start e allowed = let z = ap (λ (word : List ℕ). get_or word 0 0) e in absurd (omega arith)
allowed_cause bound Cost Cut e allowed = let z = ap (λ (word : List ℕ). get_or word 1 0) e in absurd (omega arith)

pub reported_cause : CausesAreTrue
reported_cause task id name bound best cause true_of =
    let says = true_of.bounded refl in
    let bounds : bound ≡ says.0 = ap number_in says.3 in
    allowed_cause bound cause says.2 (ap text_in says.5) (subst (λ (c : ℕ). AllowsCause c says.2) (sym bounds) says.8)

pub reported_name : ReportsAreNamed
reported_name task id name (Optimal cost plan) true_of = ap text_in true_of.named
reported_name task id name (Unsolvable why) true_of = ap text_in true_of.named
reported_name task id name (Bounded bound best cause) true_of = ap text_in true_of.named

-- ---- what is taken from an output that tells the truth

abbrev IsOneOfThree : Data → Type 0
IsOneOfThree d = HasStatus d (codes "optimal") ⊎ HasStatus d (codes "unsolvable") ⊎ HasStatus d (codes "bounded")

pub says_one : BoardsAreAnswered
says_one task id d true_of = of_status true_of.status
  where
    of_status : IsOneOfThree d → SaysLeast task d ⊎ SaysNone task d ⊎ SaysBound task d
    of_status (inl e) = inl (true_of.optimal e)
    of_status (inr (inl e)) = inr (inl (true_of.unsolvable e))
    of_status (inr (inr e)) = inr (inr (true_of.bounded e))

not_refused : (code : List ℕ) (m : ℕ) → ¬ IsOneOfThree (refused_data code m)
not_refused code m (inl e) = let z = ap first_letter e in absurd (omega arith)
not_refused code m (inr (inl e)) = let z = ap first_letter e in absurd (omega arith)
not_refused code m (inr (inr e)) = let z = ap first_letter e in absurd (omega arith)

not_bounded : (id : List ℕ) (bound : ℕ) (best : Option (ℕ × Vec Move Global)) (cause : Cause) → ¬ IsSettledData (outcome_data id (Bounded bound best cause))
not_bounded id bound best cause (inl e) = let z = ap first_letter e in absurd (omega arith)
not_bounded id bound best cause (inr e) = let z = ap first_letter e in absurd (omega arith)

not_settled : (code : List ℕ) (m : ℕ) → ¬ IsSettledData (refused_data code m)
not_settled code m (inl e) = not_refused code m (inl e)
not_settled code m (inr e) = not_refused code m (inr (inl e))

pub none_refused : DecidedLinesAreAccepted
none_refused output k m code all seen = not_settled code m (all k (refused_data code m) seen)

pub none_bounded : DecidedLinesAreSettled
none_bounded output k bound id best cause all seen = not_bounded id bound best cause (all k (outcome_data id (Bounded bound best cause)) seen)

pub refused_board : (rules : Rules) → RefusedBoardsLackMemory rules
refused_board rules lines output k n m line id code b told asked names seen = of_reply (told.named k n line id b (refused_data code m) asked names seen)
  where
    of_reply : IsTrueOfBoard (rules.task b) id (refused_data code m) ⊎ SaysRefused (refused_data code m) (codes "V3") n × rules.allows b None → (code ≡ codes "V3") × (m ≡ n) × rules.allows b None
    of_reply (inl true_of) = absurd (not_refused code m true_of.status)
    of_reply (inr (says, lacking)) = (ap text_in says.1, ap number_in says.2, lacking)

pub refused_line : (rules : Rules) → RefusedLinesAreFaulty rules
refused_line rules lines output k n m line code fault told asked faulty seen =
    let says = told.unnamed k n line (refused_data code m) asked (λ id b names. no_fault rules.grid line id fault b names faulty) seen in
    (ap text_in says.2.1 ∙ same_code rules.grid line says.0 fault says.1 faulty, ap number_in says.2.2)

-- the report of an ending isn't the report of a refused line
pub no_refusal : (name : List ℕ) (ending : Ending) → ¬ HasStatus (outcome_data name ending) (codes "refused")
no_refusal name (Optimal cost plan) e = let z = ap first_letter e in absurd (omega arith)
no_refusal name (Unsolvable why) e = let z = ap first_letter e in absurd (omega arith)
no_refusal name (Bounded bound best cause) e = let z = ap first_letter e in absurd (omega arith)

pub board_told : (rules : Rules) → AnsweredBoardsAreTold rules
board_told rules lines output k n line id name b ending told asked names seen = of_reply (told.named k n line id b (outcome_data name ending) asked names seen)
  where
    of_reply : IsTrueOfBoard (rules.task b) id (outcome_data name ending) ⊎ SaysRefused (outcome_data name ending) (codes "V3") n × rules.allows b None → IsTrueOfBoard (rules.task b) id (outcome_data name ending)
    of_reply (inl true_of) = true_of
    of_reply (inr (says, lacking)) = absurd (no_refusal name ending says.0)

pub no_ending : (rules : Rules) → FaultyLinesHaveNoEnding rules
no_ending rules lines output k n line fault name ending told asked faulty seen =
    let says = told.unnamed k n line (outcome_data name ending) asked (λ id b names. no_fault rules.grid line id fault b names faulty) seen in
    no_refusal name ending says.2.0

pub passed_counted : LinesPassedOverAreCounted
passed_counted passed line over asking = rw (over, asking) refl

pub line_read : (rules : Rules) → OutputLinesAreRead rules
line_read rules lines output k line told at =
    let reply = told.json k (slice_get_within (lines_of output) k line at) in
    let same : reply.1.0 ≡ line = ap text_or (sym reply.1.1 ∙ at) in
    (reply.0, subst (λ (l : List ℕ). Reads l reply.0) same reply.1.2)

pub silence : (rules : Rules) → SilenceIsNoTruth rules
silence rules line asking told =
    let one : length (questions 1 (line ∷ [])) ≡ 1 = rw asking refl in
    absurd (omega (arith, told.one_each, one))

module _ (rules : Rules) (n : ℕ) (id : List ℕ) (b : BoardModel) where
  named_true : IsTruthful rules → (line : List ℕ) (d : Data) → Names rules.grid line id b → Tells rules n line d → IsTrueOfBoard (rules.task b) id d ⊎ SaysRefused d (codes "V3") n × rules.allows b None
  named_true truthful line d names (of_fault code small fault) = absurd (no_fault rules.grid line id code b names fault)
  named_true truthful line d names (of_want id' b' small names' lacking) =
      inr ((refl, refl, refl), subst (λ (p : BoardModel). rules.allows p None) (same_name rules.grid line id id' b b' names names').1 lacking)
  named_true truthful line d names (of_board id' b' outcome names' allowed small) =
      let same = same_name rules.grid line id id' b b' names names' in
      let answers : EndAnswers (rules.task b) outcome = subst (λ (p : BoardModel). EndAnswers (rules.task p) outcome) same.1 (truthful b' outcome allowed) in
      inl (subst (λ (name : List ℕ). IsTrueOfBoard (rules.task b) id (outcome_data name outcome)) (sym same.0) (outcome_true (rules.task b) id outcome answers))

module _ (rules : Rules) where
  unnamed_true : (n : ℕ) (line : List ℕ) (d : Data) → ((id : List ℕ) (b : BoardModel) → ¬ Names rules.grid line id b) → Tells rules n line d → (code : List ℕ) × HasFault rules.grid line code × SaysRefused d code n
  unnamed_true n line d none (of_fault code small fault) = (code, fault, (refl, refl, refl))
  unnamed_true n line d none (of_want id b small names lacking) = absurd (none id b names)
  unnamed_true n line d none (of_board id b outcome names allowed small) = absurd (none id b names)

-- what is reported, as it is read
module _ (rules : Rules) (S : Type 0) (lines : List (List ℕ)) (output : List ℕ) (told : AreTold rules S 1 lines output) where
  as_many : length (lines_of output) ≡ length (questions 1 lines)
  as_many = ap length told.1 ∙ told_length rules S (questions 1 lines) told.0 told.2

  -- the value that is read at a place is the one that was reported there
  same_value : (k : ℕ) (d : Data) (at : ToldAt rules S (questions 1 lines) told.0 k) → IsReply output k d → at.1 ≡ d
  same_value k d at seen =
      let text : compact_text at.1 ≡ seen.0 = ap text_or (sym at.3 ∙ sym (ap (λ (ls : List (List ℕ)). slice_get ls k) told.1) ∙ seen.1) in
      ap data_or (sym (report_read at.1 (is_report rules S at.0.0 at.0.1 at.1 at.4)) ∙ ap read text ∙ seen.2)

  reply_told : (k n : ℕ) (line : List ℕ) (d : Data) → IsQuestion lines k n line → IsReply output k d → Tells rules n line d
  reply_told k n line d asked seen =
      let at = told_at rules S (questions 1 lines) told.0 k told.2 (slice_get_within (questions 1 lines) k (n, line) asked) in
      let question : at.0 ≡ (n, line) = ap question_or (sym at.2 ∙ asked) in
      subst (λ (e : Data). Tells rules n line e) (same_value k d at seen) (subst (λ (q : ℕ × List ℕ). Tells rules q.0 q.1 at.1) question at.4)

  reply_settled : S → AreAllDecided output
  reply_settled all k d seen =
      let few : k < length (questions 1 lines) = omega (arith, as_many, slice_get_within (lines_of output) k seen.0 seen.1) in
      let at = told_at rules S (questions 1 lines) told.0 k told.2 few in
      subst IsSettledData (same_value k d at seen) (at.5 all)

  some_reply : (k : ℕ) → k < length (lines_of output) → (d : Data) × IsReply output k d
  some_reply k few =
      let at = told_at rules S (questions 1 lines) told.0 k told.2 (omega (arith, as_many)) in
      (at.1, (compact_text at.1, ap (λ (ls : List (List ℕ)). slice_get ls k) told.1 ∙ at.3, report_read at.1 (is_report rules S at.0.0 at.0.1 at.1 at.4)))

-- ---- counts

abbrev pub is_open : Summary → ℕ
is_open counts = counts.bounded + counts.refused

-- no count falls
grows : (counts : Summary) (answers : List Answer) → is_open counts ≤ is_open (with_answers counts answers)
grows counts [] = omega arith
grows counts (answer ∷ answers) = omega (arith, once counts answer, grows (with_answer counts answer) answers)
  where
    once : (counts : Summary) (answer : Answer) → is_open counts ≤ is_open (with_answer counts answer)
    once counts passed_over = omega arith
    once counts (refused code) = omega arith
    once counts (answered id (Optimal cost plan)) = omega arith
    once counts (answered id (Unsolvable why)) = omega arith
    once counts (answered id (Bounded bound best cause)) = omega arith

-- where none is bounded or refused, all are settled
none_open : (counts : Summary) (answers : List Answer) → is_open (with_answers counts answers) ≡ 0 → AllByRecursion IsSettledAnswer answers
none_open counts [] none = tt
none_open counts (answer ∷ answers) none = (first answer (omega (arith, none, grows (with_answer counts answer) answers)), none_open (with_answer counts answer) answers none)
  where
    first : (answer : Answer) → is_open (with_answer counts answer) ≡ 0 → IsSettledAnswer answer
    first passed_over e = tt
    first (refused code) e = absurd (omega arith)
    first (answered id (Optimal cost plan)) e = tt
    first (answered id (Unsolvable why)) e = tt
    first (answered id (Bounded bound best cause)) e = absurd (omega arith)

both : (a b : Bool) → cond {A = ℕ} (a && b) 0 1 ≡ 0 → (a ≡ true) × (b ≡ true)
both true true e = (refl, refl)
both true false e = absurd (omega arith)
both false b e = absurd (omega arith)

status_open : (m n : ℕ) → cond {A = ℕ} (m == 0 && n == 0) 0 1 ≡ 0 → m + n ≡ 0
status_open m n e =
    let zeros = both (m == 0) (n == 0) e in
    let m_is : m ≡ 0 = eqb-true m 0 zeros.0 in
    let n_is : n ≡ 0 = eqb-true n 0 zeros.1 in
    omega (arith, m_is, n_is)

-- ---- the theorem

module _ (rules : Rules) where
  pub truth : IsTruthful rules → (lines : List (List ℕ)) (answers : List Answer) → length lines < 2 ^ 64 → AnswersLines rules lines answers → TellsTheTruth rules lines (answers_text 1 answers)
  truth truthful lines answers few are =
      let output = answers_text 1 answers in
      let told = answers_told rules ⊥ 1 lines answers (omega arith) are (λ none. absurd none) in
      record {
        one_each = as_many rules ⊥ lines output told;
        json = some_reply rules ⊥ lines output told;
        named = λ k n line id b d asked names seen. named_true rules n id b truthful line d names (reply_told rules ⊥ lines output told k n line d asked seen);
        unnamed = λ k n line d asked none seen. unnamed_true rules n line d none (reply_told rules ⊥ lines output told k n line d asked seen);
      }

  pub settled : (lines : List (List ℕ)) (answers : List Answer) → length lines < 2 ^ 64 → AnswersLines rules lines answers → status_of_counts (with_answers no_lines answers) ≡ 0 → AreAllDecided (answers_text 1 answers)
  settled lines answers few are fine =
      let counts = with_answers no_lines answers in
      let all = none_open no_lines answers (status_open counts.bounded counts.refused fine) in
      let told = answers_told rules ⊤ 1 lines answers (omega arith) are (λ any. all) in
      reply_settled rules ⊤ lines (answers_text 1 answers) told tt
