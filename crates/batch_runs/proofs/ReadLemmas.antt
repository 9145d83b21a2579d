-- A report is read back from its text, and from it what it was made of.
use Rattle.std.proofs.Common.{◌≡◌, ℕ, ◌≤◌, List, [], ◌∷◌, Option, None, Some, option_and_then, refl, sym, ap, ◌∙◌, arith, append-nil, get_or, subst, codes}
use Rattle.std.proofs.lemmas.List.{append_cancel_right}
use Rattle.json.specs.Token.{Token}
use Rattle.json.specs.Lex.{tokens}
use Rattle.json.specs.Json as json
use Rattle.json.specs.Tree as tree
use Rattle.json.proofs.Printed.Decimals.{IsNumber-decimal}
use Rattle.json.proofs.Printed.Tokens.{tokens-print}
use Rattle.json.proofs.Printed.Trees.{value-json_tokens, ArePrintable-json_tokens}
use Rattle.serde_json.specs.Data.{Data, null, boolean, number, unsigned, string, array, object, member, no_members}
use Rattle.serde_json.specs.Read.{read, of_json, max_depth}
use Rattle.serde_json.specs.Written.{compact_text, outline}
use Rattle.serde_json.proofs.Numbers.{number_of-decimal}
use Rattle.serde_json.proofs.Texts.{print-outline}
use Rattle.board.specs.declared.moves.Move.{Move}
use Rattle.outcomes.specs.Outcomes.{best_of}
use Rattle.outcomes.specs.declared.outcome.Ending.{Ending}
use Rattle.outcomes.specs.declared.outcome.Ending.TheVariants.{Optimal, Unsolvable, Bounded}
use Rattle.batch_runs.specs.Reports.{outcome_data, refused_data, accepted_data, accepted_bound_data, refused_certificate_data, report_text, best_data, letters_of}
use Rattle.batch_runs.specs.ReportReadings.IsReport.{of_outcome, of_line, of_cost, of_bound, of_certificate}
use Rattle.batch_runs.specs.ReportReadings.{IsSmall, HasSmallNumbers, IsSmallBest, IsReport, SaySame}
use Rattle.std.specs.Prelude.{unwrap_or}
use Rattle.serde_json.specs.Find.{get, as_str, as_number, as_u64}
use Rattle.board.specs.Letters.{letter_of, move_of_letter}
use Rattle.board.specs.declared.moves.Move.TheVariants.{U, L, R, D}
use Rattle.outcomes.specs.Words.{why_word, cause_word}
use Rattle.outcomes.specs.declared.outcome.Why.{Why}
use Rattle.outcomes.specs.declared.outcome.Why.TheVariants.{Parity, Exhausted}
use Rattle.batch_runs.specs.ReportReadings.SaySame.{optimal, unsolvable, bounded}

abbrev whole : Option (json.Json × List Token) → Option Data
whole o = option_and_then of_json (option_and_then (λ p. json.if_last p.0 p.1) o)

-- the data has the numbers, the depth and the order of keys that it needs to be read back
record IsReadable (d : Data) : Type 0 where
  pub numbers : tree.HasNumbers (outline d)
  pub shallow : tree.depth (outline d) ≤ max_depth
  pub same : of_json (outline d) ≡ Some d

read_text : (d : Data) → IsReadable d → read (compact_text d) ≡ Some d
read_text d h =
    let printed : tokens (compact_text d) ≡ tree.json_tokens (outline d) = ap tokens (sym (print-outline d)) ∙ tokens-print (tree.json_tokens (outline d)) (ArePrintable-json_tokens (outline d) h.numbers) in
    ap whole (ap (json.value max_depth) (printed ∙ sym (append-nil (tree.json_tokens (outline d)))) ∙ value-json_tokens (outline d) max_depth [] h.shallow) ∙ h.same

best_numbers : (best : Option (ℕ × List Move)) → IsSmallBest best → tree.HasNumbers (outline (best_data best))
best_numbers None h = tt
best_numbers (Some best) h = (IsNumber-decimal best.0 h, (tt, tt))

best_shallow : (best : Option (ℕ × List Move)) → tree.depth (outline (best_data best)) ≤ 1
best_shallow None = omega arith
best_shallow (Some best) = omega arith

best_same : (best : Option (ℕ × List Move)) → IsSmallBest best → of_json (outline (best_data best)) ≡ Some (best_data best)
best_same None h = refl
best_same (Some best) h = rw (number_of-decimal best.0 h) refl

outcome_readable : (id : List ℕ) (outcome : Ending) → HasSmallNumbers outcome → IsReadable (outcome_data id outcome)
outcome_readable id (Optimal cost plan) h =
    record { numbers = (IsNumber-decimal cost h, (tt, (tt, (tt, tt)))); shallow = omega arith; same = rw (number_of-decimal cost h) refl }
outcome_readable id (Unsolvable why) h = record { numbers = (tt, (tt, (tt, tt))); shallow = omega arith; same = refl }
outcome_readable id (Bounded bound best cause) h =
    record {
      numbers = (best_numbers (best_of best) h.1, (IsNumber-decimal bound h.0, (tt, (tt, (tt, tt)))));
      shallow = omega (arith, best_shallow (best_of best));
      same = rw (best_same (best_of best) h.1, number_of-decimal bound h.0) refl;
    }

refused_readable : (code : List ℕ) (line : ℕ) → IsSmall line → IsReadable (refused_data code line)
refused_readable code line h = record { numbers = (tt, (IsNumber-decimal line h, (tt, tt))); shallow = omega arith; same = rw (number_of-decimal line h) refl }

accepted_readable : (cost : ℕ) → IsSmall cost → IsReadable (accepted_data cost)
accepted_readable cost h = record { numbers = (IsNumber-decimal cost h, (tt, tt)); shallow = omega arith; same = rw (number_of-decimal cost h) refl }

bound_readable : (bound : ℕ) → IsSmall bound → IsReadable (accepted_bound_data bound)
bound_readable bound h = record { numbers = (IsNumber-decimal bound h, (tt, tt)); shallow = omega arith; same = rw (number_of-decimal bound h) refl }

refused_certificate_readable : (code : List ℕ) → IsReadable (refused_certificate_data code)
refused_certificate_readable code = record { numbers = (tt, (tt, tt)); shallow = omega arith; same = refl }

readable : (d : Data) → IsReport d → IsReadable d
readable d (of_outcome id outcome small) = outcome_readable id outcome small
readable d (of_line code line small) = refused_readable code line small
readable d (of_cost cost small) = accepted_readable cost small
readable d (of_bound bound small) = bound_readable bound small
readable d (of_certificate code) = refused_certificate_readable code

pub report_read : (d : Data) → IsReport d → read (compact_text d) ≡ Some d
report_read d is = read_text d (readable d is)

abbrev pub data_or : Option Data → Data
data_or None = null
data_or (Some d) = d

pub one_thing : (d e : Data) → IsReport d → IsReport e → report_text d ≡ report_text e → d ≡ e
one_thing d e first second same =
    let texts : compact_text d ≡ compact_text e = append_cancel_right (compact_text d) (compact_text e) (10 ∷ []) same in
    ap data_or (sym (report_read d first) ∙ ap read texts ∙ report_read e second)

-- ---- what a report was made of

-- the text of a value
abbrev pub text_in : Option Data → List ℕ
text_in o = unwrap_or (option_and_then as_str o) []

-- the number of a value
abbrev pub number_in : Option Data → ℕ
number_in o = unwrap_or (option_and_then as_u64 (option_and_then as_number o)) 0

abbrev pub first_letter : Option Data → ℕ
first_letter o = get_or (text_in o) 0 0

-- the text under a key
abbrev pub text_at : List ℕ → Data → List ℕ
text_at key d = text_in (get key d)

-- the number under a key
abbrev number_at : List ℕ → Data → ℕ
number_at key d = number_in (get key d)

-- ---- plans

abbrev pub plan_of : List ℕ → List Move
plan_of [] = []
plan_of (letter ∷ letters) = unwrap_or (move_of_letter letter) U ∷ plan_of letters

own_move : (m : Move) → unwrap_or (move_of_letter (letter_of m)) U ≡ m
own_move U = refl
own_move L = refl
own_move R = refl
own_move D = refl

pub own_plan : (plan : List Move) → plan_of (letters_of plan) ≡ plan
own_plan [] = refl
own_plan (m ∷ plan) = (λ i. own_move m i ∷ own_plan plan i)

abbrev pub best_read : Data → Option (ℕ × List Move)
best_read null = None
best_read (boolean b) = None
best_read (number n) = None
best_read (string s) = None
best_read (array ds) = None
best_read (object ms) = Some (number_at (codes "cost") (object ms), plan_of (text_at (codes "plan") (object ms)))

pub own_best : (best : Option (ℕ × List Move)) → best_read (best_data best) ≡ best
own_best None = refl
own_best (Some best) = ap (λ (plan : List Move). Some (best.0, plan)) (own_plan best.1)

-- ---- outcomes

abbrev status_letter : Data → ℕ
status_letter d = first_letter (get (codes "status") d)

same_why : (why why' : Why) → why_word why ≡ why_word why' → why ≡ why'
same_why Parity Parity e = refl
same_why Parity Exhausted e = let z = ap (λ (word : List ℕ). get_or word 0 0) e in absurd (omega arith)
same_why Exhausted Parity e = let z = ap (λ (word : List ℕ). get_or word 0 0) e in absurd (omega arith)
same_why Exhausted Exhausted e = refl

say_same : (id id' : List ℕ) (outcome outcome' : Ending) → outcome_data id outcome ≡ outcome_data id' outcome' → SaySame outcome outcome'
say_same id id' (Optimal cost plan) (Optimal cost' plan') e =
    let costs : cost ≡ cost' = ap (number_at (codes "cost")) e in
    let plans : plan.items ≡ plan'.items = sym (own_plan plan.items) ∙ ap (λ (d : Data). plan_of (text_at (codes "plan") d)) e ∙ own_plan plan'.items in
    subst (λ (c : ℕ). SaySame (Optimal cost plan) (Optimal c plan')) costs (optimal cost plan plan' plans)
say_same id id' (Optimal cost plan) (Unsolvable why') e = let z = ap status_letter e in absurd (omega arith)
say_same id id' (Optimal cost plan) (Bounded bound' best' cause') e = let z = ap status_letter e in absurd (omega arith)
say_same id id' (Unsolvable why) (Optimal cost' plan') e = let z = ap status_letter e in absurd (omega arith)
say_same id id' (Unsolvable why) (Unsolvable why') e =
    let words : why_word why ≡ why_word why' = ap (text_at (codes "why")) e in
    subst (λ (w : Why). SaySame (Unsolvable why) (Unsolvable w)) (same_why why why' words) (unsolvable why)
say_same id id' (Unsolvable why) (Bounded bound' best' cause') e = let z = ap status_letter e in absurd (omega arith)
say_same id id' (Bounded bound best cause) (Optimal cost' plan') e = let z = ap status_letter e in absurd (omega arith)
say_same id id' (Bounded bound best cause) (Unsolvable why') e = let z = ap status_letter e in absurd (omega arith)
say_same id id' (Bounded bound best cause) (Bounded bound' best' cause') e =
    let bounds : bound ≡ bound' = ap (number_at (codes "bound")) e in
    let bests : best_of best ≡ best_of best' = sym (own_best (best_of best)) ∙ ap (λ (d : Data). best_read (data_or (get (codes "best") d))) e ∙ own_best (best_of best') in
    let causes : cause_word cause ≡ cause_word cause' = ap (text_at (codes "cause")) e in
    subst (λ (c : ℕ). SaySame (Bounded bound best cause) (Bounded c best' cause')) bounds (bounded bound best best' cause cause' bests causes)

pub told_alike : (id : List ℕ) (outcome outcome' : Ending) → SaySame outcome outcome' → outcome_data id outcome ≡ outcome_data id outcome'
told_alike id outcome outcome' (optimal cost plan plan' plans) =
    ap (λ (moves : List Move). object (member (codes "cost") (number (unsigned cost)) (member (codes "id") (string id) (member (codes "plan") (string (letters_of moves)) (member (codes "status") (string (codes "optimal")) no_members))))) plans
told_alike id outcome outcome' (unsolvable why) = refl
told_alike id outcome outcome' (bounded bound best best' cause cause' bests causes) = λ i.
    object (member (codes "best") (best_data (bests i)) (member (codes "bound") (number (unsigned bound)) (member (codes "cause") (string (causes i)) (member (codes "id") (string id) (member (codes "status") (string (codes "bounded")) no_members)))))

-- the id under its key is that of the report
pub own_id : (id : List ℕ) (outcome : Ending) → text_at (codes "id") (outcome_data id outcome) ≡ id
own_id id (Optimal cost plan) = refl
own_id id (Unsolvable why) = refl
own_id id (Bounded bound best cause) = refl

same_id : (id id' : List ℕ) (outcome outcome' : Ending) → outcome_data id outcome ≡ outcome_data id' outcome' → id ≡ id'
same_id id id' outcome outcome' e = sym (own_id id outcome) ∙ ap (text_at (codes "id")) e ∙ own_id id' outcome'

-- ---- the laws

pub outcome_told : (id id' : List ℕ) (outcome outcome' : Ending) → HasSmallNumbers outcome → HasSmallNumbers outcome' → report_text (outcome_data id outcome) ≡ report_text (outcome_data id' outcome') → (id ≡ id') × SaySame outcome outcome'
outcome_told id id' outcome outcome' small small' same =
    let e = one_thing (outcome_data id outcome) (outcome_data id' outcome') (of_outcome id outcome small) (of_outcome id' outcome' small') same in
    (same_id id id' outcome outcome' e, say_same id id' outcome outcome' e)

pub refusal_told : (code code' : List ℕ) (line line' : ℕ) → IsSmall line → IsSmall line' → report_text (refused_data code line) ≡ report_text (refused_data code' line') → (code ≡ code') × (line ≡ line')
refusal_told code code' line line' small small' same =
    let e = one_thing (refused_data code line) (refused_data code' line') (of_line code line small) (of_line code' line' small') same in
    (ap (text_at (codes "fault")) e, ap (number_at (codes "line")) e)

pub cost_told : (cost cost' : ℕ) → IsSmall cost → IsSmall cost' → report_text (accepted_data cost) ≡ report_text (accepted_data cost') → cost ≡ cost'
cost_told cost cost' small small' same = ap (number_at (codes "cost")) (one_thing (accepted_data cost) (accepted_data cost') (of_cost cost small) (of_cost cost' small') same)

pub bound_told : (bound bound' : ℕ) → IsSmall bound → IsSmall bound' → report_text (accepted_bound_data bound) ≡ report_text (accepted_bound_data bound') → bound ≡ bound'
bound_told bound bound' small small' same = ap (number_at (codes "bound")) (one_thing (accepted_bound_data bound) (accepted_bound_data bound') (of_bound bound small) (of_bound bound' small') same)

pub code_told : (code code' : List ℕ) → report_text (refused_certificate_data code) ≡ report_text (refused_certificate_data code') → code ≡ code'
code_told code code' same = ap (text_at (codes "fault")) (one_thing (refused_certificate_data code) (refused_certificate_data code') (of_certificate code) (of_certificate code') same)
