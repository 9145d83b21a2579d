-- Weights that words say, and the first fault of these words.
use Rattle.std.proofs.Common.{◌≡◌, ◌≢◌, inl, inr, ℕ, suc, ◌<◌, ◌≤◌, Bool, true, false, List, [], ◌∷◌, length, take, get_or, Result, Ok, Err, Some, refl, sym, ap, subst, ◌∙◌, ⊎_elim, arith, length-take, if◌then◌else◌, codes}
use Rattle.std.specs.Prelude.{◌&&◌, ◌↔◌, All, IfOk, IsOk, IsErrOf, map, nat_lt, slice_get}
use Rattle.std.specs.List.{list_all}
use Rattle.std.specs.Char.{is_ascii_digit}
use Rattle.std.specs.Str.Parse.{digits_value}
use Rattle.std.proofs.lemmas.Bool.{cases_lt, lt-ltb}
use Rattle.std.proofs.lemmas.Bool.Decides.{nat_tests}
use Rattle.std.proofs.lemmas.List.{take_all, length-map, get_or-take}
use Rattle.std.proofs.lemmas.List.Elements.{All-get_or, All-from_get_or, All-head, All-tail}
use Rattle.std.proofs.lemmas.Option.{slice_get-get_or}
use Rattle.board.specs.Shapes.{ShapeModel, cell_count}
use Rattle.board.specs.Weights.{WeightsModel, AreWeights, listed_rule}
use Rattle.board.specs.Faults.{IsFirstZero, IsFirstWeightsFault}
use Rattle.board.specs.declared.faults.WeightsFault.{WeightsFault}
use Rattle.board.specs.declared.faults.WeightsFault.TheVariants.{WrongCount, WeightOutOfRange}
use Rattle.board.proofs.WeightLemmas.{rule_has_no_fault, one_fault}
use Rattle.batch_lines.specs.Words.{SpellsDecimal, SpellEach}
use Rattle.batch_lines.specs.Texts.{comma_words, SpellsWeight, SaysWeights, SaysCosts, weight_number}
use Rattle.batch_lines.specs.GroupFaults.{IsFirstWeightWord, IsFirstWeightFault, IsFirstCostsFault}
use Rattle.batch_lines.proofs.NumberLemmas.{digits_of, all_digits, number_at}

-- ---- the number of a word

parts_of_some : (all small : Bool) (value : ℕ) → 1 ≤ (if all && small then value else 0) → (all ≡ true) × (value ≡ if all && small then value else 0)
parts_of_some true true value some = (refl, refl)
parts_of_some true false value some = absurd (omega arith)
parts_of_some false small value some = absurd (omega arith)

number_stays : (all small : Bool) (value : ℕ) → small ≡ nat_lt value 256 → (if all && small then value else 0) < 256
number_stays true true value test = grind (arith, nat_tests)
number_stays true false value test = omega arith
number_stays false small value test = omega arith

number_high : (word : List ℕ) → weight_number word < 256
number_high word = number_stays (list_all is_ascii_digit word) (nat_lt (digits_value 10 word) 256) (digits_value 10 word) refl

-- a word whose number is not 0 spells that number, which is a weight
spells_number : (word : List ℕ) → 1 ≤ weight_number word → SpellsDecimal word (weight_number word)
spells_number word some =
    let parts = parts_of_some (list_all is_ascii_digit word) (nat_lt (digits_value 10 word) 256) (digits_value 10 word) some in
    record {
      some = λ none. let e = ap weight_number none in absurd (omega (arith, e, some));
      digits = digits_of word parts.0;
      value = parts.1;
    }

spells_weight : (word : List ℕ) → 1 ≤ weight_number word → SpellsWeight word
spells_weight word some = record {
  weight = weight_number word;
  spelled = spells_number word some;
  low = some;
  high = omega (arith, number_high word);
}

-- the number of a word that spells one below 256
number_spelled : (word : List ℕ) (n : ℕ) → SpellsDecimal word n → n < 256 → weight_number word ≡ n
number_spelled word n spells small =
    let all = all_digits word spells.digits in
    let below : nat_lt (digits_value 10 word) 256 ≡ true = lt-ltb (digits_value 10 word) 256 (omega (arith, spells.value, small)) in
    rw (all, below) spells.value

weight_some : (word : List ℕ) → SpellsWeight word → 1 ≤ weight_number word
weight_some word spells = omega (arith, spells.low, spells.high, number_spelled word spells.weight spells.spelled (omega (arith, spells.high)))

no_weight : (word : List ℕ) → ¬ SpellsWeight word → weight_number word ≡ 0
no_weight word none = ⊎_elim (λ (some : 0 < weight_number word). absurd (none (spells_weight word (omega arith)))) (λ (zero : weight_number word ≤ 0). omega arith) (cases_lt 0 (weight_number word))

-- ---- the first fault of words

first_word : (grid : ShapeModel) (words : List (List ℕ)) (place : ℕ) → IsFirstZero grid (map weight_number words) place → IsFirstWeightWord grid words place
first_word grid words place first =
    let size = length-map words weight_number in
    let taken = length-take place (map weight_number words) in
    record {
      one_each = sym size ∙ first.one_each;
      within = omega (arith, size, first.within);
      before = λ k word early at.
          let low = All-get_or (λ weight. 1 ≤ weight) (take place (map weight_number words)) k 0 (omega (arith, taken, first.within, early)) first.before in
          spells_weight word (omega (arith, low, get_or-take place (map weight_number words) k 0 early, number_at weight_number words k word at));
    }

first_zero : (grid : ShapeModel) (words : List (List ℕ)) (place : ℕ) (word : List ℕ) → IsFirstWeightWord grid words place → slice_get words place ≡ Some word → ¬ SpellsWeight word → IsFirstZero grid (map weight_number words) place
first_zero grid words place word first at none =
    let size = length-map words weight_number in
    record {
      one_each = size ∙ first.one_each;
      within = omega (arith, size, first.within);
      before = All-from_get_or (λ weight. 1 ≤ weight) (take place (map weight_number words)) 0 (λ k inside.
          let early : k < place = omega (arith, inside, length-take place (map weight_number words)) in
          let here = slice_get-get_or words k [] (omega (arith, early, first.within)) in
          let some = weight_some (get_or words k []) (first.before k (get_or words k []) early here) in
          omega (arith, some, get_or-take place (map weight_number words) k 0 early, number_at weight_number words k (get_or words k []) here));
      zero = number_at weight_number words place word at ∙ no_weight word none;
    }

-- the numbers and their words have the same first fault
same_fault : (grid : ShapeModel) (words : List (List ℕ)) (fault : WeightsFault) → IsFirstWeightsFault grid (map weight_number words) fault ↔ IsFirstWeightFault grid words fault
same_fault grid words WrongCount = (λ wrong e. wrong (length-map words weight_number ∙ e), λ wrong e. wrong (sym (length-map words weight_number) ∙ e))
same_fault grid words (WeightOutOfRange place) = (
  (λ first.
      let there = first_word grid words place first in
      let at = slice_get-get_or words place [] there.within in
      (get_or words place [], there, at, λ spells. omega (arith, weight_some (get_or words place []) spells, number_at weight_number words place (get_or words place []) at, first.zero))),
  (λ fault. first_zero grid words place fault.0 fault.1 fault.2 fault.3),
)

-- a surplus of words is a surplus of numbers
surplus : (grid : ShapeModel) (words : List (List ℕ)) → cell_count grid ≤ 25 → 26 < length words → (fault : WeightsFault) → IsFirstWeightsFault grid (map weight_number (take 26 words)) fault ↔ IsFirstWeightFault grid words fault
surplus grid words few more WrongCount = (λ wrong e. absurd (omega arith), λ wrong e. absurd (omega (arith, length-map (take 26 words) weight_number, length-take 26 words)))
surplus grid words few more (WeightOutOfRange place) = (λ first. absurd (let e = first.one_each in omega (arith, length-map (take 26 words) weight_number, length-take 26 words)), λ fault. absurd (let e = fault.1.one_each in omega arith))

-- the numbers that are read and all words have the same first fault
read_fault : (grid : ShapeModel) (words : List (List ℕ)) (numbers : List ℕ) → cell_count grid ≤ 25 → numbers ≡ map weight_number (take 26 words) → (fault : WeightsFault) → IsFirstWeightsFault grid numbers fault ↔ IsFirstWeightFault grid words fault
read_fault grid words numbers few read fault =
    subst (λ (ns : List ℕ). IsFirstWeightsFault grid ns fault ↔ IsFirstWeightFault grid words fault) (sym read)
    (⊎_elim
    (λ (more : 26 < length words). surplus grid words few more fault)
    (λ (all : length words ≤ 26). subst (λ (ws : List (List ℕ)). IsFirstWeightsFault grid (map weight_number ws) fault ↔ IsFirstWeightFault grid words fault) (sym (take_all 26 words all)) (same_fault grid words fault))
    (cases_lt 26 (length words)))

-- ---- the costs of a text

spell_each : (words : List (List ℕ)) → All (λ n. 1 ≤ n) (map weight_number words) → SpellEach words (map weight_number words)
spell_each [] low = tt
spell_each (word ∷ words) low =
    (spells_number word (All-head (λ n. 1 ≤ n) (weight_number word) (map weight_number words) low), spell_each words (All-tail (λ n. 1 ≤ n) (weight_number word) (map weight_number words) low))

-- words whose numbers are weights spell these weights
words_spell : (grid : ShapeModel) (words : List (List ℕ)) (numbers : List ℕ) → cell_count grid ≤ 25 → numbers ≡ map weight_number (take 26 words) → AreWeights (listed_rule grid numbers) → SpellEach words numbers
words_spell grid words numbers few read rule =
    let count : suc (length numbers) ≡ cell_count grid = rule.one_each in
    let all : length words ≤ 26 = omega (arith, count, ap length read, length-map (take 26 words) weight_number, length-take 26 words) in
    let same : numbers ≡ map weight_number words = read ∙ ap (λ (ws : List (List ℕ)). map weight_number ws) (take_all 26 words all) in
    let low : All (λ n. 1 ≤ n) numbers = All-from_get_or (λ n. 1 ≤ n) numbers 0 (λ k inside. rule.low (suc k) (omega arith) (omega (arith, inside, count))) in
    subst (λ (ns : List ℕ). SpellEach words ns) (sym same) (spell_each words (subst (λ (ns : List ℕ). All (λ n. 1 ≤ n) ns) same low))

-- the costs of the weights that are read are those of the text
pub weights_read : (grid : ShapeModel) (text numbers : List ℕ) (result : Result WeightsModel WeightsFault) → cell_count grid ≤ 25 → numbers ≡ map weight_number (take 26 (comma_words text)) → (IsOk result → AreWeights (listed_rule grid numbers)) → IfOk result (λ rule. rule ≡ listed_rule grid numbers) → IfOk result (SaysCosts grid text)
weights_read grid text numbers (Ok rule) few read accepted is =
    inr
    (inr
    (record {
      weights = numbers;
      spelled = words_spell grid (comma_words text) numbers few read (accepted refl);
      listed = is;
      sound = subst AreWeights (sym is) (accepted refl);
    }))
weights_read grid text numbers (Err fault) few read accepted is = tt

-- their fault is that of the text
pub weights_fault : (grid : ShapeModel) (text numbers : List ℕ) (result : Result WeightsModel WeightsFault) → cell_count grid ≤ 25 → numbers ≡ map weight_number (take 26 (comma_words text)) → text ≢ codes "unit" → text ≢ codes "face" → ((fault : WeightsFault) → IsErrOf result fault ↔ IsFirstWeightsFault grid numbers fault) → (fault : WeightsFault) → IsErrOf result fault ↔ IsFirstCostsFault grid text fault
weights_fault grid text numbers result few read no_unit no_face exact fault =
    let same = read_fault grid (comma_words text) numbers few read fault in
    ((λ is. (no_unit, no_face, same.0 ((exact fault).0 is))), (λ first. (exact fault).1 (same.1 first.2)))

-- ---- one thing is said

-- the weights that words spell are their numbers
weights_are : (words : List (List ℕ)) (ns : List ℕ) → SpellEach words ns → All (λ n. n < 256) ns → map weight_number words ≡ ns
weights_are [] [] spelled high = refl
weights_are [] (n ∷ ns) spelled high = absurd spelled
weights_are (word ∷ words) [] spelled high = absurd spelled
weights_are (word ∷ words) (n ∷ ns) spelled high =
    let first = number_spelled word n spelled.0 (All-head (λ n. n < 256) n ns high) in
    let others = weights_are words ns spelled.1 (All-tail (λ n. n < 256) n ns high) in
    ap (λ (m : ℕ). m ∷ map weight_number words) first ∙ ap (λ (ms : List ℕ). n ∷ ms) others

-- the costs are those of the numbers of its words
said_rule : (grid : ShapeModel) (text : List ℕ) (rule : WeightsModel) → SaysWeights grid text rule → rule ≡ listed_rule grid (map weight_number (comma_words text))
said_rule grid text rule said =
    let sound : AreWeights (listed_rule grid said.weights) = subst AreWeights said.listed said.sound in
    let count : suc (length said.weights) ≡ cell_count grid = sound.one_each in
    let high : All (λ n. n < 256) said.weights = All-from_get_or (λ n. n < 256) said.weights 0 (λ k inside. let low = sound.high (suc k) (omega (arith, inside, count)) in omega (arith, low)) in
    said.listed ∙ ap (listed_rule grid) (sym (weights_are (comma_words text) said.weights said.spelled high))

-- where the first word spells no number, words say no weights
no_weights : (grid : ShapeModel) (text word : List ℕ) (others : List (List ℕ)) (rule : WeightsModel) → comma_words text ≡ word ∷ others → ((n : ℕ) → ¬ SpellsDecimal word n) → SaysWeights grid text rule → ⊥
no_weights grid text word others rule words none said = no_number said.weights (subst (λ (ws : List (List ℕ)). SpellEach ws said.weights) words said.spelled)
  where
    no_number : (ns : List ℕ) → SpellEach (word ∷ others) ns → ⊥
    no_number [] spelled = absurd spelled
    no_number (n ∷ ns) spelled = none n spelled.0

unit_no_weights : (grid : ShapeModel) (text : List ℕ) (rule : WeightsModel) → text ≡ codes "unit" → SaysWeights grid text rule → ⊥
unit_no_weights grid text rule is = no_weights grid text (codes "unit") [] rule (ap comma_words is) (λ n spells. let digit = spells.digits 0 0 (omega arith) in omega (arith, digit))

face_no_weights : (grid : ShapeModel) (text : List ℕ) (rule : WeightsModel) → text ≡ codes "face" → SaysWeights grid text rule → ⊥
face_no_weights grid text rule is = no_weights grid text (codes "face") [] rule (ap comma_words is) (λ n spells. let digit = spells.digits 0 0 (omega arith) in omega (arith, digit))

unit_no_face : (text : List ℕ) → text ≡ codes "unit" → text ≡ codes "face" → ⊥
unit_no_face text unit face = let e = ap (λ (t : List ℕ). get_or t 0 0) (sym unit ∙ face) in omega (arith, e)

pub one_rule : (grid : ShapeModel) (text : List ℕ) (rule rule' : WeightsModel) → SaysCosts grid text rule → SaysCosts grid text rule' → rule' ≡ rule
one_rule grid text rule rule' (inl unit) (inl unit') = unit'.1 ∙ sym unit.1
one_rule grid text rule rule' (inl unit) (inr (inl face)) = absurd (unit_no_face text unit.0 face.0)
one_rule grid text rule rule' (inl unit) (inr (inr said)) = absurd (unit_no_weights grid text rule' unit.0 said)
one_rule grid text rule rule' (inr (inl face)) (inl unit) = absurd (unit_no_face text unit.0 face.0)
one_rule grid text rule rule' (inr (inl face)) (inr (inl face')) = face'.1 ∙ sym face.1
one_rule grid text rule rule' (inr (inl face)) (inr (inr said)) = absurd (face_no_weights grid text rule' face.0 said)
one_rule grid text rule rule' (inr (inr said)) (inl unit) = absurd (unit_no_weights grid text rule unit.0 said)
one_rule grid text rule rule' (inr (inr said)) (inr (inl face)) = absurd (face_no_weights grid text rule face.0 said)
one_rule grid text rule rule' (inr (inr said)) (inr (inr said')) = said_rule grid text rule' said' ∙ sym (said_rule grid text rule said)

pub no_costs_fault : (grid : ShapeModel) (text : List ℕ) (rule : WeightsModel) (fault : WeightsFault) → SaysCosts grid text rule → IsFirstCostsFault grid text fault → ⊥
no_costs_fault grid text rule fault (inl unit) first = first.0 unit.0
no_costs_fault grid text rule fault (inr (inl face)) first = first.1 face.0
no_costs_fault grid text rule fault (inr (inr said)) first =
    let sound : AreWeights (listed_rule grid (map weight_number (comma_words text))) = subst AreWeights (said_rule grid text rule said) said.sound in
    rule_has_no_fault grid (map weight_number (comma_words text)) sound fault ((same_fault grid (comma_words text) fault).1 first.2)

pub one_costs_fault : (grid : ShapeModel) (text : List ℕ) (fault fault' : WeightsFault) → IsFirstCostsFault grid text fault → IsFirstCostsFault grid text fault' → fault' ≡ fault
one_costs_fault grid text fault fault' first second =
    one_fault grid (map weight_number (comma_words text)) fault fault' ((same_fault grid (comma_words text) fault).1 first.2) ((same_fault grid (comma_words text) fault').1 second.2)
