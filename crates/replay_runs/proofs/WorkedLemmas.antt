-- Worked lines, by their words.
use Rattle.std.proofs.Common.{◌≡◌, ◌≢◌, ℕ, List, [], ◌∷◌, length, get_or, Bool, true, false, ap, sym, ◌∙◌, subst, refl, arith, codes, if◌then◌else◌}
use Rattle.std.specs.Prelude.{nat_lt}
use Rattle.std.specs.Str.Parse.{digits_value}
use Rattle.outcomes.specs.declared.outcome.Want.TheVariants.{Stated, Refused}
use Rattle.world_model.specs.declared.steps.HaltCause.TheVariants.{Limit, Memory, Start}
use lib.Pointwise.{pointwise}
use lib.Dec.{eqb}
use Rattle.std.proofs.lemmas.Bool.{false≢true}
use Rattle.std.specs.List.{list_all}
use Rattle.std.specs.Char.{IsAsciiDigit, is_ascii_digit}
use Rattle.std.proofs.lemmas.List.Sums.{AllPass-from_list_all, list_all-from_AllPass}
use Rattle.world_model.specs.declared.steps.HaltCause.{HaltCause}
use Rattle.world_model.specs.declared.steps.Step.{Step}
use Rattle.world_model.specs.declared.steps.Step.TheVariants.{Expand, Settle, Send, Deliver, Draw, Announce, Grant, Rest, Halt}
use Rattle.batch_lines.specs.Words.{id_of, tile_words}
use Rattle.replay_runs.specs.Steps.{IsNumberWord, SaysCause, SayOne, SayTwo, SayHalt, SaysStep}
use Rattle.replay_runs.proofs.StepLemmas.{step_number}

-- a word of digits says its value
pub number_said : (word : List ℕ) (n : ℕ) → nat_lt 0 (length word) ≡ true → list_all is_ascii_digit word ≡ true → digits_value 10 word ≡ n → nat_lt (length word) 10 ≡ true → IsNumberWord word n
number_said word n some all value few = (record { some = λ none. let e : nat_lt 0 (length word) ≡ false = ap (λ (w : List ℕ). nat_lt 0 (length w)) none in absurd (false≢true (sym e ∙ some)); digits = λ k d l. digit (get_or word k d) (AllPass-from_list_all is_ascii_digit word all k d l); value = value }, grind arith)
  where
    digit : (b : ℕ) → is_ascii_digit b ≡ true → IsAsciiDigit b
    digit b e = grind arith

-- a word and a number that it says
pub one_said : (words : List (List ℕ)) (verb number : List ℕ) (k : ℕ) → words ≡ verb ∷ number ∷ [] → IsNumberWord number k → SayOne words verb k
one_said words verb number k are said = (number, are, said)

pub two_said : (words : List (List ℕ)) (verb first second : List ℕ) (k j : ℕ) → words ≡ verb ∷ first ∷ second ∷ [] → IsNumberWord first k → IsNumberWord second j → SayTwo words verb k j
two_said words verb first second k j are one two = (first, second, are, one, two)

pub halt_said : (words : List (List ℕ)) (number word : List ℕ) (k : ℕ) (cause : HaltCause) → words ≡ codes "halt" ∷ number ∷ word ∷ [] → IsNumberWord number k → SaysCause word cause → SayHalt words k cause
halt_said words number word k cause are said for = (number, word, are, said, for)

abbrev pub same : List ℕ → List ℕ → Bool
same word other = pointwise eqb word other

-- how many words a step has that begins with this verb, or 0
abbrev pub words_for : List ℕ → ℕ
words_for verb =
    if same verb (codes "expand") then 2 else if same verb (codes "settle") then 2 else if same verb (codes "draw") then 2 else if same verb (codes "announce") then 2 else if same verb (codes "grant") then 2 else if same verb (codes "rest") then 2
    else if same verb (codes "send") then 3 else if same verb (codes "deliver") then 3 else if same verb (codes "halt") then 3 else 0

one_count : (words : List (List ℕ)) (verb : List ℕ) (k : ℕ) → words_for verb ≡ 2 → SayOne words verb k → length words ≡ words_for (id_of words)
one_count words verb k two h = subst (λ (ws : List (List ℕ)). length ws ≡ words_for (id_of ws)) (sym h.1) (sym two)

two_count : (words : List (List ℕ)) (verb : List ℕ) (k j : ℕ) → words_for verb ≡ 3 → SayTwo words verb k j → length words ≡ words_for (id_of words)
two_count words verb k j three h = subst (λ (ws : List (List ℕ)). length ws ≡ words_for (id_of ws)) (sym h.2) (sym three)

-- a step has as many words as there are for its verb
pub step_count : (words : List (List ℕ)) (step : Step) → SaysStep words step → length words ≡ words_for (id_of words)
step_count words (Expand k) h = one_count words (codes "expand") k refl h
step_count words (Settle k) h = one_count words (codes "settle") k refl h
step_count words (Send k j) h = two_count words (codes "send") k j refl h
step_count words (Deliver k j) h = two_count words (codes "deliver") k j refl h
step_count words (Draw k) h = one_count words (codes "draw") k refl h
step_count words (Announce k) h = one_count words (codes "announce") k refl h
step_count words (Grant k) h = one_count words (codes "grant") k refl h
step_count words (Rest k) h = one_count words (codes "rest") k refl h
step_count words (Halt k cause) h = subst (λ (ws : List (List ℕ)). length ws ≡ words_for (id_of ws)) (sym h.2) refl

-- no step has another count of words
pub uncounted : (words : List (List ℕ)) → (length words ≢ words_for (id_of words)) → (step : Step) → ¬ SaysStep words step
uncounted words other step h = other (step_count words step h)

-- nor a second word that says no number
pub unnumbered : (words : List (List ℕ)) → ((k : ℕ) → ¬ IsNumberWord (id_of (tile_words words)) k) → (step : Step) → ¬ SaysStep words step
unnumbered words never step h = let said = step_number words step h in never said.0 said.1

pub too_many : (word : List ℕ) → nat_lt 9 (length word) ≡ true → (k : ℕ) → ¬ IsNumberWord word k
too_many word long k h = let few = h.1 in grind arith

pub no_digits : (word : List ℕ) → list_all is_ascii_digit word ≡ false → (k : ℕ) → ¬ IsNumberWord word k
no_digits word other k h = false≢true (sym other ∙ list_all-from_AllPass is_ascii_digit word (λ i d l. tested (get_or word i d) (h.0.digits i d l)))
  where
    tested : (b : ℕ) → IsAsciiDigit b → is_ascii_digit b ≡ true
    tested b within = grind arith

cause_unsaid : (word : List ℕ) (cause : HaltCause) → get_or word 0 0 ≡ 113 → ¬ SaysCause word cause
cause_unsaid word Limit head e = let f : ◌≡◌ {A = ℕ} 113 108 = sym head ∙ ap (λ (w : List ℕ). get_or w 0 0) e in omega arith
cause_unsaid word (Memory Stated) head e = let f : ◌≡◌ {A = ℕ} 113 109 = sym head ∙ ap (λ (w : List ℕ). get_or w 0 0) e in omega arith
cause_unsaid word (Memory (Refused refused)) head e = e
cause_unsaid word Start head e = let f : ◌≡◌ {A = ℕ} 113 115 = sym head ∙ ap (λ (w : List ℕ). get_or w 0 0) e in omega arith

-- a word with q in front is no cause, and a halt has no other verb
pub uncaused : (words : List (List ℕ)) → get_or (id_of words) 0 0 ≡ 104 → get_or (get_or words 2 []) 0 0 ≡ 113 → (step : Step) → ¬ SaysStep words step
uncaused words head third (Expand k) h = let f : ◌≡◌ {A = ℕ} 104 101 = sym head ∙ ap (λ (ws : List (List ℕ)). get_or (id_of ws) 0 0) h.1 in omega arith
uncaused words head third (Settle k) h = let f : ◌≡◌ {A = ℕ} 104 115 = sym head ∙ ap (λ (ws : List (List ℕ)). get_or (id_of ws) 0 0) h.1 in omega arith
uncaused words head third (Send k j) h = let f : ◌≡◌ {A = ℕ} 104 115 = sym head ∙ ap (λ (ws : List (List ℕ)). get_or (id_of ws) 0 0) h.2 in omega arith
uncaused words head third (Deliver k j) h = let f : ◌≡◌ {A = ℕ} 104 100 = sym head ∙ ap (λ (ws : List (List ℕ)). get_or (id_of ws) 0 0) h.2 in omega arith
uncaused words head third (Draw k) h = let f : ◌≡◌ {A = ℕ} 104 100 = sym head ∙ ap (λ (ws : List (List ℕ)). get_or (id_of ws) 0 0) h.1 in omega arith
uncaused words head third (Announce k) h = let f : ◌≡◌ {A = ℕ} 104 97 = sym head ∙ ap (λ (ws : List (List ℕ)). get_or (id_of ws) 0 0) h.1 in omega arith
uncaused words head third (Grant k) h = let f : ◌≡◌ {A = ℕ} 104 103 = sym head ∙ ap (λ (ws : List (List ℕ)). get_or (id_of ws) 0 0) h.1 in omega arith
uncaused words head third (Rest k) h = let f : ◌≡◌ {A = ℕ} 104 114 = sym head ∙ ap (λ (ws : List (List ℕ)). get_or (id_of ws) 0 0) h.1 in omega arith
uncaused words head third (Halt k cause) h = cause_unsaid h.1 cause (sym (ap (λ (ws : List (List ℕ)). get_or (get_or ws 2 []) 0 0) h.2) ∙ third) h.4
