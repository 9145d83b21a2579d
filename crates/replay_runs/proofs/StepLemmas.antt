-- Which steps the words of a line say.
use Rattle.std.proofs.Common.{◌≡◌, ◌≢◌, ◌↔◌, ◌<◌, ℕ, suc, List, [], ◌∷◌, length, get_or, Option, Some, None, ap, sym, ◌∙◌, subst, refl, arith, codes}
use Rattle.world_model.specs.declared.steps.HaltCause.{HaltCause}
use Rattle.world_model.specs.declared.steps.Step.{Step}
use Rattle.world_model.specs.declared.steps.Step.TheVariants.{Expand, Settle, Send, Deliver, Draw, Announce, Grant, Rest, Halt}
use Rattle.batch_lines.specs.Words.{words_of, id_of, tile_words}
use Rattle.batch_lines.proofs.WordLemmas.{words_none, first_and_others}
use Rattle.replay_runs.specs.Steps.{IsNumberWord, SaysCause, SayOne, SayTwo, SayHalt, SaysStep, IsAlone, IsPaired}

-- the word at a place, or none
abbrev word_at : List (List ℕ) → ℕ → List ℕ
word_at words k = get_or words k []

-- a word says one number
pub same_number : (word : List ℕ) (i k : ℕ) → IsNumberWord word i → IsNumberWord word k → k ≡ i
same_number word i k h said = sym said.0.value ∙ h.0.value

-- ---- a verb and a number

one_says : (words : List (List ℕ)) (verb first : List ℕ) (i : ℕ) (name : List ℕ) (k : ℕ) → words ≡ verb ∷ first ∷ [] → IsNumberWord first i → ((verb ≡ name) × (k ≡ i)) ↔ SayOne words name k
one_says words verb first i name k are said = (
  (λ h. (first, are ∙ ap (λ (v : List ℕ). v ∷ first ∷ []) h.0, subst (λ (n : ℕ). IsNumberWord first n) (sym h.1) said)),
  (λ h.
      let e : verb ∷ first ∷ [] ≡ name ∷ h.0 ∷ [] = sym are ∙ h.1 in
      let number : h.0 ≡ first = sym (ap (λ (ws : List (List ℕ)). word_at ws 1) e) in
      (ap id_of e, same_number first i k said (subst (λ (w : List ℕ). IsNumberWord w k) number h.2))),
)

not_two : (words : List (List ℕ)) (verb first : List ℕ) (name one two : List ℕ) → words ≡ verb ∷ first ∷ [] → ¬ (words ≡ name ∷ one ∷ two ∷ [])
not_two words verb first name one two are e = let same : ◌≡◌ {A = ℕ} 2 3 = sym (ap length are) ∙ ap length e in omega arith

pub alone_says : (words : List (List ℕ)) (verb first : List ℕ) (i : ℕ) → words ≡ verb ∷ first ∷ [] → IsNumberWord first i → (step : Step) → IsAlone verb i step ↔ SaysStep words step
alone_says words verb first i are said (Expand k) = one_says words verb first i (codes "expand") k are said
alone_says words verb first i are said (Settle k) = one_says words verb first i (codes "settle") k are said
alone_says words verb first i are said (Send k j) = (λ h. absurd h, λ h. absurd (not_two words verb first (codes "send") h.0 h.1 are h.2))
alone_says words verb first i are said (Deliver k j) = (λ h. absurd h, λ h. absurd (not_two words verb first (codes "deliver") h.0 h.1 are h.2))
alone_says words verb first i are said (Draw k) = one_says words verb first i (codes "draw") k are said
alone_says words verb first i are said (Announce k) = one_says words verb first i (codes "announce") k are said
alone_says words verb first i are said (Grant k) = one_says words verb first i (codes "grant") k are said
alone_says words verb first i are said (Rest k) = one_says words verb first i (codes "rest") k are said
alone_says words verb first i are said (Halt k cause) = (λ h. absurd h, λ h. absurd (not_two words verb first (codes "halt") h.0 h.1 are h.2))

-- ---- a verb, a number and a word

two_say : (words : List (List ℕ)) (verb first second : List ℕ) (i : ℕ) (name : List ℕ) (k j : ℕ) → words ≡ verb ∷ first ∷ second ∷ [] → IsNumberWord first i → ((verb ≡ name) × (k ≡ i) × IsNumberWord second j) ↔ SayTwo words name k j
two_say words verb first second i name k j are said = (
  (λ h. (first, second, are ∙ ap (λ (v : List ℕ). v ∷ first ∷ second ∷ []) h.0, subst (λ (n : ℕ). IsNumberWord first n) (sym h.1) said, h.2)),
  (λ h.
      let e : verb ∷ first ∷ second ∷ [] ≡ name ∷ h.0 ∷ h.1 ∷ [] = sym are ∙ h.2 in
      let one : h.0 ≡ first = sym (ap (λ (ws : List (List ℕ)). word_at ws 1) e) in
      let two : h.1 ≡ second = sym (ap (λ (ws : List (List ℕ)). word_at ws 2) e) in
      (ap id_of e, same_number first i k said (subst (λ (w : List ℕ). IsNumberWord w k) one h.3), subst (λ (w : List ℕ). IsNumberWord w j) two h.4)),
)

halt_says : (words : List (List ℕ)) (verb first second : List ℕ) (i k : ℕ) (cause : HaltCause) → words ≡ verb ∷ first ∷ second ∷ [] → IsNumberWord first i → ((verb ≡ codes "halt") × (k ≡ i) × SaysCause second cause) ↔ SayHalt words k cause
halt_says words verb first second i k cause are said = (
  (λ h. (first, second, are ∙ ap (λ (v : List ℕ). v ∷ first ∷ second ∷ []) h.0, subst (λ (n : ℕ). IsNumberWord first n) (sym h.1) said, h.2)),
  (λ h.
      let e : verb ∷ first ∷ second ∷ [] ≡ codes "halt" ∷ h.0 ∷ h.1 ∷ [] = sym are ∙ h.2 in
      let one : h.0 ≡ first = sym (ap (λ (ws : List (List ℕ)). word_at ws 1) e) in
      let two : h.1 ≡ second = sym (ap (λ (ws : List (List ℕ)). word_at ws 2) e) in
      (ap id_of e, same_number first i k said (subst (λ (w : List ℕ). IsNumberWord w k) one h.3), subst (λ (w : List ℕ). SaysCause w cause) two h.4)),
)

not_one : (words : List (List ℕ)) (verb first second : List ℕ) (name number : List ℕ) → words ≡ verb ∷ first ∷ second ∷ [] → ¬ (words ≡ name ∷ number ∷ [])
not_one words verb first second name number are e = let same : ◌≡◌ {A = ℕ} 3 2 = sym (ap length are) ∙ ap length e in omega arith

pub paired_says : (words : List (List ℕ)) (verb first second : List ℕ) (i : ℕ) → words ≡ verb ∷ first ∷ second ∷ [] → IsNumberWord first i → (step : Step) → IsPaired verb i second step ↔ SaysStep words step
paired_says words verb first second i are said (Expand k) = (λ h. absurd h, λ h. absurd (not_one words verb first second (codes "expand") h.0 are h.1))
paired_says words verb first second i are said (Settle k) = (λ h. absurd h, λ h. absurd (not_one words verb first second (codes "settle") h.0 are h.1))
paired_says words verb first second i are said (Send k j) = two_say words verb first second i (codes "send") k j are said
paired_says words verb first second i are said (Deliver k j) = two_say words verb first second i (codes "deliver") k j are said
paired_says words verb first second i are said (Draw k) = (λ h. absurd h, λ h. absurd (not_one words verb first second (codes "draw") h.0 are h.1))
paired_says words verb first second i are said (Announce k) = (λ h. absurd h, λ h. absurd (not_one words verb first second (codes "announce") h.0 are h.1))
paired_says words verb first second i are said (Grant k) = (λ h. absurd h, λ h. absurd (not_one words verb first second (codes "grant") h.0 are h.1))
paired_says words verb first second i are said (Rest k) = (λ h. absurd h, λ h. absurd (not_one words verb first second (codes "rest") h.0 are h.1))
paired_says words verb first second i are said (Halt k cause) = halt_says words verb first second i k cause are said

-- ---- the words of a text

one_number : (words : List (List ℕ)) (name : List ℕ) (k : ℕ) → SayOne words name k → IsNumberWord (id_of (tile_words words)) k
one_number words name k h = subst (λ (ws : List (List ℕ)). IsNumberWord (id_of (tile_words ws)) k) (sym h.1) h.2

two_number : (words : List (List ℕ)) (name : List ℕ) (k j : ℕ) → SayTwo words name k j → IsNumberWord (id_of (tile_words words)) k
two_number words name k j h = subst (λ (ws : List (List ℕ)). IsNumberWord (id_of (tile_words ws)) k) (sym h.2) h.3

-- the second word of a step says a number
pub step_number : (words : List (List ℕ)) (step : Step) → SaysStep words step → (k : ℕ) × IsNumberWord (id_of (tile_words words)) k
step_number words (Expand k) h = (k, one_number words (codes "expand") k h)
step_number words (Settle k) h = (k, one_number words (codes "settle") k h)
step_number words (Send k j) h = (k, two_number words (codes "send") k j h)
step_number words (Deliver k j) h = (k, two_number words (codes "deliver") k j h)
step_number words (Draw k) h = (k, one_number words (codes "draw") k h)
step_number words (Announce k) h = (k, one_number words (codes "announce") k h)
step_number words (Grant k) h = (k, one_number words (codes "grant") k h)
step_number words (Rest k) h = (k, one_number words (codes "rest") k h)
step_number words (Halt k cause) h = (k, subst (λ (ws : List (List ℕ)). IsNumberWord (id_of (tile_words ws)) k) (sym h.2) h.3)

-- words that have others behind the first begin with it
begins : (words others : List (List ℕ)) (verb first : List ℕ) → verb ≡ id_of words → tile_words words ≡ first ∷ others → words ≡ verb ∷ first ∷ others
begins [] others verb first e f = let none : 0 ≡ suc (length others) = ap length f in absurd (omega arith)
begins (word ∷ words) others verb first e f = cc

some_bytes : (word : List ℕ) → word ≢ [] → 0 < length word
some_bytes [] some = absurd (some refl)
some_bytes (b ∷ bs) some = omega arith

-- two words, and none behind them
pub two_words : (text rest behind verb first second : List ℕ) (i : ℕ) → verb ≡ id_of (words_of text) → words_of rest ≡ tile_words (words_of text) → first ≡ id_of (words_of rest) → words_of behind ≡ tile_words (words_of rest) → second ≡ id_of (words_of behind) → IsNumberWord first i → second ≡ [] → words_of text ≡ verb ∷ first ∷ []
two_words text rest behind verb first second i a b d e f said none =
    let ended : words_of behind ≡ [] = words_none behind (sym f ∙ none) in
    begins (words_of text) [] verb first a (sym b ∙ first_and_others (words_of rest) first [] d (some_bytes first said.0.some) (sym ended ∙ e))

-- three words, and none behind them
pub three_words : (text rest behind last verb first second surplus : List ℕ) (i : ℕ) → verb ≡ id_of (words_of text) → words_of rest ≡ tile_words (words_of text) → first ≡ id_of (words_of rest) → words_of behind ≡ tile_words (words_of rest) → second ≡ id_of (words_of behind) → words_of last ≡ tile_words (words_of behind) → surplus ≡ id_of (words_of last) → IsNumberWord first i → 0 < length second → surplus ≡ [] → words_of text ≡ verb ∷ first ∷ second ∷ []
three_words text rest behind last verb first second surplus i a b d e f g h said some none =
    let ended : words_of last ≡ [] = words_none last (sym h ∙ none) in
    let tail : words_of behind ≡ second ∷ [] = first_and_others (words_of behind) second [] f some (sym ended ∙ g) in
    begins (words_of text) (second ∷ []) verb first a (sym b ∙ first_and_others (words_of rest) first (second ∷ []) d (some_bytes first said.0.some) (sym tail ∙ e))

pub no_bytes : (word : List ℕ) → length word ≡ 0 → word ≡ []
no_bytes [] none = refl
no_bytes (b ∷ bs) none = absurd (omega arith)

-- the answer of a call, by what its words say
pub said_by : {A B : Step → Type 0} (found : Option Step) → ((step : Step) → (found ≡ Some step) ↔ A step) → ((step : Step) → A step ↔ B step) → (step : Step) → (found ≡ Some step) ↔ B step
said_by found one two step = (λ e. (two step).0 ((one step).0 e), λ h. (one step).1 ((two step).1 h))

other_verb : (verb one two : List ℕ) → verb ≡ one → get_or one 0 0 ≢ get_or two 0 0 → ¬ (verb ≡ two)
other_verb verb one two is differ e = differ (ap (λ (v : List ℕ). get_or v 0 0) (sym is ∙ e))

-- a packet is sent
pub send_said : (verb word : List ℕ) (i n : ℕ) → verb ≡ codes "send" → IsNumberWord word n → (step : Step) → (Some (Send i n) ≡ Some step) ↔ IsPaired verb i word step
send_said verb word i n is said (Expand k) = (λ e. absurd (cc), λ h. absurd h)
send_said verb word i n is said (Settle k) = (λ e. absurd (cc), λ h. absurd h)
send_said verb word i n is said (Send k j) = (
  (λ e.
      let one : i ≡ k = cc in
      let two : n ≡ j = cc in
      (is, sym one, subst (λ (m : ℕ). IsNumberWord word m) two said)),
  (λ h. (λ t. Some (Send (sym h.1 t) (sym (same_number word n j said h.2) t)))),
)
send_said verb word i n is said (Deliver k j) = (λ e. absurd (cc), λ h. absurd (other_verb verb (codes "send") (codes "deliver") is (λ e. omega arith) h.0))
send_said verb word i n is said (Draw k) = (λ e. absurd (cc), λ h. absurd h)
send_said verb word i n is said (Announce k) = (λ e. absurd (cc), λ h. absurd h)
send_said verb word i n is said (Grant k) = (λ e. absurd (cc), λ h. absurd h)
send_said verb word i n is said (Rest k) = (λ e. absurd (cc), λ h. absurd h)
send_said verb word i n is said (Halt k cause) = (λ e. absurd (cc), λ h. absurd (other_verb verb (codes "send") (codes "halt") is (λ e. omega arith) h.0))

-- a packet is taken in
pub deliver_said : (verb word : List ℕ) (i n : ℕ) → verb ≡ codes "deliver" → IsNumberWord word n → (step : Step) → (Some (Deliver i n) ≡ Some step) ↔ IsPaired verb i word step
deliver_said verb word i n is said (Expand k) = (λ e. absurd (cc), λ h. absurd h)
deliver_said verb word i n is said (Settle k) = (λ e. absurd (cc), λ h. absurd h)
deliver_said verb word i n is said (Send k j) = (λ e. absurd (cc), λ h. absurd (other_verb verb (codes "deliver") (codes "send") is (λ e. omega arith) h.0))
deliver_said verb word i n is said (Deliver k j) = (
  (λ e.
      let one : i ≡ k = cc in
      let two : n ≡ j = cc in
      (is, sym one, subst (λ (m : ℕ). IsNumberWord word m) two said)),
  (λ h. (λ t. Some (Deliver (sym h.1 t) (sym (same_number word n j said h.2) t)))),
)
deliver_said verb word i n is said (Draw k) = (λ e. absurd (cc), λ h. absurd h)
deliver_said verb word i n is said (Announce k) = (λ e. absurd (cc), λ h. absurd h)
deliver_said verb word i n is said (Grant k) = (λ e. absurd (cc), λ h. absurd h)
deliver_said verb word i n is said (Rest k) = (λ e. absurd (cc), λ h. absurd h)
deliver_said verb word i n is said (Halt k cause) = (λ e. absurd (cc), λ h. absurd (other_verb verb (codes "deliver") (codes "halt") is (λ e. omega arith) h.0))

-- without a second number no step but a halt is said
pub none_said : (verb word : List ℕ) (i : ℕ) → verb ≢ codes "halt" → ((n : ℕ) → ¬ IsNumberWord word n) → (step : Step) → (◌≡◌ {A = Option Step} None (Some step)) ↔ IsPaired verb i word step
none_said verb word i other never (Expand k) = (λ e. absurd (cc), λ h. absurd h)
none_said verb word i other never (Settle k) = (λ e. absurd (cc), λ h. absurd h)
none_said verb word i other never (Send k j) = (λ e. absurd (cc), λ h. absurd (never j h.2))
none_said verb word i other never (Deliver k j) = (λ e. absurd (cc), λ h. absurd (never j h.2))
none_said verb word i other never (Draw k) = (λ e. absurd (cc), λ h. absurd h)
none_said verb word i other never (Announce k) = (λ e. absurd (cc), λ h. absurd h)
none_said verb word i other never (Grant k) = (λ e. absurd (cc), λ h. absurd h)
none_said verb word i other never (Rest k) = (λ e. absurd (cc), λ h. absurd h)
none_said verb word i other never (Halt k cause) = (λ e. absurd (cc), λ h. absurd (other h.0))

-- a text whose second word says no number says no step
pub unsaid : (text rest first : List ℕ) → words_of rest ≡ tile_words (words_of text) → first ≡ id_of (words_of rest) → ((n : ℕ) → ¬ IsNumberWord first n) → (step : Step) → (◌≡◌ {A = Option Step} None (Some step)) ↔ SaysStep (words_of text) step
unsaid text rest first b d never step = (
  (λ e. absurd (cc)),
  (λ h. let said = step_number (words_of text) step h in absurd (never said.0 (subst (λ (w : List ℕ). IsNumberWord w said.0) (sym (d ∙ ap id_of b)) said.1))),
)
