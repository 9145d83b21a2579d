-- A text is cut into words one by one, from the front.
use Rattle.std.proofs.Common.{◌≡◌, ℕ, zero, suc, ◌+◌, ◌-◌, ◌<◌, ◌≤◌, Bool, true, false, List, [], ◌∷◌, length, get_or, take, drop, refl, sym, ap, ◌∙◌, subst, ⊎_elim, arith, length-take, length-drop, drop-cons, add-one, not}
use Rattle.std.specs.Prelude.{nat_lt, filter, Option, unwrap_or, IsUtf8}
use Rattle.std.specs.Str.{IsCharBoundary}
use Rattle.std.specs.List.{position, position_or_len, slice_range, slice_split}
use Rattle.std.proofs.lemmas.Bool.{cases_lt, lt-ltb, le-ltb}
use Rattle.std.proofs.lemmas.List.{take_all, drop_all, drop-drop, get_or-drop}
use Rattle.std.proofs.lemmas.Str.{IsCharBoundary-start, IsCharBoundary-end, IsCharBoundary-before_ascii, IsCharBoundary-after_ascii}
use Rattle.std.proofs.lemmas.List.Splits.{slice_split-cons_yes, slice_split_first, slice_split_none}
use Rattle.std.proofs.lemmas.List.Sums.{fails_before_first, passes_at_first, prefix_len-le-length}
use Rattle.batch_lines.specs.Lines.{is_blank}
use Rattle.batch_lines.specs.Words.{words_of, id_of, tile_words}

abbrev has_bytes : List ℕ → Bool
has_bytes word = nat_lt 0 (length word)

not_false : (b : Bool) → not b ≡ false → b ≡ true
not_false true e = refl
not_false false e = absurd (cc)

not_true : (b : Bool) → not b ≡ true → b ≡ false
not_true true e = absurd (cc)
not_true false e = refl

-- the first place that passes, or the end where there is none
pub position_or_end : (p : ℕ → Bool) (bs : List ℕ) (found : Option ℕ) → found ≡ position p bs → unwrap_or found (length bs) ≡ position_or_len p bs
position_or_end p bs found e =
    ap (λ (o : Option ℕ). unwrap_or o (length bs)) e
    ∙ ⊎_elim
    (λ (within : position_or_len p bs < length bs). rw (lt-ltb (position_or_len p bs) (length bs) within) refl)
    (λ (end : length bs ≤ position_or_len p bs). rw (le-ltb (position_or_len p bs) (length bs) end) (omega (arith, prefix_len-le-length (λ b. not (p b)) bs)))
    (cases_lt (position_or_len p bs) (length bs))

-- a blank at the front adds no word
blank_first : (b : ℕ) (bs : List ℕ) → is_blank b ≡ true → words_of (b ∷ bs) ≡ words_of bs
blank_first b bs e = ap (filter has_bytes) (slice_split-cons_yes is_blank b bs e)

blanks_first : (n : ℕ) (bs : List ℕ) → ((k : ℕ) → k < n → is_blank (get_or bs k 0) ≡ true) → words_of (drop n bs) ≡ words_of bs
blanks_first zero bs blank = refl
blanks_first (suc n) [] blank = refl
blanks_first (suc n) (b ∷ bs) blank = blanks_first n bs (λ k l. blank (suc k) (omega arith)) ∙ sym (blank_first b bs (blank 0 (omega arith)))

kept_first : (word : List ℕ) (words : List (List ℕ)) → 0 < length word → filter has_bytes (word ∷ words) ≡ word ∷ filter has_bytes words
kept_first word words some = rw (lt-ltb 0 (length word) some) refl

-- a word at the front, and what follows it
word_first : (bs : List ℕ) (n : ℕ) → n ≡ position_or_len is_blank bs → 0 < n → words_of bs ≡ take n bs ∷ words_of (drop n bs)
word_first bs n e some =
    let most : n ≤ length bs = subst (λ (m : ℕ). m ≤ length bs) (sym e) (prefix_len-le-length (λ b. not (is_blank b)) bs) in
    let long : 0 < length (take n bs) = omega (arith, length-take n bs) in
    ⊎_elim
    (λ (within : n < length bs).
    let at : position_or_len is_blank bs < length bs = subst (λ (m : ℕ). m < length bs) e within in
    let blank : is_blank (get_or bs n 0) ≡ true = subst (λ (m : ℕ). is_blank (get_or bs m 0) ≡ true) (sym e) (passes_at_first is_blank bs 0 at) in
    let cut : slice_split is_blank bs ≡ take n bs ∷ slice_split is_blank (drop (n + 1) bs) = subst (λ (m : ℕ). slice_split is_blank bs ≡ take m bs ∷ slice_split is_blank (drop (m + 1) bs)) (sym e) (slice_split_first is_blank bs 0 at) in
    let rest : drop n bs ≡ get_or bs n 0 ∷ drop (n + 1) bs = rw add-one (drop-cons bs n 0 within) in
    let same : words_of (drop n bs) ≡ words_of (drop (n + 1) bs) = ap words_of rest ∙ blank_first (get_or bs n 0) (drop (n + 1) bs) blank in
    ap (filter has_bytes) cut ∙ kept_first (take n bs) (slice_split is_blank (drop (n + 1) bs)) long ∙ ap (λ (words : List (List ℕ)). take n bs ∷ words) (sym same))
    (λ (end : length bs ≤ n).
    let cut : slice_split is_blank bs ≡ take n bs ∷ [] = slice_split_none is_blank bs (λ k d l. fails_before_first is_blank bs k d (omega arith)) ∙ ap (λ (word : List ℕ). word ∷ []) (sym (take_all n bs end)) in
    let none : words_of (drop n bs) ≡ [] = ap words_of (drop_all n bs end) in
    ap (filter has_bytes) cut ∙ kept_first (take n bs) [] long ∙ ap (λ (words : List (List ℕ)). take n bs ∷ words) (sym none))
    (cases_lt n (length bs))

-- where neither a blank nor a word is at the front, nothing is
nothing_first : (bs : List ℕ) → (0 < length bs → is_blank (get_or bs 0 0) ≡ false) → position_or_len is_blank bs ≡ 0 → words_of bs ≡ []
nothing_first [] other e = refl
nothing_first (b ∷ bs) other e =
    let at : position_or_len is_blank (b ∷ bs) < length (b ∷ bs) = omega (arith, e) in
    let blank : is_blank (get_or (b ∷ bs) 0 0) ≡ true = subst (λ (m : ℕ). is_blank (get_or (b ∷ bs) m 0) ≡ true) e (passes_at_first is_blank (b ∷ bs) 0 at) in
    let no : is_blank b ≡ false = other (omega arith) in
    absurd (cc)

behind_blanks : (bs : List ℕ) (start : ℕ) → start ≡ position_or_len (λ b. not (is_blank b)) bs → words_of (drop start bs) ≡ words_of bs
behind_blanks bs start e = blanks_first start bs (λ k l. not_false (is_blank (get_or bs k 0)) (fails_before_first (λ b. not (is_blank b)) bs k 0 (omega arith)))

no_blank : (bs : List ℕ) (start : ℕ) → start ≡ position_or_len (λ b. not (is_blank b)) bs → 0 < length (drop start bs) → is_blank (get_or (drop start bs) 0 0) ≡ false
no_blank bs start e some =
    let within : start < length bs = omega (arith, length-drop start bs) in
    let at : not (is_blank (get_or bs start 0)) ≡ true = subst (λ (m : ℕ). not (is_blank (get_or bs m 0)) ≡ true) (sym e) (passes_at_first (λ b. not (is_blank b)) bs 0 (omega arith)) in
    let from : start + 0 ≡ start = omega arith in
    ap is_blank (get_or-drop start bs 0 0 ∙ ap (λ (k : ℕ). get_or bs k 0) from) ∙ not_true (is_blank (get_or bs start 0)) at

-- blanks end at `start`, and a word of this size follows
pub record IsCut (bs : List ℕ) (start size : ℕ) : Type 0 where
  pub start_is : start ≡ position_or_len (λ b. not (is_blank b)) bs
  pub size_is : size ≡ position_or_len is_blank (drop start bs)

-- the blanks and the word are counted in the bytes of a text
pub IsCut-counted : (bs ds : List ℕ) (start size : ℕ) → ds ≡ bs → start ≡ position_or_len (λ b. not (is_blank b)) ds → size ≡ position_or_len is_blank (take (length ds - start) (drop start ds)) → IsCut bs start size
IsCut-counted bs ds start size same e f =
    let rest : take (length ds - start) (drop start ds) ≡ drop start ds = take_all (length ds - start) (drop start ds) (omega (arith, length-drop start ds)) in
    record {
      start_is = e ∙ ap (position_or_len (λ b. not (is_blank b))) same;
      size_is = f ∙ ap (position_or_len is_blank) rest ∙ ap (λ (x : List ℕ). position_or_len is_blank (drop start x)) same;
    }

parts_are : (bs : List ℕ) (start size : ℕ) → IsCut bs start size → (take size (drop start bs) ≡ id_of (words_of bs)) × (words_of (drop size (drop start bs)) ≡ tile_words (words_of bs))
parts_are bs start zero cut =
    let e = cut.start_is in
    let none : words_of (drop start bs) ≡ [] = nothing_first (drop start bs) (no_blank bs start e) (sym cut.size_is) in
    let same = behind_blanks bs start e in
    (ap id_of (sym none ∙ same), none ∙ ap tile_words (sym none ∙ same))
parts_are bs start (suc n) cut =
    let word = word_first (drop start bs) (suc n) cut.size_is (omega arith) in
    let same = behind_blanks bs start cut.start_is in
    (ap id_of (sym word ∙ same), ap tile_words (sym word ∙ same))

-- the first word of a text
pub first_is : (bs : List ℕ) (start size : ℕ) → IsCut bs start size → slice_range bs start (start + size) ≡ id_of (words_of bs)
first_is bs start size cut =
    let n : start + size - start ≡ size = omega arith in
    ap (λ (k : ℕ). take k (drop start bs)) n ∙ (parts_are bs start size cut).0

-- the other words
pub others_are : (bs : List ℕ) (start size : ℕ) → IsCut bs start size → words_of (drop (start + size) bs) ≡ tile_words (words_of bs)
others_are bs start size cut = ap words_of (sym (drop-drop size start bs)) ∙ (parts_are bs start size cut).1

-- blanks and a word end within their text
pub cut_within : (bs : List ℕ) (start size : ℕ) → IsCut bs start size → start + size ≤ length bs
cut_within bs start size cut =
    let e = cut.start_is in
    let f = cut.size_is in
    let low = prefix_len-le-length (λ b. not (not (is_blank b))) bs in
    let high = prefix_len-le-length (λ b. not (is_blank b)) (drop start bs) in
    omega (arith, length-drop start bs)

blank_is_ascii : (b : ℕ) → is_blank b ≡ true → b < 128
blank_is_ascii b e = grind arith

-- a text may be cut behind its first blanks
pub start_boundary : (bs : List ℕ) (start size : ℕ) → IsUtf8 bs → IsCut bs start size → IsCharBoundary bs start
start_boundary bs zero size text cut = IsCharBoundary-start bs text
start_boundary bs (suc n) size text cut =
    let e = cut.start_is in
    let low = prefix_len-le-length (λ b. not (not (is_blank b))) bs in
    let blank = not_false (is_blank (get_or bs n 0)) (fails_before_first (λ b. not (is_blank b)) bs n 0 (omega arith)) in
    let next : n + 1 ≡ suc n = omega arith in
    subst (λ (k : ℕ). IsCharBoundary bs k) next (IsCharBoundary-after_ascii bs n text (omega arith) (blank_is_ascii (get_or bs n 0) blank))

-- and behind its first word
pub end_boundary : (bs : List ℕ) (start size : ℕ) → IsCut bs start size → IsCharBoundary bs (start + size)
end_boundary bs start size cut =
    let f = cut.size_is in
    let most = cut_within bs start size cut in
    ⊎_elim
    (λ (within : start + size < length bs).
    let inside : size < length (drop start bs) = omega (arith, length-drop start bs) in
    let at = passes_at_first is_blank (drop start bs) 0 (subst (λ (n : ℕ). n < length (drop start bs)) f inside) in
    let blank : is_blank (get_or (drop start bs) size 0) ≡ true = subst (λ (n : ℕ). is_blank (get_or (drop start bs) n 0) ≡ true) (sym f) at in
    let low = blank_is_ascii (get_or (drop start bs) size 0) blank in
    IsCharBoundary-before_ascii bs (start + size) within (omega (arith, get_or-drop start bs size 0)))
    (λ (end : length bs ≤ start + size).
    let same : length bs ≡ start + size = omega arith in
    subst (λ (k : ℕ). IsCharBoundary bs k) same (IsCharBoundary-end bs))
    (cases_lt (start + size) (length bs))

some_first : (words : List (List ℕ)) → id_of (filter has_bytes words) ≡ [] → filter has_bytes words ≡ []
some_first [] e = refl
some_first ([] ∷ words) e = some_first words e
some_first ((b ∷ bs) ∷ words) e = let kept = kept_first (b ∷ bs) words (omega arith) in absurd (let f = ap id_of (sym kept) ∙ e in cc)

-- no word is empty
pub words_none : (bs : List ℕ) → id_of (words_of bs) ≡ [] → words_of bs ≡ []
words_none bs e = some_first (slice_split is_blank bs) e

-- words whose first word is known
pub first_and_others : (words : List (List ℕ)) (word : List ℕ) (others : List (List ℕ)) → word ≡ id_of words → 0 < length word → others ≡ tile_words words → words ≡ word ∷ others
first_and_others [] word others e some f = absurd (omega (arith, ap length e))
first_and_others (first ∷ rest) word others e some f = cc
