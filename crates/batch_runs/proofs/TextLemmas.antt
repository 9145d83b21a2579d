-- The text of a value has no line feed.
use Rattle.std.proofs.Common.{◌≡◌, ◌≢◌, ℕ, zero, suc, ◌/◌, ◌%◌, ◌<◌, pos, negsuc, List, [], ◌∷◌, ◌++◌, Bool, true, false, cond, ◌==◌, decimal, refl, arith, nat_lt}
use Rattle.std.proofs.lemmas.Bool.Decides.{nat_tests}
use Rattle.std.specs.Char.{digit_char}
use Rattle.std.specs.Fmt.{digits, digits_onto, digit_glyph}
use Rattle.std.specs.List.{AllByRecursion}
use Rattle.json.specs.Print.{escape_letter, escape_byte, escape, quoted}
use Rattle.serde_json.specs.Data.{Num, unsigned, negative, float, Data, null, boolean, number, string, array, object, Items, no_items, item, Members, no_members, member}
use Rattle.serde_json.specs.Written.{number_text, comma_if, compact_text, items_text, members_text}

abbrev HasNone : List ℕ → Type 0
HasNone bytes = AllByRecursion (λ b. b ≢ 10) bytes

HasNone-append : (xs ys : List ℕ) → HasNone xs → HasNone ys → HasNone (xs ++ ys)
HasNone-append [] ys h k = k
HasNone-append (x ∷ xs) ys h k = (h.0, HasNone-append xs ys h.1 k)

either : (b : Bool) (xs ys : List ℕ) → (b ≡ true → HasNone xs) → (b ≡ false → HasNone ys) → HasNone (cond b xs ys)
either true xs ys h k = h refl
either false xs ys h k = k refl

glyph_other : (d : ℕ) → digit_glyph false d ≢ 10
glyph_other d e = grind (arith, nat_tests)

onto_other : (k n : ℕ) (acc : List ℕ) → HasNone acc → HasNone (digits_onto k 10 false n acc)
onto_other zero n acc h = h
onto_other (suc k) n acc h =
    let d = digit_glyph false (n % 10) in
    let more : HasNone (d ∷ acc) = (glyph_other (n % 10), h) in
    either (n / 10 == 0) (d ∷ acc) _ (λ e. more) (λ e. onto_other k (n / 10) (d ∷ acc) more)

decimal_other : (n : ℕ) → HasNone (decimal n)
unfolding digits
decimal_other n = onto_other 64 n [] tt

letter_other : (x : ℕ) → escape_letter x ≢ 10
letter_other x e = grind (arith, nat_tests)

digit_other : (d : ℕ) → digit_char d ≢ 10
digit_other d e = grind (arith, nat_tests)

line_feed_short : (x : ℕ) → nat_lt 0 (escape_letter x) ≡ false → nat_lt x 32 ≡ false → x ≢ 10
line_feed_short x short low e = grind (arith, nat_tests)

-- a byte that is no line feed
other : (b : ℕ) → 10 < b → b ≢ 10
other b more e = omega arith

byte_other : (x : ℕ) → HasNone (escape_byte x)
unfolding escape_byte
byte_other x =
    either (nat_lt 0 (escape_letter x)) (92 ∷ escape_letter x ∷ []) _
    (λ e. (other 92 (omega arith), (letter_other x, tt)))
    (λ short.
    either (nat_lt x 32) (92 ∷ 117 ∷ 48 ∷ 48 ∷ digit_char (x / 16) ∷ digit_char (x % 16) ∷ []) (x ∷ [])
    (λ e. (other 92 (omega arith), (other 117 (omega arith), (other 48 (omega arith), (other 48 (omega arith), (digit_other (x / 16), (digit_other (x % 16), tt)))))))
    (λ low. (line_feed_short x short low, tt)))

escape_other : (s : List ℕ) → HasNone (escape s)
escape_other [] = tt
escape_other (x ∷ xs) = HasNone-append (escape_byte x) (escape xs) (byte_other x) (escape_other xs)

quoted_other : (s : List ℕ) → HasNone (quoted s)
quoted_other s = (other 34 (omega arith), HasNone-append (escape s) (34 ∷ []) (escape_other s) (other 34 (omega arith), tt))

number_other : (n : Num) → HasNone (number_text n)
number_other (unsigned n) = decimal_other n
number_other (negative (pos n)) = decimal_other n
number_other (negative (negsuc n)) = ((λ e. omega arith), decimal_other (suc n))
number_other (float x) = tt

comma_other : (later : Bool) → HasNone (comma_if later)
comma_other true = ((λ e. omega arith), tt)
comma_other false = tt

mutual
  pub text_other : (d : Data) → HasNone (compact_text d)
  text_other null = ((λ e. omega arith), ((λ e. omega arith), ((λ e. omega arith), ((λ e. omega arith), tt))))
  text_other (boolean true) = ((λ e. omega arith), ((λ e. omega arith), ((λ e. omega arith), ((λ e. omega arith), tt))))
  text_other (boolean false) = ((λ e. omega arith), ((λ e. omega arith), ((λ e. omega arith), ((λ e. omega arith), ((λ e. omega arith), tt)))))
  text_other (number n) = number_other n
  text_other (string s) = quoted_other s
  text_other (array ds) = ((λ e. omega arith), items_other false ds)
  text_other (object ms) = ((λ e. omega arith), members_other false ms)

  items_other : (later : Bool) (ds : Items) → HasNone (items_text later ds)
  items_other later no_items = ((λ e. omega arith), tt)
  items_other later (item d ds) = HasNone-append (comma_if later) _ (comma_other later) (HasNone-append (compact_text d) (items_text true ds) (text_other d) (items_other true ds))

  members_other : (later : Bool) (ms : Members) → HasNone (members_text later ms)
  members_other later no_members = ((λ e. omega arith), tt)
  members_other later (member k d ms) =
      HasNone-append (comma_if later) _ (comma_other later)
      (HasNone-append (quoted k) _ (quoted_other k) (other 58 (omega arith), HasNone-append (compact_text d) (members_text true ms) (text_other d) (members_other true ms)))
