use Rattle.std.proofs.Common.{◌≡◌, ℕ, zero, suc, ◌<◌, ◌^◌, false, List, [], ◌∷◌, ◌++◌, length, map, decimal, refl, ap, ◌∙◌, arith, append-nil}
use Rattle.std.specs.Prelude.{All, nat_lt, filter}
use Rattle.std.specs.List.{slice_split, flat_map, AllByRecursion}
use Rattle.std.specs.Char.{IsAsciiDigit}
use Rattle.std.specs.Str.{IsAscii}
use Rattle.std.specs.Str.Parse.{AllDigits}
use Rattle.std.proofs.lemmas.Bool.{lt-ltb, ne_eqb}
use Rattle.std.proofs.lemmas.Fmt.{decimal_is_IsNumeral, IsAscii-decimal, decimal_nonempty}
use Rattle.std.proofs.lemmas.Str.{IsUtf8-from_ascii, IsAscii-append}
use Rattle.std.proofs.lemmas.Str.Parse.{digit_from_value}
use Rattle.std.proofs.lemmas.List.Elements.{All-from_recursion, recursion_from_All, All-weaker, All-cons}
use Rattle.std.proofs.lemmas.List.Splits.{slice_split_at, slice_split_none}
use Rattle.board.specs.Boards.{BoardModel, IsBoard}
use Rattle.board.proofs.KeyLemmas.{tiles_small}
use Rattle.batch_lines.specs.Lines.{is_blank}
use Rattle.batch_lines.specs.Words.{words_of, SpellsDecimal, SpellEach, IsEntry}
use Rattle.board_lists.specs.Lines.{id_text, tile_text, entry_text}
use Rattle.board_lists.proofs.laws.lines_name_boards.Goals as goal

-- The line of a board is read as its id and the board.

-- ---- digits

digits_all : (ds : List ℕ) → AllDigits 10 ds → AllByRecursion IsAsciiDigit ds
digits_all [] digits = tt
digits_all (d ∷ ds) digits = (digit_from_value d digits.0, digits_all ds digits.1)

-- the digits of a number are digits
decimal_digits : (n : ℕ) → n < 2 ^ 64 → All IsAsciiDigit (decimal n)
decimal_digits n small = All-from_recursion IsAsciiDigit (decimal n) (digits_all (decimal n) (decimal_is_IsNumeral n small).0.1)

spelled : (n : ℕ) → n < 2 ^ 64 → SpellsDecimal (decimal n) n
spelled n small = record {
  some = λ none. omega (arith, ap length none, decimal_nonempty n small);
  digits = decimal_digits n small;
  value = (decimal_is_IsNumeral n small).1;
}

spelled_each : (tiles : List ℕ) → AllByRecursion (λ t. t < 32) tiles → SpellEach (map decimal tiles) tiles
spelled_each [] low = tt
spelled_each (t ∷ tiles) low = (spelled t (omega (arith, low.0)), spelled_each tiles low.1)

-- ---- words

-- one byte or more, none a blank
record IsWord (word : List ℕ) : Type 0 where
  some : 0 < length word
  whole : All (λ b. is_blank b ≡ false) word

digit_is_no_blank : (b : ℕ) → IsAsciiDigit b → is_blank b ≡ false
digit_is_no_blank b digit = rw (ne_eqb b 32 (omega (arith, digit)), ne_eqb b 9 (omega (arith, digit))) refl

decimal_is_word : (n : ℕ) → n < 2 ^ 64 → IsWord (decimal n)
decimal_is_word n small = record { some = decimal_nonempty n small; whole = All-weaker IsAsciiDigit (λ b. is_blank b ≡ false) digit_is_no_blank (decimal n) (decimal_digits n small) }

id_is_word : (n : ℕ) → n < 2 ^ 64 → IsWord (id_text n)
id_is_word n small = record { some = omega arith; whole = All-cons (λ b. is_blank b ≡ false) 98 (decimal n) refl (decimal_is_word n small).whole }

kept_first : (word : List ℕ) (words : List (List ℕ)) → 0 < length word → filter (λ w. nat_lt 0 (length w)) (word ∷ words) ≡ word ∷ filter (λ w. nat_lt 0 (length w)) words
kept_first word words some = rw (lt-ltb 0 (length word) some) refl

-- a word alone
one_word : (word : List ℕ) → IsWord word → words_of word ≡ word ∷ []
one_word word is = ap (filter (λ w. nat_lt 0 (length w))) (slice_split_none is_blank word is.whole) ∙ kept_first word [] is.some

-- a word, a space and other bytes
word_and_rest : (word rest : List ℕ) → IsWord word → words_of (word ++ 32 ∷ rest) ≡ word ∷ words_of rest
word_and_rest word rest is = ap (filter (λ w. nat_lt 0 (length w))) (slice_split_at is_blank word 32 rest is.whole refl) ∙ kept_first word (slice_split is_blank rest) is.some

-- a word and tiles, a space before each
word_and_tiles : (word tiles : List ℕ) → IsWord word → AllByRecursion (λ t. t < 32) tiles → words_of (word ++ flat_map tile_text tiles) ≡ word ∷ map decimal tiles
word_and_tiles word [] is low = ap words_of (append-nil word) ∙ one_word word is
word_and_tiles word (t ∷ tiles) is low =
    word_and_rest word (decimal t ++ flat_map tile_text tiles) is ∙ ap (λ (ws : List (List ℕ)). word ∷ ws) (word_and_tiles (decimal t) tiles (decimal_is_word t (omega (arith, low.0))) low.1)

-- ---- text

ascii_cons : (b : ℕ) (bs : List ℕ) → b < 128 → IsAscii bs → IsAscii (b ∷ bs)
ascii_cons b bs low rest zero = low
ascii_cons b bs low rest (suc i) = rest i

tiles_ascii : (tiles : List ℕ) → AllByRecursion (λ t. t < 32) tiles → IsAscii (flat_map tile_text tiles)
tiles_ascii [] low = λ i. omega arith
tiles_ascii (t ∷ tiles) low = ascii_cons 32 (decimal t ++ flat_map tile_text tiles) (omega arith) (IsAscii-append (decimal t) (flat_map tile_text tiles) (IsAscii-decimal t (omega (arith, low.0))) (tiles_ascii tiles low.1))

entry_is : (n : ℕ) (b : BoardModel) → n < 2 ^ 64 → IsBoard b → IsEntry b.grid (entry_text n b) (id_text n) b
entry_is n b small board =
    let low = recursion_from_All (λ t. t < 32) b.tiles (tiles_small b board) in
    let words = word_and_tiles (id_text n) b.tiles (id_is_word n small) low in
    record {
      text = IsUtf8-from_ascii (entry_text n b) (IsAscii-append (id_text n) (flat_map tile_text b.tiles) (ascii_cons 98 (decimal n) (omega arith) (IsAscii-decimal n small)) (tiles_ascii b.tiles low));
      named = rw words refl;
      spelled = rw words (spelled_each b.tiles low);
      board = board;
      sides = refl;
    }

pub returns : goal.returns
returns c = entry_is
