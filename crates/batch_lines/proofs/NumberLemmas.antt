-- The digits of a word, and the numbers of words.
use Rattle.std.proofs.Common.{◌≡◌, ℕ, true, List, get_or, Some, ap, ◌∙◌, arith}
use Rattle.std.specs.Prelude.{All, map, slice_get}
use Rattle.std.specs.List.{list_all}
use Rattle.std.specs.Char.{IsAsciiDigit, is_ascii_digit}
use Rattle.std.proofs.lemmas.List.{get_or-map}
use Rattle.std.proofs.lemmas.List.Sums.{AllPass-from_list_all, list_all-from_AllPass}
use Rattle.std.proofs.lemmas.Option.{slice_get_within, get_or_from_slice_get}

-- a word whose bytes pass the test has digits alone
pub digits_of : (word : List ℕ) → list_all is_ascii_digit word ≡ true → All IsAsciiDigit word
digits_of word all k d l = digit (get_or word k d) (AllPass-from_list_all is_ascii_digit word all k d l)
  where
    digit : (b : ℕ) → is_ascii_digit b ≡ true → IsAsciiDigit b
    digit b e = grind arith

-- digits pass the test
pub all_digits : (word : List ℕ) → All IsAsciiDigit word → list_all is_ascii_digit word ≡ true
all_digits word digits = list_all-from_AllPass is_ascii_digit word (λ k d l. tested (get_or word k d) (digits k d l))
  where
    tested : (b : ℕ) → IsAsciiDigit b → is_ascii_digit b ≡ true
    tested b within = grind arith

-- the number of a word has the word's place
pub number_at : (number_of : List ℕ → ℕ) (words : List (List ℕ)) (k : ℕ) (word : List ℕ) → slice_get words k ≡ Some word → get_or (map number_of words) k 0 ≡ number_of word
number_at number_of words k word at =
    let within = slice_get_within words k word at in
    get_or-map number_of words k word 0 within ∙ ap number_of (get_or_from_slice_get words k word word at)
