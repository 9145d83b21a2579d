use Rattle.std.proofs.Common.{◌≡◌, ◌+◌, ◌-◌, ◌*◌, ◌≤◌, ◌<◌, ℕ, List, length, take, get_or, min, arith, ◌∙◌}
use Rattle.std.specs.Char.{digit_value, is_ascii_digit}
use Rattle.std.specs.Str.Parse.{digits_value}
use Rattle.std.proofs.lemmas.Int.Digits.{digits_value_more}
use Rattle.std.proofs.lemmas.List.Folds.{list_all_more}
use Rattle.batch_lines.proofs.words.digits_number.Goals as goal

-- one more digit of a number that stops at 256
number_more : (word : List ℕ) (i v : ℕ) → i < length word → 48 ≤ get_or word i 0 → get_or word i 0 ≤ 57 → v ≡ min 256 (digits_value 10 (take i word)) →
    min (v * 10 + (get_or word i 0 - 48)) 256 ≡ min 256 (digits_value 10 (take (i + 1) word))
number_more word i v within low high e =
    let value : digit_value (get_or word i 0) ≡ get_or word i 0 - 48 = grind arith in
    omega (arith, digits_value_more 10 word i within, value, e)

pub digits-preserved : goal.digits-preserved
digits-preserved c =
    let digit = c.if-not-is_ascii_digit.false in
    let cases = c.if-not-is_ascii_digit.ensures in
    (grind (arith, list_all_more is_ascii_digit c.args.word.now c.digits.byte-index 0 c.digits-test.true, c.digits.invariant.0, digit, c.is_ascii_digit.ensures.value), c.min-number.ensures ∙ number_more c.args.word.now c.digits.byte-index c.digits.number c.digits-test.true cases.cases.0 cases.cases.1 c.digits.invariant.1)
