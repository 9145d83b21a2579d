use Rattle.std.proofs.Common.{◌≡◌, ◌+◌, ◌-◌, ◌*◌, ◌^◌, ◌≤◌, ◌<◌, ℕ, List, length, take, get_or, arith}
use Rattle.std.proofs.lemmas.Nat.{pow-add}
use Rattle.std.specs.Char.{digit_value, is_ascii_digit}
use Rattle.std.specs.Str.Parse.{digits_value}
use Rattle.std.proofs.lemmas.Int.Digits.{digits_value_more}
use Rattle.std.proofs.lemmas.List.Folds.{list_all_more}
use Rattle.replay_runs.proofs.steps.number_of.Goals as goal

-- The numbers that words say.

-- one digit more is ten times as much
power_more : (i : ℕ) → 10 ^ (i + 1) ≡ 10 ^ i * 10
power_more i = pow-add 10 i 1

-- one digit more of a number
number_more : (word : List ℕ) (i n : ℕ) → i < length word → 48 ≤ get_or word i 0 → get_or word i 0 ≤ 57 → n ≡ digits_value 10 (take i word) → n < 10 ^ i → (n * 10 + (get_or word i 0 - 48) ≡ digits_value 10 (take (i + 1) word)) × (n * 10 + (get_or word i 0 - 48) < 10 ^ (i + 1))
number_more word i n within low high e few =
    let value : digit_value (get_or word i 0) ≡ get_or word i 0 - 48 = grind arith in
    let power = power_more i in
    (omega (arith, digits_value_more 10 word i within, value, e), omega arith)

pub digits-preserved : goal.digits-preserved
digits-preserved c =
    let digit = c.if-not-is_ascii_digit.false in
    let cases = c.if-not-is_ascii_digit.ensures in
    let more = number_more c.args.word.now c.digits.byte-index c.digits.number c.digits-test.true cases.cases.0 cases.cases.1 c.digits.invariant.1 c.digits.invariant.2 in
    (grind (arith, list_all_more is_ascii_digit c.args.word.now c.digits.byte-index 0 c.digits-test.true, c.digits.invariant.0, digit, c.is_ascii_digit.ensures.value), more.0, more.1)
