-- Digits of four and of five bits, and the first digit that is zero, by one subtraction: borrows go upward only, so the lowest mark is right.
use Rattle.std.proofs.Common.{◌≡◌, ◌≢◌, ℕ, zero, suc, ◌+◌, ◌-◌, ◌*◌, ◌/◌, ◌%◌, ◌^◌, ◌<◌, ◌≤◌, sym, ap, ◌∙◌, subst, ⊎_elim, arith, refl}
use Rattle.std.specs.Int.{bit_at}
use lib.Bits.{bit_and, bit_xor, and_shr, and_mod, xor_shr, xor_mod, xor_lt, xor_self, xor_add_and, and_le_l, and_le_r, shifted_half, shifted_even}
use lib.Count.{count_trailing_zeros, under}
use Rattle.std.proofs.Math.Nat.{mul_assoc, mul-le-mul_left, mul-one, pow-suc, pow-le-pow_right, mod-eq_of_lt}
use Rattle.std.proofs.lemmas.Bool.{cases_eq, cases_lt}
use Rattle.std.proofs.lemmas.Nat.{pow-add, pow_pos, shr-shr, div-mul-add, mod-mul-add, div-add-mod', mod_below}
use Rattle.search_keys.specs.SearchKeys.{IsFirstDigit}
use Rattle.std.proofs.lemmas.Nat.Bits.{and_pow, bit_at_and, bit_at_above, bit_at_ones}

-- four bits are a digit
pub four_bits : (k : ℕ) → 2 ^ (4 * k) ≡ 16 ^ k
four_bits zero = refl
four_bits (suc k) =
    let more : 4 * suc k ≡ 4 * k + 4 = omega arith in
    ap (λ (e : ℕ). 2 ^ e) more ∙ pow-add 2 (4 * k) 4 ∙ ap (λ (x : ℕ). x * 16) (four_bits k) ∙ sym (pow-suc 16 k)

-- and so are five
pub five_bits : (k : ℕ) → 2 ^ (5 * k) ≡ 32 ^ k
five_bits zero = refl
five_bits (suc k) =
    let more : 5 * suc k ≡ 5 * k + 5 = omega arith in
    ap (λ (e : ℕ). 2 ^ e) more ∙ pow-add 2 (5 * k) 5 ∙ ap (λ (x : ℕ). x * 32) (five_bits k) ∙ sym (pow-suc 32 k)

-- a digit that is read
pub short_read : (key place : ℕ) → key / 2 ^ (4 * place) % 16 ≡ key / 16 ^ place % 16
short_read key place = ap (λ (n : ℕ). key / n % 16) (four_bits place)

pub long_read : (key place : ℕ) → key / 2 ^ (5 * place) % 32 ≡ key / 32 ^ place % 32
long_read key place = ap (λ (n : ℕ). key / n % 32) (five_bits place)

-- how many numbers there are of a few digits
part_size : (count : ℕ) → count < 16 → 1 * 16 ^ count % 18446744073709551616 ≡ 16 ^ count
part_size count few =
    let most : 16 ^ count ≤ 16 ^ 15 = pow-le-pow_right {n = 16} (omega arith) {j = 15} (omega (arith, few)) in
    let one : 1 * 16 ^ count ≡ 16 ^ count = omega arith in
    mod-eq_of_lt (omega (arith, most, one)) ∙ one

-- digits that follow one another, as they are read
pub short_part : (key first count : ℕ) → count < 16 → key / 2 ^ (4 * first) % (1 * 2 ^ (4 * count) % 18446744073709551616) ≡ key / 16 ^ first % 16 ^ count
short_part key first count few =
    (λ i. key / four_bits first i % (1 * four_bits count i % 18446744073709551616))
    ∙ ap (λ (n : ℕ). key / 16 ^ first % n) (part_size count few)

-- a digit that is put at a place
pub short_put : (digit place : ℕ) → digit * 16 ^ place < 2 ^ 64 → digit * 2 ^ (4 * place) % 18446744073709551616 ≡ digit * 16 ^ place
short_put digit place fits = ap (λ (n : ℕ). digit * n % 18446744073709551616) (four_bits place) ∙ mod-eq_of_lt fits

pub long_put : (digit place : ℕ) → digit * 32 ^ place < 2 ^ 128 → digit * 2 ^ (5 * place) % 340282366920938463463374607431768211456 ≡ digit * 32 ^ place
long_put digit place fits = ap (λ (n : ℕ). digit * n % 340282366920938463463374607431768211456) (five_bits place) ∙ mod-eq_of_lt fits

-- the number of n digits that are all this one
abbrev pub repeated : ℕ → ℕ → ℕ → ℕ
repeated base digit zero = 0
repeated base digit (suc n) = digit + base * repeated base digit n

-- ---- quotients and remainders

one_way : (n a s a' s' : ℕ) → s < n → s' < n → a * n + s ≡ a' * n + s' → (a ≡ a') × (s ≡ s')
one_way n a s a' s' low low' same = (
  sym (div-mul-add a n s low) ∙ ap (λ (x : ℕ). x / n) same ∙ div-mul-add a' n s' low',
  sym (mod-mul-add a n s low) ∙ ap (λ (x : ℕ). x % n) same ∙ mod-mul-add a' n s' low',
)

-- the complement of a number has the complement of its lowest digit
module _ (n z x v : ℕ) (some : 0 < n) (all : z + x + 1 ≡ n * v) where
  whole : (z / n + x / n) * n + (z % n + x % n + 1) ≡ v * n + 0
  whole = sums (z / n) (x / n) (z % n) (x % n) (div-add-mod' z n) (div-add-mod' x n)
    where
      sums : (a b s d : ℕ) → a * n + s ≡ z → b * n + d ≡ x → (a + b) * n + (s + d + 1) ≡ v * n + 0
      sums a b s d first second = omega arith

  high : n ≤ z % n + x % n + 1
  high =
      ⊎_elim
      (λ (less : z % n + x % n + 1 < n). let u = one_way n (z / n + x / n) (z % n + x % n + 1) v 0 less some whole in absurd (omega (arith, u.1)))
      (λ (le : n ≤ z % n + x % n + 1). le)
      (cases_lt (z % n + x % n + 1) n)

  pub complement_digit : (z % n ≡ n - 1 - x % n) × (z / n + x / n + 1 ≡ v)
  complement_digit =
      let z_low = mod_below z n some in
      let x_low = mod_below x n some in
      let le = high in
      let u = one_way n (z / n + x / n + 1) (z % n + x % n + 1 - n) v 0 (omega arith) some (up (z / n + x / n) (z % n + x % n + 1) le whole) in
      (omega (arith, u.1), u.0)
    where
      up : (a s : ℕ) → n ≤ s → a * n + s ≡ v * n + 0 → (a + 1) * n + (s - n) ≡ v * n + 0
      up a s le e = omega arith

-- a lowest digit above 0 is one less after the subtraction, and nothing is borrowed
pub digit_less : (n y x o c v : ℕ) → 0 < n → 0 < x % n → y + (1 + n * o) ≡ x + c * (n * v) → (y % n ≡ x % n - 1) × (y / n + o ≡ x / n + c * v)
digit_less n y x o c v some above all =
    let y_low = mod_below y n some in
    let x_low = mod_below x n some in
    let u = one_way n (y / n + o) (y % n) (x / n + c * v) (x % n - 1) y_low (omega arith) (sums (y / n) (y % n) (x / n) (x % n) above (div-add-mod' y n) (div-add-mod' x n)) in
    (u.1, u.0)
  where
    sums : (a s b d : ℕ) → 0 < d → a * n + s ≡ y → b * n + d ≡ x → (a + o) * n + s ≡ (b + c * v) * n + (d - 1)
    sums a s b d more first second =
        let spread : (b + c * v) * n ≡ b * n + c * (n * v) = grind (arith) in
        omega arith

-- a lowest digit 0 has all its bits set after it
pub digit_wraps : (n y x o c v : ℕ) → 0 < n → x % n ≡ 0 → y + (1 + n * o) ≡ x + c * (n * v) → y % n ≡ n - 1
digit_wraps n y x o c v some none all =
    let y_low = mod_below y n some in
    let same : (y / n + o) * n + (y % n + 1) ≡ (x / n + c * v) * n + 0 = sums (y / n) (y % n) (x / n) (x % n) none (div-add-mod' y n) (div-add-mod' x n) in
    ⊎_elim
    (λ (less : y % n + 1 < n). let u = one_way n (y / n + o) (y % n + 1) (x / n + c * v) 0 less some same in absurd (omega (arith, u.1)))
    (λ (le : n ≤ y % n + 1). omega arith)
    (cases_lt (y % n + 1) n)
  where
    sums : (a s b d : ℕ) → d ≡ 0 → a * n + s ≡ y → b * n + d ≡ x → (a + o) * n + (s + 1) ≡ (b + c * v) * n + 0
    sums a s b d zero' first second =
        let spread : (b + c * v) * n ≡ b * n + c * (n * v) = grind (arith) in
        omega arith

-- where the lowest 1 is
trailing : (width m p : ℕ) → m % 2 ≡ 1 → p < width → count_trailing_zeros width (m * 2 ^ p) ≡ p
unfolding count_trailing_zeros
trailing zero m p odd within = absurd (omega arith)
trailing (suc width) m zero odd within = ap (λ (x : ℕ). under (x % 2) (count_trailing_zeros width (x / 2))) (mul-one m) ∙ ap (λ (r : ℕ). under r (count_trailing_zeros width (m / 2))) odd
trailing (suc width) m (suc p) odd within =
    ap (λ (r : ℕ). under r (count_trailing_zeros width (m * 2 ^ suc p / 2))) (shifted_even m p)
    ∙ ap (λ (x : ℕ). suc (count_trailing_zeros width x)) (shifted_half m p)
    ∙ ap suc (trailing width m p odd (omega arith))

-- ---- digits of k + 1 bits

module _ (k : ℕ) where
  abbrev base : ℕ
  base = 2 ^ suc k

  base_is : 2 ^ suc k ≡ 2 ^ k * 2
  base_is = pow-suc 2 k

  -- the mark of a digit above 0 is 0
  unmarked : (d : ℕ) → 0 < d → d < 2 ^ suc k → bit_and (bit_and (d - 1) (2 ^ suc k - 1 - d)) (2 ^ k) ≡ 0
  unmarked d some low =
      let two = base_is in
      let at = bit_at_and (d - 1) (2 ^ suc k - 1 - d) k in
      let none : bit_at (bit_and (d - 1) (2 ^ suc k - 1 - d)) k ≡ 0 =
      ⊎_elim
      (λ (less : d - 1 < 2 ^ k). let z = bit_at_above (d - 1) k k less (omega arith) in omega (arith, at, z))
      (λ (le : 2 ^ k ≤ d - 1). let z = bit_at_above (2 ^ suc k - 1 - d) k k (omega arith) (omega arith) in omega (arith, at, z))
      (cases_lt (d - 1) (2 ^ k)) in
      let times : 0 * 2 ^ k ≡ 0 = omega arith in
      and_pow (bit_and (d - 1) (2 ^ suc k - 1 - d)) k ∙ ap (λ (bit : ℕ). bit * 2 ^ k) none ∙ times

  -- the mark of 0 is the highest bit of the digit
  marked_zero : bit_and (bit_and (2 ^ suc k - 1) (2 ^ suc k - 1 - 0)) (2 ^ k) ≡ 2 ^ k
  marked_zero =
      let at = bit_at_and (2 ^ suc k - 1) (2 ^ suc k - 1) k in
      let set' = bit_at_ones (suc k) k (omega arith) in
      let one : bit_at (bit_and (2 ^ suc k - 1) (2 ^ suc k - 1)) k ≡ 1 = omega (arith, at, set') in
      let times : 1 * 2 ^ k ≡ 2 ^ k = omega arith in
      let all : 2 ^ suc k - 1 - 0 ≡ 2 ^ suc k - 1 = omega arith in
      ap (λ (d : ℕ). bit_and (bit_and (2 ^ suc k - 1) d) (2 ^ k)) all ∙ and_pow (bit_and (2 ^ suc k - 1) (2 ^ suc k - 1)) k ∙ ap (λ (bit : ℕ). bit * 2 ^ k) one ∙ times

  -- the digit at a place
  abbrev pub digit_at : ℕ → ℕ → ℕ
  digit_at x place = x / 2 ^ (suc k * place) % 2 ^ suc k

  digit_first : (x : ℕ) → digit_at x 0 ≡ x % 2 ^ suc k
  digit_first x =
      let none : suc k * 0 ≡ 0 = omega arith in
      let one : x / 1 ≡ x = omega arith in
      ap (λ (e : ℕ). x / 2 ^ e % 2 ^ suc k) none ∙ ap (λ (y : ℕ). y % 2 ^ suc k) one

  digit_next : (x place : ℕ) → digit_at x (suc place) ≡ digit_at (x / 2 ^ suc k) place
  digit_next x place =
      let more : suc k * suc place ≡ suc k + suc k * place = omega arith in
      ap (λ (e : ℕ). x / 2 ^ e % 2 ^ suc k) more ∙ ap (λ (y : ℕ). y % 2 ^ suc k) (sym (shr-shr x (suc k) (suc k * place)))

  -- a number of equal digits, from its first digit on
  low_first : (d r : ℕ) → d < 2 ^ suc k → (d + 2 ^ suc k * r) % 2 ^ suc k ≡ d
  low_first d r low = let turned : d + 2 ^ suc k * r ≡ r * 2 ^ suc k + d = omega arith in ap (λ (x : ℕ). x % 2 ^ suc k) turned ∙ mod-mul-add r (2 ^ suc k) d low

  high_rest : (d r : ℕ) → d < 2 ^ suc k → (d + 2 ^ suc k * r) / 2 ^ suc k ≡ r
  high_rest d r low = let turned : d + 2 ^ suc k * r ≡ r * 2 ^ suc k + d = omega arith in ap (λ (x : ℕ). x / 2 ^ suc k) turned ∙ div-mul-add r (2 ^ suc k) d low

  pub repeated_digit : (n d place : ℕ) → d < 2 ^ suc k → place < n → digit_at (repeated (2 ^ suc k) d n) place ≡ d
  repeated_digit zero d place low within = absurd (omega arith)
  repeated_digit (suc n) d zero low within = digit_first (d + 2 ^ suc k * repeated (2 ^ suc k) d n) ∙ low_first d (repeated (2 ^ suc k) d n) low
  repeated_digit (suc n) d (suc place) low within =
      digit_next (d + 2 ^ suc k * repeated (2 ^ suc k) d n) place
      ∙ ap (λ (x : ℕ). digit_at x place) (high_rest d (repeated (2 ^ suc k) d n) low)
      ∙ repeated_digit n d place low (omega arith)

  -- the first digit 0 of x, and what t has as its lowest bit
  pub record IsMarked (x t last : ℕ) : Type 0 where
    pub place : ℕ
    pub within : place ≤ last
    pub there : digit_at x place ≡ 0
    pub none_before : (i : ℕ) → i < place → digit_at x i ≢ 0
    pub rest : ℕ
    pub lowest : t ≡ (2 ^ k + 2 ^ suc k * rest) * 2 ^ (suc k * place)

  none_first : (x place : ℕ) → x % 2 ^ suc k ≢ 0 → ((i : ℕ) → i < place → digit_at (x / 2 ^ suc k) i ≢ 0) → (i : ℕ) → i < suc place → digit_at x i ≢ 0
  none_first x place some rest zero low = λ is. some (sym (digit_first x) ∙ is)
  none_first x place some rest (suc i) low = λ is. rest i (omega arith) (sym (digit_next x i) ∙ is)

  -- the lowest digit of the marks, and the others
  module _ (x y z h' c v o : ℕ) (minus : y + (1 + 2 ^ suc k * o) ≡ x + c * (2 ^ suc k * v)) (not_x : z + x + 1 ≡ 2 ^ suc k * v) where
    abbrev marks : ℕ
    marks = bit_and (bit_and y z) (2 ^ k + 2 ^ suc k * h')

    half_low : 2 ^ k < 2 ^ suc k
    half_low = let two = base_is in let some = pow_pos k in omega arith

    some : 0 < 2 ^ suc k
    some = pow_pos (suc k)

    z_digit : z % 2 ^ suc k ≡ 2 ^ suc k - 1 - x % 2 ^ suc k
    z_digit = (complement_digit (2 ^ suc k) z x v some not_x).0

    pub z_rest : z / 2 ^ suc k + x / 2 ^ suc k + 1 ≡ v
    z_rest = (complement_digit (2 ^ suc k) z x v some not_x).1

    mark : marks % 2 ^ suc k ≡ bit_and (bit_and (y % 2 ^ suc k) (2 ^ suc k - 1 - x % 2 ^ suc k)) (2 ^ k)
    mark =
        and_mod (bit_and y z) (2 ^ k + 2 ^ suc k * h') (suc k)
        ∙ (λ i. bit_and (and_mod y z (suc k) i) (low_first (2 ^ k) h' half_low i))
        ∙ ap (λ (d : ℕ). bit_and (bit_and (y % 2 ^ suc k) d) (2 ^ k)) z_digit

    pub other_marks : marks / 2 ^ suc k ≡ bit_and (bit_and (y / 2 ^ suc k) (z / 2 ^ suc k)) h'
    other_marks = and_shr (bit_and y z) (2 ^ k + 2 ^ suc k * h') (suc k) ∙ (λ i. bit_and (and_shr y z (suc k) i) (high_rest (2 ^ k) h' half_low i))

    pub mark_none : x % 2 ^ suc k ≢ 0 → marks % 2 ^ suc k ≡ 0
    mark_none above =
        let positive : 0 < x % 2 ^ suc k = omega arith in
        mark
        ∙ ap (λ (d : ℕ). bit_and (bit_and d (2 ^ suc k - 1 - x % 2 ^ suc k)) (2 ^ k)) (digit_less (2 ^ suc k) y x o c v some positive minus).0
        ∙ unmarked (x % 2 ^ suc k) positive (mod_below x (2 ^ suc k) some)

    pub mark_one : x % 2 ^ suc k ≡ 0 → marks % 2 ^ suc k ≡ 2 ^ k
    mark_one none =
        mark
        ∙ (λ i. bit_and (bit_and (digit_wraps (2 ^ suc k) y x o c v some none minus i) (2 ^ suc k - 1 - none i)) (2 ^ k))
        ∙ marked_zero

    pub y_rest : x % 2 ^ suc k ≢ 0 → y / 2 ^ suc k + o ≡ x / 2 ^ suc k + c * v
    y_rest above = (digit_less (2 ^ suc k) y x o c v some (omega arith) minus).1

  -- the range of n + 1 digits, and more above them
  range_up : (n e : ℕ) → 2 ^ (suc k * suc n) * e ≡ 2 ^ suc k * (2 ^ (suc k * n) * e)
  range_up n e =
      let more : suc k * suc n ≡ suc k + suc k * n = omega arith in
      ap (λ (p : ℕ). 2 ^ p * e) more ∙ ap (λ (p : ℕ). p * e) (pow-add 2 (suc k) (suc k * n)) ∙ mul_assoc (2 ^ suc k) (2 ^ (suc k * n)) e

  module _ (n x y z c e : ℕ) (minus : y + repeated (2 ^ suc k) 1 (suc n) ≡ x + c * (2 ^ (suc k * suc n) * e)) (not_x : z + x + 1 ≡ 2 ^ (suc k * suc n) * e) where
    abbrev o : ℕ
    o = repeated (2 ^ suc k) 1 n

    abbrev h' : ℕ
    h' = repeated (2 ^ suc k) (2 ^ k) n

    abbrev v : ℕ
    v = 2 ^ (suc k * n) * e

    abbrev all_marks : ℕ
    all_marks = bit_and (bit_and y z) (2 ^ k + 2 ^ suc k * repeated (2 ^ suc k) (2 ^ k) n)

    minus' : y + (1 + 2 ^ suc k * repeated (2 ^ suc k) 1 n) ≡ x + c * (2 ^ suc k * (2 ^ (suc k * n) * e))
    minus' = minus ∙ ap (λ (p : ℕ). x + c * p) (range_up n e)

    not_x' : z + x + 1 ≡ 2 ^ suc k * (2 ^ (suc k * n) * e)
    not_x' = not_x ∙ range_up n e

    pub minus_rest : x % 2 ^ suc k ≢ 0 → y / 2 ^ suc k + repeated (2 ^ suc k) 1 n ≡ x / 2 ^ suc k + c * (2 ^ (suc k * n) * e)
    minus_rest above = y_rest x y z h' c v o minus' not_x' above

    pub not_rest : z / 2 ^ suc k + x / 2 ^ suc k + 1 ≡ 2 ^ (suc k * n) * e
    not_rest = z_rest x y z h' c v o minus' not_x'

    at_first : (q b s w : ℕ) → w ≡ 0 → q * b + s ≡ (s + b * q) * 2 ^ w
    at_first q b s w is = let one : 2 ^ w ≡ 1 = ap (λ (p : ℕ). 2 ^ p) is in let times : (s + b * q) * 2 ^ w ≡ (s + b * q) * 1 = ap (λ (p : ℕ). (s + b * q) * p) one in omega arith

    at_next : (r place : ℕ) → all_marks / 2 ^ suc k ≡ r * 2 ^ (suc k * place) → all_marks % 2 ^ suc k ≡ 0 → all_marks ≡ r * 2 ^ (suc k * suc place)
    at_next r place is none =
        let more : suc k * suc place ≡ suc k * place + suc k = omega arith in
        let power : 2 ^ (suc k * suc place) ≡ 2 ^ (suc k * place) * 2 ^ suc k = ap (λ (p : ℕ). 2 ^ p) more ∙ pow-add 2 (suc k * place) (suc k) in
        joined (all_marks / 2 ^ suc k) (2 ^ suc k) (all_marks % 2 ^ suc k) all_marks r (2 ^ (suc k * place)) (2 ^ (suc k * suc place)) (div-add-mod' all_marks (2 ^ suc k)) is none power
      where
        joined : (q b s t r p w : ℕ) → q * b + s ≡ t → q ≡ r * p → s ≡ 0 → w ≡ p * b → t ≡ r * w
        joined q b s t r p w whole' is none power =
            let up : q * b ≡ r * p * b = ap (λ (x : ℕ). x * b) is in
            let down : r * w ≡ r * (p * b) = ap (λ (x : ℕ). r * x) power in
            let regroup : r * p * b ≡ r * (p * b) = mul_assoc r p b in
            omega arith

    pub first_marked : (last : ℕ) → x % 2 ^ suc k ≡ 0 → IsMarked x (bit_and (bit_and y z) (repeated (2 ^ suc k) (2 ^ k) (suc n))) last
    first_marked last none = record {
      place = 0;
      within = omega arith;
      there = digit_first x ∙ none;
      none_before = λ i low. absurd (omega arith);
      rest = all_marks / 2 ^ suc k;
      lowest = sym (div-add-mod' all_marks (2 ^ suc k))
          ∙ ap (λ (d : ℕ). all_marks / 2 ^ suc k * 2 ^ suc k + d) (mark_one x y z h' c v o minus' not_x' none)
          ∙ at_first (all_marks / 2 ^ suc k) (2 ^ suc k) (2 ^ k) (suc k * 0) (omega arith);
    }

    pub next_marked : (last : ℕ) → x % 2 ^ suc k ≢ 0 → IsMarked (x / 2 ^ suc k) (bit_and (bit_and (y / 2 ^ suc k) (z / 2 ^ suc k)) (repeated (2 ^ suc k) (2 ^ k) n)) last → IsMarked x (bit_and (bit_and y z) (repeated (2 ^ suc k) (2 ^ k) (suc n))) (suc last)
    next_marked last above rest = record {
      place = suc rest.place;
      within = omega (arith, rest.within);
      there = digit_next x rest.place ∙ rest.there;
      none_before = none_first x rest.place above rest.none_before;
      rest = rest.rest;
      lowest = at_next (2 ^ k + 2 ^ suc k * rest.rest) rest.place (other_marks x y z h' c v o minus' not_x' ∙ rest.lowest) (mark_none x y z h' c v o minus' not_x' above);
    }

  pub marked : (n last x y z c e : ℕ) → last < n → digit_at x last ≡ 0
      → y + repeated (2 ^ suc k) 1 n ≡ x + c * (2 ^ (suc k * n) * e)
      → z + x + 1 ≡ 2 ^ (suc k * n) * e
      → IsMarked x (bit_and (bit_and y z) (repeated (2 ^ suc k) (2 ^ k) n)) last
  marked zero last x y z c e within there minus not_x = absurd (omega arith)
  marked (suc n) zero x y z c e within there minus not_x = first_marked n x y z c e minus not_x zero (sym (digit_first x) ∙ there)
  marked (suc n) (suc last) x y z c e within there minus not_x =
      ⊎_elim
      (λ (none : x % 2 ^ suc k ≡ 0). first_marked n x y z c e minus not_x (suc last) none)
      (λ (above : x % 2 ^ suc k ≢ 0). next_marked n x y z c e minus not_x last above (marked n last (x / 2 ^ suc k) (y / 2 ^ suc k) (z / 2 ^ suc k) c e (omega arith) (sym (digit_next x last) ∙ there) (minus_rest n x y z c e minus not_x above) (not_rest n x y z c e minus not_x)))
      (cases_eq (x % 2 ^ suc k) 0)

  -- the number of zeros below the mark
  pub zeros_below : (width x t last : ℕ) (is : IsMarked x t last) → k + suc k * last < width → count_trailing_zeros width t ≡ k + suc k * is.place
  zeros_below width x t last is fits =
      let power : 2 ^ (k + suc k * is.place) ≡ 2 ^ k * 2 ^ (suc k * is.place) = pow-add 2 k (suc k * is.place) in
      let two = base_is in
      let odd : (1 + 2 * is.rest) % 2 ≡ 1 = omega arith in
      let inner : 2 ^ k + 2 ^ suc k * is.rest ≡ (1 + 2 * is.rest) * 2 ^ k = (let e : 2 ^ suc k * is.rest ≡ 2 ^ k * 2 * is.rest = ap (λ (p : ℕ). p * is.rest) two in spread (2 ^ k) is.rest (2 ^ suc k * is.rest) e) in
      let shape : t ≡ (1 + 2 * is.rest) * 2 ^ (k + suc k * is.place) =
      is.lowest ∙ ap (λ (s : ℕ). s * 2 ^ (suc k * is.place)) inner ∙ mul_assoc (1 + 2 * is.rest) (2 ^ k) (2 ^ (suc k * is.place)) ∙ ap (λ (p : ℕ). (1 + 2 * is.rest) * p) (sym power) in
      let low : suc k * is.place ≤ suc k * last = mul-le-mul_left (suc k) is.within in
      ap (count_trailing_zeros width) shape ∙ trailing width (1 + 2 * is.rest) (k + suc k * is.place) odd (omega arith)
    where
      spread : (a r q : ℕ) → q ≡ a * 2 * r → a + q ≡ (1 + 2 * r) * a
      spread a r q e = omega arith

  -- ---- digits that are a given one are 0 after `xor` with a number of such digits

  xor_digit : (x d n place : ℕ) → d < 2 ^ suc k → place < n → digit_at (bit_xor x (repeated (2 ^ suc k) d n)) place ≡ bit_xor (digit_at x place) d
  xor_digit x d n place low within =
      ap (λ (q : ℕ). q % 2 ^ suc k) (xor_shr x (repeated (2 ^ suc k) d n) (suc k * place))
      ∙ xor_mod (x / 2 ^ (suc k * place)) (repeated (2 ^ suc k) d n / 2 ^ (suc k * place)) (suc k)
      ∙ ap (bit_xor (digit_at x place)) (repeated_digit n d place low within)

  pub same_zero : (x d n place : ℕ) → d < 2 ^ suc k → place < n → digit_at x place ≡ d → digit_at (bit_xor x (repeated (2 ^ suc k) d n)) place ≡ 0
  same_zero x d n place low within is = xor_digit x d n place low within ∙ ap (λ (a : ℕ). bit_xor a d) is ∙ xor_self d

  pub zero_same : (x d n place : ℕ) → d < 2 ^ suc k → place < n → digit_at (bit_xor x (repeated (2 ^ suc k) d n)) place ≡ 0 → digit_at x place ≡ d
  zero_same x d n place low within none =
      let e : bit_xor (digit_at x place) d ≡ 0 = sym (xor_digit x d n place low within) ∙ none in
      let all = xor_add_and (digit_at x place) d in
      let left = and_le_l (digit_at x place) d in
      let right = and_le_r (digit_at x place) d in
      omega (arith, e, all, left, right)

-- a number of equal digits is a multiple of the one of ones
pub repeated_times : (base d n : ℕ) → d * repeated base 1 n ≡ repeated base d n
repeated_times base d zero = omega arith
repeated_times base d (suc n) =
    let rest : base * (d * repeated base 1 n) ≡ base * repeated base d n = ap (λ (r : ℕ). base * r) (repeated_times base d n) in
    spread base d (repeated base 1 n) (repeated base d n) rest
  where
    spread : (b d r s : ℕ) → b * (d * r) ≡ b * s → d * (1 + b * r) ≡ d + b * s
    spread b d r s e = let turned : d * (b * r) ≡ b * (d * r) = grind (arith) in let all : d * (1 + b * r) ≡ d + d * (b * r) = grind (arith) in omega arith

-- ---- 16 digits of four bits

short_marks : (x last : ℕ) → x < 2 ^ 64 → last < 16 → digit_at 3 x last ≡ 0 → IsMarked 3 x (bit_and (bit_and ((x + 17216961135462248175) % 18446744073709551616) (18446744073709551615 - x)) 9838263505978427528) last
short_marks x last low within there =
    let minus : (x + 17216961135462248175) % 18446744073709551616 + 1229782938247303441 ≡ x + (1 - (x + 17216961135462248175) / 18446744073709551616) * 18446744073709551616 = omega arith in
    let not_x : 18446744073709551615 - x + x + 1 ≡ 18446744073709551616 = omega arith in
    marked 3 16 last x ((x + 17216961135462248175) % 18446744073709551616) (18446744073709551615 - x) (1 - (x + 17216961135462248175) / 18446744073709551616) 1 within there minus not_x

pub short_first : (key digit : ℕ) → key < 2 ^ 64 → digit < 16 → ((place : ℕ) × (place < 16) × (key / 16 ^ place % 16 ≡ digit))
    → IsFirstDigit 16 key digit (count_trailing_zeros 64 (bit_and (bit_and ((bit_xor key (digit * 1229782938247303441) + 17216961135462248175) % 18446744073709551616) (18446744073709551615 - bit_xor key (digit * 1229782938247303441))) 9838263505978427528) / 4)
short_first key digit key_low low found =
    let times : digit * 1229782938247303441 ≡ repeated 16 digit 16 = repeated_times 16 digit 16 in
    let x_low : bit_xor key (repeated 16 digit 16) < 2 ^ 64 = xor_lt 64 key (repeated 16 digit 16) key_low (subst (λ (n : ℕ). n < 2 ^ 64) times (omega arith)) in
    let to_digit : (place : ℕ) → digit_at 3 key place ≡ key / 16 ^ place % 16 = λ place. ap (λ (n : ℕ). key / n % 16) (four_bits place) in
    let is = short_marks (bit_xor key (repeated 16 digit 16)) found.0 x_low found.1 (same_zero 3 key digit 16 found.0 low found.1 (to_digit found.0 ∙ found.2)) in
    let zeros = zeros_below 3 64 (bit_xor key (repeated 16 digit 16)) _ found.0 is (omega (arith, found.1)) in
    let place_is : (3 + 4 * is.place) / 4 ≡ is.place = omega arith in
    let place_low : is.place < 16 = omega (arith, is.within, found.1) in
    let first : IsFirstDigit 16 key digit is.place = record {
      there = sym (to_digit is.place) ∙ zero_same 3 key digit 16 is.place low place_low is.there;
      none_before = λ i before same. is.none_before i before (same_zero 3 key digit 16 i low (omega (arith, before, place_low)) (to_digit i ∙ same));
    } in
    subst (λ (n : ℕ). IsFirstDigit 16 key digit (count_trailing_zeros 64 (bit_and (bit_and ((bit_xor key n + 17216961135462248175) % 18446744073709551616) (18446744073709551615 - bit_xor key n)) 9838263505978427528) / 4)) (sym times)
    (subst (λ (p : ℕ). IsFirstDigit 16 key digit p) (sym (ap (λ (n : ℕ). n / 4) zeros ∙ place_is)) first)

-- ---- 25 digits of five bits

long_marks : (x last : ℕ) → x < 2 ^ 128 → last < 25 → digit_at 4 x last ≡ 0 → IsMarked 4 x (bit_and (bit_and ((x + 338910260602708872884893258208253017055) % 340282366920938463463374607431768211456) (340282366920938463463374607431768211455 - x)) 21953701091673449255701587576243110416) last
long_marks x last low within there =
    let minus : (x + 338910260602708872884893258208253017055) % 340282366920938463463374607431768211456 + 1372106318229590578481349223515194401 ≡ x + (1 - (x + 338910260602708872884893258208253017055) / 340282366920938463463374607431768211456) * 340282366920938463463374607431768211456 = omega arith in
    let not_x : 340282366920938463463374607431768211455 - x + x + 1 ≡ 340282366920938463463374607431768211456 = omega arith in
    marked 4 25 last x ((x + 338910260602708872884893258208253017055) % 340282366920938463463374607431768211456) (340282366920938463463374607431768211455 - x) (1 - (x + 338910260602708872884893258208253017055) / 340282366920938463463374607431768211456) 8 within there minus not_x

pub long_first : (key digit : ℕ) → key < 2 ^ 128 → digit < 32 → ((place : ℕ) × (place < 25) × (key / 32 ^ place % 32 ≡ digit))
    → IsFirstDigit 32 key digit (count_trailing_zeros 128 (bit_and (bit_and ((bit_xor key (digit * 1372106318229590578481349223515194401) + 338910260602708872884893258208253017055) % 340282366920938463463374607431768211456) (340282366920938463463374607431768211455 - bit_xor key (digit * 1372106318229590578481349223515194401))) 21953701091673449255701587576243110416) / 5)
long_first key digit key_low low found =
    let times : digit * 1372106318229590578481349223515194401 ≡ repeated 32 digit 25 = repeated_times 32 digit 25 in
    let x_low : bit_xor key (repeated 32 digit 25) < 2 ^ 128 = xor_lt 128 key (repeated 32 digit 25) key_low (subst (λ (n : ℕ). n < 2 ^ 128) times (omega arith)) in
    let to_digit : (place : ℕ) → digit_at 4 key place ≡ key / 32 ^ place % 32 = λ place. ap (λ (n : ℕ). key / n % 32) (five_bits place) in
    let is = long_marks (bit_xor key (repeated 32 digit 25)) found.0 x_low found.1 (same_zero 4 key digit 25 found.0 low found.1 (to_digit found.0 ∙ found.2)) in
    let zeros = zeros_below 4 128 (bit_xor key (repeated 32 digit 25)) _ found.0 is (omega (arith, found.1)) in
    let place_is : (4 + 5 * is.place) / 5 ≡ is.place = omega arith in
    let place_low : is.place < 25 = omega (arith, is.within, found.1) in
    let first : IsFirstDigit 32 key digit is.place = record {
      there = sym (to_digit is.place) ∙ zero_same 4 key digit 25 is.place low place_low is.there;
      none_before = λ i before same. is.none_before i before (same_zero 4 key digit 25 i low (omega (arith, before, place_low)) (to_digit i ∙ same));
    } in
    subst (λ (n : ℕ). IsFirstDigit 32 key digit (count_trailing_zeros 128 (bit_and (bit_and ((bit_xor key n + 338910260602708872884893258208253017055) % 340282366920938463463374607431768211456) (340282366920938463463374607431768211455 - bit_xor key n)) 21953701091673449255701587576243110416) / 5)) (sym times)
    (subst (λ (p : ℕ). IsFirstDigit 32 key digit p) (sym (ap (λ (n : ℕ). n / 5) zeros ∙ place_is)) first)
