-- Keys as numbers to the base 32: their digits, their bounds and their order.
use Rattle.std.proofs.Common.{◌≡◌, ℕ, zero, suc, ◌+◌, ◌-◌, ◌*◌, ◌/◌, ◌%◌, ◌^◌, ◌<◌, ◌≤◌, ◌⊎◌, inl, inr, List, [], ◌∷◌, ◌++◌, length, get_or, take, drop, set, arith, refl, sym, ◌∙◌, ap, add-one, append_assoc, append-nil, length-take}
use Rattle.std.specs.Prelude.{All, ◌↔◌}
use Rattle.std.specs.Int.Digits.{number_from_digits, number_from_digits_after, AllBelowBase}
use Rattle.std.proofs.Math.Nat.{pow-succ', pow-le-pow_right}
use Rattle.std.proofs.Math.Seq.{take-set-lt}
use Rattle.std.proofs.lemmas.Bool.{cases_order}
use Rattle.std.proofs.lemmas.Int.Digits.{number_lt, number_more}
use Rattle.std.proofs.lemmas.List.{take_more, take_all, drop_all, drop-set}
use Rattle.std.proofs.lemmas.List.Elements.{All-weaker, All-take, recursion_from_All}
use Rattle.std.proofs.lemmas.Nat.{div-mul-add, mod-mul-add, mul-le}
use Rattle.board.specs.Shapes.{ShapeModel, IsShape, cell_count}
use Rattle.board.specs.Boards.{BoardModel, IsBoard}
use Rattle.board.specs.Keys.{packed_number, key_of, HasKey, Precedes}
use Rattle.board.specs.Digits.{digits_of}

-- a number that goes one digit up
one_up : (n x small large p : ℕ) → large ≡ 32 * small → (n * 32 + x) * small + p ≡ n * large + (x * small + p)
one_up n x small large p e = rw e (grind (arith))

-- std's number of digits behind a number: the number goes as many digits up
number_after : (n : ℕ) (xs : List ℕ) → number_from_digits_after 32 n xs ≡ n * 32 ^ length xs + packed_number xs
number_after n [] = omega arith
number_after n (x ∷ xs) = number_after (n * 32 + x) xs ∙ one_up n x (32 ^ length xs) (32 ^ suc (length xs)) (packed_number xs) (pow-succ' 32 (length xs))

-- std's word for a packed number
packed_is_number : (xs : List ℕ) → packed_number xs ≡ number_from_digits 32 xs
packed_is_number xs = let e = number_after 0 xs in omega arith

-- numbers below 32 pack to less than 32 to the power of their count
pub packed_number-lt : (xs : List ℕ) → AllBelowBase 32 xs → packed_number xs < 32 ^ length xs
packed_number-lt xs below = rw (packed_is_number xs) (number_lt 32 xs below)

-- one more number packs as one more digit
pub packed_number-more : (xs : List ℕ) (i : ℕ) → i < length xs → packed_number (take (i + 1) xs) ≡ packed_number (take i xs) * 32 + get_or xs i 0
packed_number-more xs i within = omega (arith, number_more 32 xs i within, packed_is_number (take (i + 1) xs), packed_is_number (take i xs))

-- the last n digits of a packed number are the numbers that it was packed from
pub digits_of-packed : (n : ℕ) (xs : List ℕ) → n ≤ length xs → All (λ x. x < 32) xs → digits_of n (packed_number (take n xs)) ≡ take n xs
digits_of-packed zero xs within below = refl
digits_of-packed (suc n) xs within below =
    let digit : get_or xs n 0 < 32 = below n 0 (omega arith) in
    let more : packed_number (take (suc n) xs) ≡ packed_number (take n xs) * 32 + get_or xs n 0 = rw add-one at (packed_number-more xs n (omega arith)) in
    let front : packed_number (take (suc n) xs) / 32 ≡ packed_number (take n xs) = rw more (div-mul-add _ 32 _ digit) in
    let last : packed_number (take (suc n) xs) % 32 ≡ get_or xs n 0 = rw more (mod-mul-add _ 32 _ digit) in
    let whole : take (suc n) xs ≡ take n xs ++ get_or xs n 0 ∷ [] = rw add-one at (take_more xs n 0 (omega arith)) in
    let rest : digits_of n (packed_number (take n xs)) ≡ take n xs = digits_of-packed n xs (omega arith) below in
    cc

-- a number to the base n with smaller first digits is smaller
first_smaller : (n x y p q : ℕ) → x < y → p < n → x * n + p < y * n + q
first_smaller n x y p q less low = let e : suc x * n ≤ y * n = mul-le (suc x) n y n less (omega arith) in omega arith

-- the first digits of two numbers to the base n decide their order, and where they are the same the last one does
first_decides : (n x y p q : ℕ) → p < n → q < n → (x * n + p < y * n + q) ↔ ((x < y) ⊎ ((x ≡ y) × (p < q)))
first_decides n x y p q low high = (
  (λ less. elim (cases_order x y) [
    | inl h ↦ inr (h, omega (arith, ap (λ (k : ℕ). k * n) h))
    | inr (inl h) ↦ inl h
    | inr (inr h) ↦ absurd (omega (arith, first_smaller n y x q p h high))
  ]),
  (λ either. elim either [
    | inl h ↦ first_smaller n x y p q h low
    | inr h ↦ omega (arith, ap (λ (k : ℕ). k * n) h.0, h.1)
  ]),
)

-- lists of one length of numbers below 32 are in the order of their packed numbers
pub packed_in_order : (xs ys : List ℕ) → length xs ≡ length ys → AllBelowBase 32 xs → AllBelowBase 32 ys → (packed_number xs < packed_number ys) ↔ Precedes xs ys
packed_in_order [] [] same low high = ((λ h. omega arith), (λ h. absurd h))
packed_in_order [] (y ∷ ys) same low high = absurd (omega arith)
packed_in_order (x ∷ xs) [] same low high = absurd (omega arith)
packed_in_order (x ∷ xs) (y ∷ ys) same low high =
    let even : length xs ≡ length ys = omega arith in
    let rest = packed_in_order xs ys even low.1 high.1 in
    let first = first_decides (32 ^ length ys) x y (packed_number xs) (packed_number ys) (rw (← even) (packed_number-lt xs low.1)) (packed_number-lt ys high.1) in (
      (λ h. elim (first.0 (rw even at h)) [ inl less ↦ inl less | inr both ↦ inr (both.0, rest.0 both.1) ]),
      (λ h. elim h [ inl less ↦ rw even (first.1 (inl less)) | inr both ↦ rw even (first.1 (inr (both.0, rest.1 both.1))) ]),
    )

-- there are at most 25 cells
cells_few : (grid : ShapeModel) → IsShape grid → cell_count grid ≤ 25
cells_few grid sides = mul-le grid.rows grid.cols 5 5 sides.rows_high sides.cols_high

-- the tiles of a board are below 32
pub tiles_small : (b : BoardModel) → IsBoard b → All (λ x. x < 32) b.tiles
tiles_small b is =
    let few : cell_count b.grid ≤ 25 = cells_few b.grid is.sides in
    All-weaker (λ t. t < cell_count b.grid) (λ t. t < 32) (λ t h. omega arith) b.tiles is.in_range

-- a key has no more digits than there are cells
pub key_of-lt : (b : BoardModel) → IsBoard b → key_of b < 32 ^ cell_count b.grid
key_of-lt b is = rw (← is.one_each) (packed_number-lt b.tiles (recursion_from_All (λ x. x < 32) b.tiles (tiles_small b is)))

-- the digits of a board's key are its tiles
pub digits_of-key : (b : BoardModel) → IsBoard b → digits_of (cell_count b.grid) (key_of b) ≡ b.tiles
digits_of-key b is =
    let whole : take (cell_count b.grid) b.tiles ≡ b.tiles = take_all (cell_count b.grid) b.tiles (omega arith) in
    let digits : digits_of (cell_count b.grid) (packed_number (take (cell_count b.grid) b.tiles)) ≡ take (cell_count b.grid) b.tiles = digits_of-packed (cell_count b.grid) b.tiles (omega arith) (tiles_small b is) in
    rw whole at digits

-- the first tiles of a board leave room for the last
pub key_fits : (b : BoardModel) (i : ℕ) → IsBoard b → i < cell_count b.grid → packed_number (take i b.tiles) < 2 ^ 120
key_fits b i is before =
    let few : cell_count b.grid ≤ 25 = cells_few b.grid is.sides in
    let small : packed_number (take i b.tiles) < 32 ^ length (take i b.tiles) = packed_number-lt (take i b.tiles) (recursion_from_All (λ x. x < 32) (take i b.tiles) (All-take (λ x. x < 32) i b.tiles (tiles_small b is))) in
    let most : 32 ^ length (take i b.tiles) ≤ 32 ^ 24 = pow-le-pow_right {n = 32} (omega arith) {j = 24} (omega (arith, length-take i b.tiles)) in
    omega arith

-- before the first digit is read, no digit is behind the others
pub digits_begin : (n key : ℕ) (tiles : List ℕ) → digits_of n key ≡ digits_of n key ++ drop n (take n tiles)
digits_begin n key tiles =
    let none : drop n (take n tiles) ≡ [] = drop_all n (take n tiles) (omega (arith, length-take n tiles)) in
    rw none (sym (append-nil (digits_of n key)))

-- one more digit, from the last one on
digits_more : (n cell rest : ℕ) (tiles : List ℕ) → cell < n → n ≤ length tiles → digits_of (suc cell) rest ++ drop (suc cell) (take n tiles) ≡ digits_of cell (rest / 32) ++ drop cell (take n (set tiles cell (rest % 32)))
digits_more n cell rest tiles before within =
    let written : drop cell (set (take n tiles) cell (rest % 32)) ≡ rest % 32 ∷ drop (suc cell) (take n tiles) = rw add-one at (drop-set (take n tiles) cell (rest % 32) (omega (arith, length-take n tiles))) in
    rw (take-set-lt n tiles cell (rest % 32) before, written) (append_assoc (digits_of cell (rest / 32)) (rest % 32 ∷ []) (drop (suc cell) (take n tiles)))

-- the last digit of what is left goes into the last free cell
pub digits_step : (n cell rest : ℕ) (tiles : List ℕ) → 0 < cell → cell ≤ n → n ≤ length tiles → digits_of cell rest ++ drop cell (take n tiles) ≡ digits_of (cell - 1) (rest / 32) ++ drop (cell - 1) (take n (set tiles (cell - 1) (rest % 32)))
digits_step n zero rest tiles some before within = absurd (omega arith)
digits_step n (suc cell) rest tiles some before within = let e : suc cell - 1 ≡ cell = omega arith in rw e (digits_more n cell rest tiles before within)

-- the tiles that are read from the key of a board are the board's
pub read_back : (grid : ShapeModel) (key n m : ℕ) (read : List ℕ) (b : BoardModel) → HasKey grid key b → n ≡ cell_count grid → m ≡ cell_count grid → take n read ≡ digits_of n key → record { grid = grid; tiles = take m read } ≡ b
read_back grid key n m read b has counted again digits =
    let sides : cell_count b.grid ≡ cell_count grid = ap cell_count has.sides in
    let own : digits_of (cell_count b.grid) (key_of b) ≡ b.tiles = digits_of-key b has.board in
    let same : key_of b ≡ key = has.packed in
    let tiles : take m read ≡ b.tiles = cc in
    λ i. record { grid = sym has.sides i; tiles = tiles i }

-- a key names one board of a grid
pub same_board : (a b : BoardModel) → IsBoard a → IsBoard b → a.grid ≡ b.grid → key_of a ≡ key_of b → a ≡ b
same_board a b is is' sides same =
    let one : digits_of (cell_count a.grid) (key_of a) ≡ a.tiles = digits_of-key a is in
    let other : digits_of (cell_count b.grid) (key_of b) ≡ b.tiles = digits_of-key b is' in
    let tiles : a.tiles ≡ b.tiles = cc in
    λ i. record { grid = sides i; tiles = tiles i }
