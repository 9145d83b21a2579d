-- Search keys: that a board and its key determine each other, how large a key is, and which digits a move exchanges.
use Rattle.std.proofs.Common.{Some, ◌≡◌, ◌≢◌, ℕ, zero, suc, ◌+◌, ◌*◌, ◌/◌, ◌%◌, ◌^◌, ◌<◌, ◌≤◌, Bool, true, false, cond, eqb, List, [], ◌∷◌, length, map, take, drop, set, get_or, refl, sym, ap, ◌∙◌, subst, ⊎_elim, arith}
use Rattle.std.specs.Prelude.{All, AllPairs, nat_le, slice_index}
use Rattle.std.specs.List.{range_with_len}
use Rattle.std.proofs.Math.Nat.{pow-le-pow_right, mul_comm, pow-suc, pow-succ', pow-zero, div-one, div-div-eq-div-mul}
use Rattle.std.proofs.lemmas.Bool.{false≢true, cases_eq, cases_lt, cond-true, cond-false, eq-eqb, ne_eqb}
use Rattle.std.proofs.lemmas.Bool.Decides.{nat_tests}
use Rattle.std.proofs.lemmas.Grind.{same_number_lists}
use Rattle.std.proofs.lemmas.List.{length-take, length-take-le, length-drop, length-set, get_or-take, get_or-drop, get_or-set_other, get_or-set_same, drop_more}
use Rattle.std.proofs.lemmas.List.Elements.{All-from_get_or, All-get_or, recursion_from_All}
use Rattle.std.proofs.lemmas.List.FromFn.{length-map-range_with_len, get_or-map-range_with_len}
use Rattle.std.proofs.lemmas.Nat.{div-mul-add, mod-mul-add, mul-le, pow_pos}
use Rattle.board.specs.Shapes.{ShapeModel, IsShape, cell_count}
use Rattle.board.specs.Boards.{BoardModel, IsBoard, cell_of, blank_of}
use Rattle.board.specs.declared.moves.Move.{Move}
use Rattle.board.specs.Weights.{WeightsModel, weight_of}
use Rattle.board.specs.Neighbours.{neighbour}
use Rattle.board.specs.Moves.{Moves, blank_exchange, successor}
use Rattle.board.proofs.TileLemmas.{cell_is, has_cell, all_differ, across}
use Rattle.board.proofs.MoveLemmas.{cell_of-exchange, exchange_board, other_cell, cell_below, blank_after}
use Rattle.board.proofs.NeighbourLemmas.{cells_above, neighbour_lies}
use Rattle.board.proofs.StepLemmas.{blank_stands, tile_above, tile_below}
use Rattle.pattern_index.specs.Sparse.{sparse_of, digits_in}
use Rattle.pattern_index.proofs.RankLemmas.{Below}
use Rattle.pattern_index.proofs.SparseLemmas.{sparse_below, digits_back}
use Rattle.search_keys.specs.SearchKeys.{digit_bits, key_base, cells_by_number, search_key, HasSearchKey, IsFirstDigit}
use Rattle.search_keys.specs.Storage.{turned, board_in, IsKeyed}
use Rattle.search_keys.specs.declared.keyed.KeyedBoard.TheInside.{Inside}

-- ---- the base

pub few_cells : (grid : ShapeModel) → IsShape grid → cell_count grid ≤ 25
few_cells grid sides = mul-le grid.rows grid.cols 5 5 sides.rows_high sides.cols_high

pub short_base : (grid : ShapeModel) → cell_count grid ≤ 16 → key_base grid ≡ 16
short_base grid few = let yes' : nat_le (cell_count grid) 16 ≡ true = grind (arith, nat_tests) in ap (λ (bits : ℕ). 2 ^ bits) (cond-true (nat_le (cell_count grid) 16) 4 5 yes')

pub long_base : (grid : ShapeModel) → 16 < cell_count grid → key_base grid ≡ 32
long_base grid many = let no' : nat_le (cell_count grid) 16 ≡ false = grind (arith, nat_tests) in ap (λ (bits : ℕ). 2 ^ bits) (cond-false (nat_le (cell_count grid) 16) 4 5 no')

-- each cell is a digit
pub base_high : (grid : ShapeModel) → IsShape grid → cell_count grid ≤ key_base grid
base_high grid sides =
    ⊎_elim
    (λ (many : 16 < cell_count grid). let base = long_base grid many in let few = few_cells grid sides in omega arith)
    (λ (few : cell_count grid ≤ 16). let base = short_base grid few in omega arith)
    (cases_lt 16 (cell_count grid))

pub base_some : (grid : ShapeModel) → 0 < key_base grid
base_some grid = pow_pos (digit_bits grid)

-- ---- cells by number

pub length-cells : (b : BoardModel) → length (cells_by_number b) ≡ cell_count b.grid
length-cells b = length-map-range_with_len (cell_of b) 0 (cell_count b.grid)

pub cell_at : (b : BoardModel) (number : ℕ) → number < cell_count b.grid → get_or (cells_by_number b) number 0 ≡ cell_of b number
cell_at b number low = get_or-map-range_with_len (cell_of b) 0 (cell_count b.grid) number number 0 low (omega arith)

pub cells_in_range : (b : BoardModel) → IsBoard b → All (λ cell. cell < cell_count b.grid) (cells_by_number b)
cells_in_range b board =
    All-from_get_or (λ cell. cell < cell_count b.grid) (cells_by_number b) 0
    (λ k k_in.
    let low : k < cell_count b.grid = subst (λ (n : ℕ). k < n) (length-cells b) k_in in
    subst (λ (cell : ℕ). cell < cell_count b.grid) (sym (cell_at b k low)) (has_cell b board k low).0)

pub cells_differ : (b : BoardModel) → IsBoard b → AllPairs (λ x y. x ≢ y) (cells_by_number b)
cells_differ b board =
    all_differ (cells_by_number b)
    (λ i j i_in j_in same.
    let i_low : i < cell_count b.grid = subst (λ (n : ℕ). i < n) (length-cells b) i_in in
    let j_low : j < cell_count b.grid = subst (λ (n : ℕ). j < n) (length-cells b) j_in in
    let cells : cell_of b i ≡ cell_of b j = sym (cell_at b i i_low) ∙ same ∙ cell_at b j j_low in
    sym (has_cell b board i i_low).1 ∙ ap (λ (k : ℕ). get_or b.tiles k 0) cells ∙ (has_cell b board j j_low).1)

-- the cells of a board's numbers make a board too
pub turned_board : (b : BoardModel) → IsBoard b → IsBoard (turned b)
turned_board b board = record { sides = board.sides; one_each = length-cells b; in_range = cells_in_range b board; different = cells_differ b board }

-- and the cells of its numbers are the numbers
pub turned_back : (b : BoardModel) → IsBoard b → turned (turned b) ≡ b
turned_back b board =
    let long : length (cells_by_number (turned b)) ≡ length b.tiles = length-cells (turned b) ∙ sym board.one_each in
    let tiles : cells_by_number (turned b) ≡ b.tiles =
    same_number_lists (cells_by_number (turned b)) b.tiles long
    (λ k k_in.
    let low : k < cell_count b.grid = subst (λ (n : ℕ). k < n) (length-cells (turned b)) k_in in
    let tile : ℕ = get_or b.tiles k 0 in
    let tile_low : get_or b.tiles k 0 < cell_count b.grid = tile_below b k board low in
    let here : cell_of b (get_or b.tiles k 0) ≡ k = cell_is b board.different k (get_or b.tiles k 0) (subst (λ (n : ℕ). k < n) long k_in) refl in
    cell_at (turned b) k low
    ∙ cell_is (turned b) (cells_differ b board) (get_or b.tiles k 0) k (subst (λ (n : ℕ). get_or b.tiles k 0 < n) (sym (length-cells b)) tile_low) (cell_at b (get_or b.tiles k 0) tile_low ∙ here)) in
    λ i. record { grid = b.grid; tiles = tiles i }

-- ---- the number that the cells are digits of

pub cells_below : (b : BoardModel) → IsBoard b → Below (key_base b.grid) (cells_by_number b)
cells_below b board =
    recursion_from_All (λ cell. cell < key_base b.grid) (cells_by_number b)
    (λ k d low. let under = cells_in_range b board k d low in let high = base_high b.grid board.sides in omega arith)

pub key_fits : (b : BoardModel) → IsBoard b → search_key b < key_base b.grid ^ cell_count b.grid
key_fits b board = subst (λ (n : ℕ). search_key b < key_base b.grid ^ n) (length-cells b) (sparse_below (key_base b.grid) (cells_by_number b) (cells_below b board))

pub key_digits : (b : BoardModel) → IsBoard b → digits_in (key_base b.grid) (cell_count b.grid) (search_key b) ≡ cells_by_number b
key_digits b board = subst (λ (n : ℕ). digits_in (key_base b.grid) n (search_key b) ≡ cells_by_number b) (length-cells b) (digits_back (key_base b.grid) (cells_by_number b) (cells_below b board))

-- at most 16 digits of four bits, or 25 of five
pub short_fits : (b : BoardModel) → IsBoard b → cell_count b.grid ≤ 16 → search_key b < 2 ^ 64
short_fits b board few =
    let low : search_key b < 16 ^ cell_count b.grid = subst (λ (n : ℕ). search_key b < n ^ cell_count b.grid) (short_base b.grid few) (key_fits b board) in
    let most : 16 ^ cell_count b.grid ≤ 16 ^ 16 = pow-le-pow_right {n = 16} (omega arith) {j = 16} few in
    omega arith

pub long_fits : (b : BoardModel) → IsBoard b → search_key b < 2 ^ 125
long_fits b board =
    ⊎_elim
    (λ (many : 16 < cell_count b.grid).
    let low : search_key b < 32 ^ cell_count b.grid = subst (λ (n : ℕ). search_key b < n ^ cell_count b.grid) (long_base b.grid many) (key_fits b board) in
    let most : 32 ^ cell_count b.grid ≤ 32 ^ 25 = pow-le-pow_right {n = 32} (omega arith) {j = 25} (few_cells b.grid board.sides) in
    omega arith)
    (λ (few : cell_count b.grid ≤ 16). let low = short_fits b board few in omega arith)
    (cases_lt 16 (cell_count b.grid))

pub key_bits : (b : BoardModel) → IsBoard b → (search_key b < 2 ^ 125) × (cell_count b.grid ≤ 16 → search_key b < 2 ^ 64)
key_bits b board = (long_fits b board, short_fits b board)

-- ---- a key names one board

pub one_board : (a b : BoardModel) → IsBoard a → IsBoard b → a.grid ≡ b.grid → search_key a ≡ search_key b → a ≡ b
one_board a b board board' sides same =
    let cells : cells_by_number a ≡ cells_by_number b =
    sym (key_digits a board) ∙ (λ i. digits_in (key_base (sides i)) (cell_count (sides i)) (same i)) ∙ key_digits b board' in
    let turn : turned a ≡ turned b = λ i. record { grid = sides i; tiles = cells i } in
    sym (turned_back a board) ∙ ap turned turn ∙ turned_back b board'

-- what lies in memory where a board has the key
pub key_read : (inside : Inside) (b : BoardModel) → HasSearchKey inside.shape inside.key b → board_in inside ≡ b
key_read inside b has =
    let cells : digits_in (key_base inside.shape) (cell_count inside.shape) inside.key ≡ cells_by_number b =
    (λ i. digits_in (key_base (sym has.sides i)) (cell_count (sym has.sides i)) (sym has.packed i)) ∙ key_digits b has.board in
    let turn : record { grid = inside.shape; tiles = digits_in (key_base inside.shape) (cell_count inside.shape) inside.key } ≡ turned b = λ i. record { grid = sym has.sides i; tiles = cells i } in
    ap turned turn ∙ turned_back b has.board

pub keyed_as : (inside : Inside) (b : BoardModel) → HasSearchKey inside.shape inside.key b → IsKeyed inside
keyed_as inside b has =
    let same = key_read inside b has in
    record { board = subst IsBoard (sym same) has.board; key = ap search_key same ∙ has.packed }

-- ---- digits of a number

below_take : (n k : ℕ) (xs : List ℕ) → Below n xs → Below n (take k xs)
below_take n zero xs below = tt
below_take n (suc k) [] below = tt
below_take n (suc k) (x ∷ xs) below = (below.0, below_take n k xs below.1)

below_drop : (n k : ℕ) (xs : List ℕ) → Below n xs → Below n (drop k xs)
below_drop n zero xs below = below
below_drop n (suc k) [] below = below
below_drop n (suc k) (x ∷ xs) below = below_drop n k xs below.1

-- the low digits and the others
digits_split : (n k : ℕ) (xs : List ℕ) → sparse_of n xs ≡ sparse_of n (drop k xs) * n ^ k + sparse_of n (take k xs)
unfolding sparse_of
digits_split n zero xs = let one = pow-zero n in let e : sparse_of n xs * n ^ 0 ≡ sparse_of n xs * 1 = ap (λ (p : ℕ). sparse_of n xs * p) one in omega arith
digits_split n (suc k) [] = omega arith
digits_split n (suc k) (x ∷ xs) =
    let rest : n * sparse_of n xs ≡ n * (sparse_of n (drop k xs) * n ^ k + sparse_of n (take k xs)) = ap (λ (s : ℕ). n * s) (digits_split n k xs) in
    let power : sparse_of n (drop k xs) * n ^ suc k ≡ sparse_of n (drop k xs) * (n * n ^ k) = ap (λ (p : ℕ). sparse_of n (drop k xs) * p) (pow-succ' n k) in
    let turned : n * (sparse_of n (drop k xs) * n ^ k) ≡ sparse_of n (drop k xs) * (n * n ^ k) = around n (sparse_of n (drop k xs)) (n ^ k) in
    let spread : n * (sparse_of n (drop k xs) * n ^ k + sparse_of n (take k xs)) ≡ n * (sparse_of n (drop k xs) * n ^ k) + n * sparse_of n (take k xs) = grind (arith) in
    omega arith
  where
    around : (a b c : ℕ) → a * (b * c) ≡ b * (a * c)
    around a b c = grind (arith)

low_digits : (n k : ℕ) (xs : List ℕ) → 0 < n → Below n xs → sparse_of n (take k xs) < n ^ k
low_digits n k xs some below =
    let low = sparse_below n (take k xs) (below_take n k xs below) in
    let most : n ^ length (take k xs) ≤ n ^ k = pow-le-pow_right {n = n} some {j = k} (omega (arith, length-take k xs)) in
    omega arith

pub digits_over : (n k : ℕ) (xs : List ℕ) → 0 < n → Below n xs → sparse_of n xs / n ^ k ≡ sparse_of n (drop k xs)
digits_over n k xs some below = ap (λ (s : ℕ). s / n ^ k) (digits_split n k xs) ∙ div-mul-add (sparse_of n (drop k xs)) (n ^ k) (sparse_of n (take k xs)) (low_digits n k xs some below)

pub digits_under : (n k : ℕ) (xs : List ℕ) → 0 < n → Below n xs → sparse_of n xs % n ^ k ≡ sparse_of n (take k xs)
digits_under n k xs some below = ap (λ (s : ℕ). s % n ^ k) (digits_split n k xs) ∙ mod-mul-add (sparse_of n (drop k xs)) (n ^ k) (sparse_of n (take k xs)) (low_digits n k xs some below)

pub one_digit : (n i : ℕ) (xs : List ℕ) → 0 < n → Below n xs → i < length xs → sparse_of n xs / n ^ i % n ≡ get_or xs i 0
unfolding sparse_of
one_digit n i xs some below within =
    let at : drop i xs ≡ get_or xs i 0 ∷ drop (i + 1) xs = drop_more xs i 0 within in
    let rest : Below n (get_or xs i 0 ∷ drop (i + 1) xs) = subst (Below n) at (below_drop n i xs below) in
    ap (λ (s : ℕ). s % n) (digits_over n i xs some below ∙ ap (sparse_of n) at)
    ∙ ap (λ (s : ℕ). s % n) (turn (get_or xs i 0) (n * sparse_of n (drop (i + 1) xs)) (sparse_of n (drop (i + 1) xs) * n) (mul_comm n (sparse_of n (drop (i + 1) xs))))
    ∙ mod-mul-add (sparse_of n (drop (i + 1) xs)) n (get_or xs i 0) rest.0
  where
    turn : (a b c : ℕ) → b ≡ c → a + b ≡ c + a
    turn a b c e = omega arith

-- one digit written in place of another
pub digit_set : (n : ℕ) (xs : List ℕ) (i v : ℕ) → i < length xs → sparse_of n (set xs i v) + get_or xs i 0 * n ^ i ≡ sparse_of n xs + v * n ^ i
unfolding sparse_of
digit_set n [] i v within = absurd (omega arith)
digit_set n (x ∷ xs) zero v within =
    let one = pow-zero n in
    let a : x * n ^ 0 ≡ x * 1 = ap (λ (p : ℕ). x * p) one in
    let b : v * n ^ 0 ≡ v * 1 = ap (λ (p : ℕ). v * p) one in
    omega arith
digit_set n (x ∷ xs) (suc i) v within =
    let rest : n * (sparse_of n (set xs i v) + get_or xs i 0 * n ^ i) ≡ n * (sparse_of n xs + v * n ^ i) = ap (λ (s : ℕ). n * s) (digit_set n xs i v (omega arith)) in
    up n x (sparse_of n (set xs i v)) (get_or xs i 0) (n ^ i) (sparse_of n xs) v (n ^ suc i) (pow-succ' n i) rest
  where
    up : (n x s a p r v q : ℕ) → q ≡ n * p → n * (s + a * p) ≡ n * (r + v * p) → x + n * s + a * q ≡ x + n * r + v * q
    up n x s a p r v q power rest =
        let left : n * (s + a * p) ≡ n * s + a * (n * p) = grind (arith) in
        let right : n * (r + v * p) ≡ n * r + v * (n * p) = grind (arith) in
        let a_up : a * q ≡ a * (n * p) = ap (λ (k : ℕ). a * k) power in
        let v_up : v * q ≡ v * (n * p) = ap (λ (k : ℕ). v * k) power in
        omega arith

-- ---- what a board's key has as digits

pub cell_digit : (b : BoardModel) → IsBoard b → (number : ℕ) → number < cell_count b.grid → search_key b / key_base b.grid ^ number % key_base b.grid ≡ cell_of b number
cell_digit b board number low =
    one_digit (key_base b.grid) number (cells_by_number b) (base_some b.grid) (cells_below b board) (subst (λ (n : ℕ). number < n) (sym (length-cells b)) low)
    ∙ cell_at b number low

pub group_digits : (b : BoardModel) (first n : ℕ) → IsBoard b → first + n ≤ cell_count b.grid → sparse_of (key_base b.grid) (map (cell_of b) (range_with_len first n)) ≡ search_key b / key_base b.grid ^ first % key_base b.grid ^ n
group_digits b first n board within =
    let base : ℕ = key_base b.grid in
    let part : take n (drop first (cells_by_number b)) ≡ map (cell_of b) (range_with_len first n) =
    same_number_lists (take n (drop first (cells_by_number b))) (map (cell_of b) (range_with_len first n))
    (omega (arith, length-take n (drop first (cells_by_number b)), length-drop first (cells_by_number b), length-cells b, length-map-range_with_len (cell_of b) first n))
    (λ k k_in.
    let low : k < n = omega (arith, length-take n (drop first (cells_by_number b)), k_in) in
    get_or-take n (drop first (cells_by_number b)) k 0 low
    ∙ get_or-drop first (cells_by_number b) k 0
    ∙ cell_at b (first + k) (omega arith)
    ∙ sym (get_or-map-range_with_len (cell_of b) first n k (first + k) 0 low refl)) in
    sym
    (ap (λ (s : ℕ). s % key_base b.grid ^ n) (digits_over (key_base b.grid) first (cells_by_number b) (base_some b.grid) (cells_below b board))
    ∙ digits_under (key_base b.grid) n (drop first (cells_by_number b)) (base_some b.grid) (below_drop (key_base b.grid) first (cells_by_number b) (cells_below b board))
    ∙ ap (sparse_of (key_base b.grid)) part)

-- ---- a move

module _ (b : BoardModel) (to : ℕ) (board : IsBoard b) (to_below : to < cell_count b.grid) (other : to ≢ blank_of b) where
  tile_low : get_or b.tiles to 0 < cell_count b.grid
  tile_low = tile_below b to board to_below

  tile_some : 0 < get_or b.tiles to 0
  tile_some = tile_above b to board to_below other

  pub tile_cell : cell_of b (get_or b.tiles to 0) ≡ to
  tile_cell = cell_is b board.different to (get_or b.tiles to 0) (subst (λ (n : ℕ). to < n) (sym board.one_each) to_below) refl

  blank_low : blank_of b < cell_count b.grid
  blank_low = (blank_stands b board).0

  abbrev exchanged : List ℕ
  exchanged = set (set (cells_by_number b) 0 to) (get_or b.tiles to 0) (blank_of b)

  cell_after : (number : ℕ) → number < cell_count b.grid → cell_of (blank_exchange b to) number ≡ get_or exchanged number 0
  cell_after number low =
      let some : 0 < cell_count b.grid = omega (arith, tile_some, tile_low) in
      let moved : cell_of (blank_exchange b to) number ≡ across (blank_of b) to (cell_of b number) = cell_of-exchange b (blank_of b) to board blank_low to_below number low in
      let long : length (set (cells_by_number b) 0 to) ≡ cell_count b.grid = length-set (cells_by_number b) 0 to ∙ length-cells b in
      ⊎_elim
      (λ (is_tile : number ≡ get_or b.tiles to 0).
      let here : cell_of b number ≡ to = ap (cell_of b) is_tile ∙ tile_cell in
      moved
      ∙ ap (across (blank_of b) to) here
      ∙ cond-false (eqb to (blank_of b)) to (cond (eqb to to) (blank_of b) to) (ne_eqb to (blank_of b) other)
      ∙ cond-true (eqb to to) (blank_of b) to (eq-eqb to to refl)
      ∙ sym (ap (λ (k : ℕ). get_or exchanged k 0) is_tile ∙ get_or-set_same (set (cells_by_number b) 0 to) (get_or b.tiles to 0) (blank_of b) 0 (omega (arith, tile_low))))
      (λ (no_tile : number ≢ get_or b.tiles to 0).
      let outer : get_or exchanged number 0 ≡ get_or (set (cells_by_number b) 0 to) number 0 = get_or-set_other (set (cells_by_number b) 0 to) (get_or b.tiles to 0) number (blank_of b) 0 no_tile in
      ⊎_elim
      (λ (is_blank : number ≡ 0).
      moved
      ∙ ap (λ (k : ℕ). across (blank_of b) to (cell_of b k)) is_blank
      ∙ cond-true (eqb (blank_of b) (blank_of b)) to (cond (eqb (blank_of b) to) (blank_of b) (blank_of b)) (eq-eqb (blank_of b) (blank_of b) refl)
      ∙ sym (outer ∙ ap (λ (k : ℕ). get_or (set (cells_by_number b) 0 to) k 0) is_blank ∙ get_or-set_same (cells_by_number b) 0 to 0 (omega (arith, length-cells b))))
      (λ (no_blank : number ≢ 0).
      let found = has_cell b board number low in
      let off_blank : cell_of b number ≢ blank_of b = λ at. no_blank (sym found.1 ∙ ap (λ (k : ℕ). get_or b.tiles k 0) at ∙ (blank_stands b board).1) in
      let off_tile : cell_of b number ≢ to = λ at. no_tile (sym found.1 ∙ ap (λ (k : ℕ). get_or b.tiles k 0) at) in
      moved
      ∙ cond-false (eqb (cell_of b number) (blank_of b)) to (cond (eqb (cell_of b number) to) (blank_of b) (cell_of b number)) (ne_eqb (cell_of b number) (blank_of b) off_blank)
      ∙ cond-false (eqb (cell_of b number) to) (blank_of b) (cell_of b number) (ne_eqb (cell_of b number) to off_tile)
      ∙ sym (outer ∙ get_or-set_other (cells_by_number b) 0 number to 0 no_blank ∙ cell_at b number low))
      (cases_eq number 0))
      (cases_eq number (get_or b.tiles to 0))

  cells_after : cells_by_number (blank_exchange b to) ≡ exchanged
  cells_after =
      let long : length exchanged ≡ cell_count b.grid = length-set (set (cells_by_number b) 0 to) (get_or b.tiles to 0) (blank_of b) ∙ length-set (cells_by_number b) 0 to ∙ length-cells b in
      same_number_lists (cells_by_number (blank_exchange b to)) exchanged
      (length-cells (blank_exchange b to) ∙ sym long)
      (λ k k_in.
      let low : k < cell_count b.grid = subst (λ (n : ℕ). k < n) (length-cells (blank_exchange b to)) k_in in
      cell_at (blank_exchange b to) k low ∙ cell_after k low)

  pub key_after : search_key (blank_exchange b to) + to * key_base b.grid ^ get_or b.tiles to 0 + blank_of b ≡ search_key b + blank_of b * key_base b.grid ^ get_or b.tiles to 0 + to
  key_after =
      let base : ℕ = key_base b.grid in
      let some : 0 < cell_count b.grid = omega (arith, tile_some, tile_low) in
      let first = digit_set (key_base b.grid) (cells_by_number b) 0 to (omega (arith, length-cells b)) in
      let second = digit_set (key_base b.grid) (set (cells_by_number b) 0 to) (get_or b.tiles to 0) (blank_of b) (omega (arith, length-set (cells_by_number b) 0 to, length-cells b, tile_low)) in
      let held : get_or (set (cells_by_number b) 0 to) (get_or b.tiles to 0) 0 ≡ to =
      get_or-set_other (cells_by_number b) 0 (get_or b.tiles to 0) to 0 (omega (arith, tile_some)) ∙ cell_at b (get_or b.tiles to 0) tile_low ∙ tile_cell in
      let held_up : get_or (set (cells_by_number b) 0 to) (get_or b.tiles to 0) 0 * key_base b.grid ^ get_or b.tiles to 0 ≡ to * key_base b.grid ^ get_or b.tiles to 0 = ap (λ (k : ℕ). k * key_base b.grid ^ get_or b.tiles to 0) held in
      let blank : get_or (cells_by_number b) 0 0 ≡ blank_of b = cell_at b 0 some in
      let one = pow-zero (key_base b.grid) in
      let a : get_or (cells_by_number b) 0 0 * key_base b.grid ^ 0 ≡ get_or (cells_by_number b) 0 0 * 1 = ap (λ (p : ℕ). get_or (cells_by_number b) 0 0 * p) one in
      let c : to * key_base b.grid ^ 0 ≡ to * 1 = ap (λ (p : ℕ). to * p) one in
      let key : search_key (blank_exchange b to) ≡ sparse_of (key_base b.grid) exchanged = ap (sparse_of (key_base b.grid)) cells_after in
      omega (arith, first, second, held_up, blank, a, c, key)

  -- the two digits are in the key
  pub key_parts : to * key_base b.grid ^ get_or b.tiles to 0 + blank_of b ≤ search_key b
  key_parts =
      let some : 0 < cell_count b.grid = omega (arith, tile_some, tile_low) in
      let first = digit_set (key_base b.grid) (cells_by_number b) 0 0 (omega (arith, length-cells b)) in
      let second = digit_set (key_base b.grid) (set (cells_by_number b) 0 0) (get_or b.tiles to 0) 0 (omega (arith, length-set (cells_by_number b) 0 0, length-cells b, tile_low)) in
      let held : get_or (set (cells_by_number b) 0 0) (get_or b.tiles to 0) 0 ≡ to =
      get_or-set_other (cells_by_number b) 0 (get_or b.tiles to 0) 0 0 (omega (arith, tile_some)) ∙ cell_at b (get_or b.tiles to 0) tile_low ∙ tile_cell in
      let held_up : get_or (set (cells_by_number b) 0 0) (get_or b.tiles to 0) 0 * key_base b.grid ^ get_or b.tiles to 0 ≡ to * key_base b.grid ^ get_or b.tiles to 0 = ap (λ (k : ℕ). k * key_base b.grid ^ get_or b.tiles to 0) held in
      let blank : get_or (cells_by_number b) 0 0 ≡ blank_of b = cell_at b 0 some in
      let one = pow-zero (key_base b.grid) in
      let a : get_or (cells_by_number b) 0 0 * key_base b.grid ^ 0 ≡ get_or (cells_by_number b) 0 0 * 1 = ap (λ (p : ℕ). get_or (cells_by_number b) 0 0 * p) one in
      omega (arith, first, second, held_up, blank, a)

pub digits_exchanged : (rule : WeightsModel) (b : BoardModel) (m : Move) (b' : BoardModel) (c tile : ℕ) → IsBoard b → Moves rule b m b' c → tile ≡ slice_index b.tiles (blank_of b') → search_key b' + cell_of b tile * key_base b.grid ^ tile + blank_of b ≡ search_key b + blank_of b * key_base b.grid ^ tile + cell_of b tile
digits_exchanged rule b m b' c tile board moves is =
    let to_below = cell_below b.grid m (blank_of b) moves.cell moves.towards in
    let other = other_cell b.grid m (blank_of b) moves.cell moves.towards in
    let now : blank_of b' ≡ moves.cell = ap blank_of moves.after ∙ blank_after b board moves.cell to_below in
    let tile_is : tile ≡ get_or b.tiles moves.cell 0 = is ∙ ap (λ (k : ℕ). get_or b.tiles k 0) now in
    let cell : cell_of b (get_or b.tiles moves.cell 0) ≡ moves.cell = tile_cell b moves.cell board to_below other in
    let key = key_after b moves.cell board to_below other in
    let there : search_key (blank_exchange b moves.cell) + cell_of b (get_or b.tiles moves.cell 0) * key_base b.grid ^ get_or b.tiles moves.cell 0 + blank_of b ≡ search_key b + blank_of b * key_base b.grid ^ get_or b.tiles moves.cell 0 + cell_of b (get_or b.tiles moves.cell 0) =
    (λ i. search_key (blank_exchange b moves.cell) + cell i * key_base b.grid ^ get_or b.tiles moves.cell 0 + blank_of b)
    ∙ key
    ∙ (λ i. search_key b + blank_of b * key_base b.grid ^ get_or b.tiles moves.cell 0 + sym cell i) in
    (λ i. search_key (moves.after i) + cell_of b (tile_is i) * key_base b.grid ^ tile_is i + blank_of b) ∙ there ∙ (λ i. search_key b + blank_of b * key_base b.grid ^ sym tile_is i + cell_of b (sym tile_is i))

-- ---- what lies in memory

module _ (inside : Inside) (b : BoardModel) (keyed : IsKeyed inside) (is : board_in inside ≡ b) where
  pub stored_board : IsBoard b
  stored_board = subst IsBoard is keyed.board

  pub stored_grid : inside.shape ≡ b.grid
  stored_grid = ap (λ (p : BoardModel). p.grid) is

  pub stored_key : search_key b ≡ inside.key
  stored_key = ap search_key (sym is) ∙ keyed.key

  pub stored_cell : (number : ℕ) → number < cell_count b.grid → inside.key / key_base b.grid ^ number % key_base b.grid ≡ cell_of b number
  stored_cell number low = subst (λ (k : ℕ). k / key_base b.grid ^ number % key_base b.grid ≡ cell_of b number) stored_key (cell_digit b stored_board number low)

  pub short_here : cell_count inside.shape ≤ 16 → key_base b.grid ≡ 16
  short_here few = short_base b.grid (subst (λ (g : ShapeModel). cell_count g ≤ 16) stored_grid few)

  pub long_here : 16 < cell_count inside.shape → key_base b.grid ≡ 32
  long_here many = long_base b.grid (subst (λ (g : ShapeModel). 16 < cell_count g) stored_grid many)

  pub short_cell : cell_count inside.shape ≤ 16 → (number : ℕ) → number < cell_count b.grid → inside.key / 16 ^ number % 16 ≡ cell_of b number
  short_cell few number low = subst (λ (n : ℕ). inside.key / n ^ number % n ≡ cell_of b number) (short_here few) (stored_cell number low)

  pub long_cell : 16 < cell_count inside.shape → (number : ℕ) → number < cell_count b.grid → inside.key / 32 ^ number % 32 ≡ cell_of b number
  long_cell many number low = subst (λ (n : ℕ). inside.key / n ^ number % n ≡ cell_of b number) (long_here many) (stored_cell number low)

  pub digits_read : cell_count b.grid ≤ 16 → (first n : ℕ) → first + n ≤ cell_count b.grid → inside.key / 16 ^ first % 16 ^ n ≡ sparse_of 16 (map (cell_of b) (range_with_len first n))
  digits_read few first n within =
      sym
      (subst (λ (m : ℕ). sparse_of m (map (cell_of b) (range_with_len first n)) ≡ inside.key / m ^ first % m ^ n) (short_base b.grid few)
      (subst (λ (k : ℕ). sparse_of (key_base b.grid) (map (cell_of b) (range_with_len first n)) ≡ k / key_base b.grid ^ first % key_base b.grid ^ n) stored_key (group_digits b first n stored_board within)))

  pub few_here : cell_count inside.shape ≤ 16 → cell_count b.grid ≤ 16
  few_here few = subst (λ (g : ShapeModel). cell_count g ≤ 16) stored_grid few

  pub few_stored : cell_count b.grid ≤ 16 → cell_count inside.shape ≤ 16
  few_stored few = subst (λ (g : ShapeModel). cell_count g ≤ 16) (sym stored_grid) few

  pub cell_within : (number cell : ℕ) → number < cell_count b.grid → cell ≡ cell_of b number → cell < cell_count b.grid
  cell_within number cell low at = subst (λ (k : ℕ). k < cell_count b.grid) (sym at) (has_cell b stored_board number low).0

  pub some_cell : 0 < cell_count b.grid
  some_cell = cells_above b.grid stored_board.sides

  pub tile_on : (cell : ℕ) → cell < cell_count b.grid → (get_or b.tiles cell 0 < cell_count b.grid) × (cell_of b (get_or b.tiles cell 0) ≡ cell)
  tile_on cell within = (
    tile_below b cell stored_board within,
    cell_is b stored_board.different cell (get_or b.tiles cell 0) (subst (λ (n : ℕ). cell < n) (sym stored_board.one_each) within) refl,
  )

  -- the number on a cell is the first place of a digit that is the cell
  module _ (n : ℕ) (based : key_base b.grid ≡ n) (cell : ℕ) (within : cell < cell_count b.grid) where
    digit_is : (number : ℕ) → number < cell_count b.grid → inside.key / n ^ number % n ≡ cell_of b number
    digit_is number low = subst (λ (m : ℕ). inside.key / m ^ number % m ≡ cell_of b number) based (stored_cell number low)

    pub tile_digit : inside.key / n ^ get_or b.tiles cell 0 % n ≡ cell
    tile_digit = digit_is (get_or b.tiles cell 0) (tile_on cell within).0 ∙ (tile_on cell within).1

    pub first_is : (number : ℕ) → IsFirstDigit n inside.key cell number → number ≡ get_or b.tiles cell 0
    first_is number first =
        let tile = tile_on cell within in
        let le : number ≤ get_or b.tiles cell 0 =
        ⊎_elim (λ (before : get_or b.tiles cell 0 < number). absurd (first.none_before (get_or b.tiles cell 0) before tile_digit)) (λ (h : number ≤ get_or b.tiles cell 0). h) (cases_lt (get_or b.tiles cell 0) number) in
        let low : number < cell_count b.grid = omega (arith, tile.0) in
        let at : cell_of b number ≡ cell = sym (digit_is number low) ∙ first.there in
        sym (has_cell b stored_board number low).1 ∙ ap (λ (k : ℕ). get_or b.tiles k 0) at

  -- what holds where the blank goes to a cell beside it
  pub record IsSlid (n to : ℕ) : Type 0 where
    pub below : to < n
    pub blank_below : blank_of b < n
    pub tile_some : 0 < get_or b.tiles to 0
    pub tile_low : get_or b.tiles to 0 < cell_count b.grid
    pub parts : to * n ^ get_or b.tiles to 0 + blank_of b ≤ inside.key
    pub after : search_key (blank_exchange b to) + (to * n ^ get_or b.tiles to 0 + blank_of b) ≡ inside.key + blank_of b * n ^ get_or b.tiles to 0 + to
    pub board : IsBoard (blank_exchange b to)

  pub beside_below : (m : Move) (to : ℕ) → neighbour b.grid m (blank_of b) ≡ Some to → to < cell_count b.grid
  beside_below m to beside = cell_below b.grid m (blank_of b) to ((neighbour_lies b.grid m (blank_of b) to (blank_stands b stored_board).0).0 beside)

  pub slid : (n : ℕ) → key_base b.grid ≡ n → (m : Move) (to : ℕ) → neighbour b.grid m (blank_of b) ≡ Some to → IsSlid n to
  slid n based m to beside =
      let lies = (neighbour_lies b.grid m (blank_of b) to (blank_stands b stored_board).0).0 beside in
      let below = cell_below b.grid m (blank_of b) to lies in
      let other = other_cell b.grid m (blank_of b) to lies in
      let high = base_high b.grid stored_board.sides in
      let blank = (blank_stands b stored_board).0 in
      record {
        below = omega (arith, below, high, based);
        blank_below = omega (arith, blank, high, based);
        tile_some = tile_above b to stored_board below other;
        tile_low = tile_below b to stored_board below;
        parts = subst (λ (k : ℕ). to * n ^ get_or b.tiles to 0 + blank_of b ≤ k) stored_key (subst (λ (m' : ℕ). to * m' ^ get_or b.tiles to 0 + blank_of b ≤ search_key b) based (key_parts b to stored_board below other));
        after = subst (λ (k : ℕ). search_key (blank_exchange b to) + (to * n ^ get_or b.tiles to 0 + blank_of b) ≡ k + blank_of b * n ^ get_or b.tiles to 0 + to) stored_key
            (subst (λ (m' : ℕ). search_key (blank_exchange b to) + (to * m' ^ get_or b.tiles to 0 + blank_of b) ≡ search_key b + blank_of b * m' ^ get_or b.tiles to 0 + to) based
            (regroup (search_key (blank_exchange b to)) (to * key_base b.grid ^ get_or b.tiles to 0) (blank_of b) _ (key_after b to stored_board below other)));
        board = exchange_board b (blank_of b) to stored_board blank below;
      }
    where
      regroup : (s a c r : ℕ) → s + a + c ≡ r → s + (a + c) ≡ r
      regroup s a c r e = omega arith

  -- the same by what the code has
  pub slid_as : (n to tile blank : ℕ) → IsSlid n to → tile ≡ get_or b.tiles to 0 → blank ≡ blank_of b → (to * n ^ tile + blank ≤ inside.key) × (search_key (blank_exchange b to) + (to * n ^ tile + blank) ≡ inside.key + blank * n ^ tile + to)
  slid_as n to tile blank is tile_is blank_is =
      subst (λ (t : ℕ). (to * n ^ t + blank ≤ inside.key) × (search_key (blank_exchange b to) + (to * n ^ t + blank) ≡ inside.key + blank * n ^ t + to)) (sym tile_is)
      (subst (λ (x : ℕ). (to * n ^ get_or b.tiles to 0 + x ≤ inside.key) × (search_key (blank_exchange b to) + (to * n ^ get_or b.tiles to 0 + x) ≡ inside.key + x * n ^ get_or b.tiles to 0 + to)) (sym blank_is) (is.parts, is.after))

pub short_stored : (inside : Inside) → IsKeyed inside → cell_count inside.shape ≤ 16 → inside.key < 2 ^ 64
short_stored inside keyed few = subst (λ (k : ℕ). k < 2 ^ 64) keyed.key (short_fits (board_in inside) keyed.board few)

-- what is not short is long
pub many_cells : (n : ℕ) (short : Bool) → ((short ≡ true → n ≤ 16) × (n ≤ 16 → short ≡ true)) → short ≡ false → 16 < n
many_cells n short decides no' =
    ⊎_elim (λ (many : 16 < n). many) (λ (few : n ≤ 16). absurd (false≢true (sym no' ∙ decides.1 few))) (cases_lt 16 n)

-- ---- the loops that put digits together

-- the digits from a place on make a number below the base to the power of how many there may be
pub number_low : (n most place : ℕ) (digits : List ℕ) → 0 < n → length digits ≤ most → All (λ digit. digit < n) digits → sparse_of n (drop place digits) < n ^ most
number_low n most place digits some few low =
    let part = sparse_below n (drop place digits) (below_drop n place digits (recursion_from_All (λ digit. digit < n) digits low)) in
    let long = length-drop place digits in
    let wide : n ^ length (drop place digits) ≤ n ^ most = pow-le-pow_right {n = n} some {j = most} (omega (arith, long, few)) in
    omega (arith, part, wide)

-- the cells of the numbers are the first ones of a list that has the cell of each
pub cells_taken : (b : BoardModel) (cells : List ℕ) (n : ℕ) → IsBoard b → length cells ≡ 25 → n ≡ cell_count b.grid → ((number : ℕ) → number < cell_count b.grid → slice_index cells number ≡ cell_of b number) → take n cells ≡ cells_by_number b
cells_taken b cells n board all is are =
    let taken = length-take n cells in
    let few = few_cells b.grid board.sides in
    let long = length-cells b in
    same_number_lists (take n cells) (cells_by_number b)
    (omega (arith, taken, few, long, all, is))
    (λ k k_in.
    let low : k < n = omega (arith, length-take n cells, k_in) in
    let under : k < cell_count b.grid = omega (arith, low, is) in
    get_or-take n cells k 0 low ∙ are k under ∙ sym (cell_at b k under))

-- they are digits of a base that is that of the key
pub cells_low : (b : BoardModel) (digits : List ℕ) (n : ℕ) → IsBoard b → key_base b.grid ≡ n → digits ≡ cells_by_number b → All (λ digit. digit < n) digits
cells_low b digits n board based is =
    subst (λ (xs : List ℕ). All (λ digit. digit < n) xs) (sym is)
    (λ k d low. let under = cells_in_range b board k d low in let high = base_high b.grid board.sides in omega (arith, under, high, based))

pub key_made : (b : BoardModel) (digits : List ℕ) (n : ℕ) → key_base b.grid ≡ n → digits ≡ cells_by_number b → sparse_of n digits ≡ search_key b
key_made b digits n based is = λ i. sparse_of (sym based i) (is i)

pub new_key : (inside : Inside) (b : BoardModel) → IsBoard b → inside.shape ≡ b.grid → inside.key ≡ search_key b → HasSearchKey inside.shape inside.key b
new_key inside b board sides is = record { board = board; sides = sym sides; packed = sym is }

-- ---- the loops that write digits

-- one digit more is written
pub written_more : (n key place rest : ℕ) (digits : List ℕ) → place < length digits → rest ≡ key / n ^ place → ((k : ℕ) → k < place → slice_index digits k ≡ key / n ^ k % n) → (k : ℕ) → k < place + 1 → slice_index (set digits place (rest % n)) k ≡ key / n ^ k % n
written_more n key place rest digits within is are k low =
    ⊎_elim
    (λ (same : k ≡ place).
    ap (λ (j : ℕ). slice_index (set digits place (rest % n)) j) same
    ∙ get_or-set_same digits place (rest % n) 0 within
    ∙ ap (λ (x : ℕ). x % n) is
    ∙ ap (λ (j : ℕ). key / n ^ j % n) (sym same))
    (λ (other : k ≢ place). get_or-set_other digits place k (rest % n) 0 other ∙ are k (omega (arith, low, other)))
    (cases_eq k place)

-- and what is left then
pub left_more : (n key place rest : ℕ) → rest ≡ key / n ^ place → rest / n ≡ key / n ^ (place + 1)
left_more n key place rest is =
    let next : place + 1 ≡ suc place = omega arith in
    ap (λ (x : ℕ). x / n) is ∙ div-div-eq-div-mul key (n ^ place) n ∙ ap (λ (p : ℕ). key / p) (sym (pow-suc n place)) ∙ ap (λ (k : ℕ). key / n ^ k) (sym next)

-- all is left at first
pub left_all : (n key : ℕ) → key ≡ key / n ^ 0
left_all n key = sym (ap (λ (p : ℕ). key / p) (pow-zero n) ∙ div-one key)

-- ---- the loop that writes the tiles

-- two numbers are on two cells
pub cells_apart : (b : BoardModel) (m n : ℕ) → IsBoard b → m < cell_count b.grid → n < cell_count b.grid → m ≢ n → cell_of b m ≢ cell_of b n
cells_apart b m n board m_in n_in apart = λ same.
    apart (sym (has_cell b board m m_in).1 ∙ ap (λ (c : ℕ). get_or b.tiles c 0) same ∙ (has_cell b board n n_in).1)

-- one number more is written on its cell
pub numbers_more : (b : BoardModel) (written : List ℕ) (n : ℕ) → IsBoard b → n < cell_count b.grid → cell_of b n < length written → ((k : ℕ) → k < n → slice_index written (cell_of b k) ≡ k) → (k : ℕ) → k < n + 1 → slice_index (set written (cell_of b n) n) (cell_of b k) ≡ k
numbers_more b written n board within room are k low =
    ⊎_elim
    (λ (same : k ≡ n).
    ap (λ (j : ℕ). slice_index (set written (cell_of b n) n) (cell_of b j)) same
    ∙ get_or-set_same written (cell_of b n) n 0 room
    ∙ sym same)
    (λ (other : k ≢ n).
    let below : k < n = omega (arith, low, other) in
    get_or-set_other written (cell_of b n) (cell_of b k) n 0 (cells_apart b k n board (omega (arith, below, within)) within other)
    ∙ are k below)
    (cases_eq k n)

-- once all are written, these are the tiles
pub numbers_all : (b : BoardModel) (written : List ℕ) (n : ℕ) → IsBoard b → length written ≡ 25 → cell_count b.grid ≤ n → ((k : ℕ) → k < n → slice_index written (cell_of b k) ≡ k) → take (cell_count b.grid) written ≡ b.tiles
numbers_all b written n board long all are =
    let most = few_cells b.grid board.sides in
    let one_each = board.one_each in
    let count : length (take (cell_count b.grid) written) ≡ cell_count b.grid = length-take-le (cell_count b.grid) written (omega (arith, most, long)) in
    same_number_lists (take (cell_count b.grid) written) b.tiles (count ∙ sym one_each)
    (λ (c : ℕ) (c_in : c < length (take (cell_count b.grid) written)).
    let within : c < cell_count b.grid = omega (arith, c_in, count) in
    let tile = get_or b.tiles c 0 in
    let low : tile < cell_count b.grid = All-get_or (λ (t : ℕ). t < cell_count b.grid) b.tiles c 0 (omega (arith, within, one_each)) board.in_range in
    let there : cell_of b tile ≡ c = cell_is b board.different c tile (omega (arith, within, one_each)) refl in
    get_or-take (cell_count b.grid) written c 0 within
    ∙ ap (λ (j : ℕ). get_or written j 0) (sym there)
    ∙ are tile (omega (arith, low, all)))

-- the board with the search key of an exchange is the one that the move leads to
pub stepped : (rule : WeightsModel) (b moved : BoardModel) (m : Move) (to key cost : ℕ) → neighbour b.grid m (blank_of b) ≡ Some to → key ≡ search_key (blank_exchange b to) → IsBoard (blank_exchange b to) → HasSearchKey b.grid key moved → cost ≡ weight_of rule (slice_index b.tiles to) → Some (moved, cost) ≡ successor rule b m
stepped rule b moved m to key cost found is board has paid =
    let same : moved ≡ blank_exchange b to = one_board moved (blank_exchange b to) has.board board has.sides (has.packed ∙ is) in
    rw (found, same, paid) refl
