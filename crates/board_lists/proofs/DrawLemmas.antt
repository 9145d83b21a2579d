-- Boards with their tiles in another order, and the class that an exchange of two of them leads to.
use Rattle.std.proofs.Common.{◌≡◌, ◌≢◌, ℕ, zero, suc, ◌+◌, ◌%◌, ◌≤◌, cond, Bool, true, false, List, [], ◌∷◌, length, refl, sym, subst, arith, ◌⊎◌, inl, inr, eqb, not, take, ◌++◌, ap, ◌∙◌}
use Rattle.std.specs.Prelude.{IsPermutation, AllPairs, count_by, nat_lt, swap, slice_index, ◌==◌, ◌||◌}
use Rattle.std.specs.List.{position_or_len}
use Rattle.std.proofs.lemmas.Bool.{cases_eq, ne_eqb}
use Rattle.std.proofs.lemmas.Bool.Decides.{nat_tests}
use Rattle.std.proofs.lemmas.List.Sorted.{IsPermutation-keeps}
use Rattle.std.proofs.lemmas.List.Sums.{sum_by-cons}
use Rattle.board.specs.Shapes.{ShapeModel, cell_count}
use Rattle.board.specs.Boards.{BoardModel, IsBoard, blank_of}
use Rattle.board.specs.Classes.{inversions, taxicab, SameClass}
use Rattle.board.proofs.MoveLemmas.{exchange_board}
use Rattle.board_lists.specs.Classes.{in_other_class}

-- a board with other tiles
abbrev pub tiled : BoardModel → List ℕ → BoardModel
tiled b tiles = record { grid = b.grid; tiles = tiles }

-- the tiles of a board in any order are a board
pub shuffled_board : (b : BoardModel) (tiles : List ℕ) → IsBoard b → IsPermutation b.tiles tiles → IsBoard (tiled b tiles)
shuffled_board b tiles board shuffled =
    IsPermutation-keeps b.tiles (λ l. IsBoard (tiled b l)) board
    (λ l i j i_in j_in is. let n = is.one_each in exchange_board (tiled b l) i j is (omega arith) (omega arith))
    tiles shuffled

turned_either : (b : BoardModel) (late : Bool) → IsBoard (tiled b (swap b.tiles 2 3)) → IsBoard (tiled b (swap b.tiles 0 1)) → IsBoard (tiled b (cond late (swap b.tiles 2 3) (swap b.tiles 0 1)))
turned_either b true x y = x
turned_either b false x y = y

-- so is a board with two tiles exchanged
pub turned_board : (b : BoardModel) → IsBoard b → 4 ≤ cell_count b.grid → IsBoard (tiled b (in_other_class b.tiles))
turned_board b board some =
    turned_either b ((slice_index b.tiles 0 == 0) || (slice_index b.tiles 1 == 0)) (exchange_board b 2 3 board (omega arith) (omega arith)) (exchange_board b 0 1 board (omega arith) (omega arith))

pub take_front : (n : ℕ) (front behind : List ℕ) → length front ≡ n → take n (front ++ behind) ≡ front
take_front zero [] behind long = refl
take_front zero (x ∷ front) behind long = absurd (omega (arith, long))
take_front (suc n) [] behind long = absurd (omega (arith, long))
take_front (suc n) (x ∷ front) behind long = ap (λ (l : List ℕ). x ∷ l) (take_front n front behind (omega (arith, long)))

-- what is read from the front of an array is a board, where the tiles of one were shuffled there
pub shuffled_front : (b : BoardModel) (grid : ShapeModel) (n : ℕ) (array tiles behind : List ℕ) → IsBoard b → grid ≡ b.grid → n ≡ cell_count grid → take (cell_count b.grid) array ≡ b.tiles → IsPermutation (take n array) tiles → IsBoard (record { grid = grid; tiles = take n (tiles ++ behind) })
shuffled_front b grid n array tiles behind board sides count held shuffled =
    let all : n ≡ cell_count b.grid = count ∙ ap cell_count sides in
    let is = shuffled_board b tiles board (subst (λ (l : List ℕ). IsPermutation l tiles) (ap (λ (k : ℕ). take k array) all ∙ held) shuffled) in
    let front : take n (tiles ++ behind) ≡ tiles = take_front n tiles behind (is.one_each ∙ sym all) in
    subst IsBoard (λ i. record { grid = sym sides i; tiles = sym front i }) is

-- and where two tiles of one were exchanged there
pub turned_front : (b : BoardModel) (grid : ShapeModel) (n : ℕ) (array tiles behind : List ℕ) → IsBoard b → grid ≡ b.grid → n ≡ cell_count grid → 4 ≤ n → take (cell_count b.grid) array ≡ b.tiles → tiles ≡ in_other_class (take n array) → IsBoard (record { grid = grid; tiles = take n (tiles ++ behind) }) × (take n (tiles ++ behind) ≡ in_other_class b.tiles)
turned_front b grid n array tiles behind board sides count some held turn =
    let all : n ≡ cell_count b.grid = count ∙ ap cell_count sides in
    let is : tiles ≡ in_other_class b.tiles = turn ∙ ap in_other_class (ap (λ (k : ℕ). take k array) all ∙ held) in
    let whole = turned_board b board (omega arith) in
    let front : take n (tiles ++ behind) ≡ tiles = take_front n tiles behind (ap length is ∙ whole.one_each ∙ sym all) in
    (subst IsBoard (λ i. record { grid = sym sides i; tiles = sym (front ∙ is) i }) whole, front ∙ is)

-- ---- the parity of the inversions

-- 1 if x is below y
below : ℕ → ℕ → ℕ
below x y = cond (nat_lt x y) 1 0

one_way : (x y : ℕ) → x ≢ y → below x y + below y x ≡ 1
unfolding below
one_way x y apart = grind (arith, nat_tests)

-- how many of the list are below x
count_below : ℕ → List ℕ → ℕ
count_below x xs = count_by (λ y. nat_lt y x) xs

count_below-cons : (w x : ℕ) (xs : List ℕ) → count_below w (x ∷ xs) ≡ below x w + count_below w xs
unfolding below count_below
count_below-cons w x xs = sum_by-cons (λ y. cond (nat_lt y w) 1 0) x xs

inversions-cons : (x : ℕ) (xs : List ℕ) → inversions (x ∷ xs) ≡ count_below x xs + inversions xs
unfolding count_below
inversions-cons x xs = refl

-- the first two numbers of a list exchanged
first_two : (x y : ℕ) (rest : List ℕ) → x ≢ y → (inversions (x ∷ y ∷ rest) + inversions (y ∷ x ∷ rest)) % 2 ≡ 1
first_two x y rest apart =
    let one = one_way x y apart in
    let a = inversions-cons x (y ∷ rest) in
    let b = inversions-cons y (x ∷ rest) in
    let c = count_below-cons x y rest in
    let d = count_below-cons y x rest in
    let e = inversions-cons y rest in
    let f = inversions-cons x rest in
    omega arith

-- the next two
next_two : (v w x y : ℕ) (rest : List ℕ) → x ≢ y → (inversions (v ∷ w ∷ x ∷ y ∷ rest) + inversions (v ∷ w ∷ y ∷ x ∷ rest)) % 2 ≡ 1
next_two v w x y rest apart =
    let turn = first_two x y rest apart in
    let a = inversions-cons v (w ∷ x ∷ y ∷ rest) in
    let b = inversions-cons v (w ∷ y ∷ x ∷ rest) in
    let c = inversions-cons w (x ∷ y ∷ rest) in
    let d = inversions-cons w (y ∷ x ∷ rest) in
    let e = count_below-cons v w (x ∷ y ∷ rest) in
    let f = count_below-cons v w (y ∷ x ∷ rest) in
    let g = count_below-cons v x (y ∷ rest) in
    let h = count_below-cons v y (x ∷ rest) in
    let i = count_below-cons v y rest in
    let j = count_below-cons v x rest in
    let k = count_below-cons w x (y ∷ rest) in
    let l = count_below-cons w y (x ∷ rest) in
    let m = count_below-cons w y rest in
    let n = count_below-cons w x rest in
    omega arith

-- ---- the class

-- the place of the blank
place_of : List ℕ → ℕ
place_of tiles = position_or_len (λ t. t == 0) tiles

-- the parity of the inversions is another one, and the blank stays where it is
record Turns (tiles after : List ℕ) : Type 0 where
  odd : (inversions tiles + inversions after) % 2 ≡ 1
  blank : place_of after ≡ place_of tiles

-- what is known of a test of the first two numbers
early : (v w x y : ℕ) (rest : List ℕ) → v ≢ 0 → w ≢ 0 → (in_other_class (v ∷ w ∷ x ∷ y ∷ rest) ≡ w ∷ v ∷ x ∷ y ∷ rest) × (place_of (w ∷ v ∷ x ∷ y ∷ rest) ≡ place_of (v ∷ w ∷ x ∷ y ∷ rest))
unfolding place_of
early v w x y rest vn wn = rw (ne_eqb v 0 vn, ne_eqb w 0 wn) (refl, refl)

second : (b : Bool) (v w x y : ℕ) (rest : List ℕ) → w ≡ 0 → (cond (b || eqb w 0) (v ∷ w ∷ y ∷ x ∷ rest) (w ∷ v ∷ x ∷ y ∷ rest) ≡ v ∷ w ∷ y ∷ x ∷ rest) × (cond (not b) (1 + cond (not (eqb w 0)) (1 + place_of (y ∷ x ∷ rest)) 0) 0 ≡ cond (not b) (1 + cond (not (eqb w 0)) (1 + place_of (x ∷ y ∷ rest)) 0) 0)
second true v w x y rest e = (refl, refl)
second false v w x y rest e = rw e (refl, refl)

late : (v w x y : ℕ) (rest : List ℕ) → ((v ≡ 0) ⊎ (w ≡ 0)) → (in_other_class (v ∷ w ∷ x ∷ y ∷ rest) ≡ v ∷ w ∷ y ∷ x ∷ rest) × (place_of (v ∷ w ∷ y ∷ x ∷ rest) ≡ place_of (v ∷ w ∷ x ∷ y ∷ rest))
unfolding place_of
late v w x y rest (inl e) = rw e (refl, refl)
late v w x y rest (inr e) = second (eqb v 0) v w x y rest e

turns : (v w x y : ℕ) (rest : List ℕ) → v ≢ w → x ≢ y → Turns (v ∷ w ∷ x ∷ y ∷ rest) (in_other_class (v ∷ w ∷ x ∷ y ∷ rest))
turns v w x y rest first next = elim (cases_eq v 0) [
  | inl e ↦ moved (v ∷ w ∷ y ∷ x ∷ rest) (late v w x y rest (inl e)) (next_two v w x y rest next)
  | inr vn ↦ elim (cases_eq w 0) [
    | inl e ↦ moved (v ∷ w ∷ y ∷ x ∷ rest) (late v w x y rest (inr e)) (next_two v w x y rest next)
    | inr wn ↦ moved (w ∷ v ∷ x ∷ y ∷ rest) (early v w x y rest vn wn) (first_two v w (x ∷ y ∷ rest) first)
  ]
]
  where
    moved : (after : List ℕ) → (in_other_class (v ∷ w ∷ x ∷ y ∷ rest) ≡ after) × (place_of after ≡ place_of (v ∷ w ∷ x ∷ y ∷ rest)) → (inversions (v ∷ w ∷ x ∷ y ∷ rest) + inversions after) % 2 ≡ 1 → Turns (v ∷ w ∷ x ∷ y ∷ rest) (in_other_class (v ∷ w ∷ x ∷ y ∷ rest))
    moved after is odd = subst (Turns (v ∷ w ∷ x ∷ y ∷ rest)) (sym is.0) (record { odd = odd; blank = is.1 })

turns_all : (tiles : List ℕ) → 4 ≤ length tiles → AllPairs (λ x y. x ≢ y) tiles → Turns tiles (in_other_class tiles)
turns_all [] some different = absurd (omega arith)
turns_all (v ∷ []) some different = absurd (omega arith)
turns_all (v ∷ w ∷ []) some different = absurd (omega arith)
turns_all (v ∷ w ∷ x ∷ []) some different = absurd (omega arith)
turns_all (v ∷ w ∷ x ∷ y ∷ rest) some different = turns v w x y rest (different 0 1 0 (omega arith) (omega arith)) (different 2 3 0 (omega arith) (omega arith))

-- a board that isn't in the class of q enters it by the exchange of two tiles
pub turned_class : (b q : BoardModel) → IsBoard b → 4 ≤ cell_count b.grid → ¬ SameClass b q → SameClass (tiled b (in_other_class b.tiles)) q
unfolding place_of
turned_class b q board some other =
    let n = board.one_each in
    let turn = turns_all b.tiles (omega arith) board.different in
    let odd = turn.odd in
    let blank : blank_of (tiled b (in_other_class b.tiles)) ≡ blank_of b = turn.blank in
    let far : taxicab b.grid (blank_of (tiled b (in_other_class b.tiles))) (blank_of q) ≡ taxicab b.grid (blank_of b) (blank_of q) = rw blank refl in
    opposite_parity (inversions b.tiles) (inversions (in_other_class b.tiles)) (inversions q.tiles) (taxicab b.grid (blank_of b) (blank_of q)) (taxicab b.grid (blank_of (tiled b (in_other_class b.tiles))) (blank_of q)) odd far other
  where
    opposite_parity : (i j k far far' : ℕ) → (i + j) % 2 ≡ 1 → far' ≡ far → ¬ ((i + k) % 2 ≡ far % 2) → (j + k) % 2 ≡ far' % 2
    opposite_parity i j k far far' odd same not = omega arith
