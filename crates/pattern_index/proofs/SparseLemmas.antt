-- Sparse places: how large they are, that their digits are the cells, and what a tile that moves changes.
use Rattle.std.proofs.Common.{◌≡◌, ◌≢◌, ℕ, zero, suc, ◌+◌, ◌-◌, ◌*◌, ◌/◌, ◌%◌, ◌^◌, ◌<◌, ◌≤◌, true, false, cond, eqb, List, [], ◌∷◌, map, length, drop, take, set, ◌++◌, get_or, add-one, refl, sym, ap, ◌∙◌, subst, ⊎_elim, arith}
use Rattle.std.specs.Prelude.{slice_index, All, Contains, AllPairs}
use Rattle.std.proofs.lemmas.List.Elements.{All-drop, recursion_from_All}
use Rattle.std.proofs.lemmas.List.{length-drop, drop_all, drop_more, drop-map, length-map, append_assoc, append-nil, take_all, take_at, take_more_set, length-take-le, get_or-take, get_or_default}
use Rattle.std.specs.List.{AllByRecursion}
use Rattle.std.proofs.lemmas.Bool.{cond-false, cond-true, ne_eqb, eq-eqb, cases_eq, cases_Bool}
use Rattle.std.proofs.lemmas.Nat.{div-mul-add, mod-mul-add, mod_below}
use Rattle.std.proofs.Math.Nat.{mul_assoc, mul_comm, mul-le-mul_left, pow-le-pow_left, pow-le-pow_right, pow-zero, pow-succ', one-le-pow, le-max_left}
use Rattle.pattern_index.specs.Groups.{GroupModel}
use Rattle.pattern_index.specs.Sparse.{sparse_of, digits_in, stride_of, sparse_in, digit_base, slot_in, slot_count_of}
use Rattle.board.specs.Shapes.{ShapeModel, cell_count}
use Rattle.pattern_index.specs.Views.{ViewModel, IsView}
use Rattle.pattern_index.proofs.RankLemmas.{Other, Below, Differ, below_in}
use Rattle.pattern_index.proofs.PlaceLemmas.{place_listing}

-- ---- how large they are

-- cells have up to nine digits of up to 25
pub pow_low : (n k : ℕ) → n ≤ 25 → k ≤ 9 → n ^ k ≤ 3814697265625
pow_low n k few short =
    let left = pow-le-pow_left few k in
    let right = pow-le-pow_right {n = 25} (omega arith) short in
    omega (arith, left, right)

-- and ten, with the blank's
pub pow_ten : (n k : ℕ) → n ≤ 25 → k ≤ 10 → n ^ k ≤ 95367431640625
pow_ten n k few short =
    let left = pow-le-pow_left few k in
    let right = pow-le-pow_right {n = 25} (omega arith) short in
    omega (arith, left, right)

pub sparse_below : (n : ℕ) (xs : List ℕ) → Below n xs → sparse_of n xs < n ^ length xs
unfolding sparse_of
sparse_below n [] below = omega (arith, pow-zero n)
sparse_below n (x ∷ xs) below =
    let rest = sparse_below n xs below.1 in
    let low = below.0 in
    let m : n * suc (sparse_of n xs) ≤ n * n ^ length xs = mul-le-mul_left n rest in
    let e : n * suc (sparse_of n xs) ≡ n + n * sparse_of n xs = omega arith in
    let p = pow-succ' n (length xs) in
    omega (arith, m, e, low, p)

-- ---- their digits

pub digits_back : (n : ℕ) (xs : List ℕ) → Below n xs → digits_in n (length xs) (sparse_of n xs) ≡ xs
unfolding sparse_of digits_in
digits_back n [] below = refl
digits_back n (x ∷ xs) below =
    let turned : x + n * sparse_of n xs ≡ sparse_of n xs * n + x = omega (arith, mul_comm n (sparse_of n xs)) in
    let first : (x + n * sparse_of n xs) % n ≡ x = ap (λ k. k % n) turned ∙ mod-mul-add (sparse_of n xs) n x below.0 in
    let rest : (x + n * sparse_of n xs) / n ≡ sparse_of n xs = ap (λ k. k / n) turned ∙ div-mul-add (sparse_of n xs) n x below.0 in
    (λ i. first i ∷ digits_in n (length xs) (rest i)) ∙ ap (λ ys. x ∷ ys) (digits_back n xs below.1)

pub length-digits : (n count number : ℕ) → length (digits_in n count number) ≡ count
unfolding digits_in
length-digits n zero number = refl
length-digits n (suc count) number = ap suc (length-digits n count (number / n))

pub digits_below : (n count number : ℕ) → 0 < n → Below n (digits_in n count number)
unfolding digits_in
digits_below n zero number some = tt
digits_below n (suc count) number some = (mod_below number n some, digits_below n count (number / n) some)

-- digits that were written over the first numbers of an array
pub written : (n count number : ℕ) (array digits : List ℕ) → count ≤ length array → digits ≡ digits_in n (length (take count array)) number → take count (digits ++ drop count array) ≡ digits_in n count number
written n count number array digits room are =
    let is : digits ≡ digits_in n count number = are ∙ ap (λ k. digits_in n k number) (length-take-le count array room) in
    take_at digits (drop count array) count (ap length is ∙ length-digits n count number) ∙ is

-- the digits of a view's sparse place are its cells
pub view_digits : (grid : ShapeModel) (tiles : List ℕ) (v : ViewModel) (sparse : ℕ) → IsView grid tiles v → sparse_in grid v ≡ sparse → digits_in (cell_count grid) (length tiles) sparse ≡ v.cells
view_digits grid tiles v sparse view is =
    (λ i. digits_in (cell_count grid) (sym view.one_each i) (sym is i)) ∙ digits_back (cell_count grid) v.cells (below_in (cell_count grid) v.cells (place_listing grid tiles v view))

-- ---- a tile that moves

module _ (n tile : ℕ) (before after : List ℕ) (others : (number : ℕ) → 0 < number → number ≢ tile → slice_index after number ≡ slice_index before number) where
  stays : (tiles : List ℕ) → AllByRecursion (λ t. 0 < t) tiles → Other tile tiles → map (slice_index after) tiles ≡ map (slice_index before) tiles
  stays [] above other = refl
  stays (t ∷ tiles) above other = λ i. others t above.0 (λ e. other.0 (sym e)) i ∷ stays tiles above.1 other.1 i

  pub moved : (tiles : List ℕ) → AllByRecursion (λ t. 0 < t) tiles → Differ tiles → sparse_of n (map (slice_index after) tiles) + slice_index before tile * stride_of n tiles tile ≡ sparse_of n (map (slice_index before) tiles) + slice_index after tile * stride_of n tiles tile
  unfolding sparse_of stride_of
  moved [] above differ = omega arith
  moved (t ∷ tiles) above differ =
      ⊎_elim
      (λ (same : t ≡ tile).
      let one : cond (eqb t tile) 1 (n * stride_of n tiles tile) ≡ 1 = cond-true (eqb t tile) 1 (n * stride_of n tiles tile) (eq-eqb t tile same) in
      let rest : sparse_of n (map (slice_index after) tiles) ≡ sparse_of n (map (slice_index before) tiles) = ap (sparse_of n) (stays tiles above.1 (subst (λ k. Other k tiles) same differ.0)) in
      let times = ap (λ s. n * s) rest in
      let a = ap (slice_index after) same in
      let b = ap (slice_index before) same in
      let p = ap (λ w. slice_index before tile * w) one in
      let q = ap (λ w. slice_index after tile * w) one in
      omega (arith, times, a, b, p, q))
      (λ (other : t ≢ tile).
      let next : cond (eqb t tile) 1 (n * stride_of n tiles tile) ≡ n * stride_of n tiles tile = cond-false (eqb t tile) 1 (n * stride_of n tiles tile) (ne_eqb t tile other) in
      let rest = ap (λ s. n * s) (moved tiles above.1 differ.1) in
      let here = others t above.0 other in
      let p = ap (λ w. slice_index before tile * w) next in
      let q = ap (λ w. slice_index after tile * w) next in
      sums n (slice_index after t) (slice_index before t) (sparse_of n (map (slice_index after) tiles)) (sparse_of n (map (slice_index before) tiles)) (slice_index before tile) (slice_index after tile) (stride_of n tiles tile) _ here rest next)
      (cases_eq t tile)
    where
      sums : (n x y s r b a w v : ℕ) → x ≡ y → n * (s + b * w) ≡ n * (r + a * w) → v ≡ n * w → x + n * s + b * v ≡ y + n * r + a * v
      sums n x y s r b a w v here rest next =
          let p : b * v ≡ b * (n * w) = ap (λ k. b * k) next in
          let q : a * v ≡ a * (n * w) = ap (λ k. a * k) next in
          let c : b * (n * w) ≡ n * (b * w) = sym (mul_assoc b n w) ∙ ap (λ k. k * w) (mul_comm b n) ∙ mul_assoc n b w in
          let d : a * (n * w) ≡ n * (a * w) = sym (mul_assoc a n w) ∙ ap (λ k. k * w) (mul_comm a n) ∙ mul_assoc n a w in
          let e : n * (s + b * w) ≡ n * s + n * (b * w) = omega arith in
          let f : n * (r + a * w) ≡ n * r + n * (a * w) = omega arith in
          omega (arith, here, rest, p, q, c, d, e, f)

-- ---- the loops

below_behind : (n i : ℕ) (xs : List ℕ) → Below n xs → Below n (drop i xs)
below_behind n zero xs below = below
below_behind n (suc i) [] below = below
below_behind n (suc i) (x ∷ xs) below = below_behind n i xs below.1

-- numbers of up to nine digits of up to 25
pub sparse_small : (n : ℕ) (xs : List ℕ) → n ≤ 25 → length xs ≤ 9 → Below n xs → sparse_of n xs ≤ 3814697265625
sparse_small n xs few short below =
    let low = sparse_below n xs below in
    let top = pow_low n (length xs) few short in
    omega (arith, low, top)

-- and ten, with the blank's
pub sparse_ten : (n : ℕ) (xs : List ℕ) → n ≤ 25 → length xs ≤ 10 → Below n xs → sparse_of n xs ≤ 95367431640625
sparse_ten n xs few short below =
    let low = sparse_below n xs below in
    let top = pow_ten n (length xs) few short in
    omega (arith, low, top)

pub sparse_none : (n : ℕ) (f : ℕ → ℕ) (tiles : List ℕ) → 0 ≡ sparse_of n (map f (drop (length tiles) tiles))
unfolding sparse_of
sparse_none n f tiles = sym (ap (λ xs. sparse_of n (map f xs)) (drop_all (length tiles) tiles (omega arith)))

-- one digit more, before those that are in
pub sparse_more : (n : ℕ) (f : ℕ → ℕ) (tiles : List ℕ) (place next sparse : ℕ) → next + 1 ≡ place → next < length tiles → sparse ≡ sparse_of n (map f (drop place tiles)) → sparse * n + f (get_or tiles next 0) ≡ sparse_of n (map f (drop next tiles))
unfolding sparse_of
sparse_more n f tiles place next sparse follows within is =
    let split : drop next tiles ≡ get_or tiles next 0 ∷ drop place tiles = drop_more tiles next 0 within ∙ ap (λ k. get_or tiles next 0 ∷ drop k tiles) follows in
    let times : sparse * n ≡ n * sparse_of n (map f (drop place tiles)) = ap (λ k. k * n) is ∙ mul_comm (sparse_of n (map f (drop place tiles))) n in
    let whole : f (get_or tiles next 0) + n * sparse_of n (map f (drop place tiles)) ≡ sparse_of n (map f (drop next tiles)) = sym (ap (λ xs. sparse_of n (map f xs)) split) in
    omega (arith, times, whole)

pub sparse_low : (n : ℕ) (f : ℕ → ℕ) (tiles : List ℕ) (i : ℕ) → n ≤ 25 → length tiles ≤ 9 → Below n (map f tiles) → sparse_of n (map f (drop i tiles)) ≤ 3814697265625
sparse_low n f tiles i few short below =
    let short_too : length (map f (drop i tiles)) ≤ 9 = (let a = length-map (drop i tiles) f in let b = length-drop-le i tiles in omega (arith, a, b, short)) in
    sparse_small n (map f (drop i tiles)) few short_too (subst (Below n) (drop-map f i tiles) (below_behind n i (map f tiles) below))
  where
    length-drop-le : (i : ℕ) (xs : List ℕ) → length (drop i xs) ≤ length xs
    length-drop-le zero xs = omega arith
    length-drop-le (suc i) [] = omega arith
    length-drop-le (suc i) (x ∷ xs) = let rest = length-drop-le i xs in omega (arith, rest)

-- one digit more is written
pub digits_more : (n place rest : ℕ) (total digits : List ℕ) (count : ℕ) → place < count → length digits ≡ count → take place digits ++ digits_in n (count - place) rest ≡ total → take (place + 1) (set digits place (rest % n)) ++ digits_in n (count - (place + 1)) (rest / n) ≡ total
unfolding digits_in
digits_more n place rest total digits count within all are =
    let left : count - place ≡ suc (count - (place + 1)) = omega (arith, within) in
    let next : digits_in n (count - place) rest ≡ (rest % n) ∷ digits_in n (count - (place + 1)) (rest / n) = ap (λ k. digits_in n k rest) left in
    ap (λ xs. xs ++ digits_in n (count - (place + 1)) (rest / n)) (take_more_set digits place (rest % n) (omega (arith, within, all)))
    ∙ append_assoc (take place digits) ((rest % n) ∷ []) (digits_in n (count - (place + 1)) (rest / n))
    ∙ ap (λ xs. take place digits ++ xs) (sym next)
    ∙ are

pub digits_all : (n place rest : ℕ) (total digits : List ℕ) (count : ℕ) → count ≤ place → length digits ≡ count → take place digits ++ digits_in n (count - place) rest ≡ total → digits ≡ total
unfolding digits_in
digits_all n place rest total digits count end all are =
    let none : count - place ≡ 0 = omega (arith, end) in
    let whole : take place digits ≡ digits = take_all place digits (omega (arith, end, all)) in
    sym whole ∙ sym (append-nil (take place digits)) ∙ ap (λ k. take place digits ++ digits_in n k rest) (sym none) ∙ are

-- ---- strides

pub stride_found : (n stride : ℕ) (tiles : List ℕ) (tile place : ℕ) → place < length tiles → get_or tiles place 0 ≡ tile → stride * stride_of n (drop place tiles) tile ≡ stride_of n tiles tile → stride ≡ stride_of n tiles tile
unfolding stride_of
stride_found n stride tiles tile place within found rest =
    let split : stride_of n (drop place tiles) tile ≡ cond (eqb (get_or tiles place 0) tile) 1 (n * stride_of n (drop (place + 1) tiles) tile) = ap (λ xs. stride_of n xs tile) (drop_more tiles place 0 within) in
    let one : stride_of n (drop place tiles) tile ≡ 1 = split ∙ cond-true (eqb (get_or tiles place 0) tile) 1 (n * stride_of n (drop (place + 1) tiles) tile) (eq-eqb (get_or tiles place 0) tile found) in
    let times = ap (λ k. stride * k) one in
    omega (arith, times, rest)

pub stride_on : (n stride : ℕ) (tiles : List ℕ) (tile place : ℕ) → place < length tiles → get_or tiles place 0 ≢ tile → stride * stride_of n (drop place tiles) tile ≡ stride_of n tiles tile → stride * n * stride_of n (drop (place + 1) tiles) tile ≡ stride_of n tiles tile
unfolding stride_of
stride_on n stride tiles tile place within other rest =
    let split : stride_of n (drop place tiles) tile ≡ cond (eqb (get_or tiles place 0) tile) 1 (n * stride_of n (drop (place + 1) tiles) tile) = ap (λ xs. stride_of n xs tile) (drop_more tiles place 0 within) in
    let on : stride_of n (drop place tiles) tile ≡ n * stride_of n (drop (place + 1) tiles) tile = split ∙ cond-false (eqb (get_or tiles place 0) tile) 1 (n * stride_of n (drop (place + 1) tiles) tile) (ne_eqb (get_or tiles place 0) tile other) in
    mul_assoc stride n (stride_of n (drop (place + 1) tiles) tile) ∙ sym (ap (λ k. stride * k) on) ∙ rest

pub stride_none : (n stride : ℕ) (tiles : List ℕ) (tile place : ℕ) → length tiles ≤ place → stride * stride_of n (drop place tiles) tile ≡ stride_of n tiles tile → 0 ≡ stride_of n tiles tile
unfolding stride_of
stride_none n stride tiles tile place end rest =
    let none : stride_of n (drop place tiles) tile ≡ 0 = ap (λ xs. stride_of n xs tile) (drop_all place tiles end) in
    let times = ap (λ k. stride * k) none in
    omega (arith, times, rest)

pub power_more : (n stride place : ℕ) → stride ≡ n ^ place → stride * n ≡ n ^ (place + 1)
power_more n stride place is =
    let e : n ^ (place + 1) ≡ n * n ^ place = ap (λ k. n ^ k) (add-one place) ∙ pow-succ' n place in
    let t : stride * n ≡ n * n ^ place = ap (λ k. k * n) is ∙ mul_comm (n ^ place) n in
    t ∙ sym e

-- ---- a list with a number twice

pub repeated : (xs : List ℕ) (place : ℕ) → place < length xs → Contains (take place xs) (get_or xs place 0) → AllPairs (λ x y. x ≢ y) xs → ⊥
repeated xs place within before differ =
    let x = get_or xs place 0 in
    let long = length-take-le place xs (omega (arith, within)) in
    let low : before.0 < place = omega (arith, long, before.1) in
    differ before.0 place x low within (sym (get_or-take place xs before.0 x low) ∙ before.2 ∙ get_or_default xs place 0 x within)

pub stride_low : (n : ℕ) (tiles : List ℕ) (tile : ℕ) → 0 < n → stride_of n tiles tile ≤ n ^ length tiles
unfolding stride_of
stride_low n [] tile some = omega arith
stride_low n (t ∷ tiles) tile some =
    let rest = stride_low n tiles tile some in
    let power = one-le-pow (suc (length tiles)) n some in
    let next = pow-succ' n (length tiles) in
    let more : n * stride_of n tiles tile ≤ n * n ^ length tiles = mul-le-mul_left n rest in
    ⊎_elim
    (λ (is : eqb t tile ≡ true). let one = cond-true (eqb t tile) 1 (n * stride_of n tiles tile) is in omega (arith, one, power))
    (λ (other : eqb t tile ≡ false). let on = cond-false (eqb t tile) 1 (n * stride_of n tiles tile) other in omega (arith, on, more, next))
    (cases_Bool (eqb t tile))

-- ---- the sparse place of some cells

-- no digit is in
pub digits_none : (n : ℕ) (cells : List ℕ) → 0 ≡ sparse_of n (drop (length cells) cells)
unfolding sparse_of
digits_none n cells = sym (ap (sparse_of n) (drop_all (length cells) cells (omega arith)))

module _ (n : ℕ) (cells : List ℕ) (place sparse : ℕ) (some : 0 < place) (within : place ≤ length cells) (is : sparse ≡ sparse_of n (drop place cells)) where
  -- one digit more, before those that are in
  pub digits_on : sparse * n + slice_index cells (place - 1) ≡ sparse_of n (drop (place - 1) cells)
  unfolding sparse_of
  digits_on =
      let follows : (place - 1) + 1 ≡ place = omega (arith, some) in
      let split : drop (place - 1) cells ≡ slice_index cells (place - 1) ∷ drop place cells = drop_more cells (place - 1) 0 (omega (arith, some, within)) ∙ ap (λ k. slice_index cells (place - 1) ∷ drop k cells) follows in
      let times : sparse * n ≡ n * sparse_of n (drop place cells) = ap (λ k. k * n) is ∙ mul_comm (sparse_of n (drop place cells)) n in
      let whole : slice_index cells (place - 1) + n * sparse_of n (drop place cells) ≡ sparse_of n (drop (place - 1) cells) = sym (ap (sparse_of n) split) in
      omega (arith, times, whole)

  -- it is small
  pub digits_fit : n ≤ 25 → length cells ≤ 10 → All (λ cell. cell < n) cells → sparse * n + slice_index cells (place - 1) ≤ 95367431640625
  digits_fit few short below =
      let rest = recursion_from_All (λ cell. cell < n) (drop (place - 1) cells) (All-drop (λ cell. cell < n) (place - 1) cells below) in
      let long = length-drop (place - 1) cells in
      let small = sparse_ten n (drop (place - 1) cells) few (omega (arith, long, short)) rest in
      let on = digits_on in
      omega (arith, small, on)

-- ---- slots

-- the cells of a view are digits of its slot
pub slot_digits : (grid : ShapeModel) (tiles : List ℕ) (v : ViewModel) → IsView grid tiles v → Below (digit_base grid) (v.blank ∷ v.cells)
slot_digits grid tiles v view =
    recursion_from_All (λ cell. cell < digit_base grid) (v.blank ∷ v.cells)
    (λ k d low. let under = view.in_range k d low in let wide = le-max_left (cell_count grid) 16 in omega (arith, under, wide))

pub slot_below : (g : GroupModel) (v : ViewModel) → IsView g.grid g.tiles v → slot_in g.grid v < slot_count_of g
slot_below g v view = subst (λ k. slot_in g.grid v < digit_base g.grid ^ suc k) view.one_each (sparse_below (digit_base g.grid) (v.blank ∷ v.cells) (slot_digits g.grid g.tiles v view))

pub slots_differ : (g : GroupModel) (v w : ViewModel) → IsView g.grid g.tiles v → IsView g.grid g.tiles w → slot_in g.grid v ≡ slot_in g.grid w → v ≡ w
slots_differ g v w view other same = λ i. record { blank = get_or (one i) 0 0; cells = drop 1 (one i) }
  where
    one : v.blank ∷ v.cells ≡ w.blank ∷ w.cells
    one =
        sym (digits_back (digit_base g.grid) (v.blank ∷ v.cells) (slot_digits g.grid g.tiles v view))
        ∙ (λ i. digits_in (digit_base g.grid) (suc ((view.one_each ∙ sym other.one_each) i)) (same i))
        ∙ digits_back (digit_base g.grid) (w.blank ∷ w.cells) (slot_digits g.grid g.tiles w other)

-- the slot by the sparse place of the tiles' cells
pub slot-parts : (n blank : ℕ) (cells : List ℕ) → sparse_of n (blank ∷ cells) ≡ blank + n * sparse_of n cells
unfolding sparse_of
slot-parts n blank cells = refl
