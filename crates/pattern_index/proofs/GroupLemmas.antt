-- Lists of different tiles, and how many there can be.
use Rattle.std.proofs.Common.{◌≡◌, ◌≢◌, ℕ, zero, suc, ◌+◌, ◌-◌, ◌*◌, ◌<◌, ◌≤◌, Bool, true, eqb, List, [], ◌∷◌, ◌++◌, length, take, drop, replicate, get_or, refl, sym, ap, ◌∙◌, subst, ⊎_elim, arith, add-one, ◌/◌}
use Rattle.std.specs.Prelude.{AllPairs, Contains, IsPermutation}
use Rattle.std.specs.Bool.{Decides}
use Rattle.std.specs.List.{IsAnyAnswer, IsDistinct, list_any, AllByRecursion}
use Rattle.std.specs.List.Sorted.{IsNonDecreasing}
use Rattle.std.proofs.lemmas.Bool.{or_cases, eqb-true, false≢true, cases_lt, cases_eq}
use Rattle.std.proofs.lemmas.Bool.Decides.{Decides-eqb, nat_tests}
use Rattle.std.proofs.lemmas.List.{take_more, take_at, drop_at, length-append, length-replicate, drop-replicate, length-take-le}
use Rattle.std.proofs.lemmas.List.Elements.{All-nil, All-more, Contains-get_or, contains_decides, Decides-contains, recursion_from_All}
use Rattle.std.proofs.lemmas.List.Quantifiers.{all_pairs_push}
use Rattle.std.proofs.lemmas.List.Sorted.{All-permutation, length_permutation}
use Rattle.std.proofs.lemmas.Map.Keys.{IsStrictlyIncreasing-from_distinct, IsDistinct-IsPermutation}
use Rattle.std.proofs.lemmas.Map.Steps.{length-le_from_distinct_below}
use Rattle.std.proofs.lemmas.Map.Made.{IsDistinct-from_AllPairs, AllPairs-from_IsDistinct}
use Rattle.std.proofs.Math.Nat.{mul-le-mul_left, mul-le-mul_right, mul_assoc}
use Rattle.std.proofs.lemmas.Nat.{mul-le, div-mul-add}
use Rattle.board.specs.Shapes.{ShapeModel, IsShape, cell_count}
use Rattle.board.proofs.NeighbourLemmas.{cells_above}
use Rattle.pattern_index.specs.Packing.{IsStoredGroup}
use Rattle.pattern_index.specs.Ranks.{ways}
use Rattle.pattern_index.specs.Laws.{factorial}
use Rattle.pattern_index.specs.declared.group.TheConstants.{MAX_SIZE}
use Rattle.pattern_index.specs.Groups.{GroupModel, IsTile, AreGroupTiles, IsGroup, size_of}
use Rattle.pattern_index.proofs.RankLemmas.{ways-suc, ways_some}

pub group_none : (grid : ShapeModel) → AreGroupTiles grid []
group_none grid = record { tiles = All-nil (IsTile grid); different = λ i j d lt j_in. absurd (omega arith) }

-- what `contains` answers of the tiles before a place
pub contains_is : (xs : List ℕ) (x : ℕ) (r : Bool) → IsAnyAnswer (λ y b. eqb y x ≡ b) xs r → Decides r (Contains xs x)
contains_is xs x r answer = Decides-contains xs x r (contains_decides eqb Decides-eqb xs x r answer)

pub group_more : (grid : ShapeModel) (ts : List ℕ) (p : ℕ) → p < length ts → 0 < get_or ts p 0 → get_or ts p 0 < cell_count grid → (Contains (take p ts) (get_or ts p 0) → ⊥) → AreGroupTiles grid (take p ts) → AreGroupTiles grid (take (p + 1) ts)
group_more grid ts p p_in some below fresh group = record {
  tiles = All-more (IsTile grid) ts p 0 p_in group.tiles (some, below);
  different = subst (λ xs. AllPairs (λ x y. x ≢ y) xs) (sym (take_more ts p 0 p_in))
      (all_pairs_push (λ x y. x ≢ y) (take p ts) (get_or ts p 0) group.different
      (λ k d k_in same. fresh (subst (λ t. Contains (take p ts) t) same (Contains-get_or (take p ts) k d k_in))));
}

in_list : (xs : List ℕ) (n q : ℕ) → AllByRecursion (λ x. x < n) xs → list_any (eqb q) xs ≡ true → q < n
in_list [] n q all found = absurd (false≢true found)
in_list (x ∷ xs) n q all found =
    ⊎_elim (λ (e : eqb q x ≡ true). let same = eqb-true q x e in let low = all.0 in omega arith) (λ (e : list_any (eqb q) xs ≡ true). in_list xs n q all.1 e)
    (or_cases (eqb q x) (list_any (eqb q) xs) found)

-- there are fewer tiles than cells
pub group_room : (grid : ShapeModel) (ts : List ℕ) → 0 < cell_count grid → AreGroupTiles grid ts → suc (length ts) ≤ cell_count grid
group_room grid ts some group =
    length-le_from_distinct_below (0 ∷ ts) (cell_count grid) (IsDistinct-from_AllPairs Decides-eqb (0 ∷ ts) apart)
    (λ q found. in_list (0 ∷ ts) (cell_count grid) q (some, recursion_from_All (λ x. x < cell_count grid) ts (λ k d k_in. (group.tiles k d k_in).1)) found)
  where
    apart : AllPairs (λ x y. x ≢ y) (0 ∷ ts)
    apart i zero d lt j_in same = omega arith
    apart zero (suc j) d lt j_in same = let tile = (group.tiles j d (omega arith)).0 in omega arith
    apart (suc i) (suc j) d lt j_in same = group.different i j d (omega arith) (omega arith) same

-- there are at least as many ways as orders
ways_least : (n r : ℕ) → r ≤ n → factorial r ≤ ways n r
unfolding ways
ways_least n zero le = omega arith
ways_least zero (suc r) le = absurd (omega arith)
ways_least (suc n) (suc r) le =
    let rest = ways_least n r (omega arith) in
    let w = ways-suc n r in
    let m : suc r * factorial r ≤ suc n * ways n r = mul-le (suc r) (factorial r) (suc n) (ways n r) le rest in
    omega arith

factorial_more : (r k : ℕ) → factorial r ≤ factorial (k + r)
factorial_more r zero = let e : 0 + r ≡ r = omega arith in let f = ap factorial e in omega arith
factorial_more r (suc k) =
    let rest = factorial_more r k in
    let e : suc k + r ≡ suc (k + r) = omega arith in
    let f = ap factorial e in
    let m : 1 * factorial (k + r) ≤ suc (k + r) * factorial (k + r) = mul-le-mul_right (factorial (k + r)) (omega arith) in
    omega arith

-- and more where not every place is used
ways_more : (n r : ℕ) → r < n → factorial (suc r) ≤ ways n r
unfolding ways
ways_more n zero lt = omega arith
ways_more zero (suc r) lt = absurd (omega arith)
ways_more (suc n) (suc r) lt =
    let rest = ways_more n r (omega arith) in
    let w = ways-suc n r in
    let m : suc (suc r) * factorial (suc r) ≤ suc n * ways n r = mul-le (suc (suc r)) (factorial (suc r)) (suc n) (ways n r) (omega arith) rest in
    omega arith

many_ways : (r : ℕ) → 12 ≤ r → 479001600 ≤ factorial r
many_ways r many =
    let more = factorial_more 12 (r - 12) in
    let e : (r - 12) + 12 ≡ r = omega arith in
    let f = ap factorial e in
    let big : factorial 12 ≡ 479001600 = refl in
    omega arith

-- eleven places have too many views, except on 11 cells
pub few_places : (n r : ℕ) → r ≤ n → n ≢ 11 → ways n r ≤ MAX_SIZE → r ≤ 10
few_places n r le other small =
    ⊎_elim (λ (lt : r < 11). omega arith)
    (λ (many : 11 ≤ r).
    ⊎_elim (λ (lt : r < n). let low = ways_more n r lt in let big = many_ways (suc r) (omega arith) in absurd (omega arith))
    (λ (ge : n ≤ r).
    ⊎_elim (λ (is : n ≡ 11). absurd (other is)) (λ (ne : n ≢ 11). let more : 12 ≤ n = twelve n (omega arith) ne in let low = ways_least n r le in let big = many_ways r (omega arith) in absurd (omega arith))
    (cases_eq n 11))
    (cases_lt r n))
    (cases_lt r 11)
  where
    twelve : (k : ℕ) → 11 ≤ k → k ≢ 11 → 12 ≤ k
    twelve k le ne = ⊎_elim (λ (lt : k < 12). absurd (ne (omega arith))) (λ (ge : 12 ≤ k). ge) (cases_lt k 12)

pub cells_high : (grid : ShapeModel) → IsShape grid → cell_count grid ≤ 25
cells_high grid sides = mul-le grid.rows grid.cols 5 5 sides.rows_high sides.cols_high

-- no board has 11 cells
not_eleven : (grid : ShapeModel) → IsShape grid → cell_count grid ≢ 11
not_eleven grid sides is =
    ⊎_elim (λ (e : grid.rows ≡ 2). at 2 e (λ c h. omega arith))
    (λ (n2 : grid.rows ≢ 2).
    ⊎_elim (λ (e : grid.rows ≡ 3). at 3 e (λ c h. omega arith))
    (λ (n3 : grid.rows ≢ 3).
    ⊎_elim (λ (e : grid.rows ≡ 4). at 4 e (λ c h. omega arith))
    (λ (n4 : grid.rows ≢ 4). at 5 (five grid.rows sides.rows_low sides.rows_high n2 n3 n4) (λ c h. omega arith))
    (cases_eq grid.rows 4))
    (cases_eq grid.rows 3))
    (cases_eq grid.rows 2)
  where
    at : (k : ℕ) → grid.rows ≡ k → ((c : ℕ) → k * c ≡ 11 → ⊥) → ⊥
    at k e never = never grid.cols (ap (λ x. x * grid.cols) (sym e) ∙ is)

    five : (x : ℕ) → 2 ≤ x → x ≤ 5 → x ≢ 2 → x ≢ 3 → x ≢ 4 → x ≡ 5
    five x low high a b c = grind (arith, nat_tests)

-- a group's places, one for the blank, are 10 at most, and no more than the cells
pub places_few : (grid : ShapeModel) (numbers : List ℕ) → IsShape grid → AreGroupTiles grid numbers → ways (cell_count grid) (suc (length numbers)) ≤ MAX_SIZE → suc (length numbers) ≤ 10
places_few grid numbers sides group small =
    few_places (cell_count grid) (suc (length numbers)) (group_room grid numbers (cells_above grid sides) group) (not_eleven grid sides) small

pub groups_small : (g : GroupModel) → IsGroup g → (length g.tiles ≤ 9) × (suc (length g.tiles) ≤ cell_count g.grid)
groups_small g sound =
    let few = places_few g.grid g.tiles sound.sides sound.group sound.small in
    (omega arith, group_room g.grid g.tiles (cells_above g.grid sound.sides) sound.group)

eqb_comm : (x y : ℕ) → eqb x y ≡ eqb y x
eqb_comm x y = grind (arith, nat_tests)

-- the numbers in rising order are the tiles of a group
pub selection_is : (grid : ShapeModel) (numbers tiles : List ℕ) → IsShape grid → 0 < length numbers → AreGroupTiles grid numbers → ways (cell_count grid) (suc (length numbers)) ≤ MAX_SIZE → IsPermutation numbers tiles → IsNonDecreasing tiles → IsGroup (record { grid = grid; tiles = tiles })
selection_is grid numbers tiles sides any group small moved rising =
    let long = length_permutation numbers tiles moved in
    let distinct : IsDistinct eqb tiles = IsDistinct-IsPermutation eqb eqb_comm numbers tiles moved (IsDistinct-from_AllPairs Decides-eqb numbers group.different) in
    record {
      sides = sides;
      group = record { tiles = All-permutation (IsTile grid) numbers tiles moved group.tiles; different = AllPairs-from_IsDistinct Decides-eqb tiles distinct };
      rising = IsStrictlyIncreasing-from_distinct tiles rising distinct;
      some = omega arith;
      small = subst (λ n. ways (cell_count grid) (suc n) ≤ MAX_SIZE) (sym long) small;
    }

-- a count of ways, by the cells of a grid
counted : (grid : ShapeModel) (numbers : List ℕ) (cells size : ℕ) → cells ≡ cell_count grid → size ≡ ways cells (length numbers + 1) → size ≡ ways (cell_count grid) (suc (length numbers))
counted grid numbers cells size e is = is ∙ (λ i. ways (e i) (add-one (length numbers) i))

both : (n : ℕ) → n ≤ 9 → n + (9 - n) ≡ 9
both n le = omega arith

module _ (grid : ShapeModel) (numbers : List ℕ) (cells size : ℕ) (sides : IsShape grid) (group : AreGroupTiles grid numbers) (e : cells ≡ cell_count grid) (is : (size ≡ ways cells (length numbers + 1)) × (size ≤ MAX_SIZE)) where
  -- the numbers fit the array
  pub numbers_few : length numbers ≤ 9
  numbers_few =
      let whole = counted grid numbers cells size e is.0 in
      let few = places_few grid numbers sides group (omega (arith, is.1)) in
      omega arith

  -- and have no more views than a group may have
  pub numbers_small : ways (cell_count grid) (suc (length numbers)) ≤ MAX_SIZE
  numbers_small = let whole = counted grid numbers cells size e is.0 in omega (arith, is.1)

  -- a group lies in memory
  pub group_stored : (tiles : List ℕ) → 0 < length numbers → IsPermutation numbers tiles → IsNonDecreasing tiles → IsStoredGroup (record { shape = grid; count = length numbers; tiles = tiles ++ drop (length numbers) (replicate 9 0); size = size })
  group_stored tiles some moved rising =
      let whole = counted grid numbers cells size e is.0 in
      let long : length tiles ≡ length numbers = length_permutation numbers tiles moved in
      let sound = selection_is grid numbers tiles sides some group (omega (arith, is.1)) moved rising in
      let zeros : drop (length numbers) (replicate 9 0) ≡ replicate (9 - length numbers) 0 = drop-replicate (length numbers) 9 0 in
      let taken : take (length numbers) (tiles ++ drop (length numbers) (replicate 9 0)) ≡ tiles = take_at tiles (drop (length numbers) (replicate 9 0)) (length numbers) long in
      let few = numbers_few in
      let at : List ℕ → GroupModel = λ xs. record { grid = grid; tiles = xs } in
      let behind : length (drop (length numbers) (replicate 9 0)) ≡ 9 - length numbers = ap length zeros ∙ length-replicate (9 - length numbers) 0 in
      record {
        selection = subst (λ xs. IsGroup (at xs)) (sym taken) sound;
        tiles = record {
          few = few;
          all = length-append tiles (drop (length numbers) (replicate 9 0)) ∙ (λ i. long i + behind i) ∙ both (length numbers) few;
          unused = drop_at tiles (drop (length numbers) (replicate 9 0)) (length numbers) long ∙ zeros;
        };
        size = whole ∙ ap (λ n. ways (cell_count grid) (suc n)) (sym long) ∙ ap (λ xs. size_of (at xs)) (sym taken);
      }

-- ---- counting the ways

regroup : (s f w : ℕ) → s * f * w ≡ s * (f * w)
regroup s f w = mul_assoc s f w

pub ways_step : (n r i size total : ℕ) → i < r → r ≤ n → size * ways (n - i) (r - i) ≡ total → size * (n - i) * ways (n - (i + 1)) (r - (i + 1)) ≡ total
unfolding ways
ways_step n r i size total i_in le e =
    let rest : r - i ≡ suc (r - (i + 1)) = omega arith in
    let less : n - i - 1 ≡ n - (i + 1) = omega arith in
    regroup size (n - i) (ways (n - (i + 1)) (r - (i + 1)))
    ∙ sym (ap (λ m. size * ways (n - i) m) rest ∙ ap (λ m. size * ((n - i) * ways m (r - (i + 1)))) less)
    ∙ e

-- the product so far is no more than the whole
pub ways_past : (n r i size total : ℕ) → i < r → r ≤ n → size * ways (n - i) (r - i) ≡ total → size * (n - i) ≤ total
ways_past n r i size total i_in le e =
    let some = ways_some (n - (i + 1)) (r - (i + 1)) (omega arith) in
    let m : size * (n - i) * 1 ≤ size * (n - i) * ways (n - (i + 1)) (r - (i + 1)) = mul-le-mul_left (size * (n - i)) some in
    let s = ways_step n r i size total i_in le e in
    omega arith

-- the part of the array that is written
pub room_taken : (n : ℕ) → n ≤ 9 → length (take {A = ℕ} n (replicate 9 0)) ≡ n
room_taken n few = length-take-le n (replicate 9 0) (omega arith)

-- ---- the count of ways as a quotient of factorials

factorial_some : (n : ℕ) → 0 < factorial n
factorial_some zero = omega arith
factorial_some (suc n) = let h = factorial_some n in let m : 1 * factorial n ≤ suc n * factorial n = mul-le-mul_right (factorial n) (omega arith) in omega arith

ways-factorial : (n r : ℕ) → r ≤ n → ways n r * factorial (n - r) ≡ factorial n
unfolding ways
ways-factorial n zero le = omega (arith, ap factorial (sub-zero n))
  where
    sub-zero : (m : ℕ) → m - 0 ≡ m
    sub-zero m = omega arith
ways-factorial zero (suc r) le = absurd (omega arith)
ways-factorial (suc n) (suc r) le =
    let rest = ways-factorial n r (omega arith) in
    let same : suc n - suc r ≡ n - r = omega arith in
    (λ i. ways-suc n r i * factorial (same i)) ∙ mul_assoc (suc n) (ways n r) (factorial (n - r)) ∙ ap (λ m. suc n * m) rest

pub ways_quotient : (n r : ℕ) → r ≤ n → ways n r ≡ factorial n / factorial (n - r)
ways_quotient n r le =
    let e = ways-factorial n r le in
    let q = div-mul-add (ways n r) (factorial (n - r)) 0 (factorial_some (n - r)) in
    let f : ways n r * factorial (n - r) + 0 ≡ factorial n = omega arith in
    sym q ∙ ap (λ m. m / factorial (n - r)) f
