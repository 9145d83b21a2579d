-- Numbers on cells: what an exchange of two cells leaves, and the first fault of numbers that should be tiles.
use Rattle.std.proofs.Common.{◌≡◌, ◌≢◌, ◌⊎◌, ℕ, ◌<◌, ◌≤◌, true, false, cond, eqb, List, [], ◌∷◌, length, get_or, refl, sym, ◌∙◌, subst, ⊎_elim, arith, zero, suc, ◌+◌, Bool, ◌++◌, set, take, replicate, ap, inl, inr, length-take, length-set, get_or-set_same, get_or-set_other}
use Rattle.std.specs.Prelude.{AllPairs, swap, ◌==◌, All, Contains, ◌↔◌}
use Rattle.std.specs.List.{position_or_len, AllByRecursion, IsDistinct, list_any}
use Rattle.std.proofs.lemmas.Bool.{eqb-true, eqb-false, eq-eqb, ne_eqb, cases_lt, cases_order, cases_eq, or_cases, false≢true}
use Rattle.std.proofs.lemmas.Bool.Decides.{nat_tests, Decides-eqb}
use Rattle.std.proofs.lemmas.List.{get_or_default, take_more, take_all, get_or-take}
use Rattle.std.proofs.lemmas.List.Edits.{swapped_from_swap}
use Rattle.std.proofs.lemmas.List.Elements.{recursion_from_All, All-from_get_or, All-more, Contains-append_left, Contains-append_right, Contains-append_cases}
use Rattle.std.proofs.lemmas.List.Sums.{position_or_len_is, fails_before_first, passes_at_first}
use Rattle.std.proofs.lemmas.Map.Steps.{length-le_from_distinct_below}
use Rattle.std.proofs.lemmas.Map.Made.{IsDistinct-from_AllPairs}
use Rattle.std.proofs.lemmas.List.Quantifiers.{all_pairs_push}
use Rattle.board.specs.Shapes.{cell_count, ShapeModel, IsShape}
use Rattle.board.specs.Boards.{BoardModel, IsBoard, cell_of}
use Rattle.board.specs.Faults.{IsFirstTilesPlace, IsFirstTilesFault}
use Rattle.board.specs.declared.faults.TilesFault.{TilesFault}
use Rattle.board.specs.declared.faults.TilesFault.TheVariants.{WrongCount, TileOutOfRange, TileRepeated}

-- no two places of a list hold one number
pub same_place : (xs : List ℕ) → AllPairs (λ x y. x ≢ y) xs → (i j : ℕ) → i < length xs → j < length xs → get_or xs i 0 ≡ get_or xs j 0 → i ≡ j
same_place xs different i j i_in j_in same =
    ⊎_elim (λ (e : i ≡ j). e)
    (λ (h : (i < j) ⊎ (j < i)). ⊎_elim (λ (lt : i < j). absurd (different i j 0 lt j_in same)) (λ (lt : j < i). absurd (different j i 0 lt i_in (sym same))) h)
    (cases_order i j)

pub all_differ : (xs : List ℕ) → ((i j : ℕ) → i < length xs → j < length xs → get_or xs i 0 ≡ get_or xs j 0 → i ≡ j) → AllPairs (λ x y. x ≢ y) xs
all_differ xs one i j d lt j_in same =
    let at : i ≡ j = one i j (omega arith) j_in (get_or_default xs i 0 d (omega arith) ∙ same ∙ sym (get_or_default xs j 0 d j_in)) in
    absurd (omega arith)

-- where the number of a cell is after an exchange of i and j
abbrev pub across : ℕ → ℕ → ℕ → ℕ
across i j k = cond (eqb k i) j (cond (eqb k j) i k)

pub across-across : (i j k : ℕ) → across i j (across i j k) ≡ k
across-across i j k = grind (arith, nat_tests)

pub across_back : (i j k : ℕ) → across i j (across j i k) ≡ k
across_back i j k = grind (arith, nat_tests)

pub across_below : (i j k n : ℕ) → i < n → j < n → k < n → across i j k < n
across_below i j k n hi hj hk = grind (arith, nat_tests)

pub at_swap : (xs : List ℕ) (i j k : ℕ) → i < length xs → j < length xs → get_or (swap xs i j) k 0 ≡ get_or xs (across i j k) 0
at_swap xs i j k i_in j_in =
    let s = swapped_from_swap xs (swap xs i j) i j 0 i_in j_in refl in
    ⊎_elim (λ (e : k ≡ i). let a : across i j k ≡ j = grind (arith, nat_tests) in rw (a, e) s.0)
    (λ (ne : k ≢ i). ⊎_elim (λ (e : k ≡ j). let a : across i j k ≡ i = grind (arith, nat_tests) in rw (a, e) s.1) (λ (other : k ≢ j). let a : across i j k ≡ k = grind (arith, nat_tests) in rw a (s.2 k ne other)) (cases_eq k j))
    (cases_eq k i)

pub cell_is : (b : BoardModel) → AllPairs (λ x y. x ≢ y) b.tiles → (x t : ℕ) → x < length b.tiles → get_or b.tiles x 0 ≡ t → cell_of b t ≡ x
cell_is b different x t x_in e =
    position_or_len_is (λ y. y == t) b.tiles x 0 (omega arith)
    (λ k lt. ne_eqb _ _ (λ same. let at : k ≡ x = same_place b.tiles different k x (omega arith) x_in (same ∙ sym e) in absurd (omega arith)))
    (λ _. eq-eqb _ _ e)

-- distinct numbers stay distinct with t before them, where t is not among them
fresh : (xs : List ℕ) (t : ℕ) → AllPairs (λ x y. x ≢ y) xs → length xs ≤ position_or_len (λ x. x == t) xs → IsDistinct eqb (t ∷ xs)
unfolding IsDistinct
fresh xs t different past = (
  recursion_from_All (λ y. eqb t y ≡ false) xs (All-from_get_or (λ y. eqb t y ≡ false) xs 0 (λ i i_in. ne_eqb _ _ (λ same. eqb-false _ _ (fails_before_first (λ x. x == t) xs i 0 (omega arith)) (sym same)))),
  IsDistinct-from_AllPairs Decides-eqb xs different,
)

in_list : (xs : List ℕ) (n q : ℕ) → AllByRecursion (λ x. x < n) xs → list_any (eqb q) xs ≡ true → q < n
in_list [] n q all found = absurd (false≢true found)
in_list (x ∷ xs) n q all found =
    ⊎_elim (λ (e : eqb q x ≡ true). let same = eqb-true q x e in let low = all.0 in omega arith) (λ (e : list_any (eqb q) xs ≡ true). in_list xs n q all.1 e)
    (or_cases (eqb q x) (list_any (eqb q) xs) found)

-- each number below the count of cells is on a cell
pub has_cell : (b : BoardModel) → IsBoard b → (t : ℕ) → t < cell_count b.grid → (cell_of b t < cell_count b.grid) × (get_or b.tiles (cell_of b t) 0 ≡ t)
has_cell b board t t_in =
    ⊎_elim
    (λ (found : cell_of b t < length b.tiles). (subst (λ n. cell_of b t < n) board.one_each found, eqb-true _ _ (passes_at_first (λ x. x == t) b.tiles 0 found)))
    (λ (past : length b.tiles ≤ cell_of b t).
    let long = length-le_from_distinct_below (t ∷ b.tiles) (cell_count b.grid) (fresh b.tiles t board.different past)
    (λ q found. in_list (t ∷ b.tiles) (cell_count b.grid) q (t_in, recursion_from_All (λ x. x < cell_count b.grid) b.tiles board.in_range) found) in
    let e = board.one_each in
    absurd (omega arith))
    (cases_lt (cell_of b t) (length b.tiles))

-- ---- the first fault of numbers that should be the tiles of a board

-- the numbers before a place are different tiles, and they are the ones that are marked
pub record IsSeen (grid : ShapeModel) (numbers : List ℕ) (place : ℕ) (seen : List Bool) : Type 0 where
  pub in_range : All (λ number. number < cell_count grid) (take place numbers)
  pub different : AllPairs (λ x y. x ≢ y) (take place numbers)
  pub marked : (tile : ℕ) → tile < 25 → (get_or seen tile false ≡ true) ↔ Contains (take place numbers) tile
  pub marks : length seen ≡ 25

no_mark : (n tile : ℕ) → get_or (replicate n false) tile false ≡ false
no_mark zero tile = refl
no_mark (suc n) zero = refl
no_mark (suc n) (suc tile) = no_mark n tile

-- nothing is seen before the first place
pub IsSeen-none : (grid : ShapeModel) (numbers : List ℕ) → IsSeen grid numbers 0 (replicate 25 false)
IsSeen-none grid numbers = record {
  in_range = λ k d h. absurd (omega arith);
  different = λ i j d below within. absurd (omega arith);
  marked = λ tile h. ((λ e. let none = no_mark 25 tile in cc), (λ has. absurd (omega (arith, has.1))));
  marks = refl;
}

contains_one : (x y : ℕ) → Contains (x ∷ []) y → x ≡ y
contains_one x y (zero, inside, is) = is
contains_one x y (suc k, inside, is) = absurd (omega arith)

-- one more tile that was not seen before
pub IsSeen-more : (grid : ShapeModel) (numbers : List ℕ) (place : ℕ) (seen : List Bool) (tile : ℕ) → IsSeen grid numbers place seen → place < length numbers → tile ≡ get_or numbers place 0 → tile < cell_count grid → cell_count grid ≤ 25 → get_or seen tile false ≡ false → IsSeen grid numbers (place + 1) (set seen tile true)
IsSeen-more grid numbers place seen tile before within at below few new =
    let more : take (place + 1) numbers ≡ take place numbers ++ tile ∷ [] = take_more numbers place 0 within ∙ ap (λ (x : ℕ). take place numbers ++ x ∷ []) (sym at) in
    let tile_in : tile < length seen = omega (arith, before.marks) in
    let fresh : ¬ Contains (take place numbers) tile = λ has. let e = (before.marked tile (omega arith)).1 has in cc in
    record {
      in_range = All-more (λ number. number < cell_count grid) numbers place 0 within before.in_range (subst (λ (x : ℕ). x < cell_count grid) at below);
      different = subst (λ (ts : List ℕ). AllPairs (λ x y. x ≢ y) ts) (sym more) (all_pairs_push (λ x y. x ≢ y) (take place numbers) tile before.different (λ k d k_in same. fresh (k, k_in, get_or_default (take place numbers) k tile d k_in ∙ same)));
      marked = λ other low. subst (λ (ts : List ℕ). (get_or (set seen tile true) other false ≡ true) ↔ Contains ts other) (sym more)
          (⊎_elim
          (λ (same : other ≡ tile). (
            (λ e. Contains-append_right (take place numbers) (tile ∷ []) other (0, omega arith, sym same)),
            (λ has. ap (λ (x : ℕ). get_or (set seen tile true) x false) same ∙ get_or-set_same seen tile true false tile_in),
          ))
          (λ (ne : other ≢ tile).
          let kept : get_or (set seen tile true) other false ≡ get_or seen other false = get_or-set_other seen tile other true false ne in (
            (λ e. Contains-append_left (take place numbers) (tile ∷ []) other ((before.marked other low).0 (sym kept ∙ e))),
            (λ has. kept ∙ (before.marked other low).1 (⊎_elim (λ (had : Contains (take place numbers) other). had) (λ (one : Contains (tile ∷ []) other). absurd (ne (sym (contains_one tile other one)))) (Contains-append_cases (take place numbers) (tile ∷ []) other has))),
          ))
          (cases_eq other tile));
      marks = length-set seen tile true ∙ before.marks;
    }

-- numbers without a fault are the tiles of a board
pub all_seen : (grid : ShapeModel) (numbers : List ℕ) (place : ℕ) (seen : List Bool) → IsShape grid → length numbers ≡ cell_count grid → length numbers ≤ place → IsSeen grid numbers place seen → IsBoard (record { grid = grid; tiles = numbers })
all_seen grid numbers place seen sides one_each end before =
    let all : take place numbers ≡ numbers = take_all place numbers end in
    record {
      sides = sides;
      one_each = one_each;
      in_range = subst (λ (ts : List ℕ). All (λ number. number < cell_count grid) ts) all before.in_range;
      different = subst (λ (ts : List ℕ). AllPairs (λ x y. x ≢ y) ts) all before.different;
    }

-- no place of a list of different numbers has the number of an earlier place
not_repeated : (numbers : List ℕ) (place : ℕ) → place < length numbers → AllPairs (λ x y. x ≢ y) numbers → Contains (take place numbers) (get_or numbers place 0) → ⊥
not_repeated numbers place within different (k, inside, is) =
    let before : k < place = omega (arith, inside, length-take place numbers) in
    let at : get_or numbers k 0 ≡ get_or numbers place 0 = get_or_default numbers k 0 (get_or numbers place 0) (omega arith) ∙ sym (get_or-take place numbers k (get_or numbers place 0) before) ∙ is in
    let same : k ≡ place = same_place numbers different k place (omega arith) within at in
    omega arith

-- the tiles of a board have no fault
pub no_fault : (grid : ShapeModel) (numbers : List ℕ) → IsBoard (record { grid = grid; tiles = numbers }) → (fault : TilesFault) → IsFirstTilesFault grid numbers fault → ⊥
no_fault grid numbers board WrongCount first = first board.one_each
no_fault grid numbers board (TileOutOfRange place) first = omega (arith, first.1, board.in_range place 0 first.0.within)
no_fault grid numbers board (TileRepeated place) first = not_repeated numbers place first.0.within board.different first.2

-- before a first place no number is out of range, and none repeated
clean_range : (grid : ShapeModel) (numbers : List ℕ) (p q : ℕ) → IsFirstTilesPlace grid numbers q → p < q → get_or numbers p 0 < cell_count grid
clean_range grid numbers p q first before =
    let inside : p < length (take q numbers) = omega (arith, first.within, length-take q numbers) in
    subst (λ (x : ℕ). x < cell_count grid) (get_or-take q numbers p 0 before) (first.in_range p 0 inside)

clean_repeats : (grid : ShapeModel) (numbers : List ℕ) (p q : ℕ) → IsFirstTilesPlace grid numbers q → p < q → Contains (take p numbers) (get_or numbers p 0) → ⊥
clean_repeats grid numbers p q first before (k, inside, is) =
    let early : k < p = omega (arith, inside, length-take p numbers) in
    let there : p < length (take q numbers) = omega (arith, first.within, length-take q numbers) in
    let at : get_or (take q numbers) k 0 ≡ get_or (take q numbers) p 0 =
    get_or-take q numbers k 0 (omega arith) ∙ get_or_default numbers k 0 (get_or numbers p 0) (omega (arith, first.within)) ∙ sym (get_or-take p numbers k (get_or numbers p 0) early) ∙ is
    ∙ sym (get_or-take q numbers p 0 before) in
    first.different k p 0 early there at

-- the place at which a fault is, and that it is one
IsFaulty : ShapeModel → List ℕ → ℕ → Type 0
IsFaulty grid numbers place = (cell_count grid ≤ get_or numbers place 0) ⊎ Contains (take place numbers) (get_or numbers place 0)

faulty_is_not_before : (grid : ShapeModel) (numbers : List ℕ) (p q : ℕ) → IsFirstTilesPlace grid numbers q → IsFaulty grid numbers p → p < q → ⊥
unfolding IsFaulty
faulty_is_not_before grid numbers p q first (inl range) before = omega (arith, clean_range grid numbers p q first before)
faulty_is_not_before grid numbers p q first (inr repeated) before = clean_repeats grid numbers p q first before repeated

one_place : (grid : ShapeModel) (numbers : List ℕ) (p q : ℕ) → IsFirstTilesPlace grid numbers p → IsFaulty grid numbers p → IsFirstTilesPlace grid numbers q → IsFaulty grid numbers q → q ≡ p
one_place grid numbers p q first fault second fault' =
    let not_before = faulty_is_not_before grid numbers p q second fault in
    let not_after = faulty_is_not_before grid numbers q p first fault' in
    ⊎_elim (λ (e : q ≡ p). e) (λ (h : (q < p) ⊎ (p < q)). ⊎_elim (λ (l : q < p). absurd (not_after l)) (λ (l : p < q). absurd (not_before l)) h) (cases_order q p)

-- there is one first fault
pub one_fault : (grid : ShapeModel) (numbers : List ℕ) (fault fault' : TilesFault) → IsFirstTilesFault grid numbers fault → IsFirstTilesFault grid numbers fault' → fault' ≡ fault
unfolding IsFaulty
one_fault grid numbers WrongCount WrongCount first second = refl
one_fault grid numbers WrongCount (TileOutOfRange q) first second = absurd (first second.0.one_each)
one_fault grid numbers WrongCount (TileRepeated q) first second = absurd (first second.0.one_each)
one_fault grid numbers (TileOutOfRange p) WrongCount first second = absurd (second first.0.one_each)
one_fault grid numbers (TileOutOfRange p) (TileOutOfRange q) first second = ap TileOutOfRange (one_place grid numbers p q first.0 (inl first.1) second.0 (inl second.1))
one_fault grid numbers (TileOutOfRange p) (TileRepeated q) first second =
    let same = one_place grid numbers p q first.0 (inl first.1) second.0 (inr second.2) in
    let low : get_or numbers p 0 < cell_count grid = subst (λ (k : ℕ). get_or numbers k 0 < cell_count grid) same second.1 in
    absurd (omega (arith, first.1, low))
one_fault grid numbers (TileRepeated p) WrongCount first second = absurd (second first.0.one_each)
one_fault grid numbers (TileRepeated p) (TileOutOfRange q) first second =
    let same = one_place grid numbers p q first.0 (inr first.2) second.0 (inl second.1) in
    let high : cell_count grid ≤ get_or numbers p 0 = subst (λ (k : ℕ). cell_count grid ≤ get_or numbers k 0) same second.1 in
    absurd (omega (arith, first.1, high))
one_fault grid numbers (TileRepeated p) (TileRepeated q) first second = ap TileRepeated (one_place grid numbers p q first.0 (inr first.2) second.0 (inr second.2))
