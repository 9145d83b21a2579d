-- Sets of cells and their places.
use Rattle.std.proofs.Common.{◌≡◌, ◌≢◌, ℕ, zero, suc, ◌+◌, ◌-◌, ◌*◌, ◌^◌, ◌<◌, ◌≤◌, cond, ltb, eqb, List, [], ◌∷◌, ◌++◌, length, take, drop, sum_by, get_or, replicate, refl, sym, ap, ◌∙◌, subst, append_assoc, ⊎_elim, arith}
use Rattle.std.specs.Prelude.{slice_index, Contains, count_by, ◌==◌}
use Rattle.std.proofs.Math.ListN.{set, length-set}
use Rattle.std.proofs.Math.Seq.{drop-length, get_or-append_seam}
use Rattle.std.proofs.Math.Nat.{pow-le-pow_right}
use Rattle.std.proofs.lemmas.Bool.{cases_eq, cases_lt, lt-ltb, le-ltb}
use Rattle.std.proofs.lemmas.Bool.Decides.{nat_tests}
use Rattle.std.proofs.lemmas.List.{get_or-set_same, get_or-set_other, get_or-replicate, get_or_append_left, drop-set, append-nil, take_all, length_push}
use Rattle.std.proofs.lemmas.List.Elements.{All-from_recursion}
use Rattle.std.proofs.lemmas.List.Sums.{sum-map, sum_by_more, sum_by_push, sum_by-cons}
use Rattle.std.proofs.lemmas.Nat.{pow_pos}
use Rattle.std.proofs.lemmas.Grind.{pow_more}
use Rattle.pattern_index.specs.Laws.{factorial}
use Rattle.pattern_index.specs.Ranks.{IsListing, ways}
use Rattle.pattern_index.proofs.RankLemmas.{one_less, ways-suc, Differ, Below, Other, listing_from, below_in, differ_in}
use Rattle.pattern_graph.specs.Orders.{below}
use Rattle.pattern_graph.specs.Sets.{choose, set_place, set_at, AreSame}
use Rattle.pattern_graph.proofs.OrderLemmas.{below-cons, below-push, below-zero, below-all}

-- ---- the number of ways to choose cells

pub choose-zero : (n : ℕ) → choose n 0 ≡ 1
unfolding choose
choose-zero zero = refl
choose-zero (suc n) = refl

pub choose-suc : (n count : ℕ) → choose (suc n) (suc count) ≡ choose n count + choose n (suc count)
unfolding choose
choose-suc n count = refl

-- no more ways than there are sets of any size
pub choose_power : (n count : ℕ) → choose n count ≤ 2 ^ n
unfolding choose
choose_power zero zero = omega arith
choose_power zero (suc count) = omega arith
choose_power (suc n) zero = let h = pow_pos (suc n) in omega arith
choose_power (suc n) (suc count) =
    let a = choose_power n count in
    let b = choose_power n (suc count) in
    let twice : 2 ^ suc n ≡ 2 ^ n + 2 ^ n = pow_twice n in
    omega arith
  where
    pow_twice : (m : ℕ) → 2 ^ suc m ≡ 2 ^ m + 2 ^ m
    pow_twice m = let e = pow_more 2 m in let s : m + 1 ≡ suc m = omega arith in ap (λ k. 2 ^ k) (sym s) ∙ omega arith

pub choose_small : (n count : ℕ) → n ≤ 25 → count ≤ 10 → choose n count < 2 ^ 32
choose_small n count few _ =
    let a = choose_power n count in
    let b : 2 ^ n ≤ 2 ^ 25 = pow-le-pow_right (omega arith) few in
    omega arith

-- ---- Pascal's triangle

-- the counts that a table has: all rows before one, and this row before a column
pub record IsFilled (table : List (List ℕ)) (cells count : ℕ) : Type 0 where
  pub rows : length table ≡ 26
  pub row : (k : ℕ) → k < 26 → length (get_or table k []) ≡ 11
  pub above : (k j : ℕ) → k < cells → j < 11 → get_or (get_or table k []) j 0 ≡ choose k j
  pub here : (j : ℕ) → j < count → get_or (get_or table cells []) j 0 ≡ choose cells j

first_table : List (List ℕ)
first_table = (1 ∷ replicate 10 0) ∷ replicate 25 (replicate 11 0)

first_row : (k : ℕ) → k < 26 → length (get_or first_table k []) ≡ 11
unfolding first_table
first_row zero _ = refl
first_row (suc k) low = ap length (get_or-replicate 25 k (replicate 11 0) [] (omega (arith, low)))

first_counts : (k j : ℕ) → k < 1 → j < 11 → get_or (get_or first_table k []) j 0 ≡ choose k j
unfolding first_table choose
first_counts zero zero _ _ = refl
first_counts zero (suc j) _ low = get_or-replicate 10 j 0 0 (omega (arith, low))
first_counts (suc k) j none _ = absurd (omega (arith, none))

-- the table with the row of no cells
pub filled_first : IsFilled ((1 ∷ replicate 10 0) ∷ replicate 25 (replicate 11 0)) 1 0
unfolding first_table
filled_first = record { rows = refl; row = first_row; above = first_counts; here = λ j none. absurd (omega (arith, none)) }

-- a count more in a row
pub filled_more : (table : List (List ℕ)) (cells count next value : ℕ) → cells < 26 → count < 11 → next ≡ count + 1 → IsFilled table cells count → value ≡ choose cells count → IsFilled (set table cells (set (get_or table cells []) count value)) cells next
filled_more table cells count next value low few more filled is = record {
  rows = length-set table cells (set (get_or table cells []) count value) ∙ filled.rows;
  row = λ k k_in.
      ⊎_elim
      (λ (e : k ≡ cells). ap (λ m. length (get_or (set table cells (set (get_or table cells []) count value)) m [])) e ∙ ap length (written []) ∙ length-set (get_or table cells []) count value ∙ filled.row cells low)
      (λ (ne : k ≢ cells). ap length (kept k ne) ∙ filled.row k k_in)
      (cases_eq k cells);
  above = λ k j k_in j_in. let ne : k ≢ cells = omega arith in ap (λ row. get_or row j 0) (kept k ne) ∙ filled.above k j k_in j_in;
  here = λ j j_in.
      ap (λ row. get_or row j 0) (written [])
      ∙ ⊎_elim
      (λ (e : j ≡ count). ap (λ m. get_or (set (get_or table cells []) count value) m 0) e ∙ get_or-set_same (get_or table cells []) count value 0 (let size = filled.row cells low in omega arith) ∙ is ∙ ap (choose cells) (sym e))
      (λ (ne : j ≢ count). get_or-set_other (get_or table cells []) count j value 0 ne ∙ filled.here j (omega arith))
      (cases_eq j count);
}
  where
    written : (d : List ℕ) → get_or (set table cells (set (get_or table cells []) count value)) cells d ≡ set (get_or table cells []) count value
    written d = get_or-set_same table cells (set (get_or table cells []) count value) d (let size = filled.rows in omega arith)

    kept : (k : ℕ) → k ≢ cells → get_or (set table cells (set (get_or table cells []) count value)) k [] ≡ get_or table k []
    kept k ne = get_or-set_other table cells k (set (get_or table cells []) count value) [] ne

pascal : (cells count : ℕ) → 1 ≤ cells → 1 ≤ count → choose (cells - 1) (count - 1) + choose (cells - 1) count ≡ choose cells count
pascal zero count some more = absurd (omega arith)
pascal (suc n) zero some more = absurd (omega arith)
pascal (suc n) (suc c) some more = (λ i. choose (one_less n i) (one_less c i) + choose (one_less n i) (suc c)) ∙ sym (choose-suc n c)

-- what the row before gives
pub filled_sum : (table : List (List ℕ)) (cells count : ℕ) → IsFilled table cells count → 1 ≤ cells → 1 ≤ count → count < 11 → get_or (get_or table (cells - 1) []) (count - 1) 0 + get_or (get_or table (cells - 1) []) count 0 ≡ choose cells count
filled_sum table cells count filled some more few =
    let a = filled.above (cells - 1) (count - 1) (omega arith) (omega arith) in
    let b = filled.above (cells - 1) count (omega arith) few in
    (λ i. a i + b i) ∙ pascal cells count some more

pub filled_next : (table : List (List ℕ)) (cells next : ℕ) → next ≡ cells + 1 → IsFilled table cells 11 → IsFilled table next 0
filled_next table cells next e filled = record {
  rows = filled.rows;
  row = filled.row;
  above = λ k j k_in j_in. ⊎_elim (λ (same : k ≡ cells). ap (λ m. get_or (get_or table m []) j 0) same ∙ filled.here j j_in ∙ ap (λ m. choose m j) (sym same)) (λ (ne : k ≢ cells). filled.above k j (omega arith) j_in) (cases_eq k cells);
  here = λ j none. absurd (omega (arith, none));
}

-- ---- the set at a place

pub set_at-zero : (n place : ℕ) → set_at n 0 place ≡ []
unfolding set_at
set_at-zero zero place = refl
set_at-zero (suc n) place = refl

-- a low place is of a set without the last cell
pub set_at-out : (n count place : ℕ) → place < choose n (suc count) → set_at (suc n) (suc count) place ≡ set_at n (suc count) place
unfolding set_at
set_at-out n count place low = ap (λ b. cond b (set_at n (suc count) place) (set_at n count (place - choose n (suc count)) ++ n ∷ [])) (lt-ltb place (choose n (suc count)) low)

-- and any other of one with it
pub set_at-in : (n count place : ℕ) → choose n (suc count) ≤ place → set_at (suc n) (suc count) place ≡ set_at n count (place - choose n (suc count)) ++ n ∷ []
unfolding set_at
set_at-in n count place high = ap (λ b. cond b (set_at n (suc count) place) (set_at n count (place - choose n (suc count)) ++ n ∷ [])) (le-ltb place (choose n (suc count)) high)

choose-none : (count : ℕ) → 0 < count → choose 0 count ≡ 0
unfolding choose
choose-none zero some = absurd (omega arith)
choose-none (suc count) some = refl

-- The set's cells from `left` on are written. Those before are of the set of that count of the cells below `cell` at the place that
-- is left.
pub record IsWritten (all : List ℕ) (cells total cell left rest : ℕ) (written : List ℕ) : Type 0 where
  pub size : length written ≡ total
  pub fits : left ≤ total
  pub in_range : cell ≤ cells
  pub low : rest < choose cell left
  pub whole : all ≡ set_at cell left rest ++ drop left written

pub written_none : (cells place : ℕ) (written : List ℕ) → place < choose cells (length written) → IsWritten (set_at cells (length written) place) cells (length written) cells (length written) place written
written_none cells place written low = record {
  size = refl;
  fits = omega arith;
  in_range = omega arith;
  low = low;
  whole = sym (ap (λ rest. set_at cells (length written) place ++ rest) (drop-length written) ∙ append-nil (set_at cells (length written) place));
}

pub written_some : (all written : List ℕ) (cells total cell left rest : ℕ) → 0 < left → IsWritten all cells total cell left rest written → 0 < cell
written_some all written cells total zero left rest some w = let none = choose-none left some in let low = w.low in absurd (omega arith)
written_some all written cells total (suc m) left rest some w = omega arith

pub written_out : (all written : List ℕ) (cells total cell left rest m l fewer : ℕ) → cell ≡ suc m → left ≡ suc l → fewer ≡ choose m left → rest < fewer → IsWritten all cells total cell left rest written → IsWritten all cells total m left rest written
written_out all written cells total cell left rest m l fewer ec el is less w = record {
  size = w.size;
  fits = w.fits;
  in_range = (let within = w.in_range in omega arith);
  low = omega arith;
  whole = w.whole
      ∙ (λ i. set_at (ec i) (el i) rest ++ drop left written)
      ∙ ap (λ xs. xs ++ drop left written) (set_at-out m l rest (let e = ap (choose m) el in omega arith) ∙ ap (λ k. set_at m k rest) (sym el));
}

pub written_in : (all written : List ℕ) (cells total cell left rest m l fewer : ℕ) → cell ≡ suc m → left ≡ suc l → fewer ≡ choose m left → fewer ≤ rest → IsWritten all cells total cell left rest written → IsWritten all cells total m l (rest - fewer) (set written l m)
written_in all written cells total cell left rest m l fewer ec el is high w =
    let there : fewer ≡ choose m (suc l) = is ∙ ap (choose m) el in
    let low : rest < choose (suc m) (suc l) = (let h = w.low in let e : choose cell left ≡ choose (suc m) (suc l) = (λ i. choose (ec i) (el i)) in omega arith) in
    let sum = choose-suc m l in
    let one : suc l ≡ l + 1 = omega arith in
    record {
      size = length-set written l m ∙ w.size;
      fits = (let h = w.fits in omega arith);
      in_range = (let h = w.in_range in omega arith);
      low = omega arith;
      whole = w.whole
          ∙ (λ i. set_at (ec i) (el i) rest ++ drop (el i) written)
          ∙ ap (λ xs. xs ++ drop (suc l) written) (set_at-in m l rest (omega arith))
          ∙ append_assoc (set_at m l (rest - choose m (suc l))) (m ∷ []) (drop (suc l) written)
          ∙ (λ i. set_at m l (rest - sym there i) ++ (m ∷ drop (one i) written))
          ∙ ap (λ xs. set_at m l (rest - fewer) ++ xs) (sym (drop-set written l m (let h = w.fits in let s = w.size in omega arith)));
    }

pub written_all : (all written : List ℕ) (cells total cell left rest : ℕ) → left ≡ 0 → IsWritten all cells total cell left rest written → written ≡ all
written_all all written cells total cell left rest none w = sym (w.whole ∙ (λ i. set_at cell (none i) rest ++ drop (none i) written) ∙ ap (λ xs. xs ++ written) (set_at-zero cell rest))

-- ---- the place of a set

-- what a cell counts
abbrev pub weight : List ℕ → ℕ → ℕ
weight cells cell = choose cell (suc (below cell cells))

pub set_place-is : (cells : List ℕ) → set_place cells ≡ sum_by (weight cells) cells
unfolding set_place
set_place-is cells = sum-map (weight cells) cells

-- the sum of what the cells before one count
pub record IsPlacedTo (cells : List ℕ) (index place : ℕ) : Type 0 where
  pub sum_is : place ≡ sum_by (weight cells) (take index cells)
  pub low : place ≤ index * 2 ^ 32

pub placed_more : (cells : List ℕ) (index next place lower count : ℕ) → index < length cells → next ≡ index + 1 → lower ≡ below (get_or cells index 0) cells → count ≡ choose (get_or cells index 0) (lower + 1) → count < 2 ^ 32 → IsPlacedTo cells index place → IsPlacedTo cells next (place + count)
placed_more cells index next place lower count within more lower_is is low placed =
    let one : lower + 1 ≡ suc (below (get_or cells index 0) cells) = omega arith in
    let sum = sum_by_more (weight cells) cells index 0 within in
    record {
      sum_is = (λ i. placed.sum_is i + (is ∙ ap (choose (get_or cells index 0)) one) i) ∙ sym sum ∙ ap (λ k. sum_by (weight cells) (take k cells)) (sym more);
      low = (let h = placed.low in omega arith);
    }

pub placed_all : (cells : List ℕ) (index place : ℕ) → length cells ≤ index → IsPlacedTo cells index place → place ≡ set_place cells
placed_all cells index place all placed = placed.sum_is ∙ ap (sum_by (weight cells)) (take_all index cells all) ∙ sym (set_place-is cells)

-- ---- the set at a place has it

-- a last cell, above all others
last_counts : (n : ℕ) (xs : List ℕ) → Below n xs → below n (xs ++ n ∷ []) ≡ length xs
last_counts n xs within =
    let push = below-push n n xs in
    let all = below-all n xs within in
    let none : cond {A = ℕ} (ltb n n) 1 0 ≡ 0 = grind (arith, nat_tests) in
    omega arith

-- counts for no other
last_is_above : (n x : ℕ) (xs : List ℕ) → x < n → below x (xs ++ n ∷ []) ≡ below x xs
last_is_above n x xs less =
    let push = below-push x n xs in
    let none : cond {A = ℕ} (ltb n x) 1 0 ≡ 0 = grind (arith, nat_tests) in
    omega arith

last_weighs : (n : ℕ) (cells xs : List ℕ) → Below n xs → sum_by (weight (cells ++ n ∷ [])) xs ≡ sum_by (weight cells) xs
last_weighs n cells [] within = refl
last_weighs n cells (x ∷ xs) within =
    sum_by-cons (weight (cells ++ n ∷ [])) x xs
    ∙ (λ i. choose x (suc (last_is_above n x cells within.0 i)) + last_weighs n cells xs within.1 i)
    ∙ sym (sum_by-cons (weight cells) x xs)

pub set_place-push : (n : ℕ) (xs : List ℕ) → Below n xs → set_place (xs ++ n ∷ []) ≡ set_place xs + choose n (suc (length xs))
set_place-push n xs within =
    set_place-is (xs ++ n ∷ [])
    ∙ sum_by_push (weight (xs ++ n ∷ [])) xs n
    ∙ (λ i. last_weighs n xs xs within i + choose n (suc (last_counts n xs within i)))
    ∙ ap (λ k. k + choose n (suc (length xs))) (sym (set_place-is xs))

raised : (n : ℕ) (xs : List ℕ) → Below n xs → Below (suc n) xs
raised n [] within = tt
raised n (x ∷ xs) within = ((let low : x < n = within.0 in omega arith), raised n xs within.1)

push_within : (n : ℕ) (xs : List ℕ) → Below n xs → Below (suc n) (xs ++ n ∷ [])
push_within n [] within = (omega arith, tt)
push_within n (x ∷ xs) within = ((let low : x < n = within.0 in omega arith), push_within n xs within.1)

push_other : (x n : ℕ) (xs : List ℕ) → x ≢ n → Other x xs → Other x (xs ++ n ∷ [])
push_other x n [] ne other = (ne, tt)
push_other x n (y ∷ ys) ne other = (other.0, push_other x n ys ne other.1)

push_differs : (n : ℕ) (xs : List ℕ) → Below n xs → Differ xs → Differ (xs ++ n ∷ [])
push_differs n [] within differ = (tt, tt)
push_differs n (x ∷ xs) within differ = (push_other x n xs (let low : x < n = within.0 in omega arith) differ.0, push_differs n xs within.1 differ.1)

-- the list is a set of `count` of `cells` cells, in rising order, and has a place
pub record HasPlace (n count place : ℕ) (xs : List ℕ) : Type 0 where
  pub within : Below n xs
  pub differ : Differ xs
  pub size : length xs ≡ count
  pub place_is : set_place xs ≡ place
  pub rises : (i : ℕ) → i < count → below (get_or xs i 0) xs ≡ i

has_none : (n place : ℕ) → place < choose n 0 → HasPlace n 0 place []
has_none n place low = record {
  within = tt;
  differ = tt;
  size = refl;
  place_is = set_place-is [] ∙ (let one = choose-zero n in omega arith);
  rises = λ i none. absurd (omega (arith, none));
}

has_out : (n count place : ℕ) (xs : List ℕ) → HasPlace n count place xs → HasPlace (suc n) count place xs
has_out n count place xs has = record { within = raised n xs has.within; differ = has.differ; size = has.size; place_is = has.place_is; rises = has.rises }

has_in : (n count place more : ℕ) (xs : List ℕ) → more ≡ place + choose n (suc count) → HasPlace n count place xs → HasPlace (suc n) (suc count) more (xs ++ n ∷ [])
has_in n count place more xs sum has = record {
  within = push_within n xs has.within;
  differ = push_differs n xs has.within has.differ;
  size = length_push xs n ∙ (let size = has.size in omega arith);
  place_is = set_place-push n xs has.within ∙ (λ i. has.place_is i + choose n (suc (has.size i))) ∙ sym sum;
  rises = λ i i_in.
      ⊎_elim
      (λ (less : i < count).
      let here : i < length xs = (let size = has.size in omega arith) in
      ap (λ x. below x (xs ++ n ∷ [])) (get_or_append_left xs (n ∷ []) 0 i here)
      ∙ last_is_above n (get_or xs i 0) xs (All-from_recursion (λ x. x < n) xs has.within i 0 here)
      ∙ has.rises i less)
      (λ (high : count ≤ i).
      let end : length xs ≡ i = (let size = has.size in omega arith) in
      ap (λ x. below x (xs ++ n ∷ [])) (ap (λ k. get_or (xs ++ n ∷ []) k 0) (sym end) ∙ get_or-append_seam xs n [] 0)
      ∙ last_counts n xs has.within
      ∙ end)
      (cases_lt i count);
}

pub set_has : (n count place : ℕ) → place < choose n count → HasPlace n count place (set_at n count place)
set_has n zero place low = subst (HasPlace n 0 place) (sym (set_at-zero n place)) (has_none n place low)
set_has zero (suc count) place low = absurd (let none = choose-none (suc count) (omega arith) in omega arith)
set_has (suc n) (suc count) place low =
    ⊎_elim
    (λ (less : place < choose n (suc count)).
    subst (HasPlace (suc n) (suc count) place) (sym (set_at-out n count place less)) (has_out n (suc count) place (set_at n (suc count) place) (set_has n (suc count) place less)))
    (λ (high : choose n (suc count) ≤ place).
    let sum = choose-suc n count in
    subst (HasPlace (suc n) (suc count) place) (sym (set_at-in n count place high))
    (has_in n count (place - choose n (suc count)) place (set_at n count (place - choose n (suc count))) (omega arith) (set_has n count (place - choose n (suc count)) (omega arith))))
    (cases_lt place (choose n (suc count)))

pub set_is : (n count place : ℕ) → place < choose n count → IsListing n (set_at n count place) × (length (set_at n count place) ≡ count) × (set_place (set_at n count place) ≡ place)
set_is n count place low =
    let has = set_has n count place low in
    (listing_from n (set_at n count place) has.within has.differ, has.size, has.place_is)

-- the cells rise
pub set_below : (n count place i : ℕ) → place < choose n count → i < count → below (slice_index (set_at n count place) i) (set_at n count place) ≡ i
set_below n count place i low i_in = (set_has n count place low).rises i i_in

-- ---- the place is a sum over the cells

-- how often a cell is in a list
abbrev pub held : ℕ → List ℕ → ℕ
held m xs = count_by (λ y. y == m) xs

held-cons : (m x : ℕ) (xs : List ℕ) → held m (x ∷ xs) ≡ cond {A = ℕ} (eqb x m) 1 0 + held m xs
held-cons m x xs = sum_by-cons (λ y. cond (eqb y m) 1 0) x xs

held_hit : (m x : ℕ) (xs : List ℕ) → x ≡ m → held m (x ∷ xs) ≡ 1 + held m xs
held_hit m x xs is = let c = held-cons m x xs in let one : cond {A = ℕ} (eqb x m) 1 0 ≡ 1 = grind (arith, nat_tests) in omega arith

held_miss : (m x : ℕ) (xs : List ℕ) → x ≢ m → held m (x ∷ xs) ≡ held m xs
held_miss m x xs ne = let c = held-cons m x xs in let none : cond {A = ℕ} (eqb x m) 1 0 ≡ 0 = grind (arith, nat_tests) in omega arith

held_other : (m : ℕ) (xs : List ℕ) → Other m xs → held m xs ≡ 0
held_other m [] other = refl
held_other m (x ∷ xs) other = held_miss m x xs (let ne : m ≢ x = other.0 in λ is. ne (sym is)) ∙ held_other m xs other.1

held_once : (m : ℕ) (xs : List ℕ) → Differ xs → held m xs ≤ 1
held_once m [] differ = omega arith
held_once m (x ∷ xs) differ =
    ⊎_elim
    (λ (is : x ≡ m). let one = held_hit m x xs is in let none = held_other m xs (subst (λ k. Other k xs) is differ.0) in omega arith)
    (λ (ne : x ≢ m). let same = held_miss m x xs ne in let rest = held_once m xs differ.1 in omega arith)
    (cases_eq x m)

held_past : (n m : ℕ) (xs : List ℕ) → n ≤ m → Below n xs → held m xs ≡ 0
held_past n m [] past within = refl
held_past n m (x ∷ xs) past within = held_miss m x xs (let low : x < n = within.0 in omega arith) ∙ held_past n m xs past within.1

held_in : (m : ℕ) (xs : List ℕ) → Contains xs m → 1 ≤ held m xs
held_in m [] there = let none = there.1 in absurd (omega arith)
held_in m (x ∷ xs) (zero, within, is) = let one = held_hit m x xs is in omega arith
held_in m (x ∷ xs) (suc k, within, is) =
    let rest = held_in m xs (k, omega arith, is) in
    let c = held-cons m x xs in
    omega arith

in_held : (m : ℕ) (xs : List ℕ) → 1 ≤ held m xs → Contains xs m
in_held m [] some = absurd (omega arith)
in_held m (x ∷ xs) some =
    ⊎_elim
    (λ (is : x ≡ m). (0, omega arith, is))
    (λ (ne : x ≢ m). let same = held_miss m x xs ne in let rest = in_held m xs (omega arith) in (suc rest.0, (let low = rest.1 in omega arith), rest.2))
    (cases_eq x m)

-- two lists with the same cells, each once, hold each cell as often
pub held_same : (xs ys : List ℕ) → Differ xs → Differ ys → AreSame xs ys → (m : ℕ) → held m xs ≡ held m ys
held_same xs ys dx dy same m =
    agree (held m xs) (held m ys) (held_once m xs dx) (held_once m ys dy)
    (λ some. held_in m ys ((same m).0 (in_held m xs some)))
    (λ some. held_in m xs ((same m).1 (in_held m ys some)))
  where
    agree : (a b : ℕ) → a ≤ 1 → b ≤ 1 → (1 ≤ a → 1 ≤ b) → (1 ≤ b → 1 ≤ a) → a ≡ b
    agree zero zero la lb there back = refl
    agree zero (suc b) la lb there back = let some = back (omega arith) in absurd (omega arith)
    agree (suc a) zero la lb there back = let some = there (omega arith) in absurd (omega arith)
    agree (suc a) (suc b) la lb there back = omega arith

pub same_held : (xs ys : List ℕ) → ((m : ℕ) → held m xs ≡ held m ys) → AreSame xs ys
same_held xs ys same m = ((λ there. in_held m ys (let some = held_in m xs there in let e = same m in omega arith)), (λ there. in_held m xs (let some = held_in m ys there in let e = same m in omega arith)))

below-suc : (m : ℕ) (xs : List ℕ) → below (suc m) xs ≡ held m xs + below m xs
below-suc m [] = refl
below-suc m (x ∷ xs) =
    let rest = below-suc m xs in
    let a = below-cons (suc m) x xs in
    let b = below-cons m x xs in
    let c = held-cons m x xs in
    let one = step x m in
    omega arith
  where
    step : (y z : ℕ) → cond {A = ℕ} (ltb y (suc z)) 1 0 ≡ cond {A = ℕ} (eqb y z) 1 0 + cond {A = ℕ} (ltb y z) 1 0
    step y z = grind (arith, nat_tests)

-- what those of a list that are below a cell count, among the cells of another list
abbrev pub part : ℕ → List ℕ → List ℕ → ℕ
part m cells xs = sum_by (λ x. cond {A = ℕ} (ltb x m) (weight cells x) 0) xs

part-cons : (m : ℕ) (cells : List ℕ) (x : ℕ) (xs : List ℕ) → part m cells (x ∷ xs) ≡ cond {A = ℕ} (ltb x m) (weight cells x) 0 + part m cells xs
part-cons m cells x xs = sum_by-cons (λ y. cond {A = ℕ} (ltb y m) (weight cells y) 0) x xs

part-zero : (cells xs : List ℕ) → part 0 cells xs ≡ 0
part-zero cells [] = refl
part-zero cells (x ∷ xs) =
    let rest = part-zero cells xs in
    let c = part-cons 0 cells x xs in
    let none = above x (weight cells x) in
    omega arith
  where
    above : (y w : ℕ) → cond {A = ℕ} (ltb y 0) w 0 ≡ 0
    above y w = grind (arith, nat_tests)

part-suc : (m : ℕ) (cells xs : List ℕ) → part (suc m) cells xs ≡ held m xs * weight cells m + part m cells xs
part-suc m cells [] = omega arith
part-suc m cells (x ∷ xs) =
    let rest = part-suc m cells xs in
    let a = part-cons (suc m) cells x xs in
    let b = part-cons m cells x xs in
    ⊎_elim
    (λ (is : x ≡ m).
    let now : cond {A = ℕ} (ltb x (suc m)) (weight cells x) 0 ≡ weight cells m = ap (λ t. cond {A = ℕ} t (weight cells x) 0) (lt-ltb x (suc m) (omega arith)) ∙ ap (weight cells) is in
    let before : cond {A = ℕ} (ltb x m) (weight cells x) 0 ≡ 0 = ap (λ t. cond {A = ℕ} t (weight cells x) 0) (le-ltb x m (omega arith)) in
    let one : held m (x ∷ xs) * weight cells m ≡ (1 + held m xs) * weight cells m = ap (λ k. k * weight cells m) (held_hit m x xs is) in
    omega arith)
    (λ (ne : x ≢ m).
    let same = skip x m (weight cells x) ne in
    let none : held m (x ∷ xs) * weight cells m ≡ held m xs * weight cells m = ap (λ k. k * weight cells m) (held_miss m x xs ne) in
    omega arith)
    (cases_eq x m)
  where
    skip : (y z w : ℕ) → y ≢ z → cond {A = ℕ} (ltb y (suc z)) w 0 ≡ cond {A = ℕ} (ltb y z) w 0
    skip y z w ne = grind (arith, nat_tests)

part_all : (n : ℕ) (cells xs : List ℕ) → Below n xs → part n cells xs ≡ sum_by (weight cells) xs
part_all n cells [] within = refl
part_all n cells (x ∷ xs) within =
    part-cons n cells x xs
    ∙ (λ i. cond {A = ℕ} (lt-ltb x n within.0 i) (weight cells x) 0 + part_all n cells xs within.1 i)
    ∙ sym (sum_by-cons (weight cells) x xs)

part_place : (n : ℕ) (xs : List ℕ) → Below n xs → part n xs xs ≡ set_place xs
part_place n xs within = part_all n xs xs within ∙ sym (set_place-is xs)

-- ---- sums below a cell are below the ways to choose as many of those below it

-- the numbers of the cells below one and below the next, and the sums of what they count
pub record IsSumStep (m h b p b' p' : ℕ) : Type 0 where
  pub once : h ≤ 1
  pub counts : b' ≡ h + b
  pub sums : p' ≡ h * choose m (suc b) + p
  pub low : p < choose m b

choose_more : (m b : ℕ) → choose m b ≤ choose (suc m) b
choose_more m zero = let a = choose-zero m in let b = choose-zero (suc m) in omega arith
choose_more m (suc b) = let sum = choose-suc m b in omega arith

-- a cell that is not held leaves the sum below what it would count
sum_without : (m b p b' p' : ℕ) → IsSumStep m 0 b p b' p' → (b ≡ b') × (p ≡ p') × (p' < choose m b')
sum_without m b p b' p' step =
    let counts = step.counts in
    let sums = step.sums in
    let eb : b ≡ b' = omega arith in
    let ep : p ≡ p' = omega arith in
    let low = step.low in
    let e = ap (choose m) eb in
    (eb, ep, omega arith)

-- and one that is held brings it there
sum_with : (m b p b' p' : ℕ) → IsSumStep m 1 b p b' p' → (suc b ≡ b') × (p' ≡ choose m b' + p) × (p' < choose (suc m) b')
sum_with m b p b' p' step =
    let counts = step.counts in
    let sums = step.sums in
    let eb : suc b ≡ b' = omega arith in
    let e = ap (choose m) eb in
    let e' = ap (choose (suc m)) eb in
    let low = step.low in
    let sum = choose-suc m b in
    (eb, omega arith, omega arith)

step_low : (m h b p b' p' : ℕ) → IsSumStep m h b p b' p' → p' < choose (suc m) b'
step_low m zero b p b' p' step = let low = (sum_without m b p b' p' step).2 in let more = choose_more m b' in omega arith
step_low m (suc zero) b p b' p' step = (sum_with m b p b' p' step).2
step_low m (suc (suc h)) b p b' p' step = let once = step.once in absurd (omega arith)

sum_step : (xs : List ℕ) → Differ xs → (m : ℕ) → part m xs xs < choose m (below m xs) → IsSumStep m (held m xs) (below m xs) (part m xs xs) (below (suc m) xs) (part (suc m) xs xs)
sum_step xs differ m low = record { once = held_once m xs differ; counts = below-suc m xs; sums = part-suc m xs xs; low = low }

part_low : (xs : List ℕ) → Differ xs → (m : ℕ) → part m xs xs < choose m (below m xs)
part_low xs differ zero =
    let none = part-zero xs xs in
    let one : choose 0 (below 0 xs) ≡ 1 = ap (choose 0) (below-zero xs) ∙ choose-zero 0 in
    omega arith
part_low xs differ (suc m) = step_low m (held m xs) (below m xs) (part m xs xs) (below (suc m) xs) (part (suc m) xs xs) (sum_step xs differ m (part_low xs differ m))

pub place_below : (n : ℕ) (xs : List ℕ) → IsListing n xs → set_place xs < choose n (length xs)
place_below n xs listing =
    let within = below_in n xs listing in
    let low = part_low xs (differ_in n xs listing) n in
    let place = part_place n xs within in
    let ways = ap (choose n) (below-all n xs within) in
    omega arith

-- ---- the place is that of the set

same_below : (xs ys : List ℕ) → ((m : ℕ) → held m xs ≡ held m ys) → (m : ℕ) → below m xs ≡ below m ys
same_below xs ys same zero = below-zero xs ∙ sym (below-zero ys)
same_below xs ys same (suc m) = below-suc m xs ∙ (λ i. same m i + same_below xs ys same m i) ∙ sym (below-suc m ys)

same_part : (xs ys : List ℕ) → ((m : ℕ) → held m xs ≡ held m ys) → (m : ℕ) → part m xs xs ≡ part m ys ys
same_part xs ys same zero = part-zero xs xs ∙ sym (part-zero ys ys)
same_part xs ys same (suc m) = part-suc m xs xs ∙ (λ i. same m i * choose m (suc (same_below xs ys same m i)) + same_part xs ys same m i) ∙ sym (part-suc m ys ys)

pub same_place : (n : ℕ) (xs ys : List ℕ) → IsListing n xs → IsListing n ys → AreSame xs ys → set_place xs ≡ set_place ys
same_place n xs ys lx ly same =
    sym (part_place n xs (below_in n xs lx))
    ∙ same_part xs ys (held_same xs ys (differ_in n xs lx) (differ_in n ys ly) same) n
    ∙ part_place n ys (below_in n ys ly)

-- ---- the place gives the set

steps_agree : (m h b p k c q b' p' : ℕ) → IsSumStep m h b p b' p' → IsSumStep m k c q b' p' → (h ≡ k) × (b ≡ c) × (p ≡ q)
steps_agree m zero b p zero c q b' p' one other =
    let x = sum_without m b p b' p' one in
    let y = sum_without m c q b' p' other in
    (refl, x.0 ∙ sym y.0, x.1 ∙ sym y.1)
steps_agree m (suc zero) b p (suc zero) c q b' p' one other =
    let x = sum_with m b p b' p' one in
    let y = sum_with m c q b' p' other in
    let ex = x.0 in
    let ey = y.0 in
    let px = x.1 in
    let py = y.1 in
    (refl, omega arith, omega arith)
steps_agree m zero b p (suc zero) c q b' p' one other = let low = (sum_without m b p b' p' one).2 in let high = (sum_with m c q b' p' other).1 in absurd (omega arith)
steps_agree m (suc zero) b p zero c q b' p' one other = let low = (sum_without m c q b' p' other).2 in let high = (sum_with m b p b' p' one).1 in absurd (omega arith)
steps_agree m (suc (suc h)) b p k c q b' p' one other = let once = one.once in absurd (omega arith)
steps_agree m zero b p (suc (suc k)) c q b' p' one other = let once = other.once in absurd (omega arith)
steps_agree m (suc zero) b p (suc (suc k)) c q b' p' one other = let once = other.once in absurd (omega arith)

held_agree : (xs ys : List ℕ) → Differ xs → Differ ys → (n : ℕ) → below n xs ≡ below n ys → part n xs xs ≡ part n ys ys → (m : ℕ) → m < n → held m xs ≡ held m ys
held_agree xs ys dx dy zero eb ep m low = absurd (omega arith)
held_agree xs ys dx dy (suc n) eb ep m low =
    let one = sum_step xs dx n (part_low xs dx n) in
    let other = sum_step ys dy n (part_low ys dy n) in
    let moved = subst (λ p. IsSumStep n (held n ys) (below n ys) (part n ys ys) (below (suc n) xs) p) (sym ep) (subst (λ b. IsSumStep n (held n ys) (below n ys) (part n ys ys) b (part (suc n) ys ys)) (sym eb) other) in
    let agree = steps_agree n (held n xs) (below n xs) (part n xs xs) (held n ys) (below n ys) (part n ys ys) (below (suc n) xs) (part (suc n) xs xs) one moved in
    ⊎_elim
    (λ (is : m ≡ n). ap (λ k. held k xs) is ∙ agree.0 ∙ ap (λ k. held k ys) (sym is))
    (λ (ne : m ≢ n). held_agree xs ys dx dy n agree.1 agree.2 m (omega arith))
    (cases_eq m n)

pub sets_differ : (n : ℕ) (xs ys : List ℕ) → IsListing n xs → IsListing n ys → length xs ≡ length ys → set_place xs ≡ set_place ys → AreSame xs ys
sets_differ n xs ys lx ly size place =
    let bx = below_in n xs lx in
    let by' = below_in n ys ly in
    let counts : below n xs ≡ below n ys = below-all n xs bx ∙ size ∙ sym (below-all n ys by') in
    let sums : part n xs xs ≡ part n ys ys = part_place n xs bx ∙ place ∙ sym (part_place n ys by') in
    same_held xs ys
    (λ m.
    ⊎_elim
    (λ (low : m < n). held_agree xs ys (differ_in n xs lx) (differ_in n ys ly) n counts sums m low)
    (λ (past : n ≤ m). held_past n m xs past bx ∙ sym (held_past n m ys past by'))
    (cases_lt m n))

pub one_set : (n : ℕ) (xs : List ℕ) → IsListing n xs → AreSame xs (set_at n (length xs) (set_place xs))
one_set n xs listing =
    let is = set_is n (length xs) (set_place xs) (place_below n xs listing) in
    sets_differ n xs (set_at n (length xs) (set_place xs)) listing is.0 (sym is.1) (sym is.2)

-- ---- sets and lists

ways-more : (n count : ℕ) → ways n (suc count) + count * ways n count ≡ n * ways n count
unfolding ways
ways-more n zero = omega arith
ways-more zero (suc count) = omega arith
ways-more (suc n) (suc count) =
    let rest : suc n * (ways n (suc count) + count * ways n count) ≡ suc n * (n * ways n count) = ap (λ k. suc n * k) (ways-more n count) in
    let one = ways-suc n (suc count) in
    let two = ap (λ k. suc count * k) (ways-suc n count) in
    let three = ap (λ k. suc n * k) (ways-suc n count) in
    omega arith

pub choose_ways : (n count : ℕ) → choose n count * factorial count ≡ ways n count
unfolding ways
choose_ways n zero = let one = choose-zero n in omega arith
choose_ways zero (suc count) = let none = ap (λ k. k * factorial (suc count)) (choose-none (suc count) (omega arith)) in omega arith
choose_ways (suc n) (suc count) =
    let one : suc count * (choose n count * factorial count) ≡ suc count * ways n count = ap (λ k. suc count * k) (choose_ways n count) in
    let other = choose_ways n (suc count) in
    let sum : choose (suc n) (suc count) * factorial (suc count) ≡ (choose n count + choose n (suc count)) * factorial (suc count) = ap (λ k. k * factorial (suc count)) (choose-suc n count) in
    let more = ways-more n count in
    let all = ways-suc n count in
    omega arith
