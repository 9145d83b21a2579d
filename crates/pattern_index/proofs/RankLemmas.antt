-- Ranks, one cell at a time.
use Rattle.std.proofs.Common.{◌≡◌, ◌≢◌, ◌⊎◌, ℕ, zero, suc, ◌+◌, ◌-◌, ◌*◌, ◌/◌, ◌%◌, ◌<◌, ◌≤◌, cond, ltb, List, [], ◌∷◌, map, length, refl, sym, ap, ◌∙◌, subst, inl, inr, ⊎_elim, arith}
use Rattle.std.specs.Prelude.{AllPairs, count_by, nat_lt}
use Rattle.std.specs.List.{AllByRecursion}
use Rattle.std.proofs.lemmas.Bool.{cases_order}
use Rattle.std.proofs.lemmas.Bool.Decides.{nat_tests}
use Rattle.std.proofs.lemmas.List.{length-map}
use Rattle.std.proofs.lemmas.List.Elements.{recursion_from_All, All-from_recursion}
use Rattle.std.proofs.lemmas.List.Sums.{sum_by-cons}
use Rattle.std.proofs.lemmas.Nat.{mul-add-lt, same_from_place, div-add-mod', mod_below, div_below}
use Rattle.std.proofs.Math.Nat.{mul-le-mul_right}
use Rattle.board.specs.Keys.{Precedes}
use Rattle.pattern_index.specs.Ranks.{ways, IsListing, rank_after, rank_of, spread, list_at}

-- the number that a cell has when x is taken out
abbrev pub squeeze : ℕ → ℕ → ℕ
squeeze x y = cond (ltb x y) (y - 1) y

pub squeeze-spread : (x y : ℕ) → squeeze x (spread x y) ≡ y
squeeze-spread x y = grind (arith, nat_tests)

pub spread-squeeze : (x y : ℕ) → x ≢ y → spread x (squeeze x y) ≡ y
spread-squeeze x y ne = grind (arith, nat_tests)

spread_other : (x y : ℕ) → x ≢ spread x y
spread_other x y = grind (arith, nat_tests)

spread_below : (n x y : ℕ) → y < n → spread x y < suc n
spread_below n x y lt = grind (arith, nat_tests)

squeeze_below : (n x y : ℕ) → x < suc n → y < suc n → x ≢ y → squeeze x y < n
squeeze_below n x y h k ne = grind (arith, nat_tests)

-- squeezing keeps the order
squeeze_order : (x y z : ℕ) → x ≢ y → x ≢ z → ltb (squeeze x y) (squeeze x z) ≡ ltb y z
squeeze_order x y z h k = grind (arith, nat_tests)

squeeze_differ : (x y z : ℕ) → x ≢ y → x ≢ z → y ≢ z → squeeze x y ≢ squeeze x z
squeeze_differ x y z h k ne = grind (arith, nat_tests)

spread_differ : (x y z : ℕ) → y ≢ z → spread x y ≢ spread x z
spread_differ x y z ne = grind (arith, nat_tests)

-- the difference of a list, and its range, by recursion
abbrev pub Differ : List ℕ → Type 0
Differ [] = Unit {0}
Differ (x ∷ xs) = AllByRecursion (λ y. x ≢ y) xs × Differ xs

abbrev pub Below : ℕ → List ℕ → Type 0
Below n xs = AllByRecursion (λ y. y < n) xs

abbrev pub Other : ℕ → List ℕ → Type 0
Other x xs = AllByRecursion (λ y. x ≢ y) xs

other_in : (x : ℕ) (xs : List ℕ) → AllPairs (λ y z. y ≢ z) (x ∷ xs) → Other x xs
other_in x xs pairs = recursion_from_All (λ y. x ≢ y) xs (λ k d k_in. pairs 0 (suc k) d (omega arith) (omega arith))

pub differ_from_pairs : (xs : List ℕ) → AllPairs (λ y z. y ≢ z) xs → Differ xs
differ_from_pairs [] pairs = tt
differ_from_pairs (x ∷ xs) pairs = (other_in x xs pairs, differ_from_pairs xs (λ i j d lt j_in. pairs (suc i) (suc j) d (omega arith) (omega arith)))

pub pairs_from_differ : (xs : List ℕ) → Differ xs → AllPairs (λ y z. y ≢ z) xs
pairs_from_differ [] differ i j d lt j_in = omega arith
pairs_from_differ (x ∷ xs) differ i zero d lt j_in = omega arith
pairs_from_differ (x ∷ xs) differ zero (suc j) d lt j_in = All-from_recursion (λ y. x ≢ y) xs differ.0 j d (omega arith)
pairs_from_differ (x ∷ xs) differ (suc i) (suc j) d lt j_in = pairs_from_differ xs differ.1 i j d (omega arith) (omega arith)

pub listing_from : (n : ℕ) (xs : List ℕ) → Below n xs → Differ xs → IsListing n xs
listing_from n xs below differ = record { in_range = All-from_recursion (λ y. y < n) xs below; different = pairs_from_differ xs differ }

pub below_in : (n : ℕ) (xs : List ℕ) → IsListing n xs → Below n xs
below_in n xs listing = recursion_from_All (λ y. y < n) xs listing.in_range

pub differ_in : (n : ℕ) (xs : List ℕ) → IsListing n xs → Differ xs
differ_in n xs listing = differ_from_pairs xs listing.different

squeezed_below : (n x : ℕ) (xs : List ℕ) → x < suc n → Other x xs → Below (suc n) xs → Below n (map (squeeze x) xs)
squeezed_below n x [] lt other below = tt
squeezed_below n x (y ∷ ys) lt other below = (squeeze_below n x y lt below.0 other.0, squeezed_below n x ys lt other.1 below.1)

squeezed_other : (x y : ℕ) (ys : List ℕ) → x ≢ y → Other x ys → Other y ys → Other (squeeze x y) (map (squeeze x) ys)
squeezed_other x y [] ne other different = tt
squeezed_other x y (z ∷ zs) ne other different = (squeeze_differ x y z ne other.0 different.0, squeezed_other x y zs ne other.1 different.1)

squeezed_differ : (x : ℕ) (xs : List ℕ) → Other x xs → Differ xs → Differ (map (squeeze x) xs)
squeezed_differ x [] other differ = tt
squeezed_differ x (y ∷ ys) other differ = (squeezed_other x y ys other.0 other.1 differ.0, squeezed_differ x ys other.1 differ.1)

pub spread_listing : (n x : ℕ) (xs : List ℕ) → Below n xs → Below (suc n) (map (spread x) xs)
spread_listing n x [] below = tt
spread_listing n x (y ∷ ys) below = (spread_below n x y below.0, spread_listing n x ys below.1)

pub spread_others : (x : ℕ) (xs : List ℕ) → Other x (map (spread x) xs)
spread_others x [] = tt
spread_others x (y ∷ ys) = (spread_other x y, spread_others x ys)

spread_apart : (x y : ℕ) (ys : List ℕ) → Other y ys → Other (spread x y) (map (spread x) ys)
spread_apart x y [] other = tt
spread_apart x y (z ∷ zs) other = (spread_differ x y z other.0, spread_apart x y zs other.1)

pub spread_differs : (x : ℕ) (xs : List ℕ) → Differ xs → Differ (map (spread x) xs)
spread_differs x [] differ = tt
spread_differs x (y ∷ ys) differ = (spread_apart x y ys differ.0, spread_differs x ys differ.1)

respread : (x : ℕ) (xs : List ℕ) → Other x xs → map (spread x) (map (squeeze x) xs) ≡ xs
respread x [] other = refl
respread x (y ∷ ys) other = λ i. spread-squeeze x y other.0 i ∷ respread x ys other.1 i

resqueeze : (x : ℕ) (xs : List ℕ) → map (squeeze x) (map (spread x) xs) ≡ xs
resqueeze x [] = refl
resqueeze x (y ∷ ys) = λ i. squeeze-spread x y i ∷ resqueeze x ys i

-- ---- the rank of a list, by its first cell

-- how many of the cells are smaller
abbrev pub smaller : ℕ → List ℕ → ℕ
smaller z xs = count_by (λ y. nat_lt y z) xs

pub smaller-cons : (z x : ℕ) (xs : List ℕ) → smaller z (x ∷ xs) ≡ cond (ltb x z) 1 0 + smaller z xs
smaller-cons z x xs = sum_by-cons (λ y. cond (ltb y z) 1 0) x xs

-- the cells of s are x and, squeezed, those of t
Agrees : ℕ → List ℕ → List ℕ → Type 0
Agrees x s t = (z : ℕ) → x ≢ z → smaller z s ≡ cond (ltb x z) 1 0 + smaller (squeeze x z) t

push_agrees : (x y : ℕ) (s t : List ℕ) → x ≢ y → Agrees x s t → Agrees x (y ∷ s) (squeeze x y ∷ t)
unfolding Agrees
push_agrees x y s t ne agrees z other =
    let a = agrees z other in
    let one = smaller-cons z y s in
    let two = smaller-cons (squeeze x z) (squeeze x y) t in
    let same : cond {A = ℕ} (ltb (squeeze x y) (squeeze x z)) 1 0 ≡ cond {A = ℕ} (ltb y z) 1 0 = ap (λ b. cond {A = ℕ} b 1 0) (squeeze_order x y z ne other) in
    omega arith

same_digit : (x y cs ct : ℕ) → cs ≡ cond (ltb x y) 1 0 + ct → y - cs ≡ squeeze x y - ct
same_digit x y cs ct e = grind (arith, nat_tests)

take_out : (n : ℕ) (s t : List ℕ) (x : ℕ) (q : List ℕ) → Agrees x s t → Other x q → rank_after n s q ≡ rank_after n t (map (squeeze x) q)
unfolding rank_after Agrees
take_out n s t x [] agrees other = refl
take_out n s t x (y ∷ ys) agrees other =
    let digit = same_digit x y (smaller y s) (smaller (squeeze x y) t) (agrees y other.0) in
    let rest = take_out (n - 1) (y ∷ s) (squeeze x y ∷ t) x ys (push_agrees x y s t other.0 agrees) other.1 in
    λ i. digit i * ways (n - 1) (sym (length-map ys (squeeze x)) i) + rest i

sub-zero : (x : ℕ) → x - 0 ≡ x
sub-zero x = omega arith

first_agrees : (x : ℕ) → Agrees x (x ∷ []) []
unfolding Agrees
first_agrees x z other = smaller-cons z x []

pub one_less : (n : ℕ) → suc n - 1 ≡ n
one_less n = omega arith

pub ways-suc : (n r : ℕ) → ways (suc n) (suc r) ≡ suc n * ways n r
unfolding ways
ways-suc n r = ap (λ m. suc n * ways m r) (one_less n)

pub rank_of-cons : (n x : ℕ) (xs : List ℕ) → Other x xs → rank_of (suc n) (x ∷ xs) ≡ x * ways n (length xs) + rank_of n (map (squeeze x) xs)
unfolding rank_of rank_after
rank_of-cons n x xs other =
    (λ i. sub-zero x i * ways (one_less n i) (length xs) + rank_after (one_less n i) (x ∷ []) xs)
    ∙ ap (λ m. x * ways n (length xs) + m) (take_out n (x ∷ []) [] x xs (first_agrees x) other)

-- ---- ranks are places

-- ranks stay below the number of ways
pub rank_below : (n : ℕ) (xs : List ℕ) → Below n xs → Differ xs → rank_of n xs < ways n (length xs)
unfolding rank_of rank_after ways
rank_below n [] below differ = omega arith
rank_below zero (x ∷ xs) below differ = absurd (omega (arith, below.0))
rank_below (suc n) (x ∷ xs) below differ =
    let rest = rank_below n (map (squeeze x) xs) (squeezed_below n x xs below.0 differ.0 below.1) (squeezed_differ x xs differ.0 differ.1) in
    let low : rank_of n (map (squeeze x) xs) < ways n (length xs) = subst (λ k. rank_of n (map (squeeze x) xs) < ways n k) (length-map xs (squeeze x)) rest in
    let e = rank_of-cons n x xs differ.0 in
    let w = ways-suc n (length xs) in
    let m = mul-add-lt x (ways n (length xs)) (rank_of n (map (squeeze x) xs)) (suc n) below.0 low in
    omega arith

-- lists of one length with one rank are one list
pub rank_differs : (n : ℕ) (xs ys : List ℕ) → Below n xs → Differ xs → Below n ys → Differ ys → length xs ≡ length ys → rank_of n xs ≡ rank_of n ys → xs ≡ ys
unfolding rank_of
rank_differs n [] [] bx dx by' dy same rank = refl
rank_differs n [] (y ∷ ys) bx dx by' dy same rank = absurd (omega arith)
rank_differs n (x ∷ xs) [] bx dx by' dy same rank = absurd (omega arith)
rank_differs zero (x ∷ xs) (y ∷ ys) bx dx by' dy same rank = absurd (omega (arith, bx.0))
rank_differs (suc n) (x ∷ xs) (y ∷ ys) bx dx by' dy same rank =
    let longer : length xs ≡ length ys = omega arith in
    let bx' = squeezed_below n x xs bx.0 dx.0 bx.1 in
    let by'' = squeezed_below n y ys by'.0 dy.0 by'.1 in
    let dx' = squeezed_differ x xs dx.0 dx.1 in
    let dy' = squeezed_differ y ys dy.0 dy.1 in
    let lx : rank_of n (map (squeeze x) xs) < ways n (length xs) = subst (λ k. rank_of n (map (squeeze x) xs) < ways n k) (length-map xs (squeeze x)) (rank_below n (map (squeeze x) xs) bx' dx') in
    let ly : rank_of n (map (squeeze y) ys) < ways n (length xs) = subst (λ k. rank_of n (map (squeeze y) ys) < ways n k) (length-map ys (squeeze y) ∙ sym longer) (rank_below n (map (squeeze y) ys) by'' dy') in
    let wy : ways n (length ys) ≡ ways n (length xs) = ap (ways n) (sym longer) in
    let e : x * ways n (length xs) + rank_of n (map (squeeze x) xs) ≡ y * ways n (length xs) + rank_of n (map (squeeze y) ys) =
    sym (rank_of-cons n x xs dx.0) ∙ rank ∙ rank_of-cons n y ys dy.0 ∙ (λ i. y * wy i + rank_of n (map (squeeze y) ys)) in
    let parts = same_from_place x (rank_of n (map (squeeze x) xs)) y (rank_of n (map (squeeze y) ys)) (ways n (length xs)) lx ly e in
    let rest = rank_differs n (map (squeeze x) xs) (map (squeeze y) ys) bx' dx' by'' dy' (length-map xs (squeeze x) ∙ longer ∙ sym (length-map ys (squeeze y))) parts.1 in
    let turned : map (squeeze y) ys ≡ map (squeeze x) ys = ap (λ k. map (squeeze k) ys) (sym parts.0) in
    let other : Other x ys = subst (λ k. Other k ys) (sym parts.0) dy.0 in
    let tails : xs ≡ ys = sym (respread x xs dx.0) ∙ ap (map (spread x)) (rest ∙ turned) ∙ respread x ys other in
    λ i. parts.0 i ∷ tails i

-- there is a way to list cells that are there
pub ways_some : (n r : ℕ) → r ≤ n → 0 < ways n r
unfolding ways
ways_some n zero le = omega arith
ways_some zero (suc r) le = absurd (omega arith)
ways_some (suc n) (suc r) le = let h = ways_some n r (omega arith) in let w = ways-suc n r in let m : 1 * ways n r ≤ suc n * ways n r = mul-le-mul_right (ways n r) (omega arith) in omega arith

pub length-list_at : (n r k : ℕ) → r ≤ n → length (list_at n r k) ≡ r
unfolding list_at
length-list_at n zero k le = refl
length-list_at zero (suc r) k le = absurd (omega arith)
length-list_at (suc n) (suc r) k le = ap suc (length-map (list_at n r (k % ways n r)) (spread (k / ways n r)) ∙ length-list_at n r (k % ways n r) (omega arith))

pub list_at_below : (n r k : ℕ) → r ≤ n → k < ways n r → Below n (list_at n r k)
unfolding list_at
list_at_below n zero k le lt = tt
list_at_below zero (suc r) k le lt = absurd (omega arith)
list_at_below (suc n) (suc r) k le lt =
    let some = ways_some n r (omega arith) in
    let w = ways-suc n r in
    (div_below k (ways n r) (suc n) some (omega arith), spread_listing n (k / ways n r) (list_at n r (k % ways n r)) (list_at_below n r (k % ways n r) (omega arith) (mod_below k (ways n r) some)))

pub list_at_differ : (n r k : ℕ) → Differ (list_at n r k)
unfolding list_at
list_at_differ n zero k = tt
list_at_differ zero (suc r) k = tt
list_at_differ (suc n) (suc r) k =
    (spread_others (k / ways n r) (list_at n r (k % ways n r)), spread_differs (k / ways n r) (list_at n r (k % ways n r)) (list_at_differ n r (k % ways n r)))

pub rank_of-list_at : (n r k : ℕ) → r ≤ n → k < ways n r → rank_of n (list_at n r k) ≡ k
unfolding list_at ways rank_of rank_after
rank_of-list_at n zero k le lt = omega arith
rank_of-list_at zero (suc r) k le lt = absurd (omega arith)
rank_of-list_at (suc n) (suc r) k le lt =
    let x = k / ways n r in
    let xs = list_at n r (k % ways n r) in
    let some = ways_some n r (omega arith) in
    let rest = rank_of-list_at n r (k % ways n r) (omega arith) (mod_below k (ways n r) some) in
    let size : length (map (spread x) xs) ≡ r = length-map xs (spread x) ∙ length-list_at n r (k % ways n r) (omega arith) in
    rank_of-cons n x (map (spread x) xs) (spread_others x xs)
    ∙ (λ i. x * ways n (size i) + rank_of n (resqueeze x xs i))
    ∙ ap (λ m. x * ways n r + m) rest
    ∙ div-add-mod' k (ways n r)

squeeze_less : (x y z : ℕ) → x ≢ y → x ≢ z → y < z → squeeze x y < squeeze x z
squeeze_less x y z h k lt = grind (arith, nat_tests)

precedes_squeezed : (x : ℕ) (xs ys : List ℕ) → Other x xs → Other x ys → Precedes xs ys → Precedes (map (squeeze x) xs) (map (squeeze x) ys)
precedes_squeezed x xs [] ox oy before = absurd before
precedes_squeezed x [] (z ∷ ys) ox oy before = tt
precedes_squeezed x (y ∷ xs) (z ∷ ys) ox oy (inl less) = inl (squeeze_less x y z ox.0 oy.0 less)
precedes_squeezed x (y ∷ xs) (z ∷ ys) ox oy (inr both) = inr (ap (squeeze x) both.0, precedes_squeezed x xs ys ox.1 oy.1 both.1)

-- the list that precedes has the smaller rank
pub rank_order : (n : ℕ) (xs ys : List ℕ) → Below n xs → Differ xs → Below n ys → Differ ys → length xs ≡ length ys → Precedes xs ys → rank_of n xs < rank_of n ys
rank_order n xs [] bx dx by' dy same before = absurd before
rank_order n [] (y ∷ ys) bx dx by' dy same before = absurd (omega arith)
rank_order zero (x ∷ xs) (y ∷ ys) bx dx by' dy same before = absurd (omega (arith, bx.0))
rank_order (suc n) (x ∷ xs) (y ∷ ys) bx dx by' dy same (inl less) =
    let longer : length xs ≡ length ys = omega arith in
    let bx' = squeezed_below n x xs bx.0 dx.0 bx.1 in
    let dx' = squeezed_differ x xs dx.0 dx.1 in
    let lx : rank_of n (map (squeeze x) xs) < ways n (length xs) = subst (λ k. rank_of n (map (squeeze x) xs) < ways n k) (length-map xs (squeeze x)) (rank_below n (map (squeeze x) xs) bx' dx') in
    let wy : ways n (length ys) ≡ ways n (length xs) = ap (ways n) (sym longer) in
    let m : (x + 1) * ways n (length xs) ≤ y * ways n (length xs) = mul-le-mul_right (ways n (length xs)) (omega arith) in
    let ex = rank_of-cons n x xs dx.0 in
    let ey = rank_of-cons n y ys dy.0 ∙ (λ i. y * wy i + rank_of n (map (squeeze y) ys)) in
    omega arith
rank_order (suc n) (x ∷ xs) (y ∷ ys) bx dx by' dy same (inr both) =
    let longer : length xs ≡ length ys = omega arith in
    let other : Other x ys = subst (λ k. Other k ys) (sym both.0) dy.0 in
    let x_in : x < suc n = bx.0 in
    let after = precedes_squeezed x xs ys dx.0 other both.1 in
    let rest = rank_order n (map (squeeze x) xs) (map (squeeze x) ys) (squeezed_below n x xs x_in dx.0 bx.1) (squeezed_differ x xs dx.0 dx.1) (squeezed_below n x ys x_in other by'.1) (squeezed_differ x ys other dy.1) (length-map xs (squeeze x) ∙ longer ∙ sym (length-map ys (squeeze x))) after in
    let wy : ways n (length ys) ≡ ways n (length xs) = ap (ways n) (sym longer) in
    let ex = rank_of-cons n x xs dx.0 in
    let ey : rank_of (suc n) (y ∷ ys) ≡ x * ways n (length xs) + rank_of n (map (squeeze x) ys) = rank_of-cons n y ys dy.0 ∙ (λ i. sym both.0 i * wy i + rank_of n (map (squeeze (sym both.0 i)) ys)) in
    omega arith

-- one of two lists of one length that differ precedes the other
in_some_order : (xs ys : List ℕ) → length xs ≡ length ys → Precedes xs ys ⊎ ((xs ≡ ys) ⊎ Precedes ys xs)
in_some_order [] [] same = inr (inl refl)
in_some_order [] (y ∷ ys) same = absurd (omega arith)
in_some_order (x ∷ xs) [] same = absurd (omega arith)
in_some_order (x ∷ xs) (y ∷ ys) same =
    ⊎_elim
    (λ (e : x ≡ y).
    ⊎_elim (λ (before : Precedes xs ys). inl (inr (e, before)))
    (λ (h : (xs ≡ ys) ⊎ Precedes ys xs). ⊎_elim (λ (all : xs ≡ ys). inr (inl (λ i. e i ∷ all i))) (λ (after : Precedes ys xs). inr (inr (inr (sym e, after)))) h)
    (in_some_order xs ys (omega arith)))
    (λ (h : (x < y) ⊎ (y < x)). ⊎_elim (λ (lt : x < y). inl (inl lt)) (λ (lt : y < x). inr (inr (inl lt))) h)
    (cases_order x y)

-- the list that has the smaller rank precedes
pub order_from_rank : (n : ℕ) (xs ys : List ℕ) → Below n xs → Differ xs → Below n ys → Differ ys → length xs ≡ length ys → rank_of n xs < rank_of n ys → Precedes xs ys
order_from_rank n xs ys bx dx by' dy same less =
    ⊎_elim (λ (before : Precedes xs ys). before)
    (λ (h : (xs ≡ ys) ⊎ Precedes ys xs).
    ⊎_elim (λ (all : xs ≡ ys). let e = ap (rank_of n) all in absurd (omega arith)) (λ (after : Precedes ys xs). let more = rank_order n ys xs by' dy bx dx (sym same) after in absurd (omega arith)) h)
    (in_some_order xs ys same)
