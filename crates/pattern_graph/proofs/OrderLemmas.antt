-- Orders: how they are read back from positions, and how they change where a tile moves.
use Rattle.std.proofs.Common.{◌≡◌, ◌≢◌, ◌⊎◌, ℕ, zero, suc, ◌+◌, ◌-◌, ◌*◌, ◌/◌, ◌%◌, ◌<◌, ◌≤◌, Bool, true, cond, ltb, eqb, List, [], ◌∷◌, ◌++◌, map, length, get_or, drop, refl, sym, ap, ◌∙◌, subst, inl, inr, ⊎_elim, arith}
use Rattle.std.specs.Prelude.{Contains, slice_index, ◌↔◌}
use Rattle.std.specs.List.{position_or_len}
use Rattle.std.proofs.lemmas.Bool.Decides.{nat_tests}
use Rattle.std.proofs.lemmas.Bool.{both_ways, cases_eq, cases_lt, cases_order, eq-eqb, eqb-true}
use Rattle.std.proofs.lemmas.List.{length-map, append-nil, append_assoc, map_push, length_push, get_or-map, get_or_default}
use Rattle.std.proofs.lemmas.List.Elements.{All-contains, Contains-append_left, Contains-push, Contains-get_or}
use Rattle.std.proofs.lemmas.List.Sums.{sum_by_push, fails_before_first, passes_at_first}
use Rattle.std.proofs.lemmas.Nat.{div-add-mod', mod_below, div_below, div-mul-add, mod-mul-add}
use Rattle.std.proofs.Math.Nat.{mul-le-mul_right}
use Rattle.pattern_index.specs.Laws.{factorial}
use Rattle.pattern_index.specs.Ranks.{IsListing, spread}
use Rattle.pattern_index.proofs.RankLemmas.{Differ, Below, Other, squeeze, spread-squeeze, smaller-cons, spread_listing, spread_others, spread_differs, listing_from, below_in, differ_in}
use Rattle.pattern_graph.specs.Orders.{below, order_after, order_of, positions_at, tile_of, moved_position, moved_order}
use Rattle.pattern_graph.specs.Sets.{AreSame, replaced}

-- ---- lists from their ends

-- what holds of the empty list, and of a list with one more at its end, holds of each list
from_end : (P : List ℕ → Type 0) → P [] → ((xs : List ℕ) (z : ℕ) → P xs → P (xs ++ z ∷ [])) → (xs : List ℕ) → P xs
from_end P none more xs = onto [] xs none
  where
    onto : (front xs : List ℕ) → P front → P (front ++ xs)
    onto front [] holds = subst P (sym (append-nil front)) holds
    onto front (x ∷ xs) holds = subst P (append_assoc front (x ∷ []) xs) (onto (front ++ x ∷ []) xs (more front x holds))

-- a list that is not empty has a last number
pub split_last : (n : ℕ) (xs : List ℕ) → length xs ≡ suc n → (ys : List ℕ) × (z : ℕ) × (xs ≡ ys ++ z ∷ []) × (length ys ≡ n)
split_last n [] size = absurd (omega (arith, size))
split_last zero (x ∷ []) size = ([], x, refl, refl)
split_last zero (x ∷ y ∷ xs) size = absurd (omega (arith, size))
split_last (suc n) (x ∷ xs) size =
    let rest = split_last n xs (omega (arith, size)) in
    (x ∷ rest.0, rest.1, ap (λ ys. x ∷ ys) rest.2, ap suc rest.3)

-- ---- how many are below

pub below-cons : (z x : ℕ) (xs : List ℕ) → below z (x ∷ xs) ≡ cond (ltb x z) 1 0 + below z xs
below-cons z x xs = smaller-cons z x xs

pub below-push : (z x : ℕ) (xs : List ℕ) → below z (xs ++ x ∷ []) ≡ below z xs + cond (ltb x z) 1 0
below-push z x xs = sum_by_push (λ y. cond (ltb y z) 1 0) xs x

-- none is below zero
pub below-zero : (xs : List ℕ) → below 0 xs ≡ 0
below-zero [] = refl
below-zero (x ∷ xs) = grind (arith, nat_tests, below-zero xs, below-cons 0 x xs)

-- all are below their bound
pub below-all : (n : ℕ) (xs : List ℕ) → Below n xs → below n xs ≡ length xs
below-all n [] within = refl
below-all n (x ∷ xs) within = let low : x < n = within.0 in grind (arith, nat_tests, below-all n xs within.1, below-cons n x xs)

pub below-le-length : (z : ℕ) (xs : List ℕ) → below z xs ≤ length xs
below-le-length z [] = omega arith
below-le-length z (x ∷ xs) = grind (arith, nat_tests, below-le-length z xs, below-cons z x xs)

-- below more there are not fewer
pub below_more : (y z : ℕ) (xs : List ℕ) → y ≤ z → below y xs ≤ below z xs
below_more y z [] le = omega arith
below_more y z (x ∷ xs) le = grind (arith, nat_tests, below_more y z xs le, below-cons y x xs, below-cons z x xs)

-- a number that is not there counts nothing
pub below_out : (z : ℕ) (xs : List ℕ) → Other z xs → below (suc z) xs ≡ below z xs
below_out z [] other = refl
below_out z (x ∷ xs) other = let ne : z ≢ x = other.0 in grind (arith, nat_tests, below_out z xs other.1, below-cons (suc z) x xs, below-cons z x xs)

-- a number that is there once counts once
pub below_in_once : (z x : ℕ) (xs : List ℕ) → x ≡ z → Other x xs → below (suc z) (x ∷ xs) ≡ suc (below z (x ∷ xs))
below_in_once z x xs is other = grind (arith, nat_tests, below_out z xs (subst (λ k. Other k xs) is other), below-cons (suc z) x xs, below-cons z x xs)

-- a number more: one more is below at most
pub below_step : (z : ℕ) (xs : List ℕ) → Differ xs → below (suc z) xs ≤ suc (below z xs)
below_step z [] differ = omega arith
below_step z (x ∷ xs) differ =
    ⊎_elim
    (λ (is : x ≡ z). let e = below_in_once z x xs is differ.0 in omega (arith, e))
    (λ (ne : x ≢ z). grind (arith, nat_tests, below_step z xs differ.1, below-cons (suc z) x xs, below-cons z x xs))
    (cases_eq x z)

-- at most z of different numbers are below z
pub below_low : (z : ℕ) (xs : List ℕ) → Differ xs → below z xs ≤ z
below_low zero xs differ = let e = below-zero xs in omega (arith, e)
below_low (suc z) xs differ = omega (arith, below_low z xs differ, below_step z xs differ)

below_rise : (k z : ℕ) (xs : List ℕ) → Differ xs → below (k + z) xs ≤ k + below z xs
below_rise zero z xs differ = let e : below (0 + z) xs ≡ below z xs = ap (λ m. below m xs) (omega arith) in omega (arith, e)
below_rise (suc k) z xs differ =
    let rest = below_rise k z xs differ in
    let step = below_step (k + z) xs differ in
    let e : below (suc k + z) xs ≡ below (suc (k + z)) xs = ap (λ m. below m xs) (omega arith) in
    omega (arith, rest, step, e)

-- a list of all numbers below n
pub below_full : (n z : ℕ) (xs : List ℕ) → Below n xs → Differ xs → length xs ≡ n → z ≤ n → below z xs ≡ z
below_full n z xs within differ size le =
    let low = below_low z xs differ in
    let all = below-all n xs within in
    let rise = below_rise (n - z) z xs differ in
    let e : below (n - z + z) xs ≡ below n xs = ap (λ m. below m xs) (omega (arith, le)) in
    omega (arith, low, all, rise, e, size, le)

-- ---- orders

order_after-push : (seen xs : List ℕ) (z : ℕ) → order_after seen (xs ++ z ∷ []) ≡ order_after seen xs + (below z seen + below z xs) * factorial (length seen + length xs)
unfolding order_after
order_after-push seen [] z =
    let same : below z seen + below z [] ≡ below z seen = omega arith in
    let size : length seen + length {A = ℕ} [] ≡ length seen = omega arith in
    let t : (below z seen + below z []) * factorial (length seen + length {A = ℕ} []) ≡ below z seen * factorial (length seen) = λ i. same i * factorial (size i) in
    omega (arith, t)
order_after-push seen (x ∷ xs) z =
    let rest = order_after-push (x ∷ seen) xs z in
    let a = below-cons z x seen in
    let b = below-cons z x xs in
    let same : below z (x ∷ seen) + below z xs ≡ below z seen + below z (x ∷ xs) = omega (arith, a, b) in
    let size : length (x ∷ seen) + length xs ≡ length seen + length (x ∷ xs) = omega arith in
    let t : (below z (x ∷ seen) + below z xs) * factorial (length (x ∷ seen) + length xs) ≡ (below z seen + below z (x ∷ xs)) * factorial (length seen + length (x ∷ xs)) = λ i. same i * factorial (size i) in
    omega (arith, rest, t)

-- one tile more
pub order_with : (xs : List ℕ) (z : ℕ) → order_of (xs ++ z ∷ []) ≡ order_of xs + below z xs * factorial (length xs)
unfolding order_of
order_with xs z =
    let all = order_after-push [] xs z in
    let same : below z [] + below z xs ≡ below z xs = omega arith in
    let size : length {A = ℕ} [] + length xs ≡ length xs = omega arith in
    let t : (below z [] + below z xs) * factorial (length {A = ℕ} [] + length xs) ≡ below z xs * factorial (length xs) = λ i. same i * factorial (size i) in
    omega (arith, all, t)

order_none : order_of [] ≡ 0
unfolding order_of order_after
order_none = refl

-- the orders of `count` tiles are below the factorial
pub order_below : (xs : List ℕ) → order_of xs < factorial (length xs)
order_below xs = from_end (λ ys. order_of ys < factorial (length ys)) (let e = order_none in omega (arith, e)) (λ ys z low. more ys z low) xs
  where
    more : (ys : List ℕ) (z : ℕ) → order_of ys < factorial (length ys) → order_of (ys ++ z ∷ []) < factorial (length (ys ++ z ∷ []))
    more ys z low =
        let e = order_with ys z in
        let longer : length (ys ++ z ∷ []) ≡ suc (length ys) = omega (arith, length_push ys z) in
        let size : factorial (length (ys ++ z ∷ [])) ≡ suc (length ys) * factorial (length ys) = ap factorial longer in
        let m : below z ys * factorial (length ys) ≤ length ys * factorial (length ys) = mul-le-mul_right (factorial (length ys)) (below-le-length z ys) in
        omega (arith, e, size, m, low)

-- ---- what a list contains

in_head : (x : ℕ) (xs : List ℕ) → Contains (x ∷ xs) x
in_head x xs = (0, omega arith, refl)

in_tail : (x : ℕ) (xs : List ℕ) (y : ℕ) → Contains xs y → Contains (x ∷ xs) y
in_tail x xs y there = (suc there.0, omega (arith, there.1), there.2)

in_cases : (x : ℕ) (xs : List ℕ) (y : ℕ) → Contains (x ∷ xs) y → (x ≡ y) ⊎ Contains xs y
in_cases x xs y (zero, within, is) = inl is
in_cases x xs y (suc k, within, is) = inr (k, omega (arith, within), is)

in_none : (y : ℕ) → ¬ Contains [] y
in_none y there = omega (arith, there.1)

other_from_out : (z : ℕ) (xs : List ℕ) → ¬ Contains xs z → Other z xs
other_from_out z [] out = tt
other_from_out z (x ∷ xs) out = (λ is. out (subst (λ k. Contains (x ∷ xs) k) (sym is) (in_head x xs)), other_from_out z xs (λ there. out (in_tail x xs z there)))

out_from_other : (z : ℕ) (xs : List ℕ) → Other z xs → ¬ Contains xs z
out_from_other z [] other there = in_none z there
out_from_other z (x ∷ xs) other there = ⊎_elim (λ (is : x ≡ z). other.0 (sym is)) (λ (rest : Contains xs z). out_from_other z xs other.1 rest) (in_cases x xs z there)

-- a number is in a list or is not
pub in_or_out : (z : ℕ) (xs : List ℕ) → Contains xs z ⊎ (¬ Contains xs z)
in_or_out z [] = inr (in_none z)
in_or_out z (x ∷ xs) =
    ⊎_elim
    (λ (is : x ≡ z). inl (subst (λ k. Contains (x ∷ xs) k) is (in_head x xs)))
    (λ (ne : x ≢ z).
    ⊎_elim
    (λ (there : Contains xs z). inl (in_tail x xs z there))
    (λ (out : ¬ Contains xs z). inr (λ there. ⊎_elim ne out (in_cases x xs z there)))
    (in_or_out z xs))
    (cases_eq x z)

pub in_map : (g : ℕ → ℕ) (xs : List ℕ) (x : ℕ) → Contains xs x → Contains (map g xs) (g x)
in_map g xs x there = (there.0, omega (arith, there.1, length-map xs g), get_or-map g xs there.0 x (g x) there.1 ∙ ap g there.2)

pub from_map : (g : ℕ → ℕ) (xs : List ℕ) (y : ℕ) → Contains (map g xs) y → (x : ℕ) × Contains xs x × (g x ≡ y)
from_map g xs y there =
    let within : there.0 < length xs = omega (arith, there.1, length-map xs g) in
    (get_or xs there.0 0, Contains-get_or xs there.0 0 within, sym (get_or-map g xs there.0 0 y within) ∙ there.2)

-- ---- orders keep where a function keeps the order

-- a function keeps the order of the numbers of a list
abbrev pub Keeps : (ℕ → ℕ) → List ℕ → Type 0
Keeps g xs = (x y : ℕ) → Contains xs x → Contains xs y → (x < y) ↔ (g x < g y)

below-map : (g : ℕ → ℕ) (z : ℕ) (xs : List ℕ) → ((y : ℕ) → Contains xs y → (y < z) ↔ (g y < g z)) → below (g z) (map g xs) ≡ below z xs
below-map g z [] keeps = refl
below-map g z (x ∷ xs) keeps =
    let here : (x < z) ↔ (g x < g z) = keeps x (in_head x xs) in
    grind (arith, nat_tests, below-map g z xs (λ y there. keeps y (in_tail x xs y there)), below-cons (g z) (g x) (map g xs), below-cons z x xs, here.0, here.1)

pub same_order : (g : ℕ → ℕ) (xs : List ℕ) → ((x y : ℕ) → Contains xs x → Contains xs y → (x < y) ↔ (g x < g y)) → order_of (map g xs) ≡ order_of xs
same_order g xs = from_end (λ ys. Keeps g ys → order_of (map g ys) ≡ order_of ys) (λ keeps. refl) (λ ys z rest. more ys z rest) xs
  where
    more : (ys : List ℕ) (z : ℕ) → (Keeps g ys → order_of (map g ys) ≡ order_of ys) → Keeps g (ys ++ z ∷ []) → order_of (map g (ys ++ z ∷ [])) ≡ order_of (ys ++ z ∷ [])
    more ys z rest keeps =
        let inner = rest (λ x y x_in y_in. keeps x y (Contains-append_left ys (z ∷ []) x x_in) (Contains-append_left ys (z ∷ []) y y_in)) in
        let digit : below (g z) (map g ys) ≡ below z ys = below-map g z ys (λ y there. keeps y z (Contains-append_left ys (z ∷ []) y there) (Contains-push ys z)) in
        ap order_of (map_push g ys z)
        ∙ order_with (map g ys) (g z)
        ∙ (λ i. inner i + digit i * factorial (length-map ys g i))
        ∙ sym (order_with ys z)

-- the order of positions that are moved up
order-spread : (d : ℕ) (xs : List ℕ) → order_of (map (spread d) xs) ≡ order_of xs
order-spread d xs = same_order (spread d) xs (λ x y x_in y_in. (λ lt. up x y lt, λ lt. down x y lt))
  where
    up : (x y : ℕ) → x < y → spread d x < spread d y
    up x y lt = grind (arith, nat_tests)

    down : (x y : ℕ) → spread d x < spread d y → x < y
    down x y lt = grind (arith, nat_tests)

below-spread : (d : ℕ) (xs : List ℕ) → below d (map (spread d) xs) ≡ below d xs
below-spread d [] = refl
below-spread d (x ∷ xs) = grind (arith, nat_tests, below-spread d xs, below-cons d (spread d x) (map (spread d) xs), below-cons d x xs)

-- ---- the positions of an order

below_push : (n : ℕ) (xs : List ℕ) (z : ℕ) → Below n xs → z < n → Below n (xs ++ z ∷ [])
below_push n [] z within low = (low, tt)
below_push n (x ∷ xs) z within low = (within.0, below_push n xs z within.1 low)

other_push : (x : ℕ) (xs : List ℕ) (z : ℕ) → Other x xs → x ≢ z → Other x (xs ++ z ∷ [])
other_push x [] z other ne = (ne, tt)
other_push x (y ∷ xs) z other ne = (other.0, other_push x xs z other.1 ne)

differ_push : (xs : List ℕ) (z : ℕ) → Differ xs → Other z xs → Differ (xs ++ z ∷ [])
differ_push [] z differ other = (tt, tt)
differ_push (x ∷ xs) z differ other = (other_push x xs z differ.0 (λ is. other.0 (sym is)), differ_push xs z differ.1 other.1)

factorial_some : (n : ℕ) → 0 < factorial n
factorial_some zero = omega arith
factorial_some (suc n) =
    let rest = factorial_some n in
    let m : 1 * factorial n ≤ suc n * factorial n = mul-le-mul_right (factorial n) (omega arith) in
    omega (arith, rest, m)

length-positions : (count order : ℕ) → length (positions_at count order) ≡ count
unfolding positions_at
length-positions zero order = refl
length-positions (suc count) order =
    let d = order / factorial count in
    let xs = positions_at count (order % factorial count) in
    let size : length (map (spread d) xs) ≡ count = length-map xs (spread d) ∙ length-positions count (order % factorial count) in
    omega (arith, size, length_push (map (spread d) xs) d)

positions_below : (count order : ℕ) → order < factorial count → Below count (positions_at count order)
unfolding positions_at
positions_below zero order low = tt
positions_below (suc count) order low =
    let some = factorial_some count in
    let d = order / factorial count in
    let rest = order % factorial count in
    let xs = positions_at count rest in
    below_push (suc count) (map (spread d) xs) d (spread_listing count d xs (positions_below count rest (mod_below order (factorial count) some))) (div_below order (factorial count) (suc count) some low)

positions_differ : (count order : ℕ) → Differ (positions_at count order)
unfolding positions_at
positions_differ zero order = tt
positions_differ (suc count) order =
    let d = order / factorial count in
    let xs = positions_at count (order % factorial count) in
    differ_push (map (spread d) xs) d (spread_differs d xs (positions_differ count (order % factorial count))) (spread_others d xs)

order_of-positions : (count order : ℕ) → order < factorial count → order_of (positions_at count order) ≡ order
unfolding positions_at
order_of-positions zero order low = let e = order_none in omega (arith, e, low)
order_of-positions (suc count) order low =
    let some = factorial_some count in
    let d = order / factorial count in
    let rest = order % factorial count in
    let xs = positions_at count rest in
    let rest_low : rest < factorial count = mod_below order (factorial count) some in
    let d_low : d < suc count = div_below order (factorial count) (suc count) some low in
    let size = length-positions count rest in
    let inner : order_of (map (spread d) xs) ≡ rest = order-spread d xs ∙ order_of-positions count rest rest_low in
    let digit : below d (map (spread d) xs) ≡ d = below-spread d xs ∙ below_full count d xs (positions_below count rest rest_low) (positions_differ count rest) size (omega (arith, d_low)) in
    let longer : length (map (spread d) xs) ≡ count = length-map xs (spread d) ∙ size in
    let turned : rest + d * factorial count ≡ d * factorial count + rest = omega arith in
    order_with (map (spread d) xs) d
    ∙ (λ i. inner i + digit i * factorial (longer i))
    ∙ turned
    ∙ div-add-mod' order (factorial count)

pub positions_are : (count order : ℕ) → order < factorial count → IsListing count (positions_at count order) × (length (positions_at count order) ≡ count) × (order_of (positions_at count order) ≡ order)
positions_are count order low = (
  listing_from count (positions_at count order) (positions_below count order low) (positions_differ count order),
  length-positions count order,
  order_of-positions count order low,
)

-- ---- positions are read back

below_front : (n : ℕ) (xs : List ℕ) (z : ℕ) → Below n (xs ++ z ∷ []) → Below n xs × (z < n)
below_front n [] z within = (tt, within.0)
below_front n (x ∷ xs) z within = let rest = below_front n xs z within.1 in ((within.0, rest.0), rest.1)

other_front : (x : ℕ) (xs : List ℕ) (z : ℕ) → Other x (xs ++ z ∷ []) → Other x xs × (x ≢ z)
other_front x [] z other = (tt, other.0)
other_front x (y ∷ xs) z other = let rest = other_front x xs z other.1 in ((other.0, rest.0), rest.1)

differ_front : (xs : List ℕ) (z : ℕ) → Differ (xs ++ z ∷ []) → Differ xs × Other z xs
differ_front [] z differ = (tt, tt)
differ_front (x ∷ xs) z differ =
    let rest = differ_front xs z differ.1 in
    let head = other_front x xs z differ.0 in
    ((head.0, rest.0), (λ is. head.1 (sym is), rest.1))

squeezed_below : (n x : ℕ) (xs : List ℕ) → x < suc n → Other x xs → Below (suc n) xs → Below n (map (squeeze x) xs)
squeezed_below n x [] low other within = tt
squeezed_below n x (y ∷ ys) low other within = (one y within.0 other.0, squeezed_below n x ys low other.1 within.1)
  where
    one : (y : ℕ) → y < suc n → x ≢ y → squeeze x y < n
    one y lt ne = grind (arith, nat_tests)

squeezed_other : (x y : ℕ) (ys : List ℕ) → x ≢ y → Other x ys → Other y ys → Other (squeeze x y) (map (squeeze x) ys)
squeezed_other x y [] ne other different = tt
squeezed_other x y (z ∷ zs) ne other different = (one z other.0 different.0, squeezed_other x y zs ne other.1 different.1)
  where
    one : (z : ℕ) → x ≢ z → y ≢ z → squeeze x y ≢ squeeze x z
    one z a b = grind (arith, nat_tests)

squeezed_differ : (x : ℕ) (xs : List ℕ) → Other x xs → Differ xs → Differ (map (squeeze x) xs)
squeezed_differ x [] other differ = tt
squeezed_differ x (y ∷ ys) other differ = (squeezed_other x y ys other.0 other.1 differ.0, squeezed_differ x ys other.1 differ.1)

respread : (x : ℕ) (xs : List ℕ) → Other x xs → map (spread x) (map (squeeze x) xs) ≡ xs
respread x [] other = refl
respread x (y ∷ ys) other = λ i. spread-squeeze x y other.0 i ∷ respread x ys other.1 i

other_at : (x : ℕ) (xs : List ℕ) (y : ℕ) → Other x xs → Contains xs y → x ≢ y
other_at x xs y other there is = out_from_other x xs other (subst (λ k. Contains xs k) (sym is) there)

order-squeeze : (z : ℕ) (xs : List ℕ) → Other z xs → order_of (map (squeeze z) xs) ≡ order_of xs
order-squeeze z xs other = same_order (squeeze z) xs (λ x y x_in y_in. (λ lt. up x y (other_at z xs x other x_in) (other_at z xs y other y_in) lt, λ lt. down x y (other_at z xs x other x_in) (other_at z xs y other y_in) lt))
  where
    up : (x y : ℕ) → z ≢ x → z ≢ y → x < y → squeeze z x < squeeze z y
    up x y a b lt = grind (arith, nat_tests)

    down : (x y : ℕ) → z ≢ x → z ≢ y → squeeze z x < squeeze z y → x < y
    down x y a b lt = grind (arith, nat_tests)

read_back : (n : ℕ) (xs : List ℕ) → length xs ≡ n → Below n xs → Differ xs → positions_at n (order_of xs) ≡ xs
unfolding positions_at
read_back zero [] size within differ = refl
read_back zero (x ∷ xs) size within differ = absurd (omega (arith, size))
read_back (suc n) xs size within differ =
    let parts = split_last n xs size in
    let ys = parts.0 in
    let z = parts.1 in
    let is : xs ≡ ys ++ z ∷ [] = parts.2 in
    let short : length ys ≡ n = parts.3 in
    let within_parts = below_front (suc n) ys z (subst (Below (suc n)) is within) in
    let differ_parts = differ_front ys z (subst Differ is differ) in
    let full : below z xs ≡ z = below_full (suc n) z xs within differ size (omega (arith, within_parts.1)) in
    let last : below z xs ≡ below z ys + cond (ltb z z) 1 0 = ap (below z) is ∙ below-push z z ys in
    let digit : below z ys ≡ z = grind (arith, nat_tests, full, last) in
    let rest : order_of ys < factorial n = subst (λ k. order_of ys < factorial k) short (order_below ys) in
    let turned : order_of ys + z * factorial n ≡ z * factorial n + order_of ys = omega arith in
    let order : order_of xs ≡ z * factorial n + order_of ys = ap order_of is ∙ order_with ys z ∙ (λ i. order_of ys + digit i * factorial (short i)) ∙ turned in
    let first : order_of xs / factorial n ≡ z = ap (λ k. k / factorial n) order ∙ div-mul-add z (factorial n) (order_of ys) rest in
    let left : order_of xs % factorial n ≡ order_of ys = ap (λ k. k % factorial n) order ∙ mod-mul-add z (factorial n) (order_of ys) rest in
    let other : Other z ys = differ_parts.1 in
    let squeezed = read_back n (map (squeeze z) ys) (length-map ys (squeeze z) ∙ short) (squeezed_below n z ys within_parts.1 other within_parts.0) (squeezed_differ z ys other differ_parts.0) in
    let inner : positions_at n (order_of ys) ≡ map (squeeze z) ys = ap (positions_at n) (sym (order-squeeze z ys other)) ∙ squeezed in
    (λ i. map (spread (first i)) (positions_at n (left i)) ++ first i ∷ [])
    ∙ ap (λ ps. map (spread z) ps ++ z ∷ []) inner
    ∙ ap (λ ps. ps ++ z ∷ []) (respread z ys other)
    ∙ sym is

pub positions_back : (xs : List ℕ) → IsListing (length xs) xs → positions_at (length xs) (order_of xs) ≡ xs
positions_back xs listing = read_back (length xs) xs refl (below_in (length xs) xs listing) (differ_in (length xs) xs listing)

-- ---- lists that a function makes

map_same : (f g : ℕ → ℕ) (xs : List ℕ) → ((x : ℕ) → Contains xs x → f x ≡ g x) → map f xs ≡ map g xs
map_same f g [] same = refl
map_same f g (x ∷ xs) same = λ i. same x (in_head x xs) i ∷ map_same f g xs (λ y there. same y (in_tail x xs y there)) i

map-map : (f g : ℕ → ℕ) (xs : List ℕ) → map g (map f xs) ≡ map (λ x. g (f x)) xs
map-map f g [] = refl
map-map f g (x ∷ xs) = ap (λ ys. g (f x) ∷ ys) (map-map f g xs)

map_below : (g : ℕ → ℕ) (n : ℕ) (xs : List ℕ) → ((x : ℕ) → Contains xs x → g x < n) → Below n (map g xs)
map_below g n [] low = tt
map_below g n (x ∷ xs) low = (low x (in_head x xs), map_below g n xs (λ y there. low y (in_tail x xs y there)))

map_other : (g : ℕ → ℕ) (z : ℕ) (xs : List ℕ) → ((y : ℕ) → Contains xs y → z ≢ g y) → Other z (map g xs)
map_other g z [] other = tt
map_other g z (x ∷ xs) other = (other x (in_head x xs), map_other g z xs (λ y there. other y (in_tail x xs y there)))

-- a function that has one value at one number of a list only
map_differ : (g : ℕ → ℕ) (xs : List ℕ) → ((x y : ℕ) → Contains xs x → Contains xs y → g x ≡ g y → x ≡ y) → Differ xs → Differ (map g xs)
map_differ g [] one differ = tt
map_differ g (x ∷ xs) one differ = (
  map_other g (g x) xs (λ y there is. other_at x xs y differ.0 there (one x y (in_head x xs) (in_tail x xs y there) is)),
  map_differ g xs (λ y z y_in z_in is. one y z (in_tail x xs y y_in) (in_tail x xs z z_in) is) differ.1,
)

map_back : (f : ℕ → ℕ) (xs ys : List ℕ) → ((x y : ℕ) → Contains xs x → Contains ys y → f x ≡ f y → x ≡ y) → map f xs ≡ map f ys → xs ≡ ys
map_back f [] [] one same = refl
map_back f [] (y ∷ ys) one same = let e = ap length same in absurd (omega (arith, e))
map_back f (x ∷ xs) [] one same = let e = ap length same in absurd (omega (arith, e))
map_back f (x ∷ xs) (y ∷ ys) one same =
    let first : x ≡ y = one x y (in_head x xs) (in_head y ys) (ap (λ zs. get_or zs 0 0) same) in
    let rest : xs ≡ ys = map_back f xs ys (λ a b a_in b_in is. one a b (in_tail x xs a a_in) (in_tail y ys b b_in) is) (ap (drop 1) same) in
    λ i. first i ∷ rest i

-- ---- positions on a set

-- a number that is there counts once
pub below_there : (z : ℕ) (xs : List ℕ) → Differ xs → Contains xs z → below (suc z) xs ≡ suc (below z xs)
below_there z [] differ there = absurd (in_none z there)
below_there z (x ∷ xs) differ there =
    ⊎_elim
    (λ (is : x ≡ z). below_in_once z x xs is differ.0)
    (λ (ne : x ≢ z).
    let rest_in : Contains xs z = ⊎_elim (λ (is : x ≡ z). absurd (ne is)) (λ (h : Contains xs z). h) (in_cases x xs z there) in
    grind (arith, nat_tests, below_there z xs differ.1 rest_in, below-cons (suc z) x xs, below-cons z x xs))
    (cases_eq x z)

pub below_absent : (z : ℕ) (xs : List ℕ) → ¬ Contains xs z → below (suc z) xs ≡ below z xs
below_absent z xs out = below_out z xs (other_from_out z xs out)

pub below_grows : (x y : ℕ) (xs : List ℕ) → Differ xs → Contains xs x → x < y → below x xs < below y xs
below_grows x y xs differ there lt =
    omega (arith, below_there x xs differ there, below_more (suc x) y xs lt)

-- each number of a list has a position of its own
pub below_one : (x y : ℕ) (xs : List ℕ) → Differ xs → Contains xs x → Contains xs y → below x xs ≡ below y xs → x ≡ y
below_one x y xs differ x_in y_in same =
    ⊎_elim (λ (is : x ≡ y). is)
    (λ (h : (x < y) ⊎ (y < x)).
    ⊎_elim (λ (lt : x < y). let e = below_grows x y xs differ x_in lt in absurd (omega (arith, e, same))) (λ (lt : y < x). let e = below_grows y x xs differ y_in lt in absurd (omega (arith, e, same))) h)
    (cases_order x y)

below_keeps : (xs : List ℕ) → Differ xs → Keeps (λ x. below x xs) xs
below_keeps xs differ x y x_in y_in = (
  λ lt. below_grows x y xs differ x_in lt,
  λ lt. ⊎_elim (λ (less : x < y). less) (λ (le : y ≤ x). let e = below_more y x xs le in absurd (omega (arith, e, lt))) (cases_lt x y),
)

-- a number's position is below the length
pub below_within : (x : ℕ) (xs : List ℕ) → Differ xs → Contains xs x → below x xs < length xs
below_within x xs differ there =
    omega (arith, below_there x xs differ there, below-le-length (suc x) xs)

pub positions_of : (n : ℕ) (xs : List ℕ) → IsListing n xs → IsListing (length xs) (map (λ x. below x xs) xs) × (order_of (map (λ x. below x xs) xs) ≡ order_of xs)
positions_of n xs listing =
    let differ = differ_in n xs listing in (
      listing_from (length xs) (map (λ x. below x xs) xs) (map_below (λ x. below x xs) (length xs) xs (λ x there. below_within x xs differ there)) (map_differ (λ x. below x xs) xs (λ x y x_in y_in same. below_one x y xs differ x_in y_in same) differ),
      same_order (λ x. below x xs) xs (below_keeps xs differ),
    )

-- the positions that a list's order has are its own
pub positions_found : (n : ℕ) (xs : List ℕ) → IsListing n xs → positions_at (length xs) (order_of xs) ≡ map (λ x. below x xs) xs
positions_found n xs listing =
    let ps = map (λ x. below x xs) xs in
    let positions = positions_of n xs listing in
    let size : length ps ≡ length xs = length-map xs (λ x. below x xs) in
    let back = positions_back ps (subst (λ k. IsListing k ps) (sym size) positions.0) in
    (λ i. positions_at (sym size i) (sym positions.1 i)) ∙ back

-- the same sets have the same positions
pub same_below : (n : ℕ) (xs ys : List ℕ) → IsListing n xs → IsListing n ys → AreSame xs ys → (z : ℕ) → below z xs ≡ below z ys
same_below n xs ys listing other same zero = below-zero xs ∙ sym (below-zero ys)
same_below n xs ys listing other same (suc z) =
    let rest = same_below n xs ys listing other same z in
    ⊎_elim
    (λ (there : Contains xs z).
    let a = below_there z xs (differ_in n xs listing) there in
    let b = below_there z ys (differ_in n ys other) ((same z).0 there) in
    omega (arith, rest, a, b))
    (λ (out : ¬ Contains xs z).
    let a = below_absent z xs out in
    let b = below_absent z ys (λ there. out ((same z).1 there)) in
    omega (arith, rest, a, b))
    (in_or_out z xs)

pub same_length : (n : ℕ) (xs ys : List ℕ) → IsListing n xs → IsListing n ys → AreSame xs ys → length xs ≡ length ys
same_length n xs ys listing other same = sym (below-all n xs (below_in n xs listing)) ∙ same_below n xs ys listing other same n ∙ below-all n ys (below_in n ys other)

-- on a set an order is of one list only
pub one_placement : (n : ℕ) (xs ys : List ℕ) → IsListing n xs → IsListing n ys → AreSame xs ys → order_of xs ≡ order_of ys → xs ≡ ys
one_placement n xs ys listing other same order =
    let differ = differ_in n xs listing in
    let size = same_length n xs ys listing other same in
    let turned : map (λ y. below y ys) ys ≡ map (λ y. below y xs) ys = map_same (λ y. below y ys) (λ y. below y xs) ys (λ y there. sym (same_below n xs ys listing other same y)) in
    let all : map (λ x. below x xs) xs ≡ map (λ x. below x xs) ys = sym (positions_found n xs listing) ∙ (λ i. positions_at (size i) (order i)) ∙ positions_found n ys other ∙ turned in
    map_back (λ x. below x xs) xs ys (λ x y x_in y_in is. below_one x y xs differ x_in ((same y).1 y_in) is) all

-- ---- the tile at a position

-- the number of a list at which a function has a value
cell_at : (ℕ → ℕ) → List ℕ → ℕ → ℕ
cell_at f xs p = get_or xs (position_or_len (λ q. eqb q p) (map f xs)) 0

first_within : (p : ℕ → Bool) (xs : List ℕ) (k : ℕ) → k < length xs → p (get_or xs k 0) ≡ true → position_or_len p xs < length xs
first_within p xs k within passes =
    ⊎_elim (λ (lt : position_or_len p xs < length xs). lt)
    (λ (le : length xs ≤ position_or_len p xs). absurd (both_ways (p (get_or xs k 0)) (fails_before_first p xs k 0 (omega (arith, within, le))) passes))
    (cases_lt (position_or_len p xs) (length xs))

place_within : (f : ℕ → ℕ) (xs : List ℕ) (p : ℕ) → Contains (map f xs) p → position_or_len (λ q. eqb q p) (map f xs) < length xs
place_within f xs p there =
    let is : get_or (map f xs) there.0 0 ≡ p = get_or_default (map f xs) there.0 0 p there.1 ∙ there.2 in
    let within = first_within (λ q. eqb q p) (map f xs) there.0 there.1 (eq-eqb (get_or (map f xs) there.0 0) p is) in
    omega (arith, within, length-map xs f)

cell_in : (f : ℕ → ℕ) (xs : List ℕ) (p : ℕ) → Contains (map f xs) p → Contains xs (cell_at f xs p)
unfolding cell_at
cell_in f xs p there = Contains-get_or xs (position_or_len (λ q. eqb q p) (map f xs)) 0 (place_within f xs p there)

cell_is : (f : ℕ → ℕ) (xs : List ℕ) (p : ℕ) → Contains (map f xs) p → f (cell_at f xs p) ≡ p
unfolding cell_at
cell_is f xs p there =
    let k = position_or_len (λ q. eqb q p) (map f xs) in
    let within : k < length xs = place_within f xs p there in
    let passes = passes_at_first (λ q. eqb q p) (map f xs) 0 (omega (arith, within, length-map xs f)) in
    sym (get_or-map f xs k 0 0 within) ∙ eqb-true (get_or (map f xs) k 0) p passes

pub tile_is : (n x : ℕ) (xs : List ℕ) → IsListing n xs → Contains xs x → (tile_of (length xs) (order_of xs) (below x xs) < length xs) × (slice_index xs (tile_of (length xs) (order_of xs) (below x xs)) ≡ x)
unfolding cell_at
tile_is n x xs listing there =
    let f : ℕ → ℕ = λ y. below y xs in
    let p = below x xs in
    let place : tile_of (length xs) (order_of xs) p ≡ position_or_len (λ q. eqb q p) (map f xs) = ap (position_or_len (λ q. eqb q p)) (positions_found n xs listing) in
    let differ = differ_in n xs listing in
    let p_in : Contains (map f xs) p = in_map f xs x there in
    let within = place_within f xs p p_in in
    let is : cell_at f xs p ≡ x = below_one (cell_at f xs p) x xs differ (cell_in f xs p p_in) there (cell_is f xs p p_in) in
    (omega (arith, place, within), ap (λ k. get_or xs k 0) place ∙ is)

-- ---- a tile that moves

-- a cell after one is exchanged for another
abbrev put : ℕ → ℕ → ℕ → ℕ
put from to cell = cond (eqb cell from) to cell

put_from : (from to x : ℕ) → x ≡ from → put from to x ≡ to
put_from from to x is = grind (arith, nat_tests)

put_other : (from to x : ℕ) → x ≢ from → put from to x ≡ x
put_other from to x ne = grind (arith, nat_tests)

put_one : (from to x y : ℕ) → x ≢ to → y ≢ to → put from to x ≡ put from to y → x ≡ y
put_one from to x y a b same = grind (arith, nat_tests)

put_below : (n from to x : ℕ) → to < n → x < n → put from to x < n
put_below n from to x a b = grind (arith, nat_tests)

pub replaced_listing : (n from to : ℕ) (xs : List ℕ) → IsListing n xs → to < n → ¬ Contains xs to → IsListing n (replaced from to xs) × (length (replaced from to xs) ≡ length xs)
replaced_listing n from to xs listing low out =
    let other = other_from_out to xs out in (
      listing_from n (map (put from to) xs) (map_below (put from to) n xs (λ x there. put_below n from to x low (All-contains (λ cell. cell < n) xs x listing.in_range there))) (map_differ (put from to) xs (λ x y x_in y_in same. put_one from to x y (λ is. other_at to xs x other x_in (sym is)) (λ is. other_at to xs y other y_in (sym is)) same) (differ_in n xs listing)),
      length-map xs (put from to),
    )

put_none : (from to : ℕ) (xs : List ℕ) → Other from xs → map (put from to) xs ≡ xs
put_none from to [] other = refl
put_none from to (x ∷ xs) other = λ i. put_other from to x (λ is. other.0 (sym is)) i ∷ put_none from to xs other.1 i

-- how many are below, after one is exchanged for another
pub below_replaced : (z from to : ℕ) (xs : List ℕ) → Differ xs → Contains xs from → below z (replaced from to xs) + cond (ltb from z) 1 0 ≡ below z xs + cond (ltb to z) 1 0
below_replaced z from to [] differ there = absurd (in_none from there)
below_replaced z from to (x ∷ xs) differ there =
    let a = below-cons z (put from to x) (map (put from to) xs) in
    let b = below-cons z x xs in
    ⊎_elim
    (λ (is : x ≡ from).
    let rest : below z (map (put from to) xs) ≡ below z xs = ap (below z) (put_none from to xs (subst (λ k. Other k xs) is differ.0)) in
    grind (arith, nat_tests, a, b, rest))
    (λ (ne : x ≢ from).
    let rest_in : Contains xs from = ⊎_elim (λ (is : x ≡ from). absurd (ne is)) (λ (h : Contains xs from). h) (in_cases x xs from there) in
    grind (arith, nat_tests, a, b, below_replaced z from to xs differ.1 rest_in))
    (cases_eq x from)

-- The position of a cell after a tile moves. Before, bx tiles were below the cell, bf below where the tile leaves, and bt below where it
-- comes to. Now b are below the cell, and j below the tile.
moved_at : (x from to bx bf bt b j : ℕ) → x ≢ from → x ≢ to → from ≢ to → (from < x → bf < bx) → (x < from → bx < bf) → (to < x → bt ≤ bx) → (x < to → bx < bt) → (to < from → bt ≤ bf) → (from < to → bf < bt) → j + cond (ltb from to) 1 0 ≡ bt → b + cond (ltb from x) 1 0 ≡ bx + cond (ltb to x) 1 0 → b ≡ moved_position bf j bx
moved_at x from to bx bf bt b j a1 a2 a3 f1 f2 t1 t2 d1 d2 is_j is_b = grind (arith, nat_tests)

module _ (from to : ℕ) (xs : List ℕ) (differ : Differ xs) (there : Contains xs from) (out : ¬ Contains xs to) (x : ℕ) (x_in : Contains xs x) where
  moved_one : below (put from to x) (map (put from to) xs) ≡ moved_position (below from xs) (below to (map (put from to) xs)) (below x xs)
  moved_one =
      let ys = map (put from to) xs in
      let i = below from xs in
      let j = below to ys in
      ⊎_elim
      (λ (is : x ≡ from).
      let here : moved_position i j (below x xs) ≡ j = at_itself i j (below x xs) (ap (λ k. below k xs) is) in
      ap (λ k. below k ys) (put_from from to x is) ∙ sym here)
      (λ (ne : x ≢ from).
      let not_to : x ≢ to = λ is. out (subst (λ k. Contains xs k) is x_in) in
      let apart : from ≢ to = λ is. out (subst (λ k. Contains xs k) is there) in
      let is_j : j + cond (ltb from to) 1 0 ≡ below to xs = grind (arith, nat_tests, below_replaced to from to xs differ there) in
      let is_b : below x ys + cond (ltb from x) 1 0 ≡ below x xs + cond (ltb to x) 1 0 = below_replaced x from to xs differ there in
      ap (λ k. below k ys) (put_other from to x ne)
      ∙ moved_at x from to (below x xs) i (below to xs) (below x ys) j ne not_to apart (below_grows from x xs differ there) (below_grows x from xs differ x_in) (λ lt. below_more to x xs (omega (arith, lt))) (below_grows x to xs differ x_in) (λ lt. below_more to from xs (omega (arith, lt))) (below_grows from to xs differ there) is_j is_b)
      (cases_eq x from)
    where
      at_itself : (i j p : ℕ) → p ≡ i → moved_position i j p ≡ j
      at_itself i j p is = grind (arith, nat_tests)

pub moved_is : (n from to : ℕ) (xs : List ℕ) → IsListing n xs → Contains xs from → to < n → ¬ Contains xs to → order_of (replaced from to xs) ≡ moved_order (length xs) (order_of xs) (below from xs) (below to (replaced from to xs))
moved_is n from to xs listing there low out =
    let differ = differ_in n xs listing in
    let ys = map (put from to) xs in
    let i = below from xs in
    let j = below to ys in
    let after = replaced_listing n from to xs listing low out in
    let positions : order_of (map (λ y. below y ys) ys) ≡ order_of ys = (positions_of n ys after.0).1 in
    let each : map (λ x. below (put from to x) ys) xs ≡ map (λ x. moved_position i j (below x xs)) xs = map_same (λ x. below (put from to x) ys) (λ x. moved_position i j (below x xs)) xs (λ x x_in. moved_one from to xs differ there out x x_in) in
    sym positions
    ∙ ap order_of (map-map (put from to) (λ y. below y ys) xs)
    ∙ ap order_of each
    ∙ ap order_of (sym (map-map (λ x. below x xs) (moved_position i j) xs))
    ∙ ap (λ ps. order_of (map (moved_position i j) ps)) (sym (positions_found n xs listing))

-- ---- a list of each order

-- a list of all numbers below n has each of them
full_has : (n p : ℕ) (xs : List ℕ) → Below n xs → Differ xs → length xs ≡ n → p < n → Contains xs p
full_has n p xs within differ size lt =
    ⊎_elim (λ (there : Contains xs p). there)
    (λ (out : ¬ Contains xs p).
    let same = below_absent p xs out in
    let a = below_full n p xs within differ size (omega (arith, lt)) in
    let b = below_full n (suc p) xs within differ size lt in
    absurd (omega (arith, same, a, b)))
    (in_or_out p xs)

module _ (n : ℕ) (cells : List ℕ) (order : ℕ) (listing : IsListing n cells) (low : order < factorial (length cells)) where
  abbrev place : ℕ → ℕ
  place c = below c cells

  differ : Differ cells
  differ = differ_in n cells listing

  ps : List ℕ
  ps = positions_at (length cells) order

  listed : List ℕ
  listed = map (cell_at place cells) ps

  has_place : (p : ℕ) → p < length cells → Contains (map place cells) p
  has_place p lt =
      let positions = (positions_of n cells listing).0 in
      full_has (length cells) p (map place cells) (below_in (length cells) (map place cells) positions) (differ_in (length cells) (map place cells) positions) (length-map cells place) lt

  ps_below : Below (length cells) ps
  unfolding ps
  ps_below = positions_below (length cells) order low

  ps_differ : Differ ps
  unfolding ps
  ps_differ = positions_differ (length cells) order

  length-ps : length ps ≡ length cells
  unfolding ps
  length-ps = length-positions (length cells) order

  at_place : (p : ℕ) → Contains ps p → Contains (map place cells) p
  at_place p there = has_place p (All-contains (λ k. k < length cells) ps p (listing_from (length cells) ps ps_below ps_differ).in_range there)

  goes_up : (p q : ℕ) → Contains ps p → Contains ps q → p < q → cell_at place cells p < cell_at place cells q
  goes_up p q p_in q_in lt =
      ⊎_elim (λ (less : cell_at place cells p < cell_at place cells q). less)
      (λ (le : cell_at place cells q ≤ cell_at place cells p).
      let more = below_more (cell_at place cells q) (cell_at place cells p) cells le in
      let a = cell_is place cells p (at_place p p_in) in
      let b = cell_is place cells q (at_place q q_in) in
      absurd (omega (arith, more, a, b, lt)))
      (cases_lt (cell_at place cells p) (cell_at place cells q))

  goes_down : (p q : ℕ) → Contains ps p → Contains ps q → cell_at place cells p < cell_at place cells q → p < q
  goes_down p q p_in q_in lt =
      let more = below_grows (cell_at place cells p) (cell_at place cells q) cells differ (cell_in place cells p (at_place p p_in)) lt in
      let a = cell_is place cells p (at_place p p_in) in
      let b = cell_is place cells q (at_place q q_in) in
      omega (arith, more, a, b)

  order_of-listed : order_of listed ≡ order
  unfolding listed ps
  order_of-listed = same_order (cell_at place cells) ps (λ p q p_in q_in. (λ lt. goes_up p q p_in q_in lt, λ lt. goes_down p q p_in q_in lt)) ∙ order_of-positions (length cells) order low

  listed_in : (c : ℕ) → Contains listed c → Contains cells c
  unfolding listed
  listed_in c there =
      let from = from_map (cell_at place cells) ps c there in
      subst (λ k. Contains cells k) from.2 (cell_in place cells from.0 (at_place from.0 from.1))

  in_listed : (c : ℕ) → Contains cells c → Contains listed c
  unfolding listed
  in_listed c there =
      let p_in : Contains ps (place c) = full_has (length cells) (place c) ps ps_below ps_differ length-ps (below_within c cells differ there) in
      let is : cell_at place cells (place c) ≡ c = below_one (cell_at place cells (place c)) c cells differ (cell_in place cells (place c) (at_place (place c) p_in)) there (cell_is place cells (place c) (at_place (place c) p_in)) in
      subst (λ k. Contains listed k) is (in_map (cell_at place cells) ps (place c) p_in)

  listed_listing : IsListing n listed
  unfolding listed
  listed_listing =
      listing_from n listed
      (map_below (cell_at place cells) n ps (λ p there. All-contains (λ cell. cell < n) cells (cell_at place cells p) listing.in_range (cell_in place cells p (at_place p there))))
      (map_differ (cell_at place cells) ps (λ p q p_in q_in same. sym (cell_is place cells p (at_place p p_in)) ∙ ap place same ∙ cell_is place cells q (at_place q q_in)) ps_differ)

  length-listed : length listed ≡ length cells
  unfolding listed
  length-listed = length-map ps (cell_at place cells) ∙ length-ps

  pub placed : (xs : List ℕ) × IsListing n xs × AreSame xs cells × (length xs ≡ length cells) × (order_of xs ≡ order)
  placed = (listed, listed_listing, λ c. (listed_in c, in_listed c), length-listed, order_of-listed)
