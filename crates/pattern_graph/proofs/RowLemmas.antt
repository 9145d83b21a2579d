-- Values of views by rank, row by row, and of placements by place.
use Rattle.std.proofs.Common.{◌≡◌, ◌≢◌, ◌⊎◌, ℕ, zero, suc, ◌+◌, ◌-◌, ◌*◌, ◌<◌, ◌≤◌, Bool, true, false, cond, ltb, List, [], ◌∷◌, ◌++◌, length, get_or, set, replicate, refl, sym, ap, ◌∙◌, subst, ⊎_elim, arith, ◌^◌, take, drop, map}
use Rattle.std.specs.Prelude.{Contains, slice_index}
use Rattle.std.proofs.Math.Nat.{mul_assoc, mul-le-mul_right, mul_comm}
use Rattle.std.proofs.lemmas.Bool.{cases_lt, cases_eq, false≢true}
use Rattle.std.proofs.lemmas.Bool.Decides.{nat_tests}
use Rattle.std.proofs.lemmas.List.{length-append, length-replicate, get_or_append_left, get_or_push, get_or-replicate, get_or_past, get_or-set_same, get_or-set_other, length-set, length-take-le, take_at, take_more_set, get_or_read}
use Rattle.std.proofs.lemmas.List.Elements.{recursion_from_All, Contains-get_or, Contains-push, Contains-push_cases, Contains-append_left}
use Rattle.std.proofs.lemmas.Nat.{mul-add-lt, same_from_place, mul-le}
use Rattle.std.specs.List.{range_with_len}
use Rattle.std.proofs.lemmas.List.FromFn.{get_or-map-range_with_len}
use Rattle.board.specs.Shapes.{cell_count, ShapeModel, IsShape}
use Rattle.pattern_index.specs.Ranks.{ways, IsListing, rank_after, rank_of, list_at}
use Rattle.pattern_index.proofs.RankLemmas.{Differ, Below, Other, below_in, differ_in, listing_from, rank_differs, smaller-cons, rank_below, length-list_at, list_at_below, list_at_differ, rank_of-list_at}
use Rattle.pattern_index.proofs.PlaceLemmas.{ways-last, listing_tail, place_listing, place_below as view_place_below}
use Rattle.pattern_index.proofs.GroupLemmas.{cells_high, groups_small}
use Rattle.pattern_index.specs.Laws.{factorial}
use Rattle.pattern_index.specs.Views.{ViewModel, IsView}
use Rattle.pattern_index.specs.Groups.{GroupModel, size_of, folded_size_of, rank_in, place_in, IsGroup}
use Rattle.pattern_index.specs.declared.group.TheConstants.{MAX_SIZE}
use Rattle.pattern_index.proofs.SightLemmas.{sight_below, listing as view_listing, listing}
use Rattle.pattern_graph.specs.Orders.{below, order_of}
use Rattle.pattern_graph.specs.Sets.{AreMarksOf, choose, set_place, set_at, AreSame}
use Rattle.pattern_graph.specs.Placements.{IsRowAppended, AreLarger, node_value, placement_count, placement_in}
use Rattle.pattern_graph.proofs.OrderLemmas.{below-all, below_low, below_out, below_step, split_last, order_below, below_there, in_or_out, order_with, below-le-length, below-zero}
use Rattle.pattern_graph.specs.Regions.{IsRegions, IsPlaced, IsFree, region_in}
use Rattle.pattern_graph.specs.declared.regions.Regions.{Regions}
use Rattle.pattern_graph.proofs.SetLemmas.{choose_small, place_below, same_place, set_is, one_set, choose_ways}
use Rattle.pattern_graph.specs.Graphs.{node_in, node_count}
use Rattle.pattern_graph.proofs.OrderTables.{factorial_small}
use Rattle.pattern_graph.proofs.RegionLemmas.{region_within}

-- ---- the rank of a list with one cell more

push_step : (d w w' a r f f' e : ℕ) → w' ≡ w * f → f' ≡ f → r ≡ a * f + e → d * w' + r ≡ (d * w + a) * f' + e
push_step d w w' a r f f' e ways_are same rest =
    let p : d * w' ≡ d * (w * f) = ap (λ k. d * k) ways_are in
    let q : d * w * f ≡ d * (w * f) = mul_assoc d w f in
    let s : (d * w + a) * f ≡ d * w * f + a * f = omega arith in
    let t : (d * w + a) * f' ≡ (d * w + a) * f = ap (λ k. (d * w + a) * k) same in
    omega (arith, p, q, s, t, rest)

rank_after_push : (m : ℕ) (seen xs : List ℕ) (z : ℕ) → length xs < m → rank_after m seen (xs ++ z ∷ []) ≡ rank_after m seen xs * (m - length xs) + (z - (below z xs + below z seen))
unfolding rank_after ways
rank_after_push m seen [] z lt = omega arith
rank_after_push m seen (x ∷ xs) z lt =
    let rest = rank_after_push (m - 1) (x ∷ seen) xs z (omega arith) in
    let longer : length (xs ++ z ∷ []) ≡ suc (length xs) = omega (arith, length-append xs (z ∷ [])) in
    let w : ways (m - 1) (length (xs ++ z ∷ [])) ≡ ways (m - 1) (length xs) * (m - 1 - length xs) = ap (ways (m - 1)) longer ∙ ways-last (m - 1) (length xs) (omega arith) in
    let left : m - suc (length xs) ≡ m - 1 - length xs = omega arith in
    let a = smaller-cons z x xs in
    let b = smaller-cons z x seen in
    let digit : z - (below z xs + below z (x ∷ seen)) ≡ z - (below z (x ∷ xs) + below z seen) = omega (arith, a, b) in
    push_step (x - below x seen) (ways (m - 1) (length xs)) (ways (m - 1) (length (xs ++ z ∷ []))) (rank_after (m - 1) (x ∷ seen) xs) (rank_after (m - 1) (x ∷ seen) (xs ++ z ∷ [])) (m - 1 - length xs) (m - suc (length xs)) (z - (below z xs + below z (x ∷ seen))) w left rest
    ∙ ap (λ e. ((x - below x seen) * ways (m - 1) (length xs) + rank_after (m - 1) (x ∷ seen) xs) * (m - suc (length xs)) + e) digit

-- the last cell counts how many free cells are below it
pub rank_push : (n : ℕ) (xs : List ℕ) (z : ℕ) → length xs < n → rank_of n (xs ++ z ∷ []) ≡ rank_of n xs * (n - length xs) + (z - below z xs)
unfolding rank_of
rank_push n xs z lt =
    let none : z - (below z xs + below z []) ≡ z - below z xs = omega arith in
    rank_after_push n [] xs z lt ∙ ap (λ e. rank_after n [] xs * (n - length xs) + e) none

-- ---- how many cells are below one

pub other_from : (c : ℕ) (xs : List ℕ) → ¬ Contains xs c → Other c xs
other_from c xs free = recursion_from_All (λ y. c ≢ y) xs (λ k d k_in e. free (subst (λ y. Contains xs y) (sym e) (Contains-get_or xs k d k_in)))

pub below_next_out : (c : ℕ) (xs : List ℕ) → ¬ Contains xs c → below (suc c) xs ≡ below c xs
below_next_out c xs free = below_out c xs (other_from c xs free)

contains_tail : (c x : ℕ) (xs : List ℕ) → Contains (x ∷ xs) c → x ≢ c → Contains xs c
contains_tail c x xs (zero, lt, is) ne = absurd (ne is)
contains_tail c x xs (suc k, lt, is) ne = (k, omega arith, is)

pub below_next_in : (c : ℕ) (xs : List ℕ) → Differ xs → Contains xs c → below (suc c) xs ≡ suc (below c xs)
below_next_in c [] differ has = let none = has.1 in absurd (omega arith)
below_next_in c (x ∷ xs) differ has =
    ⊎_elim
    (λ (e : x ≡ c).
    let rest = below_out c xs (subst (λ k. Other k xs) e differ.0) in
    let one : cond {A = ℕ} (ltb x (suc c)) 1 0 ≡ 1 = next_same x c e in
    let none : cond {A = ℕ} (ltb x c) 1 0 ≡ 0 = now_same x c e in
    omega (arith, smaller-cons (suc c) x xs, smaller-cons c x xs, rest, one, none))
    (λ (ne : x ≢ c).
    let rest = below_next_in c xs differ.1 (contains_tail c x xs has ne) in
    let same : cond {A = ℕ} (ltb x (suc c)) 1 0 ≡ cond {A = ℕ} (ltb x c) 1 0 = next_other x c ne in
    omega (arith, smaller-cons (suc c) x xs, smaller-cons c x xs, rest, same))
    (cases_eq x c)
  where
    next_same : (y d : ℕ) → y ≡ d → cond {A = ℕ} (ltb y (suc d)) 1 0 ≡ 1
    next_same y d e = grind (arith, nat_tests)

    now_same : (y d : ℕ) → y ≡ d → cond {A = ℕ} (ltb y d) 1 0 ≡ 0
    now_same y d e = grind (arith, nat_tests)

    next_other : (y d : ℕ) → y ≢ d → cond {A = ℕ} (ltb y (suc d)) 1 0 ≡ cond {A = ℕ} (ltb y d) 1 0
    next_other y d ne = grind (arith, nat_tests)

-- at most as many cells more are below a greater one
below_gap : (j c : ℕ) (xs : List ℕ) → Differ xs → below (j + c) xs ≤ j + below c xs
below_gap zero c xs differ = let e : 0 + c ≡ c = omega arith in let f = ap (λ k. below k xs) e in omega (arith, f)
below_gap (suc j) c xs differ =
    let rest = below_gap j c xs differ in
    let e : suc j + c ≡ suc (j + c) = omega arith in
    let f = ap (λ k. below k xs) e in
    let s = below_step (j + c) xs differ in
    omega (arith, rest, f, s)

-- the greater of two free cells has more free cells below it
pub free_less : (z c : ℕ) (xs : List ℕ) → Differ xs → z < c → ¬ Contains xs z → z - below z xs < c - below c xs
free_less z c xs differ lt free =
    let g = below_gap (c - suc z) (suc z) xs differ in
    let e : (c - suc z) + suc z ≡ c = omega arith in
    let f = ap (λ k. below k xs) e in
    let out = below_next_out z xs free in
    let most = below_low z xs differ in
    omega (arith, g, f, out, most, lt)

-- ---- a row

pub row_none : (xs : List ℕ) (f : ℕ → ℕ) (old : List ℕ) → IsRowAppended xs f old 0 old
row_none xs f old = record {
  size = omega arith;
  kept = λ i i_in. refl;
  values = λ z lt free. absurd (omega arith);
}

-- a cell of the list has no value
pub row_pass : (xs : List ℕ) (f : ℕ → ℕ) (old new : List ℕ) (c : ℕ) → Differ xs → Contains xs c → IsRowAppended xs f old c new → IsRowAppended xs f old (c + 1) new
row_pass xs f old new c differ has row = record {
  size = let s = row.size in let b = below_next_in c xs differ has in let m = below_low c xs differ in let e = ap (λ k. below k xs) (plus_one c) in omega (arith, s, b, m, e);
  kept = row.kept;
  values = λ z lt free.
      row.values z
      (⊎_elim (λ (less : z < c). less) (λ (more : c ≤ z). let e : c ≡ z = omega arith in absurd (free (subst (λ k. Contains xs k) e has))) (cases_lt z c)) free;
}
  where
    plus_one : (k : ℕ) → k + 1 ≡ suc k
    plus_one k = omega arith

-- a free cell's value is pushed
pub row_push : (xs : List ℕ) (f : ℕ → ℕ) (old new : List ℕ) (c y : ℕ) → Differ xs → ¬ Contains xs c → y ≡ f c → IsRowAppended xs f old c new → IsRowAppended xs f old (c + 1) (new ++ y ∷ [])
row_push xs f old new c y differ free is row = record {
  size = let s = row.size in let b = below_next_out c xs free in let m = below_low c xs differ in let e = ap (λ k. below k xs) (plus_one c) in let l = length-append new (y ∷ []) in omega (arith, s, b, m, e, l);
  kept = λ i i_in. get_or_append_left new (y ∷ []) 0 i (let s = row.size in omega (arith, s, i_in)) ∙ row.kept i i_in;
  values = λ z lt out. ⊎_elim
      (λ (less : z < c).
      get_or_append_left new (y ∷ []) 0 (length old + (z - below z xs)) (let s = row.size in let l = free_less z c xs differ less out in omega (arith, s, l)) ∙ row.values z less out)
      (λ (more : c ≤ z).
      let e : c ≡ z = omega arith in
      let at : length new ≡ length old + (z - below z xs) = row.size ∙ ap (λ k. length old + (k - below k xs)) e in
      get_or_push new y 0 (length old + (z - below z xs)) at ∙ is ∙ ap f e)
      (cases_lt z c);
}
  where
    plus_one : (k : ℕ) → k + 1 ≡ suc k
    plus_one k = omega arith

-- ---- all rows

-- all lists with the cell of a last tile, of rows before this one, have their values
pub record AreRows (n k : ℕ) (f : List ℕ → ℕ) (row : ℕ) (items : List ℕ) : Type 0 where
  pub size : length items ≡ row * (n - k)
  pub values : (ys : List ℕ) → IsListing n ys → length ys ≡ suc k → rank_of n ys < length items → slice_index items (rank_of n ys) ≡ f ys

pub rows_none : (n k : ℕ) (f : List ℕ → ℕ) (items : List ℕ) → items ≡ [] → AreRows n k f 0 items
rows_none n k f items none = record {
  size = let l : length items ≡ 0 = ap length none in omega (arith, l);
  values = λ ys is long lt. let l : length items ≡ 0 = ap length none in absurd (omega (arith, l, lt));
}

front_below : (n : ℕ) (xs : List ℕ) (z : ℕ) → Below n (xs ++ z ∷ []) → Below n xs × (z < n)
front_below n [] z low = (tt, low.0)
front_below n (x ∷ xs) z low = let rest = front_below n xs z low.1 in ((low.0, rest.0), rest.1)

front_other : (x : ℕ) (xs : List ℕ) (z : ℕ) → Other x (xs ++ z ∷ []) → Other x xs × (x ≢ z)
front_other x [] z other = (tt, other.0)
front_other x (y ∷ ys) z other = let rest = front_other x ys z other.1 in ((other.0, rest.0), rest.1)

front_differ : (xs : List ℕ) (z : ℕ) → Differ (xs ++ z ∷ []) → Differ xs × (¬ Contains xs z)
front_differ [] z differ = (tt, λ has. let none = has.1 in omega arith)
front_differ (x ∷ xs) z differ =
    let rest = front_differ xs z differ.1 in
    let here = front_other x xs z differ.0 in
    ((here.0, rest.0), λ has. rest.1 (contains_tail z x xs has here.1))

-- the parts of a listing with a last cell
pub record IsFront (n : ℕ) (xs : List ℕ) (z : ℕ) : Type 0 where
  pub listing : IsListing n xs
  pub low : z < n
  pub free : ¬ Contains xs z

pub front_is : (n : ℕ) (xs : List ℕ) (z : ℕ) → IsListing n (xs ++ z ∷ []) → IsFront n xs z
front_is n xs z is =
    let low = front_below n xs z (below_in n (xs ++ z ∷ []) is) in
    let differ = front_differ xs z (differ_in n (xs ++ z ∷ []) is) in
    record { listing = listing_from n xs low.0 differ.0; low = low.1; free = differ.1 }

push_below : (n : ℕ) (xs : List ℕ) (z : ℕ) → Below n xs → z < n → Below n (xs ++ z ∷ [])
push_below n [] z low lt = (lt, tt)
push_below n (x ∷ xs) z low lt = (low.0, push_below n xs z low.1 lt)

push_other : (x : ℕ) (xs : List ℕ) (z : ℕ) → Other x xs → x ≢ z → Other x (xs ++ z ∷ [])
push_other x [] z other ne = (ne, tt)
push_other x (y ∷ ys) z other ne = (other.0, push_other x ys z other.1 ne)

contains_behind : (c x : ℕ) (xs : List ℕ) → Contains xs c → Contains (x ∷ xs) c
contains_behind c x xs has = (suc has.0, (let lt = has.1 in omega arith), has.2)

push_differ : (xs : List ℕ) (z : ℕ) → Differ xs → ¬ Contains xs z → Differ (xs ++ z ∷ [])
push_differ [] z differ free = (tt, tt)
push_differ (x ∷ xs) z differ free =
    (push_other x xs z differ.0 (λ e. free (0, omega arith, e)), push_differ xs z differ.1 (λ has. free (contains_behind z x xs has)))

-- a free cell more makes a listing
pub listing_push : (n : ℕ) (xs : List ℕ) (z : ℕ) → IsListing n xs → z < n → ¬ Contains xs z → IsListing n (xs ++ z ∷ [])
listing_push n xs z is lt free =
    listing_from n (xs ++ z ∷ []) (push_below n xs z (below_in n xs is) lt) (push_differ xs z (differ_in n xs is) free)

-- a row more
pub rows_more :
    (n k : ℕ) (f : List ℕ → ℕ) (row : ℕ) (xs old new : List ℕ)
    → k < n
    → IsListing n xs
    → length xs ≡ k
    → rank_of n xs ≡ row
    → AreRows n k f row old
    → IsRowAppended xs (λ z. f (xs ++ z ∷ [])) old n new
    → AreRows n k f (row + 1) new
rows_more n k f row xs old new room is long rank rows more = record {
  size = size_is;
  values = λ ys listing longer lt. ⊎_elim
      (λ (before : rank_of n ys < length old). more.kept (rank_of n ys) before ∙ rows.values ys listing longer before)
      (λ (after : length old ≤ rank_of n ys).
      let last = split_last k ys longer in
      subst (λ (ws : List ℕ). slice_index new (rank_of n ws) ≡ f ws) (sym last.2)
      (here last.0 last.1 (subst (IsListing n) last.2 listing) (subst (λ (ws : List ℕ). length ws ≡ suc k) last.2 longer)
      (subst (λ (ws : List ℕ). length old ≤ rank_of n ws) last.2 after) (subst (λ (ws : List ℕ). rank_of n ws < length new) last.2 lt)))
      (cases_lt (rank_of n ys) (length old));
}
  where
    size_is : length new ≡ (row + 1) * (n - k)
    size_is =
        let all = below-all n xs (below_in n xs is) in
        let s = more.size in
        let o = rows.size in
        let d : (row + 1) * (n - k) ≡ row * (n - k) + (n - k) = omega arith in
        omega (arith, all, s, o, d, long)

    place_is : (a b r w : ℕ) → b < w → r * w ≤ a * w + b → a * w + b < (r + 1) * w → r ≡ a
    place_is a b r w low under over =
        ⊎_elim
        (λ (less : a < r). let m : suc a * w ≤ r * w = mul-le-mul_right w less in let d : suc a * w ≡ a * w + w = omega arith in absurd (omega (arith, m, d, under, low)))
        (λ (more : r ≤ a).
        ⊎_elim
        (λ (less : r < a). let m : (r + 1) * w ≤ a * w = mul-le-mul_right w (omega arith) in absurd (omega (arith, m, over)))
        (λ (most : a ≤ r). omega arith)
        (cases_lt r a))
        (cases_lt a r)

    here : (front : List ℕ) (z : ℕ) → IsListing n (front ++ z ∷ []) → length (front ++ z ∷ []) ≡ suc k → length old ≤ rank_of n (front ++ z ∷ []) → rank_of n (front ++ z ∷ []) < length new → slice_index new (rank_of n (front ++ z ∷ [])) ≡ f (front ++ z ∷ [])
    here front z listing longer after before =
        let parts = front_is n front z listing in
        let l = length-append front (z ∷ []) in
        let short : length front ≡ k = omega (arith, l, longer) in
        let differ = differ_in n front parts.listing in
        let all = below-all n front (below_in n front parts.listing) in
        let digit : z - below z front < n - k = (let m = free_less z n front differ parts.low parts.free in omega (arith, m, all, short)) in
        let left : n - length front ≡ n - k = omega (arith, short) in
        let e : rank_of n (front ++ z ∷ []) ≡ rank_of n front * (n - k) + (z - below z front) = rank_push n front z (omega (arith, short, room)) ∙ ap (λ w. rank_of n front * w + (z - below z front)) left in
        let size = rows.size in
        let whole = size_is in
        let same : row ≡ rank_of n front = place_is (rank_of n front) (z - below z front) row (n - k) digit (omega (arith, size, after, e)) (omega (arith, whole, before, e)) in
        let fronts : xs ≡ front = rank_differs n xs front (below_in n xs is) (differ_in n xs is) (below_in n front parts.listing) differ (omega (arith, long, short)) (rank ∙ same) in
        let at : rank_of n (front ++ z ∷ []) ≡ length old + (z - below z xs) = e ∙ ap (λ w. w * (n - k) + (z - below z front)) (sym same) ∙ ap (λ w. w + (z - below z front)) (sym size) ∙ ap (λ ws. length old + (z - below z ws)) (sym fronts) in
        let free : ¬ Contains xs z = subst (λ (ws : List ℕ). ¬ Contains ws z) (sym fronts) parts.free in
        ap (slice_index new) at ∙ more.values z parts.low free ∙ ap (λ ws. f (ws ++ z ∷ [])) fronts

-- ---- marks

pub marks_none : AreMarksOf [] (replicate 25 false)
marks_none number = (λ marked. absurd (false≢true (sym (unmarked (cases_lt number 25)) ∙ marked)), λ has. (let none = has.1 in absurd (omega (arith, none))))
  where
    unmarked : (number < 25) ⊎ (25 ≤ number) → get_or (replicate 25 false) number false ≡ false
    unmarked h = ⊎_elim (λ (low : number < 25). get_or-replicate 25 number false false low) (λ (high : 25 ≤ number). get_or_past (replicate 25 false) number false (omega (arith, high, length-replicate {A = Bool} 25 false))) h

-- one cell more is marked
pub marks_more : (xs : List ℕ) (marks : List Bool) (cell : ℕ) → cell < length marks → AreMarksOf xs marks → AreMarksOf (xs ++ cell ∷ []) (set marks cell true)
marks_more xs marks cell inside are number =
    ⊎_elim
    (λ (e : number ≡ cell).
    let here : get_or (set marks cell true) number false ≡ true = ap (λ k. get_or (set marks cell true) k false) e ∙ get_or-set_same marks cell true false inside in
    (λ marked. subst (λ k. Contains (xs ++ cell ∷ []) k) (sym e) (Contains-push xs cell), λ has. here))
    (λ (ne : number ≢ cell).
    let same : get_or (set marks cell true) number false ≡ get_or marks number false = get_or-set_other marks cell number true false ne in (
      λ marked. Contains-append_left xs (cell ∷ []) number ((are number).0 (sym same ∙ marked)),
      λ has. same ∙ (are number).1 (⊎_elim (λ (left : Contains xs number). left) (λ (is : cell ≡ number). absurd (ne (sym is))) (Contains-push_cases xs cell number has)),
    ))
    (cases_eq number cell)

-- ---- where the values of a row's views are found

-- the sets before this one, and of this one the cells before this one, have their entries
pub record AreFound (r : Regions) (set cell : ℕ) (larger : List ℕ) : Type 0 where
  pub size : length larger ≡ set * cell_count r.shape + cell
  pub places : (xs : List ℕ) (z : ℕ) → IsListing (cell_count r.shape) xs → length xs ≡ r.count - 1 → z < cell_count r.shape → ¬ Contains xs z
      → set_place xs * cell_count r.shape + z < length larger
      → slice_index larger (set_place xs * cell_count r.shape + z) ≡ set_place (xs ++ z ∷ [])

pub found_none : (r : Regions) (larger : List ℕ) → larger ≡ [] → AreFound r 0 0 larger
found_none r larger none = record {
  size = let l : length larger ≡ 0 = ap length none in omega (arith, l);
  places = λ xs z is long low free lt. let l : length larger ≡ 0 = ap length none in absurd (omega (arith, l, lt));
}

pub found_next : (r : Regions) (set : ℕ) (larger : List ℕ) → AreFound r set (cell_count r.shape) larger → AreFound r (set + 1) 0 larger
found_next r set larger found = record {
  size = let s = found.size in let e : (set + 1) * cell_count r.shape ≡ set * cell_count r.shape + cell_count r.shape = omega arith in omega (arith, s, e);
  places = found.places;
}

same_with : (xs ys : List ℕ) (z : ℕ) → AreSame xs ys → AreSame (xs ++ z ∷ []) (ys ++ z ∷ [])
same_with xs ys z same c = (
  λ has. ⊎_elim (λ (left : Contains xs c). Contains-append_left ys (z ∷ []) c ((same c).0 left)) (λ (e : z ≡ c). subst (λ k. Contains (ys ++ z ∷ []) k) e (Contains-push ys z)) (Contains-push_cases xs z c has),
  λ has. ⊎_elim (λ (left : Contains ys c). Contains-append_left xs (z ∷ []) c ((same c).1 left)) (λ (e : z ≡ c). subst (λ k. Contains (xs ++ z ∷ []) k) e (Contains-push xs z)) (Contains-push_cases ys z c has),
)

-- an entry more
pub found_more :
    (r : Regions) (set cell place : ℕ) (larger : List ℕ)
    → set < choose (cell_count r.shape) (r.count - 1)
    → cell < cell_count r.shape
    → (¬ Contains (set_at (cell_count r.shape) (r.count - 1) set) cell → place ≡ set_place (set_at (cell_count r.shape) (r.count - 1) set ++ cell ∷ []))
    → AreFound r set cell larger
    → AreFound r set (cell + 1) (larger ++ place ∷ [])
found_more r set cell place larger low inside entry found = record {
  size = let s = found.size in let l = length-append larger (place ∷ []) in omega (arith, s, l);
  places = λ xs z is long below free lt. ⊎_elim
      (λ (before : set_place xs * cell_count r.shape + z < length larger).
      get_or_append_left larger (place ∷ []) 0 (set_place xs * cell_count r.shape + z) before ∙ found.places xs z is long below free before)
      (λ (after : length larger ≤ set_place xs * cell_count r.shape + z).
      let at : length larger ≡ set_place xs * cell_count r.shape + z = (let l = length-append larger (place ∷ []) in omega (arith, l, lt, after)) in
      let parts = same_from_place (set_place xs) z set cell (cell_count r.shape) below inside (sym at ∙ found.size) in
      let n = cell_count r.shape in
      let ys = set_at n (r.count - 1) set in
      let made = set_is n (r.count - 1) set low in
      let same : AreSame xs ys = subst (λ k. AreSame xs (set_at n k set)) long (subst (λ k. AreSame xs (set_at n (length xs) k)) parts.0 (one_set n xs is)) in
      let out : ¬ Contains ys cell = λ has. free (subst (λ k. Contains xs k) (sym parts.1) ((same cell).1 has)) in
      let out_z : ¬ Contains ys z = λ has. free ((same z).1 has) in
      let whole : set_place (xs ++ z ∷ []) ≡ set_place (ys ++ z ∷ []) = same_place n (xs ++ z ∷ []) (ys ++ z ∷ []) (listing_push n xs z is below free) (listing_push n ys z made.0 below out_z) (same_with xs ys z same) in
      get_or_push larger place 0 (set_place xs * n + z) at ∙ entry out ∙ ap (λ k. set_place (ys ++ k ∷ [])) (sym parts.1) ∙ sym whole)
      (cases_lt (set_place xs * cell_count r.shape + z) (length larger));
}

pub found_all : (r : Regions) (set : ℕ) (larger : List ℕ) → set ≡ choose (cell_count r.shape) (r.count - 1) → AreFound r set 0 larger → AreLarger r larger
found_all r set larger all found = record {
  size = let s = found.size in let e = ap (λ k. k * cell_count r.shape) all in omega (arith, s, e);
  places = λ xs z is long low free. found.places xs z is long low free (
      let s = found.size in
      let e = ap (λ k. k * cell_count r.shape) all in
      let b : set_place xs < choose (cell_count r.shape) (r.count - 1) = subst (λ k. set_place xs < choose (cell_count r.shape) k) long (place_below (cell_count r.shape) xs is) in
      let m = mul-add-lt (set_place xs) (cell_count r.shape) z (choose (cell_count r.shape) (r.count - 1)) b low in
      let c : cell_count r.shape * choose (cell_count r.shape) (r.count - 1) ≡ choose (cell_count r.shape) (r.count - 1) * cell_count r.shape = mul_comm (cell_count r.shape) (choose (cell_count r.shape) (r.count - 1)) in
      omega (arith, s, e, m, c));
}

-- ---- one set

pub listing_wide : (n m : ℕ) (xs : List ℕ) → n ≤ m → IsListing n xs → IsListing m xs
listing_wide n m xs le is = record { in_range = λ k d k_in. (let low = is.in_range k d k_in in omega (arith, low, le)); different = is.different }

-- an array of nine cells whose first ones are a set, with a cell more behind these
module _ (r : Regions) (cells : List ℕ) (cell : ℕ) (regions : IsRegions r.shape r.count r) (all : length cells ≡ 9) (listing : IsListing (cell_count r.shape) (take (r.count - 1) cells)) (inside : cell < cell_count r.shape) (free : ¬ Contains (take (r.count - 1) cells) cell) where
  with_cell : take (r.count - 1 + 1) (set cells (r.count - 1) cell) ≡ take (r.count - 1) cells ++ cell ∷ []
  with_cell = take_more_set cells (r.count - 1) cell (let short = regions.short in let some = regions.some in omega (arith, all, short, some))

  with_listing : IsListing (cell_count r.shape) (take (r.count - 1 + 1) (set cells (r.count - 1) cell))
  with_listing = subst (IsListing (cell_count r.shape)) (sym with_cell) (listing_push (cell_count r.shape) (take (r.count - 1) cells) cell listing inside free)

  pub with_wide : IsListing 25 (take (r.count - 1 + 1) (set cells (r.count - 1) cell))
  with_wide = listing_wide (cell_count r.shape) 25 (take (r.count - 1 + 1) (set cells (r.count - 1) cell)) (cells_high r.shape regions.sides) with_listing

  pub with_small : (place : ℕ) → place ≡ set_place (take (r.count - 1 + 1) (set cells (r.count - 1) cell)) → place < 2 ^ 32
  with_small place is =
      let few = cells_high r.shape regions.sides in
      let low = place_below (cell_count r.shape) (take (r.count - 1 + 1) (set cells (r.count - 1) cell)) with_listing in
      let long : length (take (r.count - 1 + 1) (set cells (r.count - 1) cell)) ≤ 10 = (let l = length-take-le (r.count - 1 + 1) (set cells (r.count - 1) cell) (let t = length-set cells (r.count - 1) cell in let short = regions.short in let some = regions.some in omega (arith, all, short, some, t)) in let short = regions.short in omega (arith, l, short)) in
      let top = choose_small (cell_count r.shape) (length (take (r.count - 1 + 1) (set cells (r.count - 1) cell))) few long in
      omega (arith, is, low, top)

-- a set that was written over the first cells of an array
module _ (r : Regions) (n set : ℕ) (cells written : List ℕ) (regions : IsRegions r.shape r.count r) (counted : n ≡ cell_count r.shape) (all : length cells ≡ 9) (low : set < choose n (r.count - 1)) (is : written ≡ set_at n (length (take (r.count - 1) cells)) set) where
  there : set < choose (cell_count r.shape) (r.count - 1)
  there = subst (λ m. set < choose m (r.count - 1)) counted low

  written_is : take (r.count - 1) (written ++ drop (r.count - 1) cells) ≡ set_at (cell_count r.shape) (r.count - 1) set
  written_is =
      let l : length (take (r.count - 1) cells) ≡ r.count - 1 = length-take-le (r.count - 1) cells (let short = regions.short in omega (arith, all, short)) in
      let e : written ≡ set_at (cell_count r.shape) (r.count - 1) set = is ∙ (λ i. set_at (counted i) (l i) set) in
      take_at written (drop (r.count - 1) cells) (r.count - 1) (ap length e ∙ (set_is (cell_count r.shape) (r.count - 1) set there).1) ∙ e

  pub written_listing : IsListing (cell_count r.shape) (take (r.count - 1) (written ++ drop (r.count - 1) cells))
  written_listing = subst (IsListing (cell_count r.shape)) (sym written_is) (set_is (cell_count r.shape) (r.count - 1) set there).0

  pub written_more :
      (cell place : ℕ) (larger : List ℕ)
      → cell < n
      → (¬ Contains (take (r.count - 1) (written ++ drop (r.count - 1) cells)) cell → place ≡ set_place (take (r.count - 1) (written ++ drop (r.count - 1) cells) ++ cell ∷ []))
      → AreFound r set cell larger
      → AreFound r set (cell + 1) (larger ++ place ∷ [])
  written_more cell place larger inside entry found =
      found_more r set cell place larger there (omega (arith, counted, inside))
      (subst (λ (xs : List ℕ). ¬ Contains xs cell → place ≡ set_place (xs ++ cell ∷ [])) written_is entry) found

-- the values of the free cells before this one are there, and the order is that of the other cells with this one
pub record IsFilling (r : Regions) (nodes : List ℕ) (blank : ℕ) (others : List ℕ) (unit : ℕ) (old : List ℕ) (cell order : ℕ) (new : List ℕ) : Type 0 where
  pub row : IsRowAppended (blank ∷ others) (λ z. node_value r nodes (blank ∷ (others ++ z ∷ []))) old cell new
  pub so_far : order ≡ order_of others + below cell others * unit

pub filling_none : (r : Regions) (nodes : List ℕ) (blank : ℕ) (others : List ℕ) (unit : ℕ) (old : List ℕ) (order : ℕ) → order ≡ order_of others → IsFilling r nodes blank others unit old 0 order old
filling_none r nodes blank others unit old order is = record {
  row = row_none (blank ∷ others) (λ z. node_value r nodes (blank ∷ (others ++ z ∷ []))) old;
  so_far = let none = ap (λ k. k * unit) (below-zero others) in omega (arith, is, none);
}

plus_one : (k : ℕ) → k + 1 ≡ suc k
plus_one k = omega arith

-- the blank's cell is none of the others
pub blank_out : (n blank : ℕ) (others : List ℕ) → IsListing n (blank ∷ others) → ¬ Contains others blank
blank_out n blank others is has = is.different 0 (suc has.0) blank (omega arith) (let lt = has.1 in omega (arith, lt)) (sym has.2)

module _ (r : Regions) (nodes : List ℕ) (blank : ℕ) (others : List ℕ) (listing : IsListing (cell_count r.shape) (blank ∷ others)) where
  differ : Differ (blank ∷ others)
  differ = differ_in (cell_count r.shape) (blank ∷ others) listing

  -- a tile is there
  pub filling_tile : (unit : ℕ) (old new : List ℕ) (cell order : ℕ) → Contains others cell → IsFilling r nodes blank others unit old cell order new → IsFilling r nodes blank others unit old (cell + 1) (order + unit) new
  filling_tile unit old new cell order has filling = record {
    row = row_pass (blank ∷ others) (λ z. node_value r nodes (blank ∷ (others ++ z ∷ []))) old new cell differ (suc has.0, (let lt = has.1 in omega (arith, lt)), has.2) filling.row;
    so_far =
        let next : below (cell + 1) others ≡ suc (below cell others) = ap (λ k. below k others) (plus_one cell) ∙ below_next_in cell others differ.1 has in
        let e : below (cell + 1) others * unit ≡ suc (below cell others) * unit = ap (λ k. k * unit) next in
        let d : suc (below cell others) * unit ≡ below cell others * unit + unit = omega arith in
        let is = filling.so_far in
        omega (arith, e, d, is);
  }

  same_order_next : (unit : ℕ) (cell order : ℕ) → ¬ Contains others cell → order ≡ order_of others + below cell others * unit → order ≡ order_of others + below (cell + 1) others * unit
  same_order_next unit cell order out is =
      let next : below (cell + 1) others ≡ below cell others = ap (λ k. below k others) (plus_one cell) ∙ below_next_out cell others out in
      is ∙ ap (λ k. order_of others + k * unit) (sym next)

  -- the blank is there
  pub filling_blank : (unit : ℕ) (old new : List ℕ) (cell order : ℕ) → cell ≡ blank → IsFilling r nodes blank others unit old cell order new → IsFilling r nodes blank others unit old (cell + 1) order new
  filling_blank unit old new cell order e filling = record {
    row = row_pass (blank ∷ others) (λ z. node_value r nodes (blank ∷ (others ++ z ∷ []))) old new cell differ (0, omega arith, sym e) filling.row;
    so_far = same_order_next unit cell order (subst (λ k. ¬ Contains others k) (sym e) (blank_out (cell_count r.shape) blank others listing)) filling.so_far;
  }

  free_of_both : (cell : ℕ) → ¬ Contains others cell → cell ≢ blank → ¬ Contains (blank ∷ others) cell
  free_of_both cell out ne (zero, lt, is) = ne (sym is)
  free_of_both cell out ne (suc k, lt, is) = out (k, omega (arith, lt), is)

  -- the last tile can be there
  pub filling_free : (unit : ℕ) (old new : List ℕ) (cell order value : ℕ) → ¬ Contains others cell → cell ≢ blank → value ≡ node_value r nodes (blank ∷ (others ++ cell ∷ [])) → IsFilling r nodes blank others unit old cell order new → IsFilling r nodes blank others unit old (cell + 1) order (new ++ value ∷ [])
  filling_free unit old new cell order value out ne is filling = record {
    row = row_push (blank ∷ others) (λ z. node_value r nodes (blank ∷ (others ++ z ∷ []))) old new cell value differ (free_of_both cell out ne) is filling.row;
    so_far = same_order_next unit cell order out filling.so_far;
  }

-- where the value of a view is read, and what it is
pub record IsRead (r : Regions) (nodes : List ℕ) (blank : ℕ) (others : List ℕ) (cell orders order region : ℕ) : Type 0 where
  pub node : region * orders + order < length nodes
  pub is : slice_index nodes (region * orders + order) ≡ node_value r nodes (blank ∷ (others ++ cell ∷ []))

module _ (r : Regions) (larger nodes : List ℕ) (blank : ℕ) (others : List ℕ) (n set cell : ℕ)
    (regions : IsRegions r.shape r.count r) (are : AreLarger r larger) (listing : IsListing (cell_count r.shape) (blank ∷ others)) (long : suc (length others) ≡ r.count)
    (counted : n ≡ cell_count r.shape) (place : set ≡ set_place others) (inside : cell < n) where
  low : cell < cell_count r.shape
  low = omega (arith, inside, counted)

  rest : IsListing (cell_count r.shape) others
  rest = listing_tail (cell_count r.shape) blank others listing

  short : length others ≡ r.count - 1
  short = omega (arith, long)

  index_is : set * n + cell ≡ set_place others * cell_count r.shape + cell
  index_is = λ i. place i * counted i + cell

  -- the entry of the set with the last tile's cell
  pub entry_within : set * n + cell < length larger
  entry_within =
      let below : set_place others < choose (cell_count r.shape) (r.count - 1) = subst (λ k. set_place others < choose (cell_count r.shape) k) short (place_below (cell_count r.shape) others rest) in
      let m = mul-add-lt (set_place others) (cell_count r.shape) cell (choose (cell_count r.shape) (r.count - 1)) below low in
      let c = mul_comm (cell_count r.shape) (choose (cell_count r.shape) (r.count - 1)) in
      let s = are.size in
      let e = index_is in
      omega (arith, m, c, s, e)

  -- the entries are few
  pub larger_few : length larger ≤ 2 ^ 37
  larger_few =
      let few = cells_high r.shape regions.sides in
      let top = choose_small (cell_count r.shape) (r.count - 1) few (let s = regions.short in omega (arith, s)) in
      let m : choose (cell_count r.shape) (r.count - 1) * cell_count r.shape ≤ 2 ^ 32 * 25 = mul-le (choose (cell_count r.shape) (r.count - 1)) (cell_count r.shape) (2 ^ 32) 25 (omega (arith, top)) few in
      let s = are.size in
      omega (arith, m, s)

  module _ (out : ¬ Contains others cell) (ne : cell ≢ blank) where
    whole_is : slice_index larger (set * n + cell) ≡ set_place (others ++ cell ∷ [])
    whole_is = ap (slice_index larger) index_is ∙ are.places others cell rest short low out

    cells_are : IsPlaced r.shape r.count (others ++ cell ∷ [])
    cells_are = record {
      listing = listing_push (cell_count r.shape) others cell rest low out;
      one_each = let l = length-append others (cell ∷ []) in omega (arith, l, long);
    }

    blank_is : IsFree r.shape (others ++ cell ∷ []) blank
    blank_is = record {
      inside = listing.in_range 0 blank (omega arith);
      free = λ has. ⊎_elim (λ (left : Contains others blank). blank_out (cell_count r.shape) blank others listing left) (λ (e : cell ≡ blank). ne e) (Contains-push_cases others cell blank has);
    }

    number_is : slice_index larger (set * n + cell) * n + blank ≡ set_place (others ++ cell ∷ []) * cell_count r.shape + blank
    number_is = λ i. whole_is i * counted i + blank

    -- the number of the region
    pub number_within : slice_index larger (set * n + cell) * n + blank < length r.numbers.items
    number_within =
        let below : set_place (others ++ cell ∷ []) < choose (cell_count r.shape) r.count = subst (λ k. set_place (others ++ cell ∷ []) < choose (cell_count r.shape) k) cells_are.one_each (place_below (cell_count r.shape) (others ++ cell ∷ []) cells_are.listing) in
        let b = blank_is.inside in
        let m = mul-add-lt (set_place (others ++ cell ∷ [])) (cell_count r.shape) blank (choose (cell_count r.shape) r.count) below b in
        let c = mul_comm (cell_count r.shape) (choose (cell_count r.shape) r.count) in
        let s = regions.regions.rows in
        let e = number_is in
        omega (arith, m, c, s, e)

    pub read_is :
        (orders order unit region : ℕ)
        → length nodes ≡ node_count r
        → orders ≡ factorial r.count
        → unit ≡ factorial (length others)
        → order ≡ order_of others + below cell others * unit
        → region ≡ get_or r.numbers.items (slice_index larger (set * n + cell) * n + blank) region
        → IsRead r nodes blank others cell orders order region
    read_is orders order unit region nodes_are orders_are unit_is so_far is =
        let there : region ≡ region_in r (others ++ cell ∷ []) blank = get_or_read r.numbers.items (slice_index larger (set * n + cell) * n + blank) region number_within is 0 ∙ ap (slice_index r.numbers.items) number_is in
        let whole : order ≡ order_of (others ++ cell ∷ []) = so_far ∙ ap (λ k. order_of others + below cell others * k) unit_is ∙ sym (order_with others cell) in
        let under : order_of (others ++ cell ∷ []) < factorial r.count = subst (λ k. order_of (others ++ cell ∷ []) < factorial k) cells_are.one_each (order_below (others ++ cell ∷ [])) in
        let within = regions.regions.inside (others ++ cell ∷ []) blank cells_are blank_is in
        let m = mul-add-lt (region_in r (others ++ cell ∷ []) blank) (factorial r.count) (order_of (others ++ cell ∷ [])) (length r.homes.items) within under in
        let c = mul_comm (factorial r.count) (length r.homes.items) in
        let e : region * orders + order ≡ region_in r (others ++ cell ∷ []) blank * factorial r.count + order_of (others ++ cell ∷ []) = (λ i. there i * orders_are i + whole i) in
        record { node = omega (arith, m, c, e, nodes_are); is = ap (slice_index nodes) e }

-- nodes are no more than views
pub nodes_few : (r : Regions) (nodes : List ℕ) → IsRegions r.shape r.count r → ways (cell_count r.shape) (suc r.count) ≤ MAX_SIZE → length nodes ≡ node_count r → length nodes ≤ MAX_SIZE
nodes_few r nodes regions small are = let few = regions.regions.few in omega (arith, few, small, are)

-- the cells of the other tiles are few, and of 25
pub others_wide : (r : Regions) (blank : ℕ) (others : List ℕ) → IsRegions r.shape r.count r → IsListing (cell_count r.shape) (blank ∷ others) → IsListing 25 others
others_wide r blank others regions listing = listing_wide (cell_count r.shape) 25 others (cells_high r.shape regions.sides) (listing_tail (cell_count r.shape) blank others listing)

-- orders with a cell more fit
pub order_fits : (others : List ℕ) (cell order unit : ℕ) → length others ≤ 9 → unit ≡ factorial (length others) → order ≡ order_of others + below cell others * unit → order + unit ≤ 3991680
order_fits others cell order unit few unit_is is =
    let small = factorial_small (length others) few in
    let low = order_below others in
    let b = below-le-length cell others in
    let m : below cell others * unit ≤ 9 * 362880 = mul-le (below cell others) unit 9 362880 (omega (arith, b, few)) (omega (arith, unit_is, small)) in
    omega (arith, small, low, m, unit_is, is)

-- ---- all rows of a group

pub own_regions : (grid : ShapeModel) (count : ℕ) (r : Regions) → IsRegions grid count r → IsRegions r.shape r.count r
own_regions grid count r regions = record {
  shape = refl;
  sides = subst IsShape (sym regions.shape) regions.sides;
  tiles = refl;
  some = subst (λ k. 0 < k) (sym regions.tiles) regions.some;
  room = (λ (h : suc r.count ≤ cell_count grid). subst (λ (g : ShapeModel). suc r.count ≤ cell_count g) (sym regions.shape) h) (subst (λ k. suc k ≤ cell_count grid) (sym regions.tiles) regions.room);
  short = subst (λ k. k ≤ 9) (sym regions.tiles) regions.short;
  choices = regions.choices;
  regions = regions.regions;
}

-- an array's first cell, and those behind it
array_parts : (k : ℕ) (ys rest : List ℕ) → 0 < k → length ys ≡ k → get_or (ys ++ rest) 0 0 ∷ take (k - 1) (drop 1 (ys ++ rest)) ≡ ys
array_parts k [] rest some long = absurd (omega (arith, some, long))
array_parts k (y ∷ ys) rest some long = ap (λ zs. y ∷ zs) (take_at ys rest (k - 1) (omega (arith, some, long)))

module _ (g : GroupModel) (r : Regions) (nodes : List ℕ) (regions : IsRegions g.grid (length g.tiles) r) where
  one_count : cell_count r.shape ≡ cell_count g.grid
  one_count = ap cell_count regions.shape

  pub views_small : size_of g ≤ MAX_SIZE → ways (cell_count r.shape) (suc r.count) ≤ MAX_SIZE
  views_small small = subst (λ m. m ≤ MAX_SIZE) (λ i. ways (sym one_count i) (suc (sym regions.tiles i))) small

  module _ (cells row folded : ℕ) (array : List ℕ) (counted : cells ≡ cell_count r.shape) (all : length array ≡ 9) (size : folded ≡ folded_size_of g) (low : row < folded) where
    taken : length (take r.count array) ≡ r.count
    taken = length-take-le r.count array (let e = regions.tiles in let short = regions.short in omega (arith, all, e, short))

    pub list_fits : length (take r.count array) ≤ cells
    list_fits = let e = regions.tiles in let room = regions.room in let t = taken in let o = one_count in omega (arith, e, room, t, o, counted)

    pub row_there : row < ways cells (length (take r.count array))
    row_there = subst (λ m. row < m) (size ∙ (λ i. ways ((sym one_count ∙ sym counted) i) ((sym regions.tiles ∙ sym taken) i))) low

    row_in : row < ways (cell_count g.grid) (length g.tiles)
    row_in = omega (arith, size, low)

    room_in : length g.tiles ≤ cell_count g.grid
    room_in = let room = regions.room in omega (arith, room)

    module _ (list : List ℕ) (is : list ≡ list_at cells (length (take r.count array)) row) where
      pub list_is : list ≡ list_at (cell_count g.grid) (length g.tiles) row
      list_is = is ∙ (λ i. list_at ((counted ∙ one_count) i) ((taken ∙ regions.tiles) i) row)

      parts_are : get_or (list ++ drop r.count array) 0 0 ∷ take (r.count - 1) (drop 1 (list ++ drop r.count array)) ≡ list_at (cell_count g.grid) (length g.tiles) row
      parts_are =
          let long : length list ≡ r.count = ap length list_is ∙ length-list_at (cell_count g.grid) (length g.tiles) row room_in ∙ sym regions.tiles in
          array_parts r.count list (drop r.count array) (let some = regions.some in let e = regions.tiles in omega (arith, some, e)) long ∙ list_is

      pub list_listing : IsListing (cell_count g.grid) (list_at (cell_count g.grid) (length g.tiles) row)
      list_listing = listing_from (cell_count g.grid) (list_at (cell_count g.grid) (length g.tiles) row) (list_at_below (cell_count g.grid) (length g.tiles) row room_in row_in) (list_at_differ (cell_count g.grid) (length g.tiles) row)

      parts_in : IsListing (cell_count g.grid) (get_or (list ++ drop r.count array) 0 0 ∷ take (r.count - 1) (drop 1 (list ++ drop r.count array)))
      parts_in = subst (IsListing (cell_count g.grid)) (sym parts_are) list_listing

      parts_long : suc (length (take (r.count - 1) (drop 1 (list ++ drop r.count array)))) ≡ length g.tiles
      parts_long = ap length parts_are ∙ length-list_at (cell_count g.grid) (length g.tiles) row room_in

      pub parts_listing : IsListing (cell_count r.shape) (get_or (list ++ drop r.count array) 0 0 ∷ take (r.count - 1) (drop 1 (list ++ drop r.count array)))
      parts_listing = subst (λ n. IsListing n (get_or (list ++ drop r.count array) 0 0 ∷ take (r.count - 1) (drop 1 (list ++ drop r.count array)))) (sym one_count) parts_in

      pub parts_count : suc (length (take (r.count - 1) (drop 1 (list ++ drop r.count array)))) ≡ r.count
      parts_count = parts_long ∙ sym regions.tiles

      pub parts_more :
          (old new : List ℕ)
          → AreRows (cell_count g.grid) (length g.tiles) (node_value r nodes) row old
          → IsRowAppended (get_or (list ++ drop r.count array) 0 0 ∷ take (r.count - 1) (drop 1 (list ++ drop r.count array))) (λ z. node_value r nodes (get_or (list ++ drop r.count array) 0 0 ∷ (take (r.count - 1) (drop 1 (list ++ drop r.count array)) ++ z ∷ []))) old (cell_count r.shape) new
          → AreRows (cell_count g.grid) (length g.tiles) (node_value r nodes) (row + 1) new
      parts_more old new rows more =
          rows_more (cell_count g.grid) (length g.tiles) (node_value r nodes) row (get_or (list ++ drop r.count array) 0 0 ∷ take (r.count - 1) (drop 1 (list ++ drop r.count array))) old new
          (let room = regions.room in omega (arith, room)) parts_in parts_long
          (ap (rank_of (cell_count g.grid)) parts_are ∙ rank_of-list_at (cell_count g.grid) (length g.tiles) row room_in row_in) rows
          (subst (λ n. IsRowAppended (get_or (list ++ drop r.count array) 0 0 ∷ take (r.count - 1) (drop 1 (list ++ drop r.count array))) (λ z. node_value r nodes (get_or (list ++ drop r.count array) 0 0 ∷ (take (r.count - 1) (drop 1 (list ++ drop r.count array)) ++ z ∷ []))) old n new) one_count more)

  -- the values of all rows are those of all views
  pub all_rows : (row : ℕ) (items : List ℕ) → row ≡ folded_size_of g → AreRows (cell_count g.grid) (length g.tiles) (node_value r nodes) row items → length items ≡ size_of g
  all_rows row items end rows =
      rows.size ∙ ap (λ m. m * (cell_count g.grid - length g.tiles)) end ∙ sym (ways-last (cell_count g.grid) (length g.tiles) (let room = regions.room in omega (arith, room)))

  pub all_views : (row : ℕ) (items : List ℕ) → row ≡ folded_size_of g → AreRows (cell_count g.grid) (length g.tiles) (node_value r nodes) row items
      → (v : ViewModel) → IsView g.grid g.tiles v → slice_index items (rank_in g.grid v) ≡ slice_index nodes (node_in r v)
  all_views row items end rows v view =
      rows.values (v.blank ∷ v.cells) (view_listing g.grid g.tiles v view) (ap suc view.one_each) (let low = sight_below g.grid g.tiles v view in let e = all_rows row items end rows in omega (arith, low, e))

-- ---- one list of cells

-- some cell is free where fewer are taken
pub some_free : (m : ℕ) (xs : List ℕ) → Differ xs → below m xs < m → (blank : ℕ) × (blank < m) × (¬ Contains xs blank)
some_free zero xs differ few = absurd (omega (arith, few))
some_free (suc m) xs differ few =
    ⊎_elim
    (λ (has : Contains xs m).
    let rest = some_free m xs differ (let s = below_there m xs differ has in omega (arith, few, s)) in
    (rest.0, (let low = rest.1 in omega (arith, low)), rest.2))
    (λ (out : ¬ Contains xs m). (m, omega arith, out))
    (in_or_out m xs)

module _ (r : Regions) (nodes cells : List ℕ) (regions : IsRegions r.shape r.count r) (placed : IsPlaced r.shape r.count cells) where
  -- the values of nodes are few
  pub nodes_fit : length nodes ≡ node_count r → length nodes ≤ 2 ^ 56
  nodes_fit are =
      let few = cells_high r.shape regions.sides in
      let short = regions.short in
      let room = regions.room in
      let top = choose_small (cell_count r.shape) r.count few (omega (arith, short)) in
      let small = factorial_small r.count short in
      let m : choose (cell_count r.shape) r.count * factorial r.count ≤ 2 ^ 32 * 2 ^ 19 = mul-le (choose (cell_count r.shape) r.count) (factorial r.count) (2 ^ 32) (2 ^ 19) (omega (arith, top)) (omega (arith, small)) in
      let w = choose_ways (cell_count r.shape) r.count in
      let k : ways (cell_count r.shape) r.count * (cell_count r.shape - r.count) ≤ 2 ^ 51 * 2 ^ 5 = mul-le (ways (cell_count r.shape) r.count) (cell_count r.shape - r.count) (2 ^ 51) (2 ^ 5) (omega (arith, w, m)) (omega (arith, few)) in
      let l = ways-last (cell_count r.shape) r.count (omega (arith, room)) in
      let most = regions.regions.few in
      omega (arith, are, most, k, l)

  module _ (n set blank : ℕ) (counted : n ≡ cell_count r.shape) (place : set ≡ set_place cells) (low : blank < n) (out : ¬ Contains cells blank) where
    pub blank_free : IsFree r.shape cells blank
    blank_free = record { inside = omega (arith, low, counted); free = out }

    -- the number of the region
    pub blank_within : set * n + blank < length r.numbers.items
    blank_within = region_within r cells blank set n regions.regions placed blank_free place counted

    -- its place fits
    pub blank_fits : set * n + blank < 2 ^ 38
    blank_fits =
        let few = cells_high r.shape regions.sides in
        let under : set_place cells < choose (cell_count r.shape) (length cells) = place_below (cell_count r.shape) cells placed.listing in
        let long = placed.one_each in
        let short = regions.short in
        let top = choose_small (cell_count r.shape) (length cells) few (omega (arith, long, short)) in
        let m : set * n ≤ 2 ^ 32 * 25 = mul-le set n (2 ^ 32) 25 (omega (arith, place, under, top)) (omega (arith, counted, few)) in
        omega (arith, m, low, counted, few)

-- ---- all lists of cells

-- the list of the rank of a list is that list
pub list_back : (n : ℕ) (xs : List ℕ) → IsListing n xs → length xs ≤ n → list_at n (length xs) (rank_of n xs) ≡ xs
list_back n xs is room =
    let low = below_in n xs is in
    let differ = differ_in n xs is in
    let there = rank_below n xs low differ in
    rank_differs n (list_at n (length xs) (rank_of n xs)) xs (list_at_below n (length xs) (rank_of n xs) room there) (list_at_differ n (length xs) (rank_of n xs)) low differ (length-list_at n (length xs) (rank_of n xs) room) (rank_of-list_at n (length xs) (rank_of n xs) room there)

-- ---- the places of tiles

-- the cells of a view differ, so there are no more than the grid has
pub view_room : (g : GroupModel) (v : ViewModel) → IsView g.grid g.tiles v → suc (length v.cells) ≤ cell_count g.grid
view_room g v view =
    let is = listing g.grid g.tiles v view in
    let n = cell_count g.grid in
    let all = below-all n (v.blank ∷ v.cells) (below_in n (v.blank ∷ v.cells) is) in
    let low = below_low n (v.blank ∷ v.cells) (differ_in n (v.blank ∷ v.cells) is) in
    omega (arith, all, low)

-- the number of a placement is below how many there are
pub placement_below : (n count : ℕ) (cells : List ℕ) → IsListing n cells → length cells ≡ count → placement_in count cells < placement_count n count
placement_below n count cells is long =
    let set : set_place cells < choose n count = subst (λ k. set_place cells < choose n k) long (place_below n cells is) in
    let order : order_of cells < factorial count = subst (λ k. order_of cells < factorial k) long (order_below cells) in
    let m = mul-add-lt (set_place cells) (factorial count) (order_of cells) (choose n count) set order in
    let c = mul_comm (factorial count) (choose n count) in
    omega (arith, m, c)

module _ (g : GroupModel) (v : ViewModel) (view : IsView g.grid g.tiles v) where
  -- the cells of its tiles are those of its place
  place_back : list_at (cell_count g.grid) (length g.tiles) (place_in g.grid v) ≡ v.cells
  place_back =
      ap (λ k. list_at (cell_count g.grid) k (place_in g.grid v)) (sym view.one_each)
      ∙ list_back (cell_count g.grid) v.cells (place_listing g.grid g.tiles v view) (let room = view_room g v view in omega (arith, room))

-- ---- folded values by place

-- there are as many placements as places
pub least_long : (g : GroupModel) (least : List ℕ) → length least ≡ placement_count (cell_count g.grid) (length g.tiles) → length least ≡ folded_size_of g
least_long g least are = are ∙ choose_ways (cell_count g.grid) (length g.tiles)

-- what the tiles have on the cells of a place
abbrev pub at_place : GroupModel → List ℕ → ℕ → ℕ
at_place g least place = slice_index least (placement_in (length g.tiles) (list_at (cell_count g.grid) (length g.tiles) place))

-- the values of all places are those of all views
pub places_all : (g : GroupModel) (least items : List ℕ) (place : ℕ) → place ≡ folded_size_of g → items ≡ map (at_place g least) (range_with_len 0 place) → (v : ViewModel) → IsView g.grid g.tiles v → slice_index items (place_in g.grid v) ≡ slice_index least (placement_in (length g.tiles) v.cells)
places_all g least items place end are v view =
    ap (λ (xs : List ℕ). slice_index xs (place_in g.grid v)) are
    ∙ get_or-map-range_with_len (at_place g least) 0 place (place_in g.grid v) (place_in g.grid v) 0 (let low = view_place_below g.grid g.tiles v view in omega (arith, low, end)) (omega arith)
    ∙ ap (λ (xs : List ℕ). slice_index least (placement_in (length g.tiles) xs)) (place_back g v view)

module _ (g : GroupModel) (group : IsGroup g) (place : ℕ) (low : place < folded_size_of g) (cells count : ℕ) (array list : List ℕ)
    (counted : cells ≡ cell_count g.grid) (tiles : count ≡ length g.tiles) (all : length array ≡ 9) (is : list ≡ list_at cells (length (take count array)) place) where
  -- the cells that are written over the first of an array are those of the place
  pub cells_read : take count (list ++ drop count array) ≡ list_at (cell_count g.grid) (length g.tiles) place
  cells_read =
      let small = groups_small g group in
      let short = small.0 in
      let room = small.1 in
      let taken = length-take-le count array (omega (arith, short, tiles, all)) in
      let there : list ≡ list_at (cell_count g.grid) (length g.tiles) place = is ∙ (λ i. list_at (counted i) ((taken ∙ tiles) i) place) in
      take_at list (drop count array) count (ap length there ∙ length-list_at (cell_count g.grid) (length g.tiles) place (omega (arith, room)) ∙ sym tiles) ∙ there

  place_listed : IsListing (cell_count g.grid) (list_at (cell_count g.grid) (length g.tiles) place)
  place_listed =
      let room = (groups_small g group).1 in
      listing_from (cell_count g.grid) (list_at (cell_count g.grid) (length g.tiles) place) (list_at_below (cell_count g.grid) (length g.tiles) place (omega (arith, room)) low) (list_at_differ (cell_count g.grid) (length g.tiles) place)

  -- they are of 25
  pub cells_wide : IsListing 25 (take count (list ++ drop count array))
  cells_wide = subst (IsListing 25) (sym cells_read) (listing_wide (cell_count g.grid) 25 (list_at (cell_count g.grid) (length g.tiles) place) (cells_high g.grid group.sides) place_listed)

  module _ (least : List ℕ) (set orders order : ℕ) (set_is : set ≡ set_place (take count (list ++ drop count array))) (orders_are : orders ≡ factorial count) (order_is : order ≡ order_of (take count (list ++ drop count array))) where
    place_number_is : set * orders + order ≡ placement_in (length g.tiles) (list_at (cell_count g.grid) (length g.tiles) place)
    place_number_is = λ i. (set_is ∙ ap set_place cells_read) i * (orders_are ∙ ap factorial tiles) i + (order_is ∙ ap order_of cells_read) i

    -- the value is among those that are given
    pub place_number_within : length least ≡ placement_count (cell_count g.grid) (length g.tiles) → set * orders + order < length least
    place_number_within are =
        let room = (groups_small g group).1 in
        let long = length-list_at (cell_count g.grid) (length g.tiles) place (omega (arith, room)) in
        let below = placement_below (cell_count g.grid) (length g.tiles) (list_at (cell_count g.grid) (length g.tiles) place) place_listed long in
        let e = place_number_is in
        omega (arith, below, e, are)

    -- and that of the place
    pub value_there : slice_index least (set * orders + order) ≡ at_place g least place
    value_there = ap (slice_index least) place_number_is
