-- The placements of tiles: by the set of their cells and their order, and by their sparse place.
use Rattle.std.proofs.Common.{◌≡◌, ◌≢◌, ℕ, zero, suc, ◌+◌, ◌-◌, ◌*◌, ◌/◌, ◌%◌, ◌^◌, ◌<◌, ◌≤◌, List, [], ◌∷◌, ◌++◌, length, get_or, map, take, drop, refl, sym, ap, ◌∙◌, subst, inl, inr, ⊎_elim, arith, set}
use Rattle.std.specs.Prelude.{◌⊎◌, All, AllPairs, Contains, slice_get, slice_index}
use Rattle.std.proofs.Math.Nat.{mod-add-div, mul_comm, mul-le-mul_right, pow-succ', pow-zero}
use Rattle.std.proofs.lemmas.Bool.{cases_eq}
use Rattle.std.proofs.lemmas.Nat.{div-add-mod', div_below, mod_below, mul-add-lt, mul-le}
use Rattle.std.proofs.lemmas.List.{take_at, length-set, length-take-le}
use Rattle.std.proofs.lemmas.List.Elements.{All-cons, recursion_from_All}
use Rattle.std.proofs.lemmas.Option.{slice_get_read}
use Rattle.board.specs.Shapes.{ShapeModel, cell_count}
use Rattle.pattern_index.specs.Laws.{factorial}
use Rattle.pattern_index.specs.Groups.{GroupModel, IsGroup}
use Rattle.pattern_index.specs.Sparse.{digits_in, sparse_in, sparse_of, sparse_size_of}
use Rattle.pattern_index.specs.Views.{ViewModel, IsView}
use Rattle.pattern_index.proofs.GroupLemmas.{groups_small}
use Rattle.pattern_index.proofs.PlaceLemmas.{place_listing}
use Rattle.pattern_index.proofs.RankLemmas.{Below, Differ, Other, differ_from_pairs, listing_from, pairs_from_differ}
use Rattle.pattern_index.proofs.SparseLemmas.{digits_back, digits_below, length-digits, sparse_below, view_digits}
use Rattle.pattern_graph.specs.Placements.{HasNoView, AreAllWritten, AreWritten, IsSetList, placement_in, placement_count, ArePositions}
use Rattle.pattern_graph.specs.Orders.{order_of, positions_at}
use Rattle.pattern_graph.specs.Regions.{IsPlaced}
use Rattle.pattern_graph.specs.Sets.{AreSame, choose, set_at, set_place}
use Rattle.pattern_graph.proofs.SlotLemmas.{get_set_same, get_set_other, order_positions, set_placed}
use Rattle.pattern_graph.proofs.RowLemmas.{some_free}
use Rattle.pattern_graph.proofs.GraphLemmas.{other_from_free}
use Rattle.pattern_graph.proofs.OrderLemmas.{below-all, positions_are, order_below, one_placement}
use Rattle.pattern_graph.proofs.OrderTables.{factorial_small, length-positions_at}
use Rattle.pattern_graph.proofs.SetLemmas.{place_below, same_place, set_is, sets_differ}

-- ---- sets in rising order

pub set_list : (grid : ShapeModel) (count : ℕ) (cells : List ℕ) → IsSetList grid count cells → IsPlaced grid count cells
set_list grid count cells is =
    let are = set_is (cell_count grid) count is.0 is.1 in
    subst (IsPlaced grid count) (sym is.2) (record { listing = are.0; one_each = are.1 })

-- the place of the set is the one that it was made of
pub set_list_place : (grid : ShapeModel) (count : ℕ) (cells : List ℕ) (is : IsSetList grid count cells) → set_place cells ≡ is.0
set_list_place grid count cells is = ap set_place is.2 ∙ (set_is (cell_count grid) count is.0 is.1).2

-- ---- sets and orders of placements

module _ (grid : ShapeModel) (count : ℕ) where
  abbrev n : ℕ
  n = cell_count grid

  module _ (xs : List ℕ) (one : IsPlaced grid count xs) where
    pub order_low : order_of xs < factorial count
    order_low = subst (λ k. order_of xs < factorial k) one.one_each (order_below xs)

    pub set_low : set_place xs < choose (cell_count grid) count
    set_low = subst (λ k. set_place xs < choose n k) one.one_each (place_below n xs one.listing)

    -- its number is one of all numbers of placements
    pub placement_low : placement_in count xs < placement_count (cell_count grid) count
    placement_low =
        let low = mul-add-lt (set_place xs) (factorial count) (order_of xs) (choose n count) set_low order_low in
        let turned = mul_comm (factorial count) (choose n count) in
        omega (arith, low, turned)

    pub cells_below : Below (cell_count grid) xs
    cells_below = recursion_from_All (λ cell. cell < n) xs one.listing.in_range

    pub sparse_low : sparse_of (cell_count grid) xs < cell_count grid ^ count
    sparse_low = subst (λ k. sparse_of n xs < n ^ k) one.one_each (sparse_below n xs cells_below)

    pub sparse_digits : digits_in (cell_count grid) count (sparse_of (cell_count grid) xs) ≡ xs
    sparse_digits = ap (λ k. digits_in n k (sparse_of n xs)) (sym one.one_each) ∙ digits_back n xs cells_below

  module _ (xs ys : List ℕ) (one : IsPlaced grid count xs) (other : IsPlaced grid count ys) where
    -- placements on the same cells have one set, and those of one set the same cells
    pub sets_same : AreSame xs ys → set_place xs ≡ set_place ys
    sets_same = same_place n xs ys one.listing other.listing

    pub same_sets : set_place xs ≡ set_place ys → AreSame xs ys
    same_sets = sets_differ n xs ys one.listing other.listing (one.one_each ∙ sym other.one_each)

    -- on a set no two placements have one order
    pub orders_same : AreSame xs ys → order_of xs ≡ order_of ys → xs ≡ ys
    orders_same = one_placement n xs ys one.listing other.listing

    -- no two placements have one sparse place
    pub sparse_same : sparse_of (cell_count grid) xs ≡ sparse_of (cell_count grid) ys → xs ≡ ys
    sparse_same same = sym (sparse_digits xs one) ∙ ap (digits_in n count) same ∙ sparse_digits ys other

  -- the tiles are on a set's cells in an order
  pub record IsOrdered (cells : List ℕ) (order : ℕ) (xs : List ℕ) : Type 0 where
    pub placed : IsPlaced grid count xs
    pub same : AreSame xs cells
    pub order_is : order_of xs ≡ order

  module _ (cells : List ℕ) (is : IsSetList grid count cells) where
    -- there is one such placement of each order
    pub ordered : (order : ℕ) → order < factorial count → IsOrdered cells order (map (slice_index cells) (positions_at count order))
    ordered order low =
        let are = set_placed n count is.0 order is.1 low in
        let made : IsOrdered (set_at n count is.0) order (map (slice_index (set_at n count is.0)) (positions_at count order)) = record {
          placed = record { listing = are.listing; one_each = are.size };
          same = are.same;
          order_is = sym are.order_is;
        } in
        subst (λ zs. IsOrdered zs order (map (slice_index zs) (positions_at count order))) (sym is.2) made

    -- and no other
    pub ordered_only : (order : ℕ) (xs ys : List ℕ) → IsOrdered cells order xs → IsOrdered cells order ys → xs ≡ ys
    ordered_only order xs ys one other = orders_same xs ys one.placed other.placed (λ c. (λ there. (other.same c).1 ((one.same c).0 there), λ there. (one.same c).1 ((other.same c).0 there))) (one.order_is ∙ sym other.order_is)

    pub ordered_back : (xs : List ℕ) → IsPlaced grid count xs → AreSame xs cells → map (slice_index cells) (positions_at count (order_of xs)) ≡ xs
    ordered_back xs one same = ordered_only (order_of xs) (map (slice_index cells) (positions_at count (order_of xs))) xs (ordered (order_of xs) (order_low xs one)) (record { placed = one; same = same; order_is = refl })

-- the sparse place of a placement is that of a view
pub placed_view : (g : GroupModel) (xs : List ℕ) → IsPlaced g.grid (length g.tiles) xs → ¬ HasNoView g (sparse_of (cell_count g.grid) xs)
placed_view g xs one none = none (subst (λ ys. AllPairs (λ x y. x ≢ y) ys) (sym (sparse_digits g.grid (length g.tiles) xs one)) one.listing.different)

-- numbers differ or don't
other_or_not : (x : ℕ) (xs : List ℕ) → Other x xs ⊎ (¬ Other x xs)
other_or_not x [] = inl tt
other_or_not x (y ∷ ys) =
    ⊎_elim
    (λ (same : x ≡ y). inr (λ other. other.0 same))
    (λ (ne : x ≢ y). ⊎_elim (λ rest. inl (ne, rest)) (λ none. inr (λ other. none other.1)) (other_or_not x ys))
    (cases_eq x y)

differ_lists : (xs : List ℕ) → Differ xs ⊎ (¬ Differ xs)
differ_lists [] = inl tt
differ_lists (x ∷ xs) =
    ⊎_elim
    (λ other. ⊎_elim (λ rest. inl (other, rest)) (λ none. inr (λ differ. none differ.1)) (differ_lists xs))
    (λ none. inr (λ differ. none differ.0))
    (other_or_not x xs)

pub differ_or_not : (xs : List ℕ) → AllPairs (λ x y. x ≢ y) xs ⊎ (¬ AllPairs (λ x y. x ≢ y) xs)
differ_or_not xs = ⊎_elim (λ differ. inl (pairs_from_differ xs differ)) (λ none. inr (λ different. none (differ_from_pairs xs different))) (differ_lists xs)

-- a number is made of its digits again
digits_whole : (n count number : ℕ) → 0 < n → number < n ^ count → sparse_of n (digits_in n count number) ≡ number
unfolding sparse_of digits_in
digits_whole n zero number some low = omega (arith, low, pow-zero n)
digits_whole n (suc count) number some low =
    let step = pow-succ' n count in
    let turned = mul_comm n (n ^ count) in
    let rest = div_below number n (n ^ count) some (omega (arith, low, step, turned)) in
    ap (λ k. number % n + n * k) (digits_whole n count (number / n) some rest) ∙ mod-add-div number n

-- a sparse place whose digits differ is that of a view
pub seen_place : (g : GroupModel) (sparse : ℕ) → IsGroup g → sparse < sparse_size_of g → AllPairs (λ x y. x ≢ y) (digits_in (cell_count g.grid) (length g.tiles) sparse) → (v : ViewModel) × IsView g.grid g.tiles v × (sparse_in g.grid v ≡ sparse)
seen_place g sparse group low different = (
  record { blank = free.0; cells = xs },
  record {
    one_each = long;
    in_range = All-cons (λ cell. cell < size) free.0 xs free.1 (listing_from size xs below_size differ).in_range;
    different = pairs_from_differ (free.0 ∷ xs) (other_from_free free.0 xs free.2, differ);
  },
  digits_whole size (length g.tiles) sparse some low,
)
  where
    size : ℕ
    size = cell_count g.grid

    xs : List ℕ
    xs = digits_in size (length g.tiles) sparse

    some : 0 < size
    some = let room = (groups_small g group).1 in omega (arith, room)

    long : length xs ≡ length g.tiles
    long = length-digits size (length g.tiles) sparse

    below_size : Below size xs
    below_size = digits_below size (length g.tiles) sparse some

    differ : Differ xs
    differ = differ_from_pairs xs different

    free : (blank : ℕ) × (blank < size) × (¬ Contains xs blank)
    free = some_free size xs differ (let room = (groups_small g group).1 in let all = below-all size xs below_size in omega (arith, room, all, long))

-- no view has a sparse place with two digits that are the same
pub unseen_place : (g : GroupModel) (sparse : ℕ) → HasNoView g sparse → (v : ViewModel) → IsView g.grid g.tiles v → sparse_in g.grid v ≢ sparse
unseen_place g sparse none v view there =
    none (subst (λ ys. AllPairs (λ x y. x ≢ y) ys) (sym (view_digits g.grid g.tiles v sparse view there)) (place_listing g.grid g.tiles v view).different)

-- each number is that of a placement
pub numbered : (grid : ShapeModel) (count k : ℕ) → k < placement_count (cell_count grid) count → (xs : List ℕ) × IsPlaced grid count xs × (placement_in count xs ≡ k)
numbered grid count k low = (
  xs,
  are.placed,
  (λ i. set_is_k i * orders + are.order_is i) ∙ div-add-mod' k orders,
)
  where
    orders : ℕ
    orders = factorial count

    some : 0 < orders
    some =
        ⊎_elim
        (λ (none : orders ≡ 0). let empty : choose (cell_count grid) count * orders ≡ choose (cell_count grid) count * 0 = ap (λ m. choose (cell_count grid) count * m) none in absurd (omega (arith, low, empty)))
        (λ (other : orders ≢ 0). omega (arith, other))
        (cases_eq orders 0)

    set : ℕ
    set = k / orders

    listed : IsSetList grid count (set_at (cell_count grid) count set)
    listed = (set, div_below k orders (choose (cell_count grid) count) some low, refl)

    xs : List ℕ
    xs = map (slice_index (set_at (cell_count grid) count set)) (positions_at count (k % orders))

    are : IsOrdered grid count (set_at (cell_count grid) count set) (k % orders) xs
    are = ordered grid count (set_at (cell_count grid) count set) listed (k % orders) (mod_below k orders some)

    set_is_k : set_place xs ≡ set
    set_is_k =
        sets_same grid count xs (set_at (cell_count grid) count set) are.placed (set_list grid count (set_at (cell_count grid) count set) listed) are.same
        ∙ set_list_place grid count (set_at (cell_count grid) count set) listed

-- ---- what is written for one set, order by order

-- the placements on the set in the orders before one are written
pub record AreWrittenTo {A : Type 0} (g : GroupModel) (cells : List ℕ) (row old : List A) (order : ℕ) (new : List A) : Type 0 where
  pub size : length new ≡ length old
  pub written : (xs : List ℕ) → IsPlaced g.grid (length g.tiles) xs → AreSame xs cells → order_of xs < order → slice_get new (sparse_of (cell_count g.grid) xs) ≡ slice_get row (order_of xs)
  pub others : (sparse : ℕ) → ((xs : List ℕ) → IsPlaced g.grid (length g.tiles) xs → AreSame xs cells → sparse_of (cell_count g.grid) xs ≢ sparse) → slice_get new sparse ≡ slice_get old sparse

pub orders_none : {A : Type 0} (g : GroupModel) (cells : List ℕ) (row old : List A) → AreWrittenTo g cells row old 0 old
orders_none g cells row old = record {
  size = refl;
  written = λ xs one same low. absurd (omega (arith, low));
  others = λ sparse free. refl;
}

pub orders_all : {A : Type 0} (g : GroupModel) (cells : List ℕ) (row old new : List A) (order : ℕ) → factorial (length g.tiles) ≤ order → AreWrittenTo g cells row old order new → AreWritten g cells row old new
orders_all g cells row old new order end done = record {
  size = done.size;
  written = λ xs one same. done.written xs one same (let low = order_low g.grid (length g.tiles) xs one in omega (arith, low, end));
  others = done.others;
}

pub orders_more : {A : Type 0} (g : GroupModel) (cells : List ℕ) (row old new : List A) (order slot : ℕ) (value : A) (ys : List ℕ) → IsOrdered g.grid (length g.tiles) cells order ys → slot ≡ sparse_of (cell_count g.grid) ys → slot < length new → order < length row → value ≡ get_or row order value → AreWrittenTo g cells row old order new → AreWrittenTo g cells row old (order + 1) (set new slot value)
orders_more g cells row old new order slot value ys here slot_is within inside is done = record {
  size = length-set new slot value ∙ done.size;
  written = λ xs one same low. ⊎_elim
      (λ (e : order_of xs ≡ order).
      let as_ys : xs ≡ ys = orders_same g.grid (length g.tiles) xs ys one here.placed (λ c. (λ there. (here.same c).1 ((same c).0 there), λ there. (same c).1 ((here.same c).0 there))) (e ∙ sym here.order_is) in
      ap (λ zs. slice_get (set new slot value) (sparse_of (cell_count g.grid) zs)) as_ys
      ∙ ap (slice_get (set new slot value)) (sym slot_is)
      ∙ get_set_same new slot value within
      ∙ sym (slice_get_read row (length row) order value refl inside is)
      ∙ ap (slice_get row) (sym e))
      (λ (ne : order_of xs ≢ order).
      get_set_other new slot (sparse_of (cell_count g.grid) xs) value (λ e. ne (ap order_of (sparse_same g.grid (length g.tiles) xs ys one here.placed (e ∙ slot_is)) ∙ here.order_is))
      ∙ done.written xs one same (omega (arith, low, ne)))
      (cases_eq (order_of xs) order);
  others = λ sparse free. get_set_other new slot sparse value (λ e. free ys here.placed here.same (sym (e ∙ slot_is))) ∙ done.others sparse free;
}

-- what is read of one order
module _ (g : GroupModel) (cells positions : List ℕ) (order end : ℕ) (group : IsGroup g) (is : IsSetList g.grid (length g.tiles) cells) (all : ArePositions (length g.tiles) positions) (ended : end ≡ factorial (length g.tiles)) (before : order < end) where
  abbrev count : ℕ
  count = length cells

  count_is : count ≡ length g.tiles
  count_is = (set_list g.grid (length g.tiles) cells is).one_each

  -- the cells are few
  pub cells_few : length cells ≤ 9
  cells_few = let few = (groups_small g group).0 in omega (arith, few, count_is)

  -- the order's row ends low
  pub row_low : order * length cells + length cells ≤ 3265920
  row_low =
      let few = cells_few in
      let small = factorial_small (length g.tiles) (omega (arith, few, count_is)) in
      let m = mul-le (order + 1) count 362880 9 (omega (arith, small, before, ended)) few in
      omega (arith, m)

  pub row_inside : order * length cells + length cells ≤ length positions
  row_inside =
      let more : (order + 1) * count ≤ end * count = mul-le-mul_right count (omega (arith, before)) in
      let size : length positions ≡ end * count = all.size ∙ (λ i. sym ended i * sym count_is i) in
      omega (arith, more, size)

  row_is : take (order * length cells + length cells - order * length cells) (drop (order * length cells) positions) ≡ positions_at (length g.tiles) order
  row_is =
      ap (λ k. take k (drop (order * count) positions)) (width (order * count) count)
      ∙ (λ i. take (count_is i) (drop (order * count_is i) positions))
      ∙ order_positions (length g.tiles) order positions all (omega (arith, before, ended))
    where
      width : (a b : ℕ) → a + b - a ≡ b
      width a b = omega arith

  pub row_size : length cells ≡ length (take (order * length cells + length cells - order * length cells) (drop (order * length cells) positions))
  row_size = count_is ∙ sym (ap length row_is ∙ length-positions_at (length g.tiles) order)

  -- the array has room for them
  pub row_room : (zeros : List ℕ) → length zeros ≡ 9 → length cells ≡ length (take (length cells) zeros)
  row_room zeros nine = sym (length-take-le count zeros (let few = cells_few in omega (arith, few, nine)))

  pub row_within : All (λ position. position < length cells) (take (order * length cells + length cells - order * length cells) (drop (order * length cells) positions))
  row_within = subst (λ xs. All (λ position. position < count) xs) (sym row_is) (subst (λ k. All (λ position. position < k) (positions_at (length g.tiles) order)) (sym count_is) (positions_are (length g.tiles) order (omega (arith, before, ended))).0.in_range)

  -- the tiles are placed on the set in the order
  pub row_ordered : (ys rest : List ℕ) → ys ≡ map (slice_index cells) (take (order * length cells + length cells - order * length cells) (drop (order * length cells) positions)) → IsOrdered g.grid (length g.tiles) cells order (take (length cells) (ys ++ rest))
  row_ordered ys rest placing =
      let made : ys ≡ map (slice_index cells) (positions_at (length g.tiles) order) = placing ∙ ap (map (slice_index cells)) row_is in
      let are = ordered g.grid (length g.tiles) cells is order (omega (arith, before, ended)) in
      subst (IsOrdered g.grid (length g.tiles) cells order) (sym (take_at ys rest count (ap length made ∙ are.placed.one_each ∙ sym count_is) ∙ made)) are

module _ {A : Type 0} (g : GroupModel) (places old : List A) (cells ys : List ℕ) (order base : ℕ) (group : IsGroup g) (size : length places ≡ sparse_size_of g) (is : IsOrdered g.grid (length g.tiles) cells order ys) (based : base ≡ cell_count g.grid) where
  -- their cells are digits
  pub ordered_below : All (λ cell. cell < base) ys
  ordered_below = subst (λ k. All (λ cell. cell < k) ys) (sym based) is.placed.listing.in_range

  pub sparse_is : (slot : ℕ) → slot ≡ sparse_of base ys → slot ≡ sparse_of (cell_count g.grid) ys
  sparse_is slot at = at ∙ ap (λ k. sparse_of k ys) based

  pub sparse_within : (slot : ℕ) → slot ≡ sparse_of base ys → slot < length places
  sparse_within slot at = let low = sparse_low g.grid (length g.tiles) ys is.placed in let here = sparse_is slot at in omega (arith, low, here, size)

-- ---- what is written for one set after another

-- the placements on the sets before one are written
pub record AreSetsWritten {A : Type 0} (g : GroupModel) (least old : List A) (limit : ℕ) (new : List A) : Type 0 where
  pub size : length new ≡ length old
  pub written : (xs : List ℕ) → IsPlaced g.grid (length g.tiles) xs → set_place xs < limit → slice_get new (sparse_of (cell_count g.grid) xs) ≡ slice_get least (placement_in (length g.tiles) xs)
  pub others : (sparse : ℕ) → HasNoView g sparse → slice_get new sparse ≡ slice_get old sparse

pub sets_none : {A : Type 0} (g : GroupModel) (least old : List A) → AreSetsWritten g least old 0 old
sets_none g least old = record {
  size = refl;
  written = λ xs one low. absurd (omega (arith, low));
  others = λ sparse none. refl;
}

pub sets_all : {A : Type 0} (g : GroupModel) (least old new : List A) (limit : ℕ) → choose (cell_count g.grid) (length g.tiles) ≤ limit → AreSetsWritten g least old limit new → AreAllWritten g least old new
sets_all g least old new limit end done = record {
  size = done.size;
  written = λ xs one. done.written xs one (let low = set_low g.grid (length g.tiles) xs one in omega (arith, low, end));
  others = done.others;
}

-- the item at a place of a front, and behind one
taken : {A : Type 0} (xs : List A) (count i : ℕ) → i < count → slice_get (take count xs) i ≡ slice_get xs i
taken xs zero i low = absurd (omega (arith, low))
taken [] (suc count) i low = refl
taken (x ∷ xs) (suc count) zero low = refl
taken (x ∷ xs) (suc count) (suc i) low = taken xs count i (omega (arith, low))

dropped : {A : Type 0} (xs : List A) (from i : ℕ) → slice_get (drop from xs) i ≡ slice_get xs (from + i)
dropped xs zero i = ap (slice_get xs) (omega arith)
dropped [] (suc from) i = refl
dropped (x ∷ xs) (suc from) i = dropped xs from i ∙ ap (slice_get (x ∷ xs)) (one_more from i)
  where
    one_more : (a b : ℕ) → suc (a + b) ≡ suc a + b
    one_more a b = omega arith

-- the values of a set's placements
pub row_read : {A : Type 0} (least : List A) (from count order : ℕ) → order < count → slice_get (take (from + count - from) (drop from least)) order ≡ slice_get least (from + order)
row_read least from count order low = ap (λ k. slice_get (take k (drop from least)) order) (width from count) ∙ taken (drop from least) count order low ∙ dropped least from order
  where
    width : (a b : ℕ) → a + b - a ≡ b
    width a b = omega arith

pub sets_more : {A : Type 0} (g : GroupModel) (least row old between new : List A) (limit : ℕ) (cells : List ℕ) → cells ≡ set_at (cell_count g.grid) (length g.tiles) limit → limit < choose (cell_count g.grid) (length g.tiles) → ((order : ℕ) → order < factorial (length g.tiles) → slice_get row order ≡ slice_get least (limit * factorial (length g.tiles) + order)) → AreWritten g cells row between new → AreSetsWritten g least old limit between → AreSetsWritten g least old (limit + 1) new
sets_more g least row old between new limit cells is low rows more done = record {
  size = more.size ∙ done.size;
  written = λ xs one below. ⊎_elim
      (λ (e : set_place xs ≡ limit).
      more.written xs one (same_sets g.grid (length g.tiles) xs cells one set (e ∙ sym place))
      ∙ rows (order_of xs) (order_low g.grid (length g.tiles) xs one)
      ∙ ap (λ k. slice_get least (k * factorial (length g.tiles) + order_of xs)) (sym e))
      (λ (ne : set_place xs ≢ limit).
      more.others (sparse_of (cell_count g.grid) xs)
      (λ ys other same there. ne (ap set_place (sym (sparse_same g.grid (length g.tiles) ys xs other one there)) ∙ sets_same g.grid (length g.tiles) ys cells other set same ∙ place))
      ∙ done.written xs one (omega (arith, below, ne)))
      (cases_eq (set_place xs) limit);
  others = λ sparse none.
      more.others sparse (λ ys other same there. placed_view g ys other (subst (HasNoView g) (sym there) none))
      ∙ done.others sparse none;
}
  where
    listed : IsSetList g.grid (length g.tiles) cells
    listed = (limit, low, is)

    set : IsPlaced g.grid (length g.tiles) cells
    set = set_list g.grid (length g.tiles) cells listed

    place : set_place cells ≡ limit
    place = set_list_place g.grid (length g.tiles) cells listed

-- the front of an array over which a set is written is that set
pub set_front : (g : GroupModel) (cells count limit : ℕ) (zeros written rest : List ℕ) → cells ≡ cell_count g.grid → count ≡ length g.tiles → length g.tiles ≤ 9 → length zeros ≡ 9 → limit < choose (cell_count g.grid) (length g.tiles) → written ≡ set_at cells (length (take count zeros)) limit → take count (written ++ rest) ≡ set_at (cell_count g.grid) (length g.tiles) limit
set_front g cells count limit zeros written rest counted many few nine low is =
    let size : length (take count zeros) ≡ length g.tiles = length-take-le count zeros (omega (arith, many, few, nine)) ∙ many in
    let made : written ≡ set_at (cell_count g.grid) (length g.tiles) limit = is ∙ (λ i. set_at (counted i) (size i) limit) in
    take_at written rest count (ap length made ∙ (set_is (cell_count g.grid) (length g.tiles) limit low).1 ∙ sym many) ∙ made

-- the row of a set has the values of its placements
pub set_row : {A : Type 0} (g : GroupModel) (least : List A) (limit orders : ℕ) → orders ≡ factorial (length g.tiles) → (order : ℕ) → order < factorial (length g.tiles) → slice_get (take (limit * orders + orders - limit * orders) (drop (limit * orders) least)) order ≡ slice_get least (limit * factorial (length g.tiles) + order)
set_row g least limit orders is order low = row_read least (limit * orders) orders order (omega (arith, low, is)) ∙ ap (λ k. slice_get least (limit * k + order)) is
