-- How values are written at their slots: placements of tiles, and one placement after another.
use Rattle.std.proofs.Common.{◌≡◌, ◌≢◌, ℕ, zero, suc, ◌<◌, List, [], ◌∷◌, length, set, refl, ap, arith, Some, ◌+◌, ◌-◌, ◌*◌, ◌≤◌, Bool, ◌++◌, get_or, map, take, drop, sym, ◌∙◌, subst, ⊎_elim, ◌/◌, ◌%◌, ◌^◌, false, replicate, inl, inr}
use Rattle.std.specs.Prelude.{slice_get, slice_index, Contains, All, slice_index_or}
use Rattle.std.proofs.Math.Nat.{mul_comm, mul-le-mul_right, le-max_left}
use Rattle.std.proofs.lemmas.Bool.{cases_lt, cases_eq, false≢true}
use Rattle.std.proofs.lemmas.Nat.{mul-add-lt, div-mul-add, mod-mul-add, mul-le}
use Rattle.std.proofs.lemmas.List.{take_at, take_all, take_more, append_assoc, ext_get_or, get_or-take, get_or-drop, get_or_append_left, get_or_default, get_or-append-add, length-append, length-drop, length-take-le, length-set, length-replicate, get_or_read}
use Rattle.std.proofs.lemmas.List.Elements.{recursion_from_All}
use Rattle.std.proofs.lemmas.Option.{slice_get_read}
use Rattle.board.specs.Shapes.{cell_count}
use Rattle.pattern_index.specs.Laws.{factorial}
use Rattle.pattern_index.specs.Sparse.{digit_base, digits_in, sparse_of}
use Rattle.pattern_index.proofs.RankLemmas.{Below}
use Rattle.pattern_index.proofs.SparseLemmas.{sparse_below, sparse_small, sparse_ten, digits_back, slot-parts}
use Rattle.pattern_index.specs.Ranks.{IsListing}
use Rattle.pattern_index.proofs.GroupLemmas.{cells_high}
use Rattle.pattern_graph.specs.Graphs.{node_in, node_count}
use Rattle.pattern_graph.specs.Sets.{AreMarksOf, choose, set_place, set_at, AreSame}
use Rattle.pattern_graph.specs.Orders.{below, order_of, positions_at}
use Rattle.pattern_graph.specs.Placements.{AreMarkedCells, ArePositions, placement_of, AreFilledTo, AreFilledUpTo}
use Rattle.pattern_graph.specs.Regions.{IsRegions, IsPlaced, IsFree, region_in}
use Rattle.pattern_graph.specs.declared.regions.Regions.{Regions}
use Rattle.pattern_graph.proofs.RowLemmas.{nodes_fit, listing_wide}
use Rattle.pattern_graph.proofs.OrderLemmas.{positions_are, positions_found, placed, same_below, order_below, one_placement}
use Rattle.pattern_graph.proofs.RegionLemmas.{region_within}
use Rattle.pattern_graph.proofs.SetLemmas.{same_place, set_is, set_below, sets_differ}
use Rattle.pattern_graph.proofs.OrderTables.{length-positions_at}

pub get_set_same : {X : Type 0} (xs : List X) (i : ℕ) (x : X) → i < length xs → slice_get (set xs i x) i ≡ Some x
get_set_same [] i x i_in = absurd (omega arith)
get_set_same (y ∷ ys) zero x i_in = refl
get_set_same (y ∷ ys) (suc i) x i_in = get_set_same ys i x (omega arith)

pub get_set_other : {X : Type 0} (xs : List X) (i j : ℕ) (x : X) → j ≢ i → slice_get (set xs i x) j ≡ slice_get xs j
get_set_other [] i j x ne = refl
get_set_other (y ∷ ys) zero zero x ne = absurd (ne refl)
get_set_other (y ∷ ys) zero (suc j) x ne = refl
get_set_other (y ∷ ys) (suc i) zero x ne = refl
get_set_other (y ∷ ys) (suc i) (suc j) x ne = get_set_other ys i j x (λ e. ne (ap suc e))

-- ---- placements and slots

-- the order of a placement is one of all orders
pub order_within : (r : Regions) (xs : List ℕ) → IsPlaced r.shape r.count xs → order_of xs < factorial r.count
order_within r xs placed = subst (λ k. order_of xs < factorial k) placed.one_each (order_below xs)

-- no two placements have one number
placement_one : (r : Regions) (xs ys : List ℕ) → IsPlaced r.shape r.count xs → IsPlaced r.shape r.count ys → placement_of r xs ≡ placement_of r ys → xs ≡ ys
placement_one r xs ys one other same =
    let orders = factorial r.count in
    let low = order_within r xs one in
    let low' = order_within r ys other in
    let sets : set_place xs ≡ set_place ys =
    sym (div-mul-add (set_place xs) orders (order_of xs) low) ∙ ap (λ k. k / orders) same ∙ div-mul-add (set_place ys) orders (order_of ys) low' in
    let turns : order_of xs ≡ order_of ys =
    sym (mod-mul-add (set_place xs) orders (order_of xs) low) ∙ ap (λ k. k % orders) same ∙ mod-mul-add (set_place ys) orders (order_of ys) low' in
    one_placement (cell_count r.shape) xs ys one.listing other.listing (sets_differ (cell_count r.shape) xs ys one.listing other.listing (one.one_each ∙ sym other.one_each) sets) turns

-- cells are digits
digits_placed : (r : Regions) (xs : List ℕ) → IsPlaced r.shape r.count xs → All (λ cell. cell < digit_base r.shape) xs
digits_placed r xs placed = λ k d k_in. let low = placed.listing.in_range k d k_in in let wide = le-max_left (cell_count r.shape) 16 in omega (arith, low, wide)

placed_below : (r : Regions) (xs : List ℕ) → IsPlaced r.shape r.count xs → Below (digit_base r.shape) xs
placed_below r xs placed = recursion_from_All (λ cell. cell < digit_base r.shape) xs (digits_placed r xs placed)

view_below : (r : Regions) (xs : List ℕ) (b : ℕ) → IsPlaced r.shape r.count xs → IsFree r.shape xs b → Below (digit_base r.shape) (b ∷ xs)
view_below r xs b placed free = ((let low = free.inside in let wide = le-max_left (cell_count r.shape) 16 in omega (arith, low, wide)), placed_below r xs placed)

-- the slot of a view is one of all slots
slot_low : (r : Regions) (xs : List ℕ) (b : ℕ) → IsPlaced r.shape r.count xs → IsFree r.shape xs b → sparse_of (digit_base r.shape) (b ∷ xs) < digit_base r.shape ^ suc r.count
slot_low r xs b placed free = subst (λ k. sparse_of (digit_base r.shape) (b ∷ xs) < digit_base r.shape ^ suc k) placed.one_each (sparse_below (digit_base r.shape) (b ∷ xs) (view_below r xs b placed free))

-- no two views have one slot
slot_one :
    (r : Regions) (xs ys : List ℕ) (b c : ℕ)
    → IsPlaced r.shape r.count xs
    → IsPlaced r.shape r.count ys
    → IsFree r.shape xs b
    → IsFree r.shape ys c
    → sparse_of (digit_base r.shape) (b ∷ xs) ≡ sparse_of (digit_base r.shape) (c ∷ ys)
    → b ∷ xs ≡ c ∷ ys
slot_one r xs ys b c one other free free' same =
    sym (digits_back (digit_base r.shape) (b ∷ xs) (view_below r xs b one free))
    ∙ (λ i. digits_in (digit_base r.shape) (suc ((one.one_each ∙ sym other.one_each) i)) (same i))
    ∙ digits_back (digit_base r.shape) (c ∷ ys) (view_below r ys c other free')

-- a cell without a mark is free
pub free_at :
    (r : Regions) (cells : List ℕ) (marks : List Bool) (count blank : ℕ)
    → AreMarksOf cells marks
    → count ≡ cell_count r.shape
    → blank < count
    → slice_index_or marks blank false ≡ false
    → IsFree r.shape cells blank
free_at r cells marks count blank are counted low off = record {
  inside = omega (arith, low, counted);
  free = λ has. false≢true (sym off ∙ (are blank).1 has);
}

-- ---- one placement

module _ (r : Regions) (cells : List ℕ) (regions : IsRegions r.shape r.count r) (placed : IsPlaced r.shape r.count cells) where
  -- where the slots of the placement begin fits
  pub first_fits : (base sparse : ℕ) → base ≡ digit_base r.shape → base ≤ 25 → sparse ≡ sparse_of base cells → base * sparse ≤ 95367431640625
  first_fits base sparse based few is =
      let short = regions.short in
      let long = placed.one_each in
      let below : Below base cells = subst (λ n. Below n cells) (sym based) (placed_below r cells placed) in
      let small = sparse_small base cells few (omega (arith, short, long)) below in
      mul-le base sparse 25 3814697265625 few (omega (arith, small, is))

  -- all nodes are few
  pub nodes_few : node_count r ≤ 2 ^ 56
  nodes_few =
      let all = length-replicate {A = ℕ} (node_count r) 0 in
      let few = nodes_fit r (replicate (node_count r) 0) cells regions placed all in
      omega (arith, few, all)

  module _ (blank : ℕ) (free : IsFree r.shape cells blank) where
    -- the slot of a view
    pub slot_is : (base sparse : ℕ) → base ≡ digit_base r.shape → sparse ≡ sparse_of base cells → base * sparse + blank ≡ sparse_of (digit_base r.shape) (blank ∷ cells)
    slot_is base sparse based is =
        let times : base * sparse ≡ digit_base r.shape * sparse_of (digit_base r.shape) cells = (λ i. based i * (is ∙ ap (λ n. sparse_of n cells) based) i) in
        let parts = slot-parts (digit_base r.shape) blank cells in
        omega (arith, times, parts)

    -- it fits
    pub slot_fits : (base sparse : ℕ) → base ≡ digit_base r.shape → base ≤ 25 → sparse ≡ sparse_of base cells → base * sparse + blank ≤ 95367431640625
    slot_fits base sparse based few is =
        let short = regions.short in
        let long = placed.one_each in
        let small = sparse_ten (digit_base r.shape) (blank ∷ cells) (omega (arith, based, few)) (omega (arith, short, long)) (view_below r cells blank placed free) in
        let e = slot_is base sparse based is in
        omega (arith, e, small)

    -- the node of a view
    module _ (set count order orders region : ℕ) (place : set ≡ set_place cells) (counted : count ≡ cell_count r.shape) (order_is : order ≡ order_of cells) (orders_are : orders ≡ factorial (length cells)) (is : region ≡ get_or r.numbers.items (set * count + blank) region) where
      region_is : region ≡ region_in r cells blank
      region_is = get_or_read r.numbers.items (set * count + blank) region (region_within r cells blank set count regions.regions placed free place counted) is 0 ∙ (λ i. slice_index r.numbers.items (place i * counted i + blank))

      pub node_is : region * orders + order ≡ node_in r (record { blank = blank; cells = cells })
      node_is = λ i. region_is i * (orders_are ∙ ap factorial placed.one_each) i + order_is i

      pub node_within : region * orders + order < node_count r
      node_within =
          let low = mul-add-lt (region_in r cells blank) (factorial r.count) (order_of cells) (length r.homes.items) (regions.regions.inside cells blank placed free) (order_within r cells placed) in
          let turned = mul_comm (factorial r.count) (length r.homes.items) in
          let e = node_is in
          omega (arith, low, turned, e)

-- ---- what is written

-- none of its views is written
pub filled_none : {A : Type 0} (r : Regions) (nodes slots : List A) (m : ℕ) → AreFilledTo r nodes m slots → AreFilledUpTo r nodes m 0 slots
filled_none r nodes slots m filled = record {
  size = filled.size;
  values = λ xs b placed free done. filled.values xs b placed free
      (⊎_elim (λ (before : placement_of r xs < m). before) (λ (at : (placement_of r xs ≡ m) × (b < 0)). let low = at.1 in absurd (omega (arith, low))) done);
}

-- all its views are written
pub filled_all : {A : Type 0} (r : Regions) (nodes slots : List A) (m cell : ℕ) → cell_count r.shape ≤ cell → AreFilledUpTo r nodes m cell slots → AreFilledTo r nodes (m + 1) slots
filled_all r nodes slots m cell end filled = record {
  size = filled.size;
  values = λ xs b placed free low. filled.values xs b placed free
      (⊎_elim
      (λ (before : placement_of r xs < m). inl before)
      (λ (after : m ≤ placement_of r xs). inr (omega (arith, after, low), (let inside = free.inside in omega (arith, inside, end))))
      (cases_lt (placement_of r xs) m));
}

module _ {A : Type 0} (r : Regions) (nodes slots : List A) (cells : List ℕ) (m blank : ℕ) (placed : IsPlaced r.shape r.count cells) (number : m ≡ placement_of r cells) (filled : AreFilledUpTo r nodes m blank slots) where
  -- a tile is there
  pub filled_pass : Contains cells blank → AreFilledUpTo r nodes m (blank + 1) slots
  filled_pass has = record {
    size = filled.size;
    values = λ xs b one free done. filled.values xs b one free
        (⊎_elim
        (λ (before : placement_of r xs < m). inl before)
        (λ (at : (placement_of r xs ≡ m) × (b < blank + 1)).
        ⊎_elim
        (λ (less : b < blank). inr (at.0, less))
        (λ (more : blank ≤ b).
        let low = at.1 in
        let e : blank ≡ b = omega (arith, more, low) in
        let same : cells ≡ xs = sym (placement_one r xs cells one placed (at.0 ∙ number)) in
        absurd (free.free (subst (λ (ys : List ℕ). Contains ys b) same (subst (λ k. Contains cells k) e has))))
        (cases_lt b blank))
        done);
  }

  module _ (slot : ℕ) (value : A) (free : IsFree r.shape cells blank) (slot_at : slot ≡ sparse_of (digit_base r.shape) (blank ∷ cells)) where
    -- the slot is there
    pub slot_within : slot < length slots
    slot_within =
        let low = slot_low r cells blank placed free in
        let size = filled.size in
        omega (arith, low, size, slot_at)

    -- the blank can be there
    pub filled_more : (node : ℕ) → node ≡ node_in r (record { blank = blank; cells = cells }) → node < length nodes → value ≡ get_or nodes node value → AreFilledUpTo r nodes m (blank + 1) (set slots slot value)
    filled_more node node_at inside is = record {
      size = length-set slots slot value ∙ filled.size;
      values = λ xs b one free' done. ⊎_elim
          (λ (e : sparse_of (digit_base r.shape) (b ∷ xs) ≡ slot).
          let same : b ∷ xs ≡ blank ∷ cells = slot_one r xs cells b blank one placed free' free (e ∙ slot_at) in
          ap (slice_get (set slots slot value)) e
          ∙ get_set_same slots slot value slot_within
          ∙ sym (slice_get_read nodes (length nodes) node value refl inside is)
          ∙ ap (slice_get nodes) node_at
          ∙ (λ i. slice_get nodes (node_in r (record { blank = get_or (sym same i) 0 0; cells = drop 1 (sym same i) }))))
          (λ (ne : sparse_of (digit_base r.shape) (b ∷ xs) ≢ slot).
          get_set_other slots slot (sparse_of (digit_base r.shape) (b ∷ xs)) value ne
          ∙ filled.values xs b one free'
          (⊎_elim
          (λ (before : placement_of r xs < m). inl before)
          (λ (at : (placement_of r xs ≡ m) × (b < blank + 1)).
          ⊎_elim
          (λ (less : b < blank). inr (at.0, less))
          (λ (more : blank ≤ b).
          let low = at.1 in
          let e : b ≡ blank = omega (arith, more, low) in
          let same : xs ≡ cells = placement_one r xs cells one placed (at.0 ∙ number) in
          absurd (ne ((λ i. sparse_of (digit_base r.shape) (e i ∷ same i)) ∙ sym slot_at)))
          (cases_lt b blank))
          done))
          (cases_eq (sparse_of (digit_base r.shape) (b ∷ xs)) slot);
    }

-- ---- What is written for one placement of the tiles after another: their positions by order, and their cells by set and order.

-- ---- positions by order

-- the position of a tile, read off the front of an array
pub position_read : (count order tile : ℕ) (zeros written rest : List ℕ) → length zeros ≡ 9 → count ≤ 9 → tile < count → written ≡ positions_at (length (take count zeros)) order → get_or (written ++ rest) tile 0 ≡ slice_index (positions_at count order) tile
position_read count order tile zeros written rest nine short within is =
    let made : written ≡ positions_at count order = is ∙ ap (λ k. positions_at k order) (length-take-le count zeros (omega arith)) in
    let size : length written ≡ count = ap length made ∙ length-positions_at count order in
    get_or_append_left written rest 0 tile (omega arith) ∙ ap (λ (xs : List ℕ). get_or xs tile 0) made

-- that of one tile more is put at the end
pub pushed_position : (count order tile : ℕ) (old items new : List ℕ) (x : ℕ) → tile < count → items ≡ old ++ take tile (positions_at count order) → new ≡ items ++ x ∷ [] → x ≡ slice_index (positions_at count order) tile → new ≡ old ++ take (tile + 1) (positions_at count order)
pushed_position count order tile old items new x within kept put is =
    let size = length-positions_at count order in
    put
    ∙ (λ j. kept j ++ is j ∷ [])
    ∙ append_assoc old (take tile (positions_at count order)) (get_or (positions_at count order) tile 0 ∷ [])
    ∙ ap (λ xs. old ++ xs) (sym (take_more (positions_at count order) tile 0 (omega arith)))

-- where all tiles are seen those of the order are there
pub pushed_all : (count order tile : ℕ) (old items : List ℕ) → count ≤ tile → items ≡ old ++ take tile (positions_at count order) → items ≡ old ++ positions_at count order
pushed_all count order tile old items all kept =
    let size = length-positions_at count order in
    kept ∙ ap (λ xs. old ++ xs) (take_all tile (positions_at count order) (omega arith))

-- the positions of the orders below a number
pub record HavePositions (count made : ℕ) (positions : List ℕ) : Type 0 where
  pub size : length positions ≡ made * count
  pub are : (order tile : ℕ) → order < made → tile < count → get_or positions (order * count + tile) 0 ≡ get_or (positions_at count order) tile 0

-- those of one order are put at the end
pub positions_more : (count made : ℕ) (old new : List ℕ) → HavePositions count made old → new ≡ old ++ positions_at count made → HavePositions count (made + 1) new
positions_more count made old new kept is =
    let row = length-positions_at count made in record {
      size = ap length is ∙ length-append old (positions_at count made) ∙ (λ i. kept.size i + row i) ∙ omega arith;
      are = λ order tile low within.
          ⊎_elim
          (λ (lt : order < made).
          let inside : order * count + tile < length old = let m = mul-add-lt order count tile made lt within in let turned = mul_comm count made in let size = kept.size in omega arith in
          ap (λ (xs : List ℕ). get_or xs (order * count + tile) 0) is ∙ get_or_append_left old (positions_at count made) 0 (order * count + tile) inside ∙ kept.are order tile lt within)
          (λ (le : made ≤ order).
          let same : order ≡ made = omega arith in
          let at : order * count + tile ≡ length old + tile = ap (λ m. m * count + tile) same ∙ ap (λ m. m + tile) (sym kept.size) in
          (λ i. get_or (is i) (at i) 0)
          ∙ get_or-append-add old (positions_at count made) tile 0
          ∙ ap (λ m. get_or (positions_at count m) tile 0) (sym same))
          (cases_lt order made);
    }

-- the positions of one order
pub order_positions : (count order : ℕ) (positions : List ℕ) → ArePositions count positions → order < factorial count → take count (drop (order * count) positions) ≡ positions_at count order
order_positions count order positions all low =
    let row = length-positions_at count order in
    let turned = mul_comm count (factorial count) in
    let inside : order * count + count ≤ length positions = let more : suc order * count ≤ factorial count * count = mul-le-mul_right count (omega arith) in let size = all.size in omega arith in
    let size : length (take count (drop (order * count) positions)) ≡ count = length-take-le count (drop (order * count) positions) (let d = length-drop (order * count) positions in omega arith) in
    ext_get_or 0 (take count (drop (order * count) positions)) (positions_at count order) (size ∙ sym row)
    (λ tile low'. let within : tile < count = omega arith in get_or-take count (drop (order * count) positions) tile 0 within ∙ get_or-drop (order * count) positions tile 0 ∙ all.are order tile low within)

-- ---- cells by set and order

-- a function that gives back each number of a list gives back the list
map_back : (f g : ℕ → ℕ) (xs : List ℕ) → ((x : ℕ) → Contains xs x → g (f x) ≡ x) → map g (map f xs) ≡ xs
map_back f g [] back = refl
map_back f g (x ∷ xs) back =
    let first : g (f x) ≡ x = back x (0, omega arith, refl) in
    let rest = map_back f g xs (λ y there. back y (suc there.0, (let low = there.1 in omega arith), there.2)) in
    λ i. first i ∷ rest i

-- the tiles are on the cells of a set, in an order
pub record IsSetPlacement (n count set order : ℕ) (placed : List ℕ) : Type 0 where
  pub listing : IsListing n placed
  pub size : length placed ≡ count
  pub same : AreSame placed (set_at n count set)
  pub set_is : set ≡ set_place placed
  pub order_is : order ≡ order_of placed

module _ (n count set order : ℕ) (set_low : set < choose n count) (low : order < factorial count) where
  abbrev cells : List ℕ
  cells = set_at n count set

  -- a list of this order on the set
  listed : (xs : List ℕ) × IsListing n xs × AreSame xs cells × (length xs ≡ length cells) × (order_of xs ≡ order)
  listed = let are = set_is n count set set_low in placed n cells order are.0 (subst (λ k. order < factorial k) (sym are.1) low)

  -- each of its cells is found by how many are below it
  found : (x : ℕ) → Contains listed.0 x → slice_index cells (below x listed.0) ≡ x
  found x there =
      let are = set_is n count set set_low in
      let at = (listed.2 x).0 there in
      let within : at.0 < count = let lt = at.1 in let size = are.1 in omega arith in
      let is : slice_index cells at.0 ≡ x = get_or_default cells at.0 0 x at.1 ∙ at.2 in
      let place : below x listed.0 ≡ at.0 = same_below n listed.0 cells listed.1 are.0 listed.2 x ∙ ap (λ y. below y cells) (sym is) ∙ set_below n count set at.0 set_low within in
      ap (slice_index cells) place ∙ is

  -- it is the one that the positions give
  is_listed : map (slice_index cells) (positions_at count order) ≡ listed.0
  is_listed =
      let size = listed.3 ∙ (set_is n count set set_low).1 in
      ap (map (slice_index cells)) ((λ i. positions_at (sym size i) (sym listed.4 i)) ∙ positions_found n listed.0 listed.1)
      ∙ map_back (λ x. below x listed.0) (slice_index cells) listed.0 found

  -- the positions of an order, taken on the cells of a set, are a placement with that set and that order
  pub set_placed : IsSetPlacement n count set order (map (slice_index cells) (positions_at count order))
  set_placed =
      let are = set_is n count set set_low in
      subst (IsSetPlacement n count set order) (sym is_listed) (record {
        listing = listed.1;
        size = listed.3 ∙ are.1;
        same = listed.2;
        set_is = sym (same_place n listed.0 cells listed.1 are.0 listed.2 ∙ are.2);
        order_is = sym listed.4;
      })

-- ---- a set and an order of it, written over the front of arrays

module _ (r : Regions) (n set : ℕ) (zeros written rest : List ℕ) (regions : IsRegions r.shape r.count r) (counted : n ≡ cell_count r.shape) (nine : length zeros ≡ 9) (low : set < choose (cell_count r.shape) r.count) (is : written ≡ set_at n (length (take r.count zeros)) set) where
  -- the front of the array is the set
  pub set_written : take r.count (written ++ rest) ≡ set_at (cell_count r.shape) r.count set
  set_written =
      let l : length (take r.count zeros) ≡ r.count = length-take-le r.count zeros (let short = regions.short in omega arith) in
      let e : written ≡ set_at (cell_count r.shape) r.count set = is ∙ (λ i. set_at (counted i) (l i) set) in
      take_at written rest r.count (ap length e ∙ (set_is (cell_count r.shape) r.count set low).1) ∙ e

  -- its cells can be marked
  pub set_listing : IsListing 25 (take r.count (written ++ rest))
  set_listing = subst (IsListing 25) (sym set_written) (listing_wide (cell_count r.shape) 25 (set_at (cell_count r.shape) r.count set) (cells_high r.shape regions.sides) (set_is (cell_count r.shape) r.count set low).0)

module _ (r : Regions) (set order end : ℕ) (cells positions : List ℕ) (is : cells ≡ set_at (cell_count r.shape) r.count set) (low : set < choose (cell_count r.shape) r.count) (all : ArePositions r.count positions) (before : order < end) (ended : end ≡ factorial r.count) where
  -- the slice of the order has its positions
  row_is : take (order * r.count + r.count - order * r.count) (drop (order * r.count) positions) ≡ positions_at r.count order
  row_is = ap (λ k. take k (drop (order * r.count) positions)) (width (order * r.count) r.count) ∙ order_positions r.count order positions all (omega arith)
    where
      width : (a b : ℕ) → a + b - a ≡ b
      width a b = omega arith

  -- there is one for each tile
  pub row_size : r.count ≡ length (take (order * r.count + r.count - order * r.count) (drop (order * r.count) positions))
  row_size = sym (ap length row_is ∙ length-positions_at r.count order)

  -- each position is that of a cell
  pub row_within : All (λ position. position < length cells) (take (order * r.count + r.count - order * r.count) (drop (order * r.count) positions))
  row_within =
      let size : r.count ≡ length cells = sym (ap length is ∙ (set_is (cell_count r.shape) r.count set low).1) in
      subst (λ xs. All (λ position. position < length cells) xs) (sym row_is) (subst (λ k. All (λ position. position < k) (positions_at r.count order)) size (positions_are r.count order (omega arith)).0.in_range)

  -- the tiles are placed on the set in the order
  pub tiles_placed : (ys rest : List ℕ) → ys ≡ map (slice_index cells) (take (order * r.count + r.count - order * r.count) (drop (order * r.count) positions)) → IsSetPlacement (cell_count r.shape) r.count set order (take r.count (ys ++ rest))
  tiles_placed ys rest placing =
      let made : ys ≡ map (slice_index (set_at (cell_count r.shape) r.count set)) (positions_at r.count order) = placing ∙ (λ i. map (slice_index (is i)) (row_is i)) in
      let are = set_placed (cell_count r.shape) r.count set order low (omega arith) in
      subst (IsSetPlacement (cell_count r.shape) r.count set order) (sym (take_at ys rest r.count (ap length made ∙ are.size) ∙ made)) are

-- the cells of the set are marked, so those of the tiles are
pub set_marks : (n count set order : ℕ) (xs ys : List ℕ) (marks : List Bool) → xs ≡ set_at n count set → IsSetPlacement n count set order ys → AreMarksOf xs marks → AreMarksOf ys marks
set_marks n count set order xs ys marks is placement are cell =
    let here : AreMarksOf (set_at n count set) marks = subst (λ zs. AreMarksOf zs marks) is are in (
      λ marked. (placement.same cell).1 ((here cell).0 marked),
      λ there. (here cell).1 ((placement.same cell).0 there),
    )

-- so are the cells of the tiles, which are on the set
pub marked_placement :
    (r : Regions) (set order end : ℕ) (cells positions : List ℕ)
    → cells ≡ set_at (cell_count r.shape) r.count set
    → set < choose (cell_count r.shape) r.count
    → ArePositions r.count positions
    → order < end
    → end ≡ factorial r.count
    → (ys rest : List ℕ)
    → ys ≡ map (slice_index cells) (take (order * r.count + r.count - order * r.count) (drop (order * r.count) positions))
    → (marks : List Bool)
    → AreMarksOf cells marks
    → AreMarkedCells r.shape r.count (take r.count (ys ++ rest)) marks
marked_placement r set order end cells positions is low all before ended ys rest placing marks are =
    let there = tiles_placed r set order end cells positions is low all before ended ys rest placing in record {
      placed = record { listing = there.listing; one_each = there.size };
      marked = set_marks (cell_count r.shape) r.count set order cells (take r.count (ys ++ rest)) marks is there are;
    }
