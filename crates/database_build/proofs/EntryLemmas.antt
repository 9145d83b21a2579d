-- What a table and a folded table keep, how it is read and how it is made: by rank, by place, by slot and by sparse place.
use Rattle.std.proofs.Common.{◌≡◌, ℕ, suc, ◌<◌, ◌≤◌, Vec, Global, true, false, List, ◌∷◌, eqb, length, get_or, map, take, drop, replicate, ◌++◌, sym, ap, ◌∙◌, subst, ⊎_elim, arith, ◌*◌, ◌≢◌, [], inr, ◌+◌, ◌%◌, ◌/◌, set, refl}
use Rattle.std.specs.Prelude.{◌⊎◌, ◌-◌, ◌^◌, zero, Option, Some, min, slice_index, slice_get, unwrap_or, AllPairs, All}
use Rattle.std.proofs.Math.Nat.{le-max_left, min-eq_left, min-eq_right, min-le_left, mul-le-mul_left, mul_comm, pow-le-pow_left, pow-succ', pow-zero}
use Rattle.std.proofs.lemmas.Nat.{mul-add-lt, mul-le}
use Rattle.std.specs.List.{range_with_len}
use Rattle.std.proofs.lemmas.Bool.{cases_lt, cases_Bool, cond-true, cond-false, ne_eqb}
use Rattle.std.proofs.lemmas.List.{get_or-map, get_or_read, get_or_past, get_or-replicate, length-replicate, take_at, get_or_default, append-nil, append_assoc, get_or-set_other, get_or-set_same, get_or-take, length-set, length-take-le, map-append, take_all, take_more}
use Rattle.std.proofs.lemmas.Option.{get_or_from_slice_get, slice_get_within, unwrap_or-slice_get, slice_get-get_or}
use Rattle.std.proofs.lemmas.List.FromFn.{get_or-map-range_with_len, length-map-range_with_len}
use Rattle.board.specs.Shapes.{cell_count}
use Rattle.board.specs.Boards.{BoardModel}
use Rattle.board.specs.Weights.{WeightsModel}
use Rattle.pattern_index.specs.Laws.{factorial}
use Rattle.pattern_index.specs.Ranks.{ways, list_at, IsListing}
use Rattle.pattern_index.specs.Views.{ViewModel, IsView, view_of, view_at}
use Rattle.pattern_index.specs.Groups.{GroupModel, folded_size_of, place_in, size_of, rank_in, IsGroup, abstraction_of, IsTile}
use Rattle.pattern_index.specs.Sparse.{digit_base, slot_count_of, slot_in, sparse_in, sparse_of, sparse_size_of, digits_in}
use Rattle.pattern_index.proofs.PlaceLemmas.{place_listing, place_below as view_place_below}
use Rattle.pattern_index.proofs.SightLemmas.{sight_below, listing}
use Rattle.pattern_index.proofs.SparseLemmas.{slot_below, digits_back, slot_digits}
use Rattle.pattern_graph.specs.Placements.{HasNoView, AreAllWritten, placement_count, placement_in, AreAllFilled, AreFilledTo, placement_of}
use Rattle.pattern_graph.specs.Graphs.{node_in, node_count}
use Rattle.pattern_graph.specs.Orders.{order_of}
use Rattle.pattern_graph.specs.Regions.{IsFree, IsPlaced, IsRegions, region_in}
use Rattle.pattern_graph.specs.Sets.{choose}
use Rattle.pattern_graph.specs.declared.regions.Regions.{Regions}
use Rattle.pattern_graph.proofs.RowLemmas.{least_long, list_back, blank_out, view_room, placement_below}
use Rattle.pattern_graph.proofs.OrderLemmas.{order_below}
use Rattle.pattern_graph.proofs.PlacementLemmas.{differ_or_not, seen_place, numbered}
use Rattle.database_build.specs.Entries.{HasEntries, HaveOneForm, IsKeptBest, by_rank, slot_of_rank, values_in, widened, by_place, most_places, AreSmall, ArePlaces}
use Rattle.database_build.specs.Tables.{TableModel, value_in, HoldsValues}
use Rattle.database_build.specs.declared.entries.Entries.{Entries}
use Rattle.database_build.specs.declared.entries.Entries.TheVariants.{Ranked, Bytes, Words}
use Rattle.database_build.specs.declared.folding.TheConstants.{MOST_PLACES, PLACES_A_VALUE}
use Rattle.pattern_search.specs.declared.finding.TheConstants.{NO_VALUE}
use Rattle.database_build.proofs.FoldLemmas.{by_place_at, length-by_place}
use Rattle.pattern_search.specs.Searches.{AreFound, IsValue}
use Rattle.pattern_search.specs.declared.finding.Found.{Found}

-- ---- values of views by rank

-- there is one for each view
pub length-by_rank : (g : GroupModel) (at_slot : ℕ → ℕ) → length (by_rank g at_slot) ≡ size_of g
unfolding by_rank
length-by_rank g at_slot = length-map-range_with_len (λ rank. at_slot (slot_of_rank g rank)) 0 (size_of g)

-- the slot of a view's rank is that of the view
slot_back : (g : GroupModel) (v : ViewModel) → IsView g.grid g.tiles v → slot_of_rank g (rank_in g.grid v) ≡ slot_in g.grid v
slot_back g v view =
    let long : suc (length g.tiles) ≡ suc (length v.cells) = ap suc (sym view.one_each) in
    ap (λ k. sparse_of (digit_base g.grid) (list_at (cell_count g.grid) k (rank_in g.grid v))) long
    ∙ ap (sparse_of (digit_base g.grid)) (list_back (cell_count g.grid) (v.blank ∷ v.cells) (listing g.grid g.tiles v view) (view_room g v view))

-- the entry of a view is that at its slot
pub by_rank_at : (g : GroupModel) (at_slot : ℕ → ℕ) (v : ViewModel) → IsView g.grid g.tiles v → slice_index (by_rank g at_slot) (rank_in g.grid v) ≡ at_slot (slot_in g.grid v)
unfolding by_rank
by_rank_at g at_slot v view =
    get_or-map-range_with_len (λ rank. at_slot (slot_of_rank g rank)) 0 (size_of g) (rank_in g.grid v) (rank_in g.grid v) 0 (sight_below g.grid g.tiles v view) (omega arith)
    ∙ ap at_slot (slot_back g v view)

-- ---- the values of a table

-- there is one for each view
pub values_size : (g : GroupModel) (entries : Entries) → HasEntries g entries → length (values_in g entries) ≡ size_of g
values_size g (Ranked values) has = has
values_size g (Bytes bytes) has = length-by_rank g (λ slot. widened (slice_index bytes.items slot))
values_size g (Words words) has = length-by_rank g (slice_index words.items)

-- entries that are kept best have one form
pub one_form : (size limit : ℕ) (values : List ℕ) (one other : Entries) → IsKeptBest (size ≤ limit) values one → IsKeptBest (size ≤ limit) values other → HaveOneForm one other
one_form size limit values (Ranked a) (Ranked b) is is' = tt
one_form size limit values (Ranked a) (Bytes b) is is' = is is'.0
one_form size limit values (Ranked a) (Words b) is is' = is is'.0
one_form size limit values (Bytes a) (Ranked b) is is' = is' is.0
one_form size limit values (Bytes a) (Bytes b) is is' = tt
one_form size limit values (Bytes a) (Words b) is is' = is'.1 is.1
one_form size limit values (Words a) (Ranked b) is is' = is' is.0
one_form size limit values (Words a) (Bytes b) is is' = is.1 is'.1
one_form size limit values (Words a) (Words b) is is' = tt

-- the value that a byte encodes is at most NO_VALUE
widened_high : (byte : ℕ) → byte ≤ NO_VALUE → widened byte ≤ NO_VALUE
widened_high byte low =
    ⊎_elim
    (λ (is : eqb byte 255 ≡ true). let e : widened byte ≡ NO_VALUE = cond-true (eqb byte 255) NO_VALUE byte is in omega (arith, e))
    (λ (other : eqb byte 255 ≡ false). let e : widened byte ≡ byte = cond-false (eqb byte 255) NO_VALUE byte other in omega (arith, e, low))
    (cases_Bool (eqb byte 255))

-- a value that a byte can encode is read back from that byte
widened_back : (value : ℕ) → (value < 255) ⊎ (value ≡ NO_VALUE) → widened (min value 255) ≡ value
widened_back value small =
    ⊎_elim
    (λ (low : value < 255).
    let e : min value 255 ≡ value = min-eq_left (omega (arith, low)) in
    ap widened e ∙ cond-false (eqb value 255) NO_VALUE value (ne_eqb value 255 (λ h. absurd (omega (arith, h, low)))))
    (λ (none : value ≡ NO_VALUE).
    let e : min value 255 ≡ 255 = min-eq_right (omega (arith, none)) in
    ap widened e ∙ sym none)
    small

-- where no slot has more, no view has
by_rank_high : (g : GroupModel) (at_slot : ℕ → ℕ) → ((slot : ℕ) → at_slot slot ≤ NO_VALUE) → (rank : ℕ) → slice_index (by_rank g at_slot) rank ≤ NO_VALUE
unfolding by_rank
by_rank_high g at_slot high rank =
    ⊎_elim
    (λ (low : rank < size_of g).
    let is = get_or-map-range_with_len (λ k. at_slot (slot_of_rank g k)) 0 (size_of g) rank rank 0 low (omega arith) in
    let h = high (slot_of_rank g rank) in
    omega (arith, is, h))
    (λ (past : size_of g ≤ rank).
    let all = length-map-range_with_len (λ k. at_slot (slot_of_rank g k)) 0 (size_of g) in
    let is = get_or_past (map (λ k. at_slot (slot_of_rank g k)) (range_with_len 0 (size_of g))) rank 0 (omega (arith, all, past)) in
    omega (arith, is))
    (cases_lt rank (size_of g))

module _ (table : TableModel) (g : GroupModel) (entries : Entries) (is : record { selection = g; values = values_in g entries } ≡ table) (has : HasEntries g entries) where
  -- a table has one for each view
  pub table_size : length table.values ≡ size_of table.selection
  table_size = subst (λ (t : TableModel). length t.values ≡ size_of t.selection) is (values_size g entries has)

  -- the values of bytes
  pub bytes_high : (bytes : Vec ℕ Global) → entries ≡ Bytes bytes → ((slot : ℕ) → slice_index bytes.items slot ≤ NO_VALUE) → (rank : ℕ) → slice_index table.values rank ≤ NO_VALUE
  bytes_high bytes kept high =
      subst (λ (t : TableModel). (rank : ℕ) → slice_index t.values rank ≤ NO_VALUE) is
      (subst (λ (e : Entries). (rank : ℕ) → slice_index (values_in g e) rank ≤ NO_VALUE) (sym kept)
      (by_rank_high g (λ slot. widened (slice_index bytes.items slot)) (λ slot. widened_high (slice_index bytes.items slot) (high slot))))

  -- and those of words
  pub words_high : (words : Vec ℕ Global) → entries ≡ Words words → ((slot : ℕ) → slice_index words.items slot ≤ NO_VALUE) → (rank : ℕ) → slice_index table.values rank ≤ NO_VALUE
  words_high words kept high =
      subst (λ (t : TableModel). (rank : ℕ) → slice_index t.values rank ≤ NO_VALUE) is
      (subst (λ (e : Entries). (rank : ℕ) → slice_index (values_in g e) rank ≤ NO_VALUE) (sym kept) (by_rank_high g (slice_index words.items) high))

  -- the slot of a view of the table is that of one of the group
  pub slot_there : (v : ViewModel) (slot : ℕ) → slot_in table.selection.grid v ≡ slot → slot ≡ slot_in g.grid v
  slot_there v slot at = sym at ∙ sym (ap (λ (t : TableModel). slot_in t.selection.grid v) is)

  module _ (v : ViewModel) (view : IsView table.selection.grid table.selection.tiles v) (slot : ℕ) (there : slot ≡ slot_in g.grid v) where
    -- a view of the table is one of the group, and has a slot
    of_group : IsView g.grid g.tiles v
    of_group = subst (λ (t : TableModel). IsView t.selection.grid t.selection.tiles v) (sym is) view

    within : slot < slot_count_of g
    within = let low = slot_below g v of_group in omega (arith, low, there)

    -- there is a byte at the slot
    pub bytes_within : (bytes : Vec ℕ Global) → entries ≡ Bytes bytes → slot < length bytes.items
    bytes_within bytes kept =
        let all : length bytes.items ≡ slot_count_of g = subst (HasEntries g) kept has in
        let low = within in
        omega (arith, low, all)

    pub words_within : (words : Vec ℕ Global) → entries ≡ Words words → slot < length words.items
    words_within words kept =
        let all : length words.items ≡ slot_count_of g = subst (HasEntries g) kept has in
        let low = within in
        omega (arith, low, all)

    -- what is read of bytes is the view's value
    pub byte_read : (bytes : Vec ℕ Global) (byte value : ℕ) → entries ≡ Bytes bytes → byte ≡ get_or bytes.items slot byte → value ≡ widened byte → value ≡ value_in table v
    byte_read bytes byte value kept read wide =
        let all : length bytes.items ≡ slot_count_of g = subst (HasEntries g) kept has in
        let low = within in
        let at : byte ≡ slice_index bytes.items slot = get_or_read bytes.items slot byte (omega (arith, low, all)) read 0 in
        wide ∙ ap widened at ∙ ap (λ k. widened (slice_index bytes.items k)) there
        ∙ sym (by_rank_at g (λ k. widened (slice_index bytes.items k)) v of_group)
        ∙ ap (λ (e : Entries). slice_index (values_in g e) (rank_in g.grid v)) (sym kept)
        ∙ ap (λ (t : TableModel). value_in t v) is

    -- and so is what is read of words
    pub word_read : (words : Vec ℕ Global) (value : ℕ) → entries ≡ Words words → value ≡ get_or words.items slot value → value ≡ value_in table v
    word_read words value kept read =
        let all : length words.items ≡ slot_count_of g = subst (HasEntries g) kept has in
        let low = within in
        let at : value ≡ slice_index words.items slot = get_or_read words.items slot value (omega (arith, low, all)) read 0 in
        at ∙ ap (slice_index words.items) there
        ∙ sym (by_rank_at g (slice_index words.items) v of_group)
        ∙ ap (λ (e : Entries). slice_index (values_in g e) (rank_in g.grid v)) (sym kept)
        ∙ ap (λ (t : TableModel). value_in t v) is

-- ---- slots that are filled

-- two elements that are the same, or both missing, are the same with the default
same_index : (xs ys : List ℕ) (i j : ℕ) → slice_get xs i ≡ slice_get ys j → slice_index xs i ≡ slice_index ys j
same_index xs ys i j same = sym (unwrap_or-slice_get xs i 0) ∙ ap (λ (o : Option ℕ). unwrap_or o 0) same ∙ unwrap_or-slice_get ys j 0

-- different cells can't be listed in more ways than any
ways_low : (n r : ℕ) → ways n r ≤ n ^ r
unfolding ways
ways_low n zero = omega (arith, pow-zero n)
ways_low n (suc r) =
    let rest = ways_low (n - 1) r in
    let up : (n - 1) ^ r ≤ n ^ r = pow-le-pow_left (omega arith) r in
    let m : n * ways (n - 1) r ≤ n * n ^ r = mul-le-mul_left n (omega (arith, rest, up)) in
    let e = pow-succ' n r in
    omega (arith, m, e)

-- nodes are no more than slots
pub nodes_low : (g : GroupModel) (r : Regions) → IsRegions g.grid (length g.tiles) r → node_count r ≤ slot_count_of g
nodes_low g r regions =
    let few = regions.regions.few in
    let same : ways (cell_count r.shape) (suc r.count) ≡ ways (cell_count g.grid) (suc (length g.tiles)) = (λ i. ways (cell_count (regions.shape i)) (suc (regions.tiles i))) in
    let low = ways_low (cell_count g.grid) (suc (length g.tiles)) in
    let wide : cell_count g.grid ^ suc (length g.tiles) ≤ digit_base g.grid ^ suc (length g.tiles) = pow-le-pow_left (le-max_left (cell_count g.grid) 16) (suc (length g.tiles)) in
    omega (arith, few, same, low, wide)

-- slots of the regions of a group are those of the group
pub slots_size : {A : Type 0} (g : GroupModel) (r : Regions) → IsRegions g.grid (length g.tiles) r → (slots : List A) → length slots ≡ digit_base r.shape ^ suc r.count → length slots ≡ slot_count_of g
slots_size g r regions slots size = size ∙ (λ i. digit_base (regions.shape i) ^ suc (regions.tiles i))

-- a vector whose elements were all written
pub all_written : {A : Type 0} (len : ℕ) (new was items : List A) → len ≡ length items → was ≡ items → length new ≡ length was → take len (new ++ drop (length new) items) ≡ new
all_written len new was items long is all = take_at new (drop (length new) items) len (all ∙ ap length is ∙ sym long)

-- the slots of a group in such a vector are those that were filled
pub filled_again :
    {A : Type 0} (g : GroupModel) (r : Regions) (nodes was new items : List A) (filler : A) (len count : ℕ)
    → IsRegions g.grid (length g.tiles) r
    → len ≡ length items
    → was ≡ items
    → items ≡ replicate count filler
    → count ≡ slot_count_of g
    → AreAllFilled r nodes new
    → AreAllFilled r nodes (take len (new ++ drop (length new) items))
filled_again {A} g r nodes was new items filler len count regions long is copies counted filled =
    let size : length new ≡ length was = slots_size g r regions new filled.size ∙ sym (ap length (is ∙ copies) ∙ length-replicate count filler ∙ counted) in
    subst (λ (xs : List A). AreAllFilled r nodes xs) (sym (all_written len new was items long is size)) filled

-- and its sparse places those that were written
pub written_again :
    {A : Type 0} (g : GroupModel) (least was new items : List A) (filler : A) (len count size : ℕ)
    → len ≡ length items
    → was ≡ items
    → items ≡ replicate count filler
    → count ≡ size
    → AreAllWritten g least was new
    → AreAllWritten g least (replicate size filler) (take len (new ++ drop (length new) items))
written_again {A} g least was new items filler len count size long is copies counted written =
    let start : was ≡ replicate size filler = is ∙ copies ∙ ap (λ (n : ℕ). replicate n filler) counted in
    subst (λ (xs : List A). AreAllWritten g least xs (take len (new ++ drop (length new) items))) start
    (subst (λ (xs : List A). AreAllWritten g least was xs) (sym (all_written len new was items long is written.size)) written)

-- a value is read back from the byte that was kept for it
byte_back :
    (values narrow bytes : List ℕ) (i j : ℕ)
    → j < length values
    → ((k d : ℕ) → k < length values → (get_or values k d < 255) ⊎ (get_or values k d ≡ NO_VALUE))
    → narrow ≡ map (λ value. min value 255) values
    → slice_get bytes i ≡ slice_get narrow j
    → widened (slice_index bytes i) ≡ slice_index values j
byte_back values narrow bytes i j low small narrowed is =
    ap widened
    (same_index bytes narrow i j is
    ∙ ap (λ (xs : List ℕ). slice_index xs j) narrowed
    ∙ get_or-map (λ value. min value 255) values j 0 0 low)
    ∙ widened_back (slice_index values j) (small j 0 low)

module _ (g : GroupModel) (r : Regions) (regions : IsRegions g.grid (length g.tiles) r) (v : ViewModel) (view : IsView g.grid g.tiles v) where
  -- the tiles of a view are on different cells
  pub view_placed : IsPlaced r.shape r.count v.cells
  view_placed = record {
    listing = subst (λ n. IsListing n v.cells) (sym (ap cell_count regions.shape)) (place_listing g.grid g.tiles v view);
    one_each = view.one_each ∙ sym regions.tiles;
  }

  -- and the blank on another
  pub view_free : IsFree r.shape v.cells v.blank
  view_free = record {
    inside = subst (λ n. v.blank < n) (sym (ap cell_count regions.shape)) (view.in_range 0 v.blank (omega arith));
    free = blank_out (cell_count g.grid) v.blank v.cells (listing g.grid g.tiles v view);
  }

  -- there are as many placements as orders of all sets
  view_before : placement_of r v.cells < choose (cell_count r.shape) r.count * factorial r.count
  view_before = placement_below (cell_count r.shape) r.count v.cells view_placed.listing view_placed.one_each

  -- where all are filled in, a view has the value of its node
  pub slots_all : {A : Type 0} (nodes slots : List A) → AreFilledTo r nodes (choose (cell_count r.shape) r.count * factorial r.count) slots → slice_get slots (slot_in g.grid v) ≡ slice_get nodes (node_in r v)
  slots_all nodes slots filled =
      ap (λ grid. slice_get slots (sparse_of (digit_base grid) (v.blank ∷ v.cells))) (sym regions.shape)
      ∙ filled.values v.cells v.blank view_placed view_free view_before

  -- the node of a view is one of the regions'
  view_node : node_in r v < node_count r
  view_node =
      let placed = view_placed in
      let order : order_of v.cells < factorial r.count = subst (λ k. order_of v.cells < factorial k) placed.one_each (order_below v.cells) in
      let m = mul-add-lt (region_in r v.cells v.blank) (factorial r.count) (order_of v.cells) (length r.homes.items) (regions.regions.inside v.cells v.blank placed view_free) order in
      let c = mul_comm (factorial r.count) (length r.homes.items) in
      omega (arith, m, c)

  module _ (nodes : List ℕ) where
    -- words at slots are the values of nodes
    pub words_kept : (words : List ℕ) → slice_get words (slot_in g.grid v) ≡ slice_get nodes (node_in r v) → slice_index (by_rank g (slice_index words)) (rank_in g.grid v) ≡ slice_index nodes (node_in r v)
    words_kept words is = by_rank_at g (slice_index words) v view ∙ same_index words nodes (slot_in g.grid v) (node_in r v) is

    -- bytes at slots encode the values of nodes, where a byte can encode each
    pub bytes_kept :
        (narrow bytes : List ℕ)
        → length nodes ≡ node_count r
        → ((k d : ℕ) → k < length nodes → (get_or nodes k d < 255) ⊎ (get_or nodes k d ≡ NO_VALUE))
        → narrow ≡ map (λ value. min value 255) nodes
        → slice_get bytes (slot_in g.grid v) ≡ slice_get narrow (node_in r v)
        → slice_index (by_rank g (λ slot. widened (slice_index bytes slot))) (rank_in g.grid v) ≡ slice_index nodes (node_in r v)
    bytes_kept narrow bytes nodes_are small narrowed is =
        let low : node_in r v < length nodes = (let n = view_node in omega (arith, n, nodes_are)) in
        by_rank_at g (λ slot. widened (slice_index bytes slot)) v view ∙ byte_back nodes narrow bytes (slot_in g.grid v) (node_in r v) low small narrowed is

-- ---- what a folded table keeps

-- an item of a list of copies is what was copied
pub replicated : {A : Type 0} (n i : ℕ) (a x : A) → slice_get (replicate n a) i ≡ Some x → x ≡ a
replicated n i a x is =
    let low = slice_get_within (replicate n a) i x is in
    sym (get_or_from_slice_get (replicate n a) i x a is) ∙ get_or-replicate n i a a (let all = length-replicate n a in omega (arith, all, low))

-- a sparse place that no view has keeps the filler
pub others_kept : {A : Type 0} (g : GroupModel) (least places : List A) (filler : A) → AreAllWritten g least (replicate (sparse_size_of g) filler) places → (sparse : ℕ) (entry : A) → HasNoView g sparse → slice_get places sparse ≡ Some entry → entry ≡ filler
others_kept g least places filler written sparse entry none is = replicated (sparse_size_of g) sparse filler entry (sym (written.others sparse none) ∙ is)

-- sparse places that are not too many are few enough
pub not_more : (g : GroupModel) → ¬ (most_places g < sparse_size_of g) → sparse_size_of g ≤ most_places g
not_more g few = ⊎_elim (λ (more : most_places g < sparse_size_of g). absurd (few more)) (λ (fits : sparse_size_of g ≤ most_places g). fits) (cases_lt (most_places g) (sparse_size_of g))

-- and no more than sparse places
pub least_few : (g : GroupModel) (least : List ℕ) → length least ≡ placement_count (cell_count g.grid) (length g.tiles) → ¬ (most_places g < sparse_size_of g) → length least ≤ 2 ^ 27
least_few g least are few =
    let fits = not_more g few in
    let all = least_long g least are in
    let low = ways_low (cell_count g.grid) (length g.tiles) in
    let top = min-le_left MOST_PLACES (PLACES_A_VALUE * folded_size_of g) in
    omega (arith, fits, all, low, top)

module _ (g : GroupModel) (v : ViewModel) (view : IsView g.grid g.tiles v) where
  -- it is a placement of the tiles
  pub tiles_placed : IsPlaced g.grid (length g.tiles) v.cells
  tiles_placed = record { listing = place_listing g.grid g.tiles v view; one_each = view.one_each }

  module _ (least : List ℕ) where
    -- words at sparse places are the values of placements
    pub words_least :
        (words : List ℕ)
        → slice_get words (sparse_in g.grid v) ≡ slice_get least (placement_in (length g.tiles) v.cells)
        → slice_index (by_place g (slice_index words)) (place_in g.grid v) ≡ slice_index least (placement_in (length g.tiles) v.cells)
    words_least words is = by_place_at g (slice_index words) v view ∙ same_index words least (sparse_in g.grid v) (placement_in (length g.tiles) v.cells) is

    -- bytes at sparse places encode them, where a byte can encode each
    pub bytes_least :
        (narrow bytes : List ℕ)
        → length least ≡ placement_count (cell_count g.grid) (length g.tiles)
        → ((k d : ℕ) → k < length least → (get_or least k d < 255) ⊎ (get_or least k d ≡ NO_VALUE))
        → narrow ≡ map (λ value. min value 255) least
        → slice_get bytes (sparse_in g.grid v) ≡ slice_get narrow (placement_in (length g.tiles) v.cells)
        → slice_index (by_place g (λ sparse. widened (slice_index bytes sparse))) (place_in g.grid v) ≡ slice_index least (placement_in (length g.tiles) v.cells)
    bytes_least narrow bytes are small narrowed is =
        let low : placement_in (length g.tiles) v.cells < length least = (let below = placement_below (cell_count g.grid) (length g.tiles) v.cells tiles_placed.listing tiles_placed.one_each in omega (arith, below, are)) in
        by_place_at g (λ sparse. widened (slice_index bytes sparse)) v view
        ∙ byte_back least narrow bytes (sparse_in g.grid v) (placement_in (length g.tiles) v.cells) low small narrowed is

-- ---- where words are needed

-- where the value of a placement needs a word, so does the word at its sparse place
pub words_needed :
    (g : GroupModel) (least words : List ℕ)
    → length least ≡ placement_count (cell_count g.grid) (length g.tiles)
    → ((xs : List ℕ) → IsPlaced g.grid (length g.tiles) xs → slice_get words (sparse_of (cell_count g.grid) xs) ≡ slice_get least (placement_in (length g.tiles) xs))
    → ¬ AreSmall least
    → ¬ AreSmall words
words_needed g least words long kept large small = large (λ k d low.
    let at = numbered g.grid (length g.tiles) k (omega (arith, low, long)) in
    let sparse = sparse_of (cell_count g.grid) at.0 in
    let there : slice_get words sparse ≡ Some (get_or least k d) = kept at.0 at.1 ∙ ap (slice_get least) at.2 ∙ slice_get-get_or least k d low in
    subst (λ (value : ℕ). (value < 255) ⊎ (value ≡ NO_VALUE)) (get_or_from_slice_get words sparse (get_or least k d) d there) (small sparse d (slice_get_within words sparse (get_or least k d) there)))

-- words by place need as much as those by sparse place, since no other needs any
pub small_places : (g : GroupModel) (words : List ℕ) → IsGroup g → ArePlaces g NO_VALUE words → AreSmall (by_place g (slice_index words)) → AreSmall words
small_places g words group are small k d low =
    ⊎_elim
    (λ (different : AllPairs (λ x y. x ≢ y) digits).
    let v = seen_place g k group (omega (arith, low, are.size)) different in
    let is : get_or (by_place g (slice_index words)) (place_in g.grid v.0) 0 ≡ get_or words k d =
    by_place_at g (slice_index words) v.0 v.1 ∙ ap (slice_index words) v.2 ∙ get_or_default words k 0 d low in
    let within : place_in g.grid v.0 < length (by_place g (slice_index words)) = let all = length-by_place g (slice_index words) in let below = view_place_below g.grid g.tiles v.0 v.1 in omega (arith, all, below) in
    subst (λ (value : ℕ). (value < 255) ⊎ (value ≡ NO_VALUE)) is (small (place_in g.grid v.0) 0 within))
    (λ (none : HasNoView g k). inr (are.others k (get_or words k d) none (slice_get-get_or words k d low)))
    (differ_or_not digits)
  where
    digits : List ℕ
    digits = digits_in (cell_count g.grid) (length g.tiles) k

-- ---- tables

-- a table that has the values of nodes at the ranks of their views holds the values of views
pub table_built : (g : GroupModel) (rule : WeightsModel) (goal : BoardModel) (found : Found) (t : TableModel) (nodes values : List ℕ)
    → AreFound g rule goal found
    → nodes ≡ found.values.items
    → ((v : ViewModel) → IsView g.grid g.tiles v → slice_index values (rank_in g.grid v) ≡ slice_index nodes (node_in found.regions v))
    → t ≡ record { selection = g; values = values }
    → HoldsValues t rule goal
table_built g rule goal found t nodes values are all same is =
    subst (λ (u : TableModel). HoldsValues u rule goal) (sym is)
    (λ v view. subst (λ (n : ℕ). IsValue (abstraction_of g rule) (view_of g.tiles goal) v n) (sym (same v view ∙ ap (λ (ns : List ℕ). slice_index ns (node_in found.regions v)) all)) (are.values v view))

-- ---- the rank of a slot

-- what is looked up elsewhere stays as it is
unchanged : (cells : List ℕ) (t x : ℕ) (places : List ℕ) → ((k : ℕ) → k < length places → get_or places k 0 ≢ t) → map (slice_index (set cells t x)) places ≡ map (slice_index cells) places
unchanged cells t x [] other = refl
unchanged cells t x (y ∷ ys) other = λ i. get_or-set_other cells t y x 0 (other 0 (omega arith)) i ∷ unchanged cells t x ys (λ k low. other (suc k) (omega (arith, low))) i

-- the digit of one tile more is written
pub written : (n : ℕ) (tiles cells total : List ℕ) (place rest : ℕ) → AllPairs (λ x y. x ≢ y) tiles → place < length tiles → get_or tiles place 0 < length cells → map (slice_index cells) (take place tiles) ++ digits_in n (length tiles - place) rest ≡ total → map (slice_index (set cells (get_or tiles place 0) (rest % n))) (take (place + 1) tiles) ++ digits_in n (length tiles - (place + 1)) (rest / n) ≡ total
unfolding digits_in
written n tiles cells total place rest differ within room are =
    let t : ℕ = get_or tiles place 0 in
    let left : length tiles - place ≡ suc (length tiles - (place + 1)) = omega (arith, within) in
    let next : digits_in n (length tiles - place) rest ≡ (rest % n) ∷ digits_in n (length tiles - (place + 1)) (rest / n) = ap (λ k. digits_in n k rest) left in
    let long = length-take-le place tiles (omega (arith, within)) in
    let before : map (slice_index (set cells (get_or tiles place 0) (rest % n))) (take place tiles) ≡ map (slice_index cells) (take place tiles) =
    unchanged cells (get_or tiles place 0) (rest % n) (take place tiles) (λ k low.
    let k_low : k < place = omega (arith, long, low) in
    λ e. differ k place 0 k_low within (sym (get_or-take place tiles k 0 k_low) ∙ e)) in
    let here : slice_index (set cells (get_or tiles place 0) (rest % n)) (get_or tiles place 0) ≡ rest % n = get_or-set_same cells (get_or tiles place 0) (rest % n) 0 room in
    let more : map (slice_index (set cells (get_or tiles place 0) (rest % n))) (take (place + 1) tiles) ≡ map (slice_index cells) (take place tiles) ++ (rest % n) ∷ [] =
    ap (map (slice_index (set cells (get_or tiles place 0) (rest % n)))) (take_more tiles place 0 within)
    ∙ map-append (slice_index (set cells (get_or tiles place 0) (rest % n))) (take place tiles) (get_or tiles place 0 ∷ [])
    ∙ (λ i. before i ++ here i ∷ []) in
    ap (λ (xs : List ℕ). xs ++ digits_in n (length tiles - (place + 1)) (rest / n)) more
    ∙ append_assoc (map (slice_index cells) (take place tiles)) ((rest % n) ∷ []) (digits_in n (length tiles - (place + 1)) (rest / n))
    ∙ ap (λ (xs : List ℕ). map (slice_index cells) (take place tiles) ++ xs) (sym next)
    ∙ are

-- once all are written, the cells are those of the view with the slot
pub seen :
    (g : GroupModel) (base slot rest place : ℕ) (tiles cells : List ℕ)
    → base ≡ digit_base g.grid
    → tiles ≡ g.tiles
    → length tiles ≤ place
    → slice_index cells 0 ≡ slot % base
    → map (slice_index cells) (take place tiles) ++ digits_in base (length tiles - place) rest ≡ digits_in base (length tiles) (slot / base)
    → (v : ViewModel) → IsView g.grid g.tiles v → slot_in g.grid v ≡ slot → view_at g.tiles cells ≡ v
unfolding digits_in
seen g base slot rest place tiles cells based listed end blank are v view at = λ i. record { blank = get_or (one i) 0 0; cells = drop 1 (one i) }
  where
    none : length tiles - place ≡ 0
    none = omega (arith, end)

    all : map (slice_index cells) tiles ≡ digits_in base (length tiles) (slot / base)
    all =
        sym (ap (map (slice_index cells)) (take_all place tiles end))
        ∙ sym (append-nil (map (slice_index cells) (take place tiles)))
        ∙ ap (λ (k : ℕ). map (slice_index cells) (take place tiles) ++ digits_in base k rest) (sym none)
        ∙ are

    long : length tiles ≡ length v.cells
    long = ap length listed ∙ sym view.one_each

    one : slice_index cells 0 ∷ map (slice_index cells) g.tiles ≡ v.blank ∷ v.cells
    one =
        ap (λ (ts : List ℕ). slice_index cells 0 ∷ map (slice_index cells) ts) (sym listed)
        ∙ (λ i. blank i ∷ all i)
        ∙ (λ i. digits_in (based i) (suc (long i)) (sym at i))
        ∙ digits_back (digit_base g.grid) (v.blank ∷ v.cells) (slot_digits g.grid g.tiles v view)

-- what the loop keeps is kept by one tile more
pub tile_written :
    (g : GroupModel) (base slot rest place : ℕ) (tiles cells : List ℕ)
    → IsGroup g
    → tiles ≡ g.tiles
    → place < length tiles
    → length cells ≡ 25
    → slice_index cells 0 ≡ slot % base
    → map (slice_index cells) (take place tiles) ++ digits_in base (length tiles - place) rest ≡ digits_in base (length tiles) (slot / base)
    → (length (set cells (get_or tiles place 0) (rest % base)) ≡ 25)
    × (slice_index (set cells (get_or tiles place 0) (rest % base)) 0 ≡ slot % base)
    × (map (slice_index (set cells (get_or tiles place 0) (rest % base))) (take (place + 1) tiles) ++ digits_in base (length tiles - (place + 1)) (rest / base) ≡ digits_in base (length tiles) (slot / base))
tile_written g base slot rest place tiles cells is listed within all blank are =
    let few : cell_count g.grid ≤ 25 = mul-le g.grid.rows g.grid.cols 5 5 is.sides.rows_high is.sides.cols_high in
    let each : All (IsTile g.grid) tiles = subst (λ (ts : List ℕ). All (IsTile g.grid) ts) (sym listed) is.group.tiles in
    let tile : IsTile g.grid (get_or tiles place 0) = each place 0 within in
    let differ : AllPairs (λ x y. x ≢ y) tiles = subst (λ (ts : List ℕ). AllPairs (λ x y. x ≢ y) ts) (sym listed) is.group.different in (
      length-set cells (get_or tiles place 0) (rest % base) ∙ all,
      get_or-set_other cells (get_or tiles place 0) 0 (rest % base) 0 (λ e. absurd (omega (arith, e, tile.0))) ∙ blank,
      written base tiles cells (digits_in base (length tiles) (slot / base)) place rest differ within (omega (arith, tile.1, few, all)) are,
    )
