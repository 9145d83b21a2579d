-- The least value of each placement of the tiles, of nodes and of a table.
use Rattle.std.proofs.Common.{◌≡◌, ℕ, suc, ◌+◌, ◌-◌, ◌*◌, ◌<◌, ◌≤◌, ◌^◌, Bool, List, ◌∷◌, ◌++◌, length, get_or, map, take, drop, replicate, refl, sym, ap, ◌∙◌, subst, ⊎_elim, arith, false, true, ◌≢◌, ◌⊎◌, [], set, inl, inr}
use Rattle.std.specs.List.{range_with_len}
use Rattle.std.specs.Prelude.{Contains, min, slice_index, slice_index_or, All, AllPairs}
use Rattle.std.proofs.Math.Nat.{add-sub_cancel_left, mul-le-mul_right, min-eq_left, min-eq_right, mul_comm}
use Rattle.std.proofs.lemmas.Bool.{cases_lt, false≢true}
use Rattle.std.proofs.lemmas.List.FromFn.{get_or-map-range_with_len}
use Rattle.std.proofs.lemmas.List.{ext_get_or, get_or-take, get_or-drop, get_or_append_left, get_or-append-add, get_or-replicate, get_or_read, length-append, length-drop, length-take-le, length-replicate, take_at, get_or-set_other, get_or-set_same, get_or_default, length-set, map_more, take_more}
use Rattle.std.proofs.lemmas.Nat.{mul-add-lt}
use Rattle.std.proofs.lemmas.Slice.{drop-put_mid}
use Rattle.std.proofs.lemmas.List.Elements.{All-cons}
use borrow.Rule.Slice.PartMut.{put_mid}
use Rattle.board.specs.Weights.{WeightsModel}
use Rattle.board.specs.Shapes.{cell_count, ShapeModel}
use Rattle.board.specs.Boards.{BoardModel}
use Rattle.pattern_index.specs.Laws.{factorial}
use Rattle.pattern_index.specs.Ranks.{ways, IsListing, list_at}
use Rattle.pattern_index.specs.Groups.{GroupModel, size_of, folded_size_of, rank_in, place_in, abstraction_of, AreGroupTiles, IsGroup}
use Rattle.pattern_index.specs.Views.{ViewModel, IsView, view_of, view_at}
use Rattle.pattern_index.proofs.PlaceLemmas.{place_listing}
use Rattle.pattern_index.proofs.RankLemmas.{below_in, differ_in, listing_from, pairs_from_differ}
use Rattle.pattern_index.proofs.SightLemmas.{sight_below, listing as view_listing}
use Rattle.pattern_index.proofs.GroupLemmas.{cells_high, groups_small}
use Rattle.pattern_graph.specs.Graphs.{node_count, node_in}
use Rattle.pattern_graph.specs.Sets.{AreMarksOf, choose, set_place, set_at, AreSame}
use Rattle.pattern_graph.specs.Orders.{order_of}
use Rattle.pattern_graph.specs.Placements.{placement_in, placement_count, node_value, IsSetList}
use Rattle.database_build.specs.Folds.{IsLeastNode, FoldedModel, IsFoldOf, IsTrueFold, AreLeastNodes, IsFoldedValue, folded_in, AreLeastAdded, AreLeastOf}
use Rattle.pattern_graph.specs.Regions.{IsRegions, IsPlaced, IsFree, region_in}
use Rattle.pattern_graph.specs.declared.regions.Regions.{Regions}
use Rattle.pattern_graph.proofs.RowLemmas.{some_free, nodes_fit, blank_within, list_back, other_from, listing_wide}
use Rattle.pattern_graph.proofs.OrderLemmas.{below-all, order_below, one_placement}
use Rattle.pattern_graph.proofs.SetLemmas.{set_is, one_set, place_below, choose_ways}
use Rattle.pattern_graph.proofs.SlotLemmas.{order_within}
use Rattle.pattern_graph.proofs.PlacementLemmas.{IsOrdered, set_list}
use Rattle.database_build.specs.Entries.{HasLeast, least_in}
use Rattle.pattern_search.specs.Searches.{AreFound, IsValue}
use Rattle.database_build.specs.Tables.{TableModel, value_in}
use Rattle.database_build.specs.declared.entries.Entries.{Entries}
use Rattle.pattern_search.specs.declared.finding.Found.{Found}
use Rattle.database_build.proofs.FoldLemmas.{least_size}
use Rattle.database_build.proofs.EntryLemmas.{view_placed, view_free}

-- ---- how the least value over the blank's cells is found from the values of nodes

-- a view with the blank on a free cell has this value
abbrev pub HasNode : Regions → List ℕ → List ℕ → ℕ → Type 0
HasNode r nodes cells n = (blank : ℕ) × IsFree r.shape cells blank × (node_value r nodes (blank ∷ cells) ≡ n)

-- the least value of the free cells before this one
pub record IsLeastTo (r : Regions) (nodes cells : List ℕ) (blank least : ℕ) : Type 0 where
  pub reached : (least ≡ 65535) ⊎ HasNode r nodes cells least
  pub capped : least ≤ 65535
  pub none_below : (b : ℕ) → b < blank → ¬ Contains cells b → least ≤ node_value r nodes (b ∷ cells)

pub least_none : (r : Regions) (nodes cells : List ℕ) → IsLeastTo r nodes cells 0 65535
least_none r nodes cells = record {
  reached = inl refl;
  capped = omega arith;
  none_below = λ b lt free. absurd (omega (arith, lt));
}

-- a tile is there
pub least_pass : (r : Regions) (nodes cells : List ℕ) (blank least : ℕ) → Contains cells blank → IsLeastTo r nodes cells blank least → IsLeastTo r nodes cells (blank + 1) least
least_pass r nodes cells blank least has so_far = record {
  reached = so_far.reached;
  capped = so_far.capped;
  none_below = λ b lt free.
      so_far.none_below b
      (⊎_elim (λ (less : b < blank). less) (λ (more : blank ≤ b). let e : blank ≡ b = omega (arith, lt, more) in absurd (free (subst (λ k. Contains cells k) e has))) (cases_lt b blank)) free;
}

-- the blank can be there
pub least_more : (r : Regions) (nodes cells : List ℕ) (blank least value less : ℕ) → IsFree r.shape cells blank → value ≡ node_value r nodes (blank ∷ cells) → less ≡ min least value → IsLeastTo r nodes cells blank least → IsLeastTo r nodes cells (blank + 1) less
least_more r nodes cells blank least value less free is min_is so_far =
    ⊎_elim
    (λ (under : value < least).
    let e : less ≡ value = min_is ∙ min-eq_right (omega (arith, under)) in
    record {
      reached = inr (blank, free, sym is ∙ sym e);
      capped = let c = so_far.capped in omega (arith, c, under, e);
      none_below = below less (omega (arith, under, e)) (omega (arith, e));
    })
    (λ (over : least ≤ value).
    let e : less ≡ least = min_is ∙ min-eq_left over in
    record {
      reached = subst (λ n. (n ≡ 65535) ⊎ HasNode r nodes cells n) (sym e) so_far.reached;
      capped = let c = so_far.capped in omega (arith, c, e);
      none_below = below less (omega (arith, e)) (omega (arith, over, e));
    })
    (cases_lt value least)
  where
    below : (n : ℕ) → n ≤ least → n ≤ value → (b : ℕ) → b < blank + 1 → ¬ Contains cells b → n ≤ node_value r nodes (b ∷ cells)
    below n low here b lt out =
        ⊎_elim
        (λ (before : b < blank). let rest = so_far.none_below b before out in omega (arith, rest, low))
        (λ (at : blank ≤ b). let e : blank ≡ b = omega (arith, at, lt) in subst (λ k. n ≤ node_value r nodes (k ∷ cells)) e (omega (arith, is, here)))
        (cases_lt b blank)

module _ (r : Regions) (nodes cells : List ℕ) (regions : IsRegions r.shape r.count r) (placed : IsPlaced r.shape r.count cells) where
  -- all free cells were looked at
  pub least_all : (blank least : ℕ) → cell_count r.shape ≤ blank → ((i : ℕ) → slice_index nodes i ≤ 65535) → IsLeastTo r nodes cells blank least → IsLeastNode r nodes cells least
  least_all blank least end fits so_far = record {
    reached = ⊎_elim
        (λ (e : least ≡ 65535).
        let differ = differ_in (cell_count r.shape) cells placed.listing in
        let all = below-all (cell_count r.shape) cells (below_in (cell_count r.shape) cells placed.listing) in
        let long = placed.one_each in
        let room = regions.room in
        let free = some_free (cell_count r.shape) cells differ (omega (arith, all, long, room)) in
        let low = free.1 in
        let under = so_far.none_below free.0 (omega (arith, low, end)) free.2 in
        let over = fits (node_in r (record { blank = free.0; cells = cells })) in
        (free.0, record { inside = low; free = free.2 }, omega (arith, e, under, over)))
        (λ (has : HasNode r nodes cells least). has)
        so_far.reached;
    none_below = λ b free. so_far.none_below b (let low = free.inside in omega (arith, low, end)) free.free;
  }

-- ---- one set

-- the entries of a set's placements, by order, are the least values of the free cells before one
pub record AreLowered (r : Regions) (nodes : List ℕ) (set blank : ℕ) (row : List ℕ) : Type 0 where
  pub size : length row ≡ factorial r.count
  pub values : (cells : List ℕ) → IsPlaced r.shape r.count cells → set_place cells ≡ set → IsLeastTo r nodes cells blank (slice_index row (order_of cells))

module _ (r : Regions) (nodes : List ℕ) (n set : ℕ) (regions : IsRegions r.shape r.count r) (counted : n ≡ cell_count r.shape) (low : set < choose (cell_count r.shape) r.count) where
  -- the cells of the set, in rising order
  abbrev listed : List ℕ
  listed = set_at (cell_count r.shape) r.count set

  listed_placed : IsPlaced r.shape r.count listed
  listed_placed = let are = set_is (cell_count r.shape) r.count set low in record { listing = are.0; one_each = are.1 }

  listed_place : set ≡ set_place listed
  listed_place = sym (set_is (cell_count r.shape) r.count set low).2

  -- all placements on the set have its cells
  same_cells : (cells : List ℕ) → IsPlaced r.shape r.count cells → set_place cells ≡ set → AreSame cells listed
  same_cells cells placed place =
      subst (λ (ys : List ℕ). AreSame cells ys) (λ i. set_at (cell_count r.shape) (placed.one_each i) (place i)) (one_set (cell_count r.shape) cells placed.listing)

  -- no cell was looked at
  pub lowered_none : (row : List ℕ) → row ≡ replicate (factorial r.count) 65535 → AreLowered r nodes set 0 row
  lowered_none row is = record {
    size = ap length is ∙ length-replicate (factorial r.count) 65535;
    values = λ cells placed place.
        let at : slice_index row (order_of cells) ≡ 65535 = ap (λ (xs : List ℕ). slice_index xs (order_of cells)) is ∙ get_or-replicate (factorial r.count) (order_of cells) 65535 0 (order_within r cells placed) in
        subst (λ k. IsLeastTo r nodes cells 0 k) (sym at) (least_none r nodes cells);
  }

  -- all cells were looked at
  pub lowered_all :
      (blank : ℕ) (row : List ℕ)
      → n ≤ blank
      → ((i : ℕ) → slice_index nodes i ≤ 65535)
      → AreLowered r nodes set blank row
      → (cells : List ℕ)
      → IsPlaced r.shape r.count cells
      → set_place cells ≡ set
      → IsLeastNode r nodes cells (slice_index row (order_of cells))
  lowered_all blank row end fits lowered cells placed place =
      least_all r nodes cells regions placed blank (slice_index row (order_of cells)) (omega (arith, end, counted)) fits (lowered.values cells placed place)

  module _ (xs : List ℕ) (marks : List Bool) (blank : ℕ) (is : xs ≡ listed) (are : AreMarksOf xs marks) where
    -- a tile of the placements is on the cell
    pub lowered_pass : (row : List ℕ) → slice_index_or marks blank false ≡ true → AreLowered r nodes set blank row → AreLowered r nodes set (blank + 1) row
    lowered_pass row on lowered = record {
      size = lowered.size;
      values = λ cells placed place.
          let has : Contains listed blank = subst (λ (ys : List ℕ). Contains ys blank) is ((are blank).0 on) in
          least_pass r nodes cells blank (slice_index row (order_of cells)) ((same_cells cells placed place blank).1 has) (lowered.values cells placed place);
    }

    -- the blank can be there
    module _ (inside : blank < n) (off : slice_index_or marks blank false ≡ false) where
      out : ¬ Contains listed blank
      out has = false≢true (sym off ∙ (are blank).1 (subst (λ (ys : List ℕ). Contains ys blank) (sym is) has))

      listed_free : IsFree r.shape listed blank
      listed_free = record { inside = omega (arith, inside, counted); free = out }

      -- the number of its region is read
      number_within : set * n + blank < length r.numbers.items
      number_within = blank_within r nodes listed regions listed_placed n set blank counted listed_place inside out

      module _ (region orders : ℕ) (read : region ≡ get_or r.numbers.items (set * n + blank) region) (orders_are : orders ≡ factorial r.count) (nodes_are : length nodes ≡ node_count r) where
        region_is : region ≡ region_in r listed blank
        region_is = get_or_read r.numbers.items (set * n + blank) region number_within read 0 ∙ (λ i. slice_index r.numbers.items (listed_place i * counted i + blank))

        -- the nodes of the region, in all orders
        pub nodes_within : region * orders + orders ≤ length nodes
        nodes_within =
            let below : region_in r listed blank < length r.homes.items = regions.regions.inside listed blank listed_placed listed_free in
            let e = region_is in
            let more : suc region * orders ≤ length r.homes.items * orders = mul-le-mul_right orders (omega (arith, below, e)) in
            let all : length r.homes.items * orders ≡ length r.homes.items * factorial r.count = ap (λ k. length r.homes.items * k) orders_are in
            let parts : suc region * orders ≡ region * orders + orders = omega arith in
            omega (arith, more, all, nodes_are, parts)

        pub nodes_end_fits : region * orders + orders ≤ 2 ^ 56
        nodes_end_fits =
            let within = nodes_within in
            let few = nodes_fit r nodes listed regions listed_placed nodes_are in
            omega (arith, within, few)

        -- the node of a placement with the blank there
        node_at : (cells : List ℕ) → IsPlaced r.shape r.count cells → set_place cells ≡ set
            → slice_index (take (region * orders + orders - region * orders) (drop (region * orders) nodes)) (order_of cells) ≡ slice_index nodes (region_in r cells blank * factorial r.count + order_of cells)
        node_at cells placed place =
            let under = order_within r cells placed in
            let there : region ≡ region_in r cells blank = region_is ∙ (λ i. slice_index r.numbers.items ((sym listed_place ∙ sym place) i * cell_count r.shape + blank)) in
            ap (λ k. slice_index (take k (drop (region * orders) nodes)) (order_of cells)) (add-sub_cancel_left (region * orders) orders)
            ∙ get_or-take orders (drop (region * orders) nodes) (order_of cells) 0 (omega (arith, under, orders_are))
            ∙ get_or-drop (region * orders) nodes (order_of cells) 0
            ∙ (λ i. slice_index nodes (there i * orders_are i + order_of cells))

        pub lowered_more :
            (row new : List ℕ)
            → AreLowered r nodes set blank row
            → length new ≡ length row
            → ((p : ℕ) → p < length row → slice_index new p ≡ min (slice_index row p) (slice_index (take (region * orders + orders - region * orders) (drop (region * orders) nodes)) p))
            → AreLowered r nodes set (blank + 1) new
        lowered_more row new lowered long lower = record {
          size = long ∙ lowered.size;
          values = λ cells placed place.
              let under = order_within r cells placed in
              let size = lowered.size in
              let free : IsFree r.shape cells blank = record { inside = listed_free.inside; free = λ has. out ((same_cells cells placed place blank).0 has) } in
              least_more r nodes cells blank (slice_index row (order_of cells))
              (slice_index (take (region * orders + orders - region * orders) (drop (region * orders) nodes)) (order_of cells))
              (slice_index new (order_of cells)) free (node_at cells placed place) (lower (order_of cells) (omega (arith, under, size))) (lowered.values cells placed place);
        }

-- ---- one set after another

-- the placements on the sets before one have their least values, and the others have none yet
pub record AreLeastTo (r : Regions) (nodes : List ℕ) (set : ℕ) (least : List ℕ) : Type 0 where
  pub size : length least ≡ placement_count (cell_count r.shape) r.count
  pub done : (cells : List ℕ) → IsPlaced r.shape r.count cells → set_place cells < set → IsLeastNode r nodes cells (slice_index least (placement_in r.count cells))
  pub rest : (i : ℕ) → set * factorial r.count ≤ i → i < length least → slice_index least i ≡ 65535

-- no set is done
pub least_to_none : (g : GroupModel) (r : Regions) (nodes least : List ℕ) (size : ℕ) → IsRegions g.grid (length g.tiles) r → size ≡ folded_size_of g → least ≡ replicate size 65535 → AreLeastTo r nodes 0 least
least_to_none g r nodes least size regions sized is =
    let long : length least ≡ size = ap length is ∙ length-replicate size 65535 in
    let all : choose (cell_count r.shape) r.count * factorial r.count ≡ folded_size_of g = choose_ways (cell_count r.shape) r.count ∙ (λ i. ways (cell_count (regions.shape i)) (regions.tiles i)) in
    record {
      size = long ∙ sized ∙ sym all;
      done = λ cells placed less. absurd (omega (arith, less));
      rest = λ i from inside. ap (λ (xs : List ℕ). slice_index xs i) is ∙ get_or-replicate size i 65535 0 (omega (arith, inside, long));
    }

-- all sets are done
pub least_to_all : (r : Regions) (nodes least : List ℕ) (sets set : ℕ) → sets ≡ choose (cell_count r.shape) r.count → sets ≤ set → AreLeastTo r nodes set least → AreLeastNodes r nodes least
least_to_all r nodes least sets set counted end are = record {
  size = are.size;
  values = λ cells placed.
      let low : set_place cells < choose (cell_count r.shape) r.count = subst (λ k. set_place cells < choose (cell_count r.shape) k) placed.one_each (place_below (cell_count r.shape) cells placed.listing) in
      are.done cells placed (omega (arith, low, counted, end));
}

module _ (r : Regions) (nodes least : List ℕ) (set orders : ℕ) (orders_are : orders ≡ factorial r.count) (low : set < choose (cell_count r.shape) r.count) (are : AreLeastTo r nodes set least) where
  first_is : set * orders ≡ set * factorial r.count
  first_is = ap (λ k. set * k) orders_are

  -- the row of the set is there
  pub row_within : set * orders + orders ≤ length least
  row_within =
      let size = are.size in
      let more : suc set * factorial r.count ≤ choose (cell_count r.shape) r.count * factorial r.count = mul-le-mul_right (factorial r.count) (omega (arith, low)) in
      let parts : suc set * factorial r.count ≡ set * factorial r.count + factorial r.count = omega arith in
      let first = first_is in
      omega (arith, size, more, parts, first, orders_are)

  -- it has no values yet
  pub row_fresh : (items : List ℕ) → items ≡ least → take (set * orders + orders - set * orders) (drop (set * orders) items) ≡ replicate (factorial r.count) 65535
  row_fresh items is =
      let within = row_within in
      let long : length (take orders (drop (set * orders) least)) ≡ orders = length-take-le orders (drop (set * orders) least) (let d = length-drop (set * orders) least in omega (arith, within, d)) in
      let full : length (replicate {A = ℕ} (factorial r.count) 65535) ≡ factorial r.count = length-replicate (factorial r.count) 65535 in
      (λ i. take (add-sub_cancel_left (set * orders) orders i) (drop (set * orders) (is i)))
      ∙ ext_get_or 0 (take orders (drop (set * orders) least)) (replicate (factorial r.count) 65535) (long ∙ orders_are ∙ sym full)
      (λ p inside.
      let under : p < orders = omega (arith, inside, long) in
      let first = first_is in
      get_or-take orders (drop (set * orders) least) p 0 under
      ∙ get_or-drop (set * orders) least p 0
      ∙ are.rest (set * orders + p) (omega (arith, first)) (omega (arith, within, under))
      ∙ sym (get_or-replicate (factorial r.count) p 65535 0 (omega (arith, under, orders_are))))

  module _ (row : List ℕ) (long : length row ≡ factorial r.count) where
    -- the list with the row written
    abbrev put : List ℕ
    put = put_mid (set * orders) orders least row

    front : length (take (set * orders) least) ≡ set * orders
    front = length-take-le (set * orders) least (let within = row_within in omega (arith, within))

    put_long : length put ≡ length least
    put_long =
        let within = row_within in
        let f = front in
        let a = length-append (take (set * orders) least) (row ++ drop orders (drop (set * orders) least)) in
        let b = length-append row (drop orders (drop (set * orders) least)) in
        let d = length-drop orders (drop (set * orders) least) in
        let e = length-drop (set * orders) least in
        omega (arith, within, f, a, b, d, e, long, orders_are)

    -- what is before the row
    put_before : (i : ℕ) → i < set * orders → slice_index put i ≡ slice_index least i
    put_before i less =
        let f = front in
        get_or_append_left (take (set * orders) least) (row ++ drop orders (drop (set * orders) least)) 0 i (omega (arith, f, less))
        ∙ get_or-take (set * orders) least i 0 less

    -- what is in it
    put_in : (p : ℕ) → p < orders → slice_index put (set * orders + p) ≡ slice_index row p
    put_in p less =
        ap (λ k. slice_index put (k + p)) (sym front)
        ∙ get_or-append-add (take (set * orders) least) (row ++ drop orders (drop (set * orders) least)) p 0
        ∙ get_or_append_left row (drop orders (drop (set * orders) least)) 0 p (omega (arith, less, long, orders_are))

    -- what is behind it
    put_after : (i : ℕ) → set * orders + orders ≤ i → slice_index put i ≡ slice_index least i
    put_after i more =
        let within = row_within in
        let whole : set * orders + orders + (i - (set * orders + orders)) ≡ i = omega (arith, more) in
        let rest : drop (set * orders + orders) put ≡ drop (set * orders + orders) least = drop-put_mid (set * orders) orders least row (set * orders + orders) (omega arith) (omega (arith, within)) (long ∙ sym orders_are) in
        ap (slice_index put) (sym whole)
        ∙ sym (get_or-drop (set * orders + orders) put (i - (set * orders + orders)) 0)
        ∙ ap (λ (xs : List ℕ). slice_index xs (i - (set * orders + orders))) rest
        ∙ get_or-drop (set * orders + orders) least (i - (set * orders + orders)) 0
        ∙ ap (slice_index least) whole

    put_done : ((cells : List ℕ) → IsPlaced r.shape r.count cells → set_place cells ≡ set → IsLeastNode r nodes cells (slice_index row (order_of cells))) → AreLeastTo r nodes (set + 1) put
    put_done values = record {
      size = put_long ∙ are.size;
      done = λ cells placed less.
          let under = order_within r cells placed in
          ⊎_elim
          (λ (before : set_place cells < set).
          let m = mul-add-lt (set_place cells) (factorial r.count) (order_of cells) set before under in
          let first = first_is in
          subst (λ k. IsLeastNode r nodes cells k) (sym (put_before (placement_in r.count cells) (omega (arith, m, first)))) (are.done cells placed before))
          (λ (after : set ≤ set_place cells).
          let e : set_place cells ≡ set = omega (arith, after, less) in
          let at : placement_in r.count cells ≡ set * orders + order_of cells = (λ i. e i * sym orders_are i + order_of cells) in
          subst (λ k. IsLeastNode r nodes cells k) (sym (ap (slice_index put) at ∙ put_in (order_of cells) (omega (arith, under, orders_are)))) (values cells placed e))
          (cases_lt (set_place cells) set);
      rest = λ i from inside.
          let parts : (set + 1) * factorial r.count ≡ set * factorial r.count + factorial r.count = omega arith in
          let first = first_is in
          let same = put_long in
          put_after i (omega (arith, from, parts, first, orders_are)) ∙ are.rest i (omega (arith, from, parts)) (omega (arith, inside, same));
    }

    -- the row of the set is written
    pub least_to_more :
        (len : ℕ) (was : List ℕ)
        → len ≡ length least
        → was ≡ least
        → ((cells : List ℕ) → IsPlaced r.shape r.count cells → set_place cells ≡ set → IsLeastNode r nodes cells (slice_index row (order_of cells)))
        → AreLeastTo r nodes (set + 1) (take len (put_mid (set * orders) (set * orders + orders - set * orders) was row ++ drop (length (put_mid (set * orders) (set * orders + orders - set * orders) was row)) least))
    least_to_more len was kept is values =
        let whole : put_mid (set * orders) (set * orders + orders - set * orders) was row ≡ put = (λ i. put_mid (set * orders) (add-sub_cancel_left (set * orders) orders i) (is i) row) in
        let all = take_at (put_mid (set * orders) (set * orders + orders - set * orders) was row) (drop (length (put_mid (set * orders) (set * orders + orders - set * orders) was row)) least) len (ap length whole ∙ put_long ∙ sym kept) in
        subst (AreLeastTo r nodes (set + 1)) (sym (all ∙ whole)) (put_done values)

-- ---- folded tables

-- the whole table, with the values of nodes
pub whole : GroupModel → Regions → List ℕ → TableModel
whole g r nodes = record { selection = g; values = map (λ rank. node_value r nodes (list_at (cell_count g.grid) (suc (length g.tiles)) rank)) (range_with_len 0 (size_of g)) }

module _ (g : GroupModel) (r : Regions) (nodes : List ℕ) (regions : IsRegions g.grid (length g.tiles) r) where
  -- a view has its node's value
  whole_value : (v : ViewModel) → IsView g.grid g.tiles v → value_in (whole g r nodes) v ≡ slice_index nodes (node_in r v)
  unfolding whole
  whole_value v view =
      let low : rank_in g.grid v < size_of g = sight_below g.grid g.tiles v view in
      let long : suc (length v.cells) ≡ suc (length g.tiles) = ap suc view.one_each in
      let room = regions.room in
      let back : list_at (cell_count g.grid) (suc (length g.tiles)) (rank_in g.grid v) ≡ v.blank ∷ v.cells =
      ap (λ k. list_at (cell_count g.grid) k (rank_in g.grid v)) (sym long) ∙ list_back (cell_count g.grid) (v.blank ∷ v.cells) (view_listing g.grid g.tiles v view) (omega (arith, long, room)) in
      get_or-map-range_with_len (λ rank. node_value r nodes (list_at (cell_count g.grid) (suc (length g.tiles)) rank)) 0 (size_of g) (rank_in g.grid v) (rank_in g.grid v) 0 low (omega arith)
      ∙ ap (node_value r nodes) back

  -- with the blank on a free cell it is a view too
  with_blank : (v : ViewModel) (blank : ℕ) → IsView g.grid g.tiles v → IsFree r.shape v.cells blank → IsView g.grid g.tiles (record { blank = blank; cells = v.cells })
  with_blank v blank view free =
      let is = place_listing g.grid g.tiles v view in
      let low : blank < cell_count g.grid = subst (λ n. blank < n) (ap cell_count regions.shape) free.inside in
      let made = listing_from (cell_count g.grid) (blank ∷ v.cells) (low, below_in (cell_count g.grid) v.cells is) (other_from blank v.cells free.free, differ_in (cell_count g.grid) v.cells is) in
      record { one_each = view.one_each; in_range = made.in_range; different = made.different }

  -- there is a value for each placement
  pub least_count : (least was : List ℕ) → AreLeastNodes r nodes least → was ≡ least → length was ≡ placement_count (cell_count g.grid) (length g.tiles)
  least_count least was are is = ap length is ∙ are.size ∙ (λ i. placement_count (cell_count (regions.shape i)) (regions.tiles i))

  -- where the least values of nodes are kept by place they are the folded values
  fold_of_nodes :
      (least kept : List ℕ)
      → AreLeastNodes r nodes least
      → length kept ≡ folded_size_of g
      → ((v : ViewModel) → IsView g.grid g.tiles v → slice_index kept (place_in g.grid v) ≡ slice_index least (placement_in (length g.tiles) v.cells))
      → IsFoldOf (whole g r nodes) (record { selection = g; least = kept })
  unfolding whole
  fold_of_nodes least kept are size kept_is = record {
    selection = refl;
    size = size;
    least = λ v view.
        let at : slice_index kept (place_in g.grid v) ≡ slice_index least (placement_in r.count v.cells) = kept_is v view ∙ ap (λ k. slice_index least (placement_in k v.cells)) (sym regions.tiles) in
        let here : IsLeastNode r nodes v.cells (slice_index kept (place_in g.grid v)) = subst (λ n. IsLeastNode r nodes v.cells n) (sym at) (are.values v.cells (view_placed g r regions v view)) in
        let w : ViewModel = record { blank = here.reached.0; cells = v.cells } in
        let view_w : IsView g.grid g.tiles w = with_blank v here.reached.0 view here.reached.1 in
        record {
          reached = (w, view_w, refl, whole_value w view_w ∙ here.reached.2);
          none_below = λ u view_u same.
              let free : IsFree r.shape v.cells u.blank = subst (λ (xs : List ℕ). IsFree r.shape xs u.blank) same (view_free g r regions u view_u) in
              let low = here.none_below u.blank free in
              let e : value_in (whole g r nodes) u ≡ node_value r nodes (u.blank ∷ v.cells) = whole_value u view_u ∙ ap (λ (xs : List ℕ). node_value r nodes (u.blank ∷ xs)) same in
              omega (arith, low, e);
        };
  }

-- the folded table of what a search has found
pub true_fold :
    (g : GroupModel) (rule : WeightsModel) (goal : BoardModel) (found : Found) (fold : FoldedModel) (nodes least was : List ℕ) (entries : Entries)
    → AreFound g rule goal found
    → nodes ≡ found.values.items
    → AreLeastNodes found.regions nodes least
    → was ≡ least
    → HasLeast g entries
    → ((v : ViewModel) → IsView g.grid g.tiles v → slice_index (least_in g entries) (place_in g.grid v) ≡ slice_index was (placement_in (length g.tiles) v.cells))
    → fold ≡ record { selection = g; least = least_in g entries }
    → IsTrueFold rule goal fold
unfolding whole
true_fold g rule goal found fold nodes least was entries are all least_are read has kept is = (
  whole g found.regions nodes,
  subst (λ (f : FoldedModel). IsFoldOf (whole g found.regions nodes) f) (sym is)
      (fold_of_nodes g found.regions nodes are.regions least (least_in g entries) least_are (least_size g entries has) (λ v view. kept v view ∙ ap (λ (xs : List ℕ). slice_index xs (placement_in (length g.tiles) v.cells)) read)),
  λ v view. subst (λ n. IsValue (abstraction_of g rule) (view_of g.tiles goal) v n) (sym (whole_value g found.regions nodes are.regions v view ∙ ap (λ (ns : List ℕ). slice_index ns (node_in found.regions v)) all)) (are.values v view),
)

-- ---- the cell of each tile, by number

-- the cells of the tiles stay where that of another number is changed
cells_kept : (numbers tiles : List ℕ) (number cell : ℕ) → ¬ Contains tiles number → map (slice_index (set numbers number cell)) tiles ≡ map (slice_index numbers) tiles
cells_kept numbers [] number cell out = refl
cells_kept numbers (tile ∷ tiles) number cell out =
    let first = get_or-set_other numbers number tile cell 0 (λ e. out (0, omega arith, e)) in
    let rest = cells_kept numbers tiles number cell (λ has. out (suc has.0, (let low = has.1 in omega arith), has.2)) in
    λ i. first i ∷ rest i

-- the cells of the tiles before one are written
pub record ArePut (tiles cells : List ℕ) (place : ℕ) (numbers : List ℕ) : Type 0 where
  pub size : length numbers ≡ 25
  pub are : map (slice_index numbers) (take place tiles) ≡ take place cells

-- that of one tile more is written
pub cell_put :
    (tiles cells numbers : List ℕ) (place : ℕ)
    → length cells ≡ length tiles
    → All (λ tile. tile < 25) tiles
    → AllPairs (λ x y. x ≢ y) tiles
    → place < length tiles
    → ArePut tiles cells place numbers
    → ArePut tiles cells (place + 1) (set numbers (get_or tiles place 0) (get_or cells place 0))
cell_put tiles cells numbers place same within different inside put =
    let tile = get_or tiles place 0 in
    let cell = get_or cells place 0 in
    let size = length-take-le place tiles (omega arith) in
    let out : ¬ Contains (take place tiles) tile = λ has.
    let before : has.0 < place = let lt = has.1 in omega arith in
    different has.0 place tile before inside (sym (get_or-take place tiles has.0 tile before) ∙ has.2 ∙ get_or_default tiles place 0 tile inside)
    in
    let others = cells_kept numbers (take place tiles) tile cell out ∙ put.are in
    let here = get_or-set_same numbers tile cell 0 (let low = within place 0 inside in let all = put.size in omega (arith, low, all)) in
    record {
      size = length-set numbers tile cell ∙ put.size;
      are = map_more (slice_index (set numbers tile cell)) tiles place 0 inside ∙ (λ i. others i ++ here i ∷ []) ∙ sym (take_more cells place 0 (omega arith));
    }

-- the view with the blank on a cell, where the cells of the tiles are written
pub blank_put : (grid : ShapeModel) (numbers tiles cells : List ℕ) (blank : ℕ) → AreGroupTiles grid tiles → 0 < length numbers → map (slice_index numbers) tiles ≡ cells → view_at tiles (set numbers 0 blank) ≡ record { blank = blank; cells = cells }
blank_put grid numbers tiles cells blank group some written =
    let out : ¬ Contains tiles 0 = λ has. let above = (group.tiles has.0 0 has.1).0 in let is = has.2 in absurd (omega arith) in
    let here = get_or-set_same numbers 0 blank 0 some in
    let kept = cells_kept numbers tiles 0 blank out ∙ written in
    λ i. record { blank = here i; cells = kept i }

-- the blank on a free cell, where the cells of the tiles are written, gives a view
pub blank_view :
    (grid : ShapeModel) (numbers tiles cells : List ℕ) (marks : List Bool) (blank end : ℕ)
    → AreGroupTiles grid tiles
    → length numbers ≡ 25
    → map (slice_index numbers) tiles ≡ cells
    → IsPlaced grid (length tiles) cells
    → AreMarksOf cells marks
    → blank < end
    → end ≡ cell_count grid
    → slice_index_or marks blank false ≡ false
    → IsView grid tiles (view_at tiles (set numbers 0 blank))
blank_view grid numbers tiles cells marks blank end group long written is_placed are low counted off =
    let free : ¬ Contains cells blank = λ has. false≢true (sym off ∙ (are blank).1 has) in
    let view : IsView grid tiles (record { blank = blank; cells = cells }) = record {
      one_each = is_placed.one_each;
      in_range = All-cons (λ cell. cell < cell_count grid) blank cells (omega (arith, low, counted)) is_placed.listing.in_range;
      different = pairs_from_differ (blank ∷ cells) (other_from blank cells free, differ_in (cell_count grid) cells is_placed.listing);
    } in
    subst (IsView grid tiles) (sym (blank_put grid numbers tiles cells blank group (omega (arith, long)) written)) view

-- the cells of the tiles stay written
pub blank_kept : (grid : ShapeModel) (numbers tiles cells : List ℕ) (blank : ℕ) → AreGroupTiles grid tiles → length numbers ≡ 25 → map (slice_index numbers) tiles ≡ cells → map (slice_index (set numbers 0 blank)) tiles ≡ cells
blank_kept grid numbers tiles cells blank group long written = ap (λ (v : ViewModel). v.cells) (blank_put grid numbers tiles cells blank group (omega (arith, long)) written)

-- ---- the least value over the blank's cells

-- a view with the tiles on these cells has this value
abbrev pub HasView : TableModel → List ℕ → ℕ → Type 0
HasView table cells n = (w : ViewModel) × IsView table.selection.grid table.selection.tiles w × (w.cells ≡ cells) × (value_in table w ≡ n)

-- the least value of those with the blank on the cells before this one
pub record IsLeastBefore (table : TableModel) (cells : List ℕ) (blank least : ℕ) : Type 0 where
  pub reached : (least ≡ 65535) ⊎ HasView table cells least
  pub none_below : (w : ViewModel) → IsView table.selection.grid table.selection.tiles w → w.cells ≡ cells → w.blank < blank → least ≤ value_in table w

-- a tile is there
pub before_pass : (table : TableModel) (cells : List ℕ) (blank least : ℕ) → Contains cells blank → IsLeastBefore table cells blank least → IsLeastBefore table cells (blank + 1) least
before_pass table cells blank least has so_far = record {
  reached = so_far.reached;
  none_below = λ w view is lt.
      ⊎_elim
      (λ (less : w.blank < blank). so_far.none_below w view is less)
      (λ (more : blank ≤ w.blank).
      let e : blank ≡ w.blank = omega (arith, lt, more) in
      let there : Contains w.cells w.blank = subst (λ xs. Contains xs w.blank) (sym is) (subst (λ k. Contains cells k) e has) in
      absurd (view.different 0 (suc there.0) w.blank (omega arith) (let low = there.1 in omega (arith, low)) (sym there.2)))
      (cases_lt w.blank blank);
}

-- the blank can be there
pub before_more :
    (table : TableModel) (cells : List ℕ) (blank least value less : ℕ) (u : ViewModel)
    → IsView table.selection.grid table.selection.tiles u
    → u ≡ record { blank = blank; cells = cells }
    → value ≡ value_in table u
    → less ≡ min least value
    → IsLeastBefore table cells blank least
    → IsLeastBefore table cells (blank + 1) less
before_more table cells blank least value less u view_u u_is is min_is so_far =
    ⊎_elim
    (λ (under : value < least).
    let e : less ≡ value = min_is ∙ min-eq_right (omega (arith, under)) in
    record {
      reached = inr (u, view_u, ap (λ (w : ViewModel). w.cells) u_is, sym is ∙ sym e);
      none_below = below less (omega (arith, under, e)) (omega (arith, e));
    })
    (λ (over : least ≤ value).
    let e : less ≡ least = min_is ∙ min-eq_left over in
    record {
      reached = subst (λ n. (n ≡ 65535) ⊎ HasView table cells n) (sym e) so_far.reached;
      none_below = below less (omega (arith, e)) (omega (arith, over, e));
    })
    (cases_lt value least)
  where
    below : (n : ℕ) → n ≤ least → n ≤ value → (w : ViewModel) → IsView table.selection.grid table.selection.tiles w → w.cells ≡ cells → w.blank < blank + 1 → n ≤ value_in table w
    below n low here w view w_is lt =
        ⊎_elim
        (λ (before : w.blank < blank). let rest = so_far.none_below w view w_is before in omega (arith, rest, low))
        (λ (at : blank ≤ w.blank).
        let e : blank ≡ w.blank = omega (arith, at, lt) in
        let same : u ≡ w = u_is ∙ (λ i. record { blank = e i; cells = sym w_is i }) in
        subst (λ (x : ViewModel). n ≤ value_in table x) same (omega (arith, is, here)))
        (cases_lt w.blank blank)

-- all cells were looked at
pub before_all :
    (table : TableModel) (cells : List ℕ) (blank least : ℕ)
    → cell_count table.selection.grid ≤ blank
    → ((rank : ℕ) → slice_index table.values rank ≤ 65535)
    → IsLeastBefore table cells blank least
    → (v : ViewModel) → IsView table.selection.grid table.selection.tiles v → v.cells ≡ cells → IsFoldedValue table v least
before_all table cells blank least end high so_far v view is = record {
  reached = ⊎_elim
      (λ (e : least ≡ 65535).
      let under = below v view is in
      (v, view, refl, (let over = high (rank_in table.selection.grid v) in omega (arith, e, under, over))))
      (λ (has : HasView table cells least). (has.0, has.1, has.2 ∙ sym is, has.3))
      so_far.reached;
  none_below = λ w view_w same. below w view_w (same ∙ is);
}
  where
    below : (w : ViewModel) → IsView table.selection.grid table.selection.tiles w → w.cells ≡ cells → least ≤ value_in table w
    below w view_w w_is = so_far.none_below w view_w w_is (let low = view_w.in_range 0 0 (omega arith) in omega (arith, low, end))

-- ---- a set and an order of it

-- the cells of a set can be marked
pub set_listed : (g : GroupModel) (cells : List ℕ) → IsGroup g → IsSetList g.grid (length g.tiles) cells → IsListing 25 cells
set_listed g cells selection is = listing_wide (cell_count g.grid) 25 cells (cells_high g.grid selection.sides) (set_list g.grid (length g.tiles) cells is).listing

pub set_few : (g : GroupModel) (cells : List ℕ) → IsGroup g → IsSetList g.grid (length g.tiles) cells → length cells ≤ 9
set_few g cells selection is = let few = (groups_small g selection).0 in let long = (set_list g.grid (length g.tiles) cells is).one_each in omega (arith, few, long)

-- they have as many orders as there are of the tiles
pub ended_is : (g : GroupModel) (cells : List ℕ) (end : ℕ) → IsSetList g.grid (length g.tiles) cells → end ≡ factorial (length cells) → end ≡ factorial (length g.tiles)
ended_is g cells end is ended = ended ∙ ap factorial (set_list g.grid (length g.tiles) cells is).one_each

-- where they are marked the tiles on them are
pub same_marks : (xs cells : List ℕ) (marks : List Bool) → AreSame xs cells → AreMarksOf cells marks → AreMarksOf xs marks
same_marks xs cells marks same are cell = (λ marked. (same cell).1 ((are cell).0 marked), λ there. (are cell).1 ((same cell).0 there))

-- the set that is written over the front of an array
module _ (g : GroupModel) (n count set end : ℕ) (written rest : List ℕ) (selection : IsGroup g) (counted : n ≡ cell_count g.grid) (tiles : count ≡ length g.tiles) (low : set < end) (ended : end ≡ choose n count) (is : written ≡ set_at n (length (take {A = ℕ} count (replicate 9 0))) set) where
  set_low : set < choose (cell_count g.grid) (length g.tiles)
  set_low = subst (λ k. set < k) (ended ∙ (λ i. choose (counted i) (tiles i))) low

  pub front_is : take count (written ++ rest) ≡ set_at (cell_count g.grid) (length g.tiles) set
  front_is =
      let few = (groups_small g selection).0 in
      let l : length (take {A = ℕ} count (replicate 9 0)) ≡ length g.tiles = length-take-le count (replicate 9 0) (omega (arith, few, tiles)) ∙ tiles in
      let e : written ≡ set_at (cell_count g.grid) (length g.tiles) set = is ∙ (λ i. set_at (counted i) (l i) set) in
      take_at written rest count (ap length e ∙ (set_is (cell_count g.grid) (length g.tiles) set set_low).1 ∙ sym tiles) ∙ e

-- ---- the placements on one set

-- behind the old values are those of the orders before one
pub record AreAddedTo (table : TableModel) (cells old : List ℕ) (order : ℕ) (new : List ℕ) : Type 0 where
  pub size : length new ≡ length old + order
  pub kept : (i : ℕ) → i < length old → slice_index new i ≡ slice_index old i
  pub added : (v : ViewModel) → IsView table.selection.grid table.selection.tiles v → AreSame v.cells cells → order_of v.cells < order → IsFoldedValue table v (slice_index new (length old + order_of v.cells))

-- that of one placement more is put at the end
pub added_more :
    (table : TableModel) (cells old new placed : List ℕ) (order value : ℕ)
    → IsOrdered table.selection.grid (length table.selection.tiles) cells order placed
    → ((v : ViewModel) → IsView table.selection.grid table.selection.tiles v → v.cells ≡ placed → IsFoldedValue table v value)
    → AreAddedTo table cells old order new
    → AreAddedTo table cells old (order + 1) (new ++ value ∷ [])
added_more table cells old new placed order value is_ordered folded so_far = record {
  size = length-append new (value ∷ []) ∙ (let size = so_far.size in omega (arith, size));
  kept = λ i low. get_or_append_left new (value ∷ []) 0 i (let size = so_far.size in omega (arith, size, low)) ∙ so_far.kept i low;
  added = λ v view same low.
      ⊎_elim
      (λ (before : order_of v.cells < order).
      let here = get_or_append_left new (value ∷ []) 0 (length old + order_of v.cells) (let size = so_far.size in omega (arith, size, before)) in
      subst (IsFoldedValue table v) (sym here) (so_far.added v view same before))
      (λ (after : order ≤ order_of v.cells).
      let turn : order_of v.cells ≡ order_of placed = let e = is_ordered.order_is in omega (arith, after, low, e) in
      let both : AreSame v.cells placed = λ cell. ((λ has. (is_ordered.same cell).1 ((same cell).0 has)), (λ has. (same cell).1 ((is_ordered.same cell).0 has))) in
      let is = one_placement (cell_count table.selection.grid) v.cells placed (place_listing table.selection.grid table.selection.tiles v view) is_ordered.placed.listing both turn in
      let at : length old + order_of v.cells ≡ length new + 0 = let size = so_far.size in let e = is_ordered.order_is in omega (arith, size, turn, e) in
      let here : slice_index (new ++ value ∷ []) (length old + order_of v.cells) ≡ value = ap (slice_index (new ++ value ∷ [])) at ∙ get_or-append-add new (value ∷ []) 0 0 in
      subst (IsFoldedValue table v) (sym here) (folded v view is))
      (cases_lt (order_of v.cells) order);
}

-- all orders were looked at
pub added_all : (table : TableModel) (cells old new : List ℕ) (order : ℕ) → order ≡ factorial (length table.selection.tiles) → AreAddedTo table cells old order new → AreLeastAdded table cells old new
added_all table cells old new order end so_far = record {
  size = so_far.size ∙ ap (λ k. length old + k) end;
  kept = so_far.kept;
  added = λ v view same. so_far.added v view same (subst (λ k. order_of v.cells < k) (ap factorial view.one_each ∙ sym end) (order_below v.cells));
}

-- ---- the sets

-- the least values of the placements on the sets before one
pub record AreLeastBefore (table : TableModel) (set : ℕ) (least : List ℕ) : Type 0 where
  pub size : length least ≡ set * factorial (length table.selection.tiles)
  pub values : (v : ViewModel) → IsView table.selection.grid table.selection.tiles v → set_place v.cells < set → IsFoldedValue table v (slice_index least (placement_in (length table.selection.tiles) v.cells))

-- those on one set more are put at the end
pub sets_more :
    (table : TableModel) (set : ℕ) (cells old new : List ℕ)
    → cells ≡ set_at (cell_count table.selection.grid) (length table.selection.tiles) set
    → AreLeastAdded table cells old new
    → AreLeastBefore table set old
    → AreLeastBefore table (set + 1) new
sets_more table set cells old new cells_are added so_far = record {
  size = added.size ∙ (let size = so_far.size in omega (arith, size));
  values = λ v view low.
      let count = length table.selection.tiles in
      let orders = factorial count in
      let turn : order_of v.cells < orders = subst (λ k. order_of v.cells < factorial k) view.one_each (order_below v.cells) in
      ⊎_elim
      (λ (before : set_place v.cells < set).
      let within : set_place v.cells * orders + order_of v.cells < length old =
      let m = mul-add-lt (set_place v.cells) orders (order_of v.cells) set before turn in let turned = mul_comm orders set in let size = so_far.size in omega (arith, m, turned, size) in
      subst (IsFoldedValue table v) (sym (added.kept (placement_in count v.cells) within)) (so_far.values v view before))
      (λ (after : set ≤ set_place v.cells).
      let here : set_place v.cells ≡ set = omega (arith, after, low) in
      let same : AreSame v.cells cells = subst (AreSame v.cells) ((λ i. set_at (cell_count table.selection.grid) (view.one_each i) (here i)) ∙ sym cells_are) (one_set (cell_count table.selection.grid) v.cells (place_listing table.selection.grid table.selection.tiles v view)) in
      let at : length old + order_of v.cells ≡ placement_in count v.cells = so_far_at v here in
      subst (λ k. IsFoldedValue table v (slice_index new k)) at (added.added v view same))
      (cases_lt (set_place v.cells) set);
}
  where
    so_far_at : (v : ViewModel) → set_place v.cells ≡ set → length old + order_of v.cells ≡ placement_in (length table.selection.tiles) v.cells
    so_far_at v here = λ i. (so_far.size ∙ ap (λ k. k * factorial (length table.selection.tiles)) (sym here)) i + order_of v.cells

-- all sets were looked at
pub sets_all : (table : TableModel) (set : ℕ) (least : List ℕ) → set ≡ choose (cell_count table.selection.grid) (length table.selection.tiles) → AreLeastBefore table set least → AreLeastOf table least
sets_all table set least end so_far = record {
  size = so_far.size ∙ ap (λ k. k * factorial (length table.selection.tiles)) end;
  values = λ v view.
      so_far.values v view
      (subst (λ k. set_place v.cells < k) (ap (choose (cell_count table.selection.grid)) view.one_each ∙ sym end) (place_below (cell_count table.selection.grid) v.cells (place_listing table.selection.grid table.selection.tiles v view)));
}

-- ---- what is kept of them

-- what a folded table keeps of a placement
abbrev pub AreKept : GroupModel → List ℕ → Entries → Type 0
AreKept g least entries = (v : ViewModel) → IsView g.grid g.tiles v → slice_index (least_in g entries) (place_in g.grid v) ≡ slice_index least (placement_in (length g.tiles) v.cells)

-- the folded table with the least value of each placement is that of the table
pub kept_fold :
    (table : TableModel) (g : GroupModel) (least : List ℕ) (entries : Entries) (fold : FoldedModel)
    → g ≡ table.selection
    → AreLeastOf table least
    → HasLeast g entries
    → AreKept g least entries
    → fold ≡ record { selection = g; least = least_in g entries }
    → IsFoldOf table fold
kept_fold table g least entries fold same are has kept is =
    let fold_is : fold ≡ record { selection = table.selection; least = least_in table.selection entries } = is ∙ ap (λ (h : GroupModel). record { selection = h; least = least_in h entries }) same in
    record {
      selection = ap (λ (f : FoldedModel). f.selection) fold_is;
      size = ap (λ (f : FoldedModel). length f.least) fold_is ∙ least_size table.selection entries (subst (λ (h : GroupModel). HasLeast h entries) same has);
      least = λ v view. subst (IsFoldedValue table v) (sym (ap (λ (f : FoldedModel). folded_in f v) fold_is ∙ subst (λ (h : GroupModel). AreKept h least entries) same kept v view)) (are.values v view);
    }
