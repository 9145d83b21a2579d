-- Edges of a region: those of its set's cells in rising order are those of every list of these cells.
use Rattle.std.proofs.Common.{◌≡◌, ◌≢◌, ◌⊎◌, ℕ, zero, suc, ◌+◌, ◌-◌, ◌*◌, ◌^◌, ◌<◌, ◌≤◌, cond, eqb, List, [], ◌∷◌, ◌++◌, map, length, set, take, get_or, refl, sym, ap, ◌∙◌, subst, inl, inr, ⊎_elim, arith, Some}
use Rattle.std.specs.Prelude.{slice_get, slice_index, Contains}
use Rattle.std.proofs.lemmas.Nat.{mul-le, mul-add-lt}
use Rattle.std.proofs.lemmas.Bool.{cases_lt}
use Rattle.std.proofs.lemmas.Bool.Decides.{nat_tests}
use Rattle.std.proofs.lemmas.List.{length-append, length_push, append_assoc, get_or_push, get_or_append_left, get_or_default, get_or_read, get_or-take, take_at}
use Rattle.std.proofs.lemmas.List.Elements.{All-from_recursion, Contains-get_or, Contains-append_left, Contains-push, Contains-push_cases}
use Rattle.std.proofs.lemmas.Option.{slice_get-get_or, slice_get_within, get_or_from_slice_get, same_Some}
use Rattle.board.specs.declared.moves.Move.{Move}
use Rattle.board.specs.declared.moves.Move.TheVariants.{U, L, R, D}
use Rattle.board.specs.Equality.{number_of}
use Rattle.board.specs.Shapes.{ShapeModel, cell_count}
use Rattle.board.specs.Moves.{all_moves}
use Rattle.board.specs.Neighbours.{LiesTowards, opposite}
use Rattle.board.proofs.MoveLemmas.{cell_below}
use Rattle.board.proofs.NeighbourLemmas.{neighbour_lies}
use Rattle.pattern_index.specs.Laws.{factorial}
use Rattle.pattern_index.specs.Ranks.{ways, IsListing}
use Rattle.pattern_index.specs.declared.group.TheConstants.{MAX_SIZE}
use Rattle.pattern_index.proofs.RankLemmas.{Other, Differ, differ_in}
use Rattle.pattern_index.proofs.ViewMoveLemmas.{lies_back}
use Rattle.pattern_graph.specs.Orders.{below}
use Rattle.pattern_graph.specs.Sets.{choose, set_place, set_at, AreSame, replaced}
use Rattle.pattern_graph.specs.Regions.{IsPlaced, IsFree, IsRegions, HasRegions, region_in, IsCrossing, IsEdgeOf, AreEdges}
use Rattle.pattern_graph.specs.Edges.{IsRising, IsStep, IsStepEdge, AreEdgesFound, HasFound, IsTrueEdge, AreEdgesAdded}
use Rattle.pattern_graph.proofs.OrderTables.{factorial_some}
use Rattle.pattern_graph.proofs.SetLemmas.{place_below, same_place, set_is, set_below}
use Rattle.pattern_graph.proofs.OrderLemmas.{in_map, from_map, same_below, replaced_listing}
use Rattle.pattern_graph.specs.declared.edges.Edge.{Edge}
use Rattle.pattern_graph.specs.declared.edges.Edges.{Edges}
use Rattle.pattern_graph.specs.declared.regions.Home.{Home}
use Rattle.pattern_graph.specs.declared.regions.Regions.{Regions}

-- ---- cells with one of them exchanged for another

-- where a cell is after the exchange
moved : ℕ → ℕ → ℕ → ℕ
moved from to x = cond (eqb x from) to x

moved_from : (from to : ℕ) → moved from to from ≡ to
unfolding moved
moved_from from to = grind (arith, nat_tests)

moved_other : (from to x : ℕ) → x ≢ from → moved from to x ≡ x
unfolding moved
moved_other from to x ne = grind (arith, nat_tests)

moved_away : (from to x : ℕ) → from ≢ to → moved from to x ≢ from
unfolding moved
moved_away from to x ne = grind (arith, nat_tests)

map_more : (f : ℕ → ℕ) (xs ys : List ℕ) → ((x : ℕ) → Contains xs x → Contains ys x) → (z : ℕ) → Contains (map f xs) z → Contains (map f ys) z
map_more f xs ys more z has = let h = from_map f xs z has in subst (Contains (map f ys)) h.2 (in_map f ys h.0 (more h.0 h.1))

-- the set after an exchange depends only on the set
pub replaced_same : (from to : ℕ) (xs ys : List ℕ) → AreSame xs ys → AreSame (replaced from to xs) (replaced from to ys)
unfolding moved
replaced_same from to xs ys same z = (map_more (moved from to) xs ys (λ x. (same x).0) z, map_more (moved from to) ys xs (λ x. (same x).1) z)

-- no tile is where the one that went was
pub replaced_gone : (from to : ℕ) (xs : List ℕ) → from ≢ to → Contains (replaced from to xs) from → ⊥
unfolding moved
replaced_gone from to xs ne has = let h = from_map (moved from to) xs from has in moved_away from to h.0 ne h.2

replaced_none : (from to : ℕ) (xs : List ℕ) → Other from xs → map (moved from to) xs ≡ xs
replaced_none from to [] other = refl
replaced_none from to (x ∷ xs) other = λ i. moved_other from to x (λ e. other.0 (sym e)) i ∷ replaced_none from to xs other.1 i

set_moved : (xs : List ℕ) (tile to : ℕ) → Differ xs → tile < length xs → set xs tile to ≡ map (moved (get_or xs tile 0) to) xs
set_moved [] tile to differ inside = absurd (omega arith)
set_moved (x ∷ xs) zero to differ inside = λ i. sym (moved_from x to) i ∷ sym (replaced_none x to xs differ.0) i
set_moved (x ∷ xs) (suc tile) to differ inside =
    let apart : x ≢ get_or xs tile 0 = All-from_recursion (λ y. x ≢ y) xs differ.0 tile 0 (omega arith) in
    λ i. sym (moved_other (get_or xs tile 0) to x apart) i ∷ set_moved xs tile to differ.1 (omega arith) i

-- to write another cell at a tile's place is to exchange its cell
pub set_replaced : (n : ℕ) (xs : List ℕ) (tile to : ℕ) → IsListing n xs → tile < length xs → set xs tile to ≡ replaced (get_or xs tile 0) to xs
unfolding moved
set_replaced n xs tile to listing inside = set_moved xs tile to (differ_in n xs listing) inside

-- ---- the same edge for each list of a set's cells

region_same : (r : Regions) (n : ℕ) (xs ys : List ℕ) (blank : ℕ) → IsListing n xs → IsListing n ys → AreSame xs ys → region_in r xs blank ≡ region_in r ys blank
region_same r n xs ys blank lx ly same = ap (λ p. slice_index r.numbers.items (p * cell_count r.shape + blank)) (same_place n xs ys lx ly same)

edge_same : (r : Regions) (n : ℕ) (xs ys : List ℕ) (from to : ℕ) (e : Edge) → IsListing n xs → IsListing n ys → AreSame xs ys → to < n → ¬ Contains xs to → IsEdgeOf r xs from to e → IsEdgeOf r ys from to e
edge_same r n xs ys from to e lx ly same inside free edge =
    let rx = (replaced_listing n from to xs lx inside free).0 in
    let ry = (replaced_listing n from to ys ly inside (λ has. free ((same to).1 has))).0 in
    let rs = replaced_same from to xs ys same in
    record {
      before = edge.before ∙ same_below n xs ys lx ly same from;
      after = edge.after ∙ same_below n (replaced from to xs) (replaced from to ys) rx ry rs to;
      other = edge.other ∙ region_same r n (replaced from to xs) (replaced from to ys) from rx ry rs;
    }

-- a tile's place after a move is free
pub still_placed : (r : Regions) (xs : List ℕ) (tile to : ℕ) → IsPlaced r.shape r.count xs → tile < r.count → IsFree r.shape xs to → IsPlaced r.shape r.count (set xs tile to) × IsFree r.shape (set xs tile to) (get_or xs tile 0)
still_placed r xs tile to placed inside free =
    let n = cell_count r.shape in
    let within : tile < length xs = let one = placed.one_each in omega arith in
    let is = set_replaced n xs tile to placed.listing within in
    let after = replaced_listing n (get_or xs tile 0) to xs placed.listing free.inside free.free in
    let apart : get_or xs tile 0 ≢ to = λ e. free.free (subst (Contains xs) e (Contains-get_or xs tile 0 within)) in (
      record { listing = subst (IsListing n) (sym is) after.0; one_each = ap length is ∙ after.1 ∙ placed.one_each },
      record { inside = placed.listing.in_range tile 0 within; free = λ has. replaced_gone (get_or xs tile 0) to xs apart (subst (λ ys. Contains ys (get_or xs tile 0)) is has) },
    )

-- ---- the edges found so far

pub found_none : (r : Regions) (cells : List ℕ) (region : ℕ) → AreEdgesFound r cells region 0 []
found_none r cells region = record {
  few = omega arith;
  sound = λ e has. absurd (omega (arith, has.1));
  complete = λ tile number to low tried step. absurd (omega arith);
}

pub tried_same : (r : Regions) (cells : List ℕ) (region tried next : ℕ) (old new : List Edge) → tried ≡ next → HasFound r cells region tried old new → HasFound r cells region next old new
tried_same r cells region tried next old new same found = subst (λ (k : ℕ). HasFound r cells region k old new) same found

-- a cell has one neighbour in a direction
one_neighbour : (grid : ShapeModel) (m : Move) (from to other : ℕ) → from < cell_count grid → LiesTowards grid m from to → LiesTowards grid m from other → to ≡ other
one_neighbour grid m from to other inside lies also = same_Some to other (sym ((neighbour_lies grid m from to inside).1 lies) ∙ (neighbour_lies grid m from other inside).1 also)

-- the tile and direction tried last, or some before
last_or_before : (tile number t k : ℕ) → number < 4 → k < 4 → t * 4 + k < tile * 4 + (number + 1) → (t * 4 + k < tile * 4 + number) ⊎ ((tile ≡ t) × (number ≡ k))
last_or_before tile number t k low k_low within =
    ⊎_elim (λ (lt : t * 4 + k < tile * 4 + number). inl lt)
    (λ (le : tile * 4 + number ≤ t * 4 + k). let tiles : tile ≡ t = omega arith in let numbers : number ≡ k = omega arith in inr (tiles, numbers))
    (cases_lt (t * 4 + k) (tile * 4 + number))

-- the tile can't go in this direction to where the blank is
pub found_past : (r : Regions) (cells : List ℕ) (region tile number : ℕ) (found : List Edge) → number < 4 → ((to : ℕ) → ¬ IsStep r cells region (get_or cells tile 0) (get_or all_moves number U) to) → AreEdgesFound r cells region (tile * 4 + number) found → AreEdgesFound r cells region (tile * 4 + (number + 1)) found
found_past r cells region tile number found low none all = record {
  few = let few = all.few in omega arith;
  sound = all.sound;
  complete = λ t k to k_low within step.
      ⊎_elim (λ (before : t * 4 + k < tile * 4 + number). all.complete t k to k_low before step)
      (λ (here : (tile ≡ t) × (number ≡ k)). absurd (none to (subst (λ (j : ℕ). IsStep r cells region (get_or cells tile 0) (get_or all_moves j U) to) (sym here.1) (subst (λ (j : ℕ). IsStep r cells region (get_or cells j 0) (get_or all_moves k U) to) (sym here.0) step))))
      (last_or_before tile number t k low k_low within);
}

-- the tile can go in this direction
pub found_more : (r : Regions) (cells : List ℕ) (region tile number : ℕ) (found : List Edge) (e : Edge) → number < 4 → IsPlaced r.shape r.count cells → tile < r.count → IsStepEdge r cells region (get_or cells tile 0) (get_or all_moves number U) e → AreEdgesFound r cells region (tile * 4 + number) found → AreEdgesFound r cells region (tile * 4 + (number + 1)) (found ++ e ∷ [])
found_more r cells region tile number found e low placed tile_in one all = record {
  few = let few = all.few in omega (arith, length_push found e);
  sound = λ f has.
      ⊎_elim (λ (before : Contains {X = Edge} found f). all.sound f before)
      (λ (last : e ≡ f). (get_or cells tile 0, get_or all_moves number U, Contains-get_or cells tile 0 within, subst (λ (g : Edge). IsStepEdge r cells region (get_or cells tile 0) (get_or all_moves number U) g) last one))
      (Contains-push_cases found e f has);
  complete = λ t k to k_low before step.
      ⊎_elim (λ (lt : t * 4 + k < tile * 4 + number). let h = all.complete t k to k_low lt step in (h.0, Contains-append_left found (e ∷ []) h.0 h.1, h.2))
      (λ (here : (tile ≡ t) × (number ≡ k)).
      let step' : IsStep r cells region (get_or cells tile 0) (get_or all_moves number U) to = subst (λ (j : ℕ). IsStep r cells region (get_or cells tile 0) (get_or all_moves j U) to) (sym here.1) (subst (λ (j : ℕ). IsStep r cells region (get_or cells j 0) (get_or all_moves k U) to) (sym here.0) step) in
      let same = one_neighbour r.shape (get_or all_moves number U) (get_or cells tile 0) one.to to (placed.listing.in_range tile 0 within) one.step.towards step'.towards in
      let edge : IsEdgeOf r cells (get_or cells tile 0) to e = subst (λ (j : ℕ). IsEdgeOf r cells (get_or cells tile 0) j e) same one.edge in
      (e, Contains-push found e, subst (λ (j : ℕ). IsEdgeOf r cells (get_or cells j 0) to e) here.0 edge))
      (last_or_before tile number t k low k_low before);
}
  where
    within : tile < length cells
    within = let each = placed.one_each in omega arith

-- ---- the edges of a region

module _ (r : Regions) (all : List ℕ) (region tile number : ℕ) (low : number < 4) (placed : IsPlaced r.shape r.count (take r.count all)) (inside : tile < r.count) (old : List Edge) where
  cells : List ℕ
  cells = take r.count all

  from_is : get_or all tile 0 ≡ get_or cells tile 0
  unfolding cells
  from_is = sym (get_or-take r.count all tile 0 inside)

  pub tried_past : (new new' : List Edge) → new' ≡ new → ((to : ℕ) → ¬ IsStep r (take r.count all) region (get_or all tile 0) (get_or all_moves number U) to) → HasFound r (take r.count all) region (tile * 4 + number) old new → HasFound r (take r.count all) region (tile * 4 + (number + 1)) old new'
  unfolding cells
  tried_past new new' same none found =
      (found.0, same ∙ found.1, found_past r cells region tile number found.0 low (subst (λ x. (to : ℕ) → ¬ IsStep r cells region x (get_or all_moves number U) to) from_is none) found.2)

  pub tried_more : (new new' : List Edge) (e : Edge) → new' ≡ new ++ e ∷ [] → IsStepEdge r (take r.count all) region (get_or all tile 0) (get_or all_moves number U) e → HasFound r (take r.count all) region (tile * 4 + number) old new → HasFound r (take r.count all) region (tile * 4 + (number + 1)) old new'
  unfolding cells
  tried_more new new' e more one found = (
    found.0 ++ e ∷ [],
    more ∙ ap (λ es. es ++ e ∷ []) found.1 ∙ append_assoc old found.0 (e ∷ []),
    found_more r cells region tile number found.0 e low placed inside (subst (λ x. IsStepEdge r cells region x (get_or all_moves number U) e) from_is one) found.2,
  )

number_low : (m : Move) → number_of m < 4
number_low U = omega arith
number_low L = omega arith
number_low R = omega arith
number_low D = omega arith

move_at : (m : Move) → get_or all_moves (number_of m) U ≡ m
move_at U = refl
move_at L = refl
move_at R = refl
move_at D = refl

-- there are few regions
pub homes_few : (r : Regions) → HasRegions r → ways (cell_count r.shape) (suc r.count) ≤ MAX_SIZE → length r.homes.items ≤ 2 ^ 26
homes_few r regions small =
    let each : length r.homes.items * 1 ≤ length r.homes.items * factorial r.count = mul-le (length r.homes.items) 1 (length r.homes.items) (factorial r.count) (omega arith) (factorial_some r.count) in
    let few = regions.few in
    omega arith

module _ (r : Regions) (regions : HasRegions r) (region : ℕ) (home : Home) (at : slice_get r.homes.items region ≡ Some home) where
  -- the cells of the region's set, in rising order
  abbrev pub home_cells : List ℕ
  home_cells = set_at (cell_count r.shape) r.count home.set

  pub home_rising : IsRising r home.set home_cells
  home_rising =
      let in_set = (regions.homes region home at).0 in
      let is = set_is (cell_count r.shape) r.count home.set in_set in
      record {
        placed = record { listing = is.0; one_each = is.1 };
        place = is.2;
        rising = λ tile inside. set_below (cell_count r.shape) r.count home.set tile in_set inside;
      }

  -- the region is of one set
  home_same : (xs : List ℕ) (blank : ℕ) → IsPlaced r.shape r.count xs → IsFree r.shape xs blank → region_in r xs blank ≡ region → AreSame home_cells xs
  home_same xs blank placed free here =
      let h = regions.homes region home at in
      let same = (regions.joined xs home_cells blank home.cell placed home_rising.placed free h.1 (here ∙ sym h.2)).0 in
      λ cell. ((same cell).1, (same cell).0)

  module _ (xs : List ℕ) (placed : IsPlaced r.shape r.count xs) (same : AreSame home_cells xs) where
    crossing_from : (from : ℕ) (m : Move) (e : Edge) → Contains home_cells from → IsStepEdge r home_cells region from m e → (m : Move) × (from : ℕ) × (to : ℕ) × IsCrossing r.shape xs m from to × (region_in r xs to ≡ region) × IsEdgeOf r xs from to e
    crossing_from from m e has one =
        let n = cell_count r.shape in
        let listing = home_rising.placed.listing in
        let to = one.to in
        let free : ¬ Contains xs to = λ h. one.step.blank.free ((same to).1 h) in
        let inside : from < n = subst (λ x. x < n) has.2 (listing.in_range has.0 from has.1) in (
          opposite m,
          from,
          to,
          record { blank = record { inside = one.step.blank.inside; free = free }; tile = (same from).0 has; towards = lies_back r.shape m from to inside one.step.towards },
          sym (region_same r n home_cells xs to listing placed.listing same) ∙ one.step.here,
          edge_same r n home_cells xs from to e listing placed.listing same one.step.blank.inside one.step.blank.free one.edge,
        )

    step_from : (m : Move) (from to : ℕ) → IsCrossing r.shape xs m from to → region_in r xs to ≡ region → IsStep r home_cells region from (opposite m) to
    step_from m from to crossing here =
        let n = cell_count r.shape in
        record {
          towards = lies_back r.shape m to from crossing.blank.inside crossing.towards;
          blank = record { inside = crossing.blank.inside; free = λ h. crossing.blank.free ((same to).0 h) };
          here = region_same r n home_cells xs to home_rising.placed.listing placed.listing same ∙ here;
        }

    edge_from : (from to : ℕ) (e : Edge) → IsFree r.shape xs to → IsEdgeOf r home_cells from to e → IsEdgeOf r xs from to e
    edge_from from to e free edge = edge_same r (cell_count r.shape) home_cells xs from to e home_rising.placed.listing placed.listing same free.inside (λ h. free.free ((same to).0 h)) edge

  -- the edges found by the cells in rising order are those of the region
  pub added_are : (old new found : List Edge) → new ≡ old ++ found → AreEdgesFound r home_cells region (r.count * 4) found → AreEdgesAdded r region old new
  added_are old new found is all = record {
    found = found;
    more = is;
    few = all.few;
    sound = λ e has cells blank placed free here. let one = all.sound e has in crossing_from cells placed (home_same cells blank placed free here) one.0 one.1 e one.2 one.3;
    complete = λ cells m from to placed crossing here.
        let same = home_same cells to placed crossing.blank here in
        let stands = (same from).1 crossing.tile in
        let tile : stands.0 < r.count = let each = home_rising.placed.one_each in let within = stands.1 in omega arith in
        let is : get_or home_cells stands.0 0 ≡ from = get_or_default home_cells stands.0 0 from stands.1 ∙ stands.2 in
        let step = step_from cells placed same m from to crossing here in
        let step' : IsStep r home_cells region (get_or home_cells stands.0 0) (get_or all_moves (number_of (opposite m)) U) to = subst (λ (d : Move). IsStep r home_cells region (get_or home_cells stands.0 0) d to) (sym (move_at (opposite m))) (subst (λ (j : ℕ). IsStep r home_cells region j (opposite m) to) (sym is) step) in
        let one = all.complete stands.0 (number_of (opposite m)) to (number_low (opposite m)) (let low = number_low (opposite m) in omega arith) step' in
        (one.0, one.1, edge_from cells placed same from to one.0 crossing.blank (subst (λ (j : ℕ). IsEdgeOf r home_cells j to one.0) is one.2));
  }

-- ---- the edges of the first regions

-- the edge is between two places
abbrev pub StandsIn : List Edge → ℕ → ℕ → Edge → Type 0
StandsIn edges low high e = (at : ℕ) × (low ≤ at) × (at < high) × (slice_get edges at ≡ Some e)

-- the edges of the first regions, by where those of each region begin and where the last ones end
pub record AreDone (r : Regions) (done : ℕ) (starts : List ℕ) (edges : List Edge) : Type 0 where
  pub long : length starts ≡ done + 1
  pub end : get_or starts done 0 ≡ length edges
  pub few : length edges ≤ done * (r.count * 4)
  pub rising : (region : ℕ) → region < done → get_or starts region 0 ≤ get_or starts (suc region) 0
  pub within : (region : ℕ) → region < done → get_or starts (suc region) 0 ≤ length edges
  pub sound : (region : ℕ) (e : Edge) → region < done → StandsIn edges (get_or starts region 0) (get_or starts (suc region) 0) e → IsTrueEdge r region e
  pub complete : (region : ℕ) (cells : List ℕ) (m : Move) (from to : ℕ) → region < done → IsPlaced r.shape r.count cells → IsCrossing r.shape cells m from to → region_in r cells to ≡ region
      → (e : Edge) × StandsIn edges (get_or starts region 0) (get_or starts (suc region) 0) e × IsEdgeOf r cells from to e

pub none_done : (r : Regions) → AreDone r 0 (0 ∷ []) []
none_done r = record {
  long = refl;
  end = refl;
  few = omega arith;
  rising = λ region low. absurd (omega arith);
  within = λ region low. absurd (omega arith);
  sound = λ region e low. absurd (omega arith);
  complete = λ region cells m from to low. absurd (omega arith);
}

get_append_left : (xs ys : List Edge) (i : ℕ) → i < length xs → slice_get (xs ++ ys) i ≡ slice_get xs i
get_append_left [] ys i inside = absurd (omega arith)
get_append_left (x ∷ xs) ys zero inside = refl
get_append_left (x ∷ xs) ys (suc i) inside = get_append_left xs ys i (omega arith)

get_append_right : (xs ys : List Edge) (i : ℕ) → slice_get (xs ++ ys) (length xs + i) ≡ slice_get ys i
get_append_right [] ys i = let e : length {A = Edge} [] + i ≡ i = omega arith in ap (slice_get ys) e
get_append_right (x ∷ xs) ys i = let e : length (x ∷ xs) + i ≡ suc (length xs + i) = omega arith in ap (slice_get (x ∷ xs ++ ys)) e ∙ get_append_right xs ys i

has_from_get : (xs : List Edge) (i : ℕ) (e : Edge) → slice_get xs i ≡ Some e → Contains xs e
has_from_get xs i e is = (i, slice_get_within xs i e is, get_or_from_slice_get xs i e e is)

get_from_has : (xs : List Edge) (e : Edge) (has : Contains xs e) → slice_get xs has.0 ≡ Some e
get_from_has xs e has = slice_get-get_or xs has.0 e has.1 ∙ ap Some has.2

module _ (r : Regions) (done : ℕ) (starts : List ℕ) (edges edges' : List Edge) (all : AreDone r done starts edges) (added : AreEdgesAdded r done edges edges') where
  ends : List ℕ
  ends = starts ++ length edges' ∷ []

  longer : length edges' ≡ length edges + length added.found
  longer = ap length added.more ∙ length-append edges added.found

  kept : (i : ℕ) → i < done + 1 → get_or ends i 0 ≡ get_or starts i 0
  unfolding ends
  kept i low = let long = all.long in get_or_append_left starts (length edges' ∷ []) 0 i (omega arith)

  last : get_or ends (done + 1) 0 ≡ length edges'
  unfolding ends
  last = get_or_push starts (length edges') 0 (done + 1) all.long

  last-suc : get_or ends (suc done) 0 ≡ length edges'
  last-suc = let e : suc done ≡ done + 1 = omega arith in ap (λ k. get_or ends k 0) e ∙ last

  stands_old : (region : ℕ) (e : Edge) → region < done → StandsIn edges (get_or starts region 0) (get_or starts (suc region) 0) e → StandsIn edges' (get_or ends region 0) (get_or ends (suc region) 0) e
  stands_old region e low stands =
      let a = kept region (omega arith) in
      let b = kept (suc region) (omega arith) in
      (stands.0, omega (arith, stands.1), omega (arith, stands.2), ap (λ (es : List Edge). slice_get es stands.0) added.more ∙ get_append_left edges added.found stands.0 (slice_get_within edges stands.0 e stands.3) ∙ stands.3)

  old_stands : (region : ℕ) (e : Edge) → region < done → StandsIn edges' (get_or ends region 0) (get_or ends (suc region) 0) e → StandsIn edges (get_or starts region 0) (get_or starts (suc region) 0) e
  old_stands region e low stands =
      let a = kept region (omega arith) in
      let b = kept (suc region) (omega arith) in
      let within = all.within region low in
      let inside : stands.0 < length edges = omega (arith, stands.2) in
      (stands.0, omega (arith, stands.1), omega (arith, stands.2), sym (get_append_left edges added.found stands.0 inside) ∙ sym (ap (λ (es : List Edge). slice_get es stands.0) added.more) ∙ stands.3)

  stands_new : (e : Edge) → Contains added.found e → StandsIn edges' (get_or ends done 0) (get_or ends (suc done) 0) e
  stands_new e has =
      let a : get_or ends done 0 ≡ length edges = kept done (omega arith) ∙ all.end in
      let b = last-suc in
      let c = longer in
      (length edges + has.0, omega arith, omega (arith, has.1), ap (λ (es : List Edge). slice_get es (length edges + has.0)) added.more ∙ get_append_right edges added.found has.0 ∙ get_from_has added.found e has)

  new_stands : (e : Edge) → StandsIn edges' (get_or ends done 0) (get_or ends (suc done) 0) e → Contains added.found e
  new_stands e stands =
      let a : get_or ends done 0 ≡ length edges = kept done (omega arith) ∙ all.end in
      let i : stands.0 ≡ length edges + (stands.0 - length edges) = omega (arith, stands.1) in
      has_from_get added.found (stands.0 - length edges) e (sym (get_append_right edges added.found (stands.0 - length edges)) ∙ sym (ap (slice_get (edges ++ added.found)) i) ∙ sym (ap (λ (es : List Edge). slice_get es stands.0) added.more) ∙ stands.3)

  before_or_last : {P : Type 0} (region : ℕ) → region < done + 1 → (region < done → P) → (region ≡ done → P) → P
  before_or_last region low before here = ⊎_elim (λ (lt : region < done). before lt) (λ (le : done ≤ region). here (omega arith)) (cases_lt region done)

  -- the edges of one region more
  pub one_done : AreDone r (done + 1) (starts ++ length edges' ∷ []) edges'
  unfolding ends
  one_done = record {
    long = length_push starts (length edges') ∙ ap (λ k. k + 1) all.long;
    end = last;
    few = let a = longer in let b = all.few in let c = added.few in omega (arith, times (r.count * 4));
    rising = λ region low.
        before_or_last region low (λ lt. let a = kept region (omega arith) in let b = kept (suc region) (omega arith) in let c = all.rising region lt in omega arith)
        (λ e. rw e (let a : get_or ends done 0 ≡ length edges = kept done (omega arith) ∙ all.end in let b = last-suc in let c = longer in omega arith));
    within = λ region low.
        before_or_last region low (λ lt. let a = kept (suc region) (omega arith) in let b = all.within region lt in let c = longer in omega arith) (λ e. rw e (let b = last-suc in omega arith));
    sound = λ region e low stands.
        before_or_last region low (λ lt. all.sound region e lt (old_stands region e lt stands))
        (λ is. let stands' = subst (λ (k : ℕ). StandsIn edges' (get_or ends k 0) (get_or ends (suc k) 0) e) is stands in subst (λ (k : ℕ). IsTrueEdge r k e) (sym is) (added.sound e (new_stands e stands')));
    complete = λ region cells m from to low placed crossing here.
        before_or_last region low
        (λ lt. let h = all.complete region cells m from to lt placed crossing here in (h.0, stands_old region h.0 lt h.1, h.2))
        (λ is.
        let h = added.complete cells m from to placed crossing (here ∙ is) in
        (h.0, subst (λ (k : ℕ). StandsIn edges' (get_or ends k 0) (get_or ends (suc k) 0) h.0) (sym is) (stands_new h.0 h.1), h.2));
  }
    where
      times : (k : ℕ) → (done + 1) * k ≡ done * k + k
      times k = grind arith

-- the edges of all regions
pub all_done : (r : Regions) (es : Edges) (done : ℕ) → HasRegions r → done ≡ length r.homes.items → AreDone r done es.starts.items es.edges.items → AreEdges r es
all_done r es done regions is all = record {
  starts_length = let long = all.long in omega arith;
  rising = λ region low. all.rising region (omega arith);
  within = λ region low. all.within region (omega arith);
  sound = λ region e cells blank low has placed free here. all.sound region e (omega arith) has cells blank placed free here;
  complete = λ cells m from to placed crossing. all.complete (region_in r cells to) cells m from to (let h = regions.inside cells to placed crossing.blank in omega arith) placed crossing refl;
}

-- ---- places in a table of rows

-- the place of a set's cell is one in the table of regions
row_placed : (r : Regions) (cells : List ℕ) (cell set n : ℕ) → HasRegions r → IsPlaced r.shape r.count cells → cell < cell_count r.shape → set ≡ set_place cells → n ≡ cell_count r.shape → set * n + cell < length r.numbers.items
row_placed r cells cell set n regions placed inside place count =
    let low : set_place cells < choose (cell_count r.shape) r.count = subst (λ k. set_place cells < choose (cell_count r.shape) k) placed.one_each (place_below (cell_count r.shape) cells placed.listing) in
    let h = mul-add-lt (set_place cells) (cell_count r.shape) cell (choose (cell_count r.shape) r.count) low inside in
    let is : set * n + cell ≡ set_place cells * cell_count r.shape + cell = λ i. place i * count i + cell in
    let rows = regions.rows in
    omega arith

-- the number there is the region
row_read : (r : Regions) (xs : List ℕ) (blank set n value : ℕ) → set ≡ set_place xs → n ≡ cell_count r.shape → set * n + blank < length r.numbers.items → value ≡ get_or r.numbers.items (set * n + blank) value → value ≡ region_in r xs blank
row_read r xs blank set n value place count inside is = get_or_read r.numbers.items (set * n + blank) value inside is 0 ∙ (λ i. get_or r.numbers.items (place i * count i + blank) 0)

-- the number of a region is small
pub region_small : (r : Regions) (cells : List ℕ) (blank : ℕ) → IsRegions r.shape r.count r → ways (cell_count r.shape) (suc r.count) ≤ MAX_SIZE → IsPlaced r.shape r.count cells → IsFree r.shape cells blank → region_in r cells blank < 2 ^ 26
region_small r cells blank regions small placed free =
    let inside = regions.regions.inside cells blank placed free in
    let few = homes_few r regions.regions small in
    omega arith

-- ---- the code

-- to write a tile's cell in a longer list is to write it among the first cells
pub take_set : (count : ℕ) (xs : List ℕ) (tile to : ℕ) → tile < count → take count (set xs tile to) ≡ set (take count xs) tile to
take_set zero xs tile to inside = absurd (omega arith)
take_set (suc count) [] tile to inside = refl
take_set (suc count) (x ∷ xs) zero to inside = refl
take_set (suc count) (x ∷ xs) (suc tile) to inside = ap (λ ys. x ∷ ys) (take_set count xs tile to (omega arith))

module _ (r : Regions) (all : List ℕ) (tile to : ℕ) (placed : IsPlaced r.shape r.count (take r.count all)) (inside : tile < r.count) (free : IsFree r.shape (take r.count all) to) where
  kept_cells : List ℕ
  kept_cells = take r.count all

  first : get_or kept_cells tile 0 ≡ get_or all tile 0
  unfolding kept_cells
  first = get_or-take r.count all tile 0 inside

  after : IsPlaced r.shape r.count (set kept_cells tile to) × IsFree r.shape (set kept_cells tile to) (get_or kept_cells tile 0)
  unfolding kept_cells
  after = still_placed r kept_cells tile to placed inside free

  -- the cells after a tile's move are placed
  pub moved_placed : IsPlaced r.shape r.count (take r.count (set all tile to))
  unfolding kept_cells
  moved_placed = subst (IsPlaced r.shape r.count) (sym (take_set r.count all tile to inside)) after.0

  pub moved_free : IsFree r.shape (take r.count (set all tile to)) (get_or all tile 0)
  unfolding kept_cells
  moved_free = subst (λ x. IsFree r.shape (take r.count (set all tile to)) x) first (subst (λ xs. IsFree r.shape xs (get_or kept_cells tile 0)) (sym (take_set r.count all tile to inside)) after.1)

  moved_is : take r.count (set all tile to) ≡ replaced (get_or all tile 0) to kept_cells
  unfolding kept_cells
  moved_is = let one = placed.one_each in take_set r.count all tile to inside ∙ set_replaced (cell_count r.shape) kept_cells tile to placed.listing (omega arith) ∙ ap (λ x. replaced x to kept_cells) first

  pub edge_is : (place region : ℕ) → below (get_or all tile 0) (take r.count all) ≡ tile → place ≡ below to (take r.count (set all tile to)) → region ≡ region_in r (take r.count (set all tile to)) (get_or all tile 0) → IsEdgeOf r (take r.count all) (get_or all tile 0) to (record { from = tile; to = place; region = region })
  unfolding kept_cells
  edge_is place region rising place_is region_is = record {
    before = sym rising;
    after = place_is ∙ ap (below to) moved_is;
    other = region_is ∙ ap (λ xs. region_in r xs (get_or all tile 0)) moved_is;
  }

-- the tile on a cell goes in a direction
module _ (r : Regions) (regions : IsRegions r.shape r.count r) (set region : ℕ) (all : List ℕ) (rising : IsRising r set (take r.count all)) (tile : ℕ) (inside : tile < r.count) (m : Move) (to n : ℕ) (lies : LiesTowards r.shape m (get_or all tile 0) to) (count : n ≡ cell_count r.shape) where
  -- the tile's cell
  from_inside : get_or all tile 0 < cell_count r.shape
  from_inside =
      let one = rising.placed.one_each in
      let low = rising.placed.listing.in_range tile 0 (omega arith) in
      omega (arith, get_or-take r.count all tile 0 inside)

  pub step_row : set * n + to < length r.numbers.items
  step_row = row_placed r (take r.count all) to set n regions.regions rising.placed (cell_below r.shape m (get_or all tile 0) to lies) (sym rising.place) count

  step_read : (value : ℕ) → value ≡ get_or r.numbers.items (set * n + to) value → value ≡ region_in r (take r.count all) to
  step_read value is = row_read r (take r.count all) to set n value (sym rising.place) count step_row is

  -- the blank of this region does not come there
  pub step_elsewhere : (value : ℕ) → value ≡ get_or r.numbers.items (set * n + to) value → value ≢ region → (other : ℕ) → ¬ IsStep r (take r.count all) region (get_or all tile 0) m other
  step_elsewhere value is ne other step =
      let same = one_neighbour r.shape m (get_or all tile 0) to other from_inside lies step.towards in
      ne (step_read value is ∙ ap (region_in r (take r.count all)) same ∙ step.here)

  pub step_free : ¬ Contains (take r.count all) to → IsFree r.shape (take r.count all) to
  step_free free = record { inside = cell_below r.shape m (get_or all tile 0) to lies; free = free }

  pub step_rising : below (get_or all tile 0) (take r.count all) ≡ tile
  step_rising = ap (λ x. below x (take r.count all)) (sym (get_or-take r.count all tile 0 inside)) ∙ rising.rising tile inside

  -- it comes there
  pub step_here : (value : ℕ) (e : Edge) → value ≡ get_or r.numbers.items (set * n + to) value → value ≡ region → ¬ Contains (take r.count all) to → IsEdgeOf r (take r.count all) (get_or all tile 0) to e → IsStepEdge r (take r.count all) region (get_or all tile 0) m e
  step_here value e is here free edge = record { to = to; step = record { towards = lies; blank = step_free free; here = sym (step_read value is) ∙ here }; edge = edge }

module _ (r : Regions) (regions : IsRegions r.shape r.count r) (region : ℕ) (home : Home) (at : slice_get r.homes.items region ≡ Some home) where
  -- the set that is written into the first cells is the region's
  written_is : (written rest : List ℕ) (n count : ℕ) → n ≡ cell_count r.shape → count ≡ r.count → written ≡ set_at n count home.set → take r.count (written ++ rest) ≡ set_at (cell_count r.shape) r.count home.set
  written_is written rest n count cells tiles is =
      let set : written ≡ set_at (cell_count r.shape) r.count home.set = is ∙ (λ i. set_at (cells i) (tiles i) home.set) in
      let each : length written ≡ r.count = ap length set ∙ (home_rising r regions.regions region home at).placed.one_each in
      take_at written rest r.count each ∙ set

  pub home_within : (n count : ℕ) → n ≡ cell_count r.shape → count ≡ r.count → home.set < choose n count
  home_within n count cells tiles = subst (λ k. home.set < choose n k) (sym tiles) (subst (λ k. home.set < choose k r.count) (sym cells) (regions.regions.homes region home at).0)

  pub written_rising : (written rest : List ℕ) (n count : ℕ) → n ≡ cell_count r.shape → count ≡ r.count → written ≡ set_at n count home.set → IsRising r home.set (take r.count (written ++ rest))
  written_rising written rest n count cells tiles is = subst (IsRising r home.set) (sym (written_is written rest n count cells tiles is)) (home_rising r regions.regions region home at)

  pub written_added : (written rest : List ℕ) (n count : ℕ) → n ≡ cell_count r.shape → count ≡ r.count → written ≡ set_at n count home.set → (old new : List Edge) → HasFound r (take r.count (written ++ rest)) region (r.count * 4) old new → AreEdgesAdded r region old new
  written_added written rest n count cells tiles is old new found =
      added_are r regions.regions region home at old new found.0 found.1 (subst (λ xs. AreEdgesFound r xs region (r.count * 4) found.0) (written_is written rest n count cells tiles is) found.2)

-- there are few edges
pub few_done : (r : Regions) (done : ℕ) (starts : List ℕ) (edges : List Edge) → IsRegions r.shape r.count r → ways (cell_count r.shape) (suc r.count) ≤ MAX_SIZE → done ≤ length r.homes.items → AreDone r done starts edges → length edges < 2 ^ 32
few_done r done starts edges regions small low all =
    let few = all.few in
    let homes = homes_few r regions.regions small in
    let short = regions.short in
    let high : done * (r.count * 4) ≤ 2 ^ 26 * 36 = mul-le done (r.count * 4) (2 ^ 26) 36 (omega arith) (omega arith) in
    omega arith

-- the edges of one region more, by what is pushed
pub next_done : (r : Regions) (done : ℕ) (starts starts' : List ℕ) (edges edges' : List Edge) → starts' ≡ starts ++ length edges ∷ [] → AreDone r done (starts ++ length edges ∷ []) edges → AreEdgesAdded r done edges edges' → AreDone r (done + 1) (starts' ++ length edges' ∷ []) edges'
next_done r done starts starts' edges edges' is all added = subst (λ (xs : List ℕ). AreDone r (done + 1) (xs ++ length edges' ∷ []) edges') (sym is) (one_done r done (starts ++ length edges ∷ []) edges edges' all added)

-- the edges of all regions, by what is pushed at last
pub ends_done : (r : Regions) (done : ℕ) (starts : List ℕ) (es : Edges) → HasRegions r → done ≡ length r.homes.items → es.starts.items ≡ starts ++ length es.edges.items ∷ [] → AreDone r done (starts ++ length es.edges.items ∷ []) es.edges.items → AreEdges r es
ends_done r done starts es regions count is all = all_done r es done regions count (subst (λ (xs : List ℕ). AreDone r done xs es.edges.items) (sym is) all)
