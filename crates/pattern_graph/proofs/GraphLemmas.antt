-- The graph of nodes and edges is that of views and view moves, and what is said of regions and edges is said of their copies.
use Rattle.std.proofs.Common.{mul-zero, ℕ, zero, suc, ◌*◌, ◌/◌, ◌%◌, ◌<◌, [], arith, ◌≡◌, ◌+◌, ◌≤◌, eqb, cond, List, ◌++◌, length, map, replicate, take, refl, sym, ap, ◌∙◌, subst, ◌≢◌, ◌⊎◌, ◌∷◌, get_or, inl, inr, ⊎_elim}
use Rattle.std.proofs.lemmas.Nat.{div_below, mod_below, mul-add-lt, same_from_place, div-add-mod', div-mul-add, mod-mul-add}
use Rattle.std.specs.Prelude.{slice_index, Contains, All, Some, slice_get}
use Rattle.std.proofs.lemmas.Bool.{cond-true, eq-eqb, cond-false, ne_eqb}
use Rattle.std.proofs.lemmas.List.Elements.{recursion_from_All, All-from_recursion, All-from_get_or, All-cons, All-tail}
use Rattle.std.proofs.lemmas.Option.{slice_get-get_or}
use Rattle.std.proofs.Math.Nat.{mul_comm, mul-le-mul_right}
use Rattle.std.proofs.lemmas.List.{length-map, length-take-le, get_or-take, get_or-replicate, take-append-le, take_all}
use Rattle.board.specs.declared.moves.Move.{Move}
use Rattle.board.specs.Shapes.{ShapeModel, cell_count, IsShape}
use Rattle.board.specs.Neighbours.{opposite, LiesTowards}
use Rattle.board.specs.Weights.{WeightsModel, weight_of}
use Rattle.board.proofs.MoveLemmas.{cell_below}
use Rattle.board.specs.Boards.{BoardModel, IsBoard, cell_of}
use Rattle.pattern_index.specs.Laws.{factorial}
use Rattle.pattern_index.specs.Groups.{GroupModel, AreGroupTiles, IsGroup, size_of, abstraction_of}
use Rattle.pattern_index.specs.Views.{ViewModel, IsView, view_of, Abstraction, ViewMoves, ViewLeads, weight_on}
use Rattle.pattern_index.proofs.RankLemmas.{differ_in, Differ, Other, pairs_from_differ}
use Rattle.pattern_index.proofs.ViewMoveLemmas.{board_view, moved_view, moved_back}
use Rattle.pattern_index.specs.Ranks.{ways}
use Rattle.pattern_index.proofs.StorageLemmas.{looked_up}
use Rattle.pattern_graph.specs.Orders.{order_of, below, tile_of, moved_order}
use Rattle.pattern_graph.specs.Sets.{replaced, set_place, set_at, choose, AreSame, IsChoices}
use Rattle.pattern_graph.specs.Regions.{IsPlaced, IsFree, region_in, IsRegions, IsCrossing, IsEdgeOf, HasEdge, AreEdges, Wanders, HasRegions, AreSameRegions}
use Rattle.pattern_graph.specs.Graphs.{IsOrders, node_in, node_count, AreWeightsOf, IsPast, IsGraph, IsGraphOf, IsSoundGraph, target}
use Rattle.pattern_graph.specs.declared.regions.Home.{Home}
use Rattle.pattern_graph.specs.declared.regions.Regions.{Regions}
use Rattle.pattern_graph.specs.declared.edges.Edge.{Edge}
use Rattle.pattern_graph.specs.declared.edges.Edges.{Edges}
use Rattle.pattern_graph.proofs.OrderLemmas.{below_within, in_map, replaced_listing, in_or_out, order_below, one_placement, moved_is, tile_is, placed}
use Rattle.pattern_graph.proofs.SetLemmas.{same_place, set_is}
use Rattle.pattern_graph.specs.declared.graph.Graph.{Graph}
use Rattle.pattern_graph.specs.Frames.{FrameModel, size_of_frame, IsFrame, FitsGroup}
use Rattle.pattern_graph.specs.declared.frame.Frame.TheInside.{Inside}

-- ---- nodes by their regions and orders

-- the region and the order of a node
pub record IsParted (h f n : ℕ) : Type 0 where
  pub some : 0 < f
  pub region : n / f < h
  pub order : n % f < f

pub parted : (h f n : ℕ) → n < h * f → IsParted h f n
parted h zero n less = absurd (omega (arith, mul-zero h))
parted h (suc f) n less = record {
  some = omega arith;
  region = div_below n (suc f) h (omega arith) less;
  order = mod_below n (suc f) (omega arith);
}

-- ---- lists of cells

factorial_some : (n : ℕ) → 0 < factorial n
factorial_some zero = omega arith
factorial_some (suc n) = let h = factorial_some n in let m : 1 * factorial n ≤ suc n * factorial n = mul-le-mul_right (factorial n) (omega arith) in omega arith

-- a cell that is not in a list differs from all in it
pub other_from_free : (x : ℕ) (xs : List ℕ) → ¬ Contains xs x → Other x xs
other_from_free x xs free = recursion_from_All (λ y. x ≢ y) xs (All-from_get_or (λ y. x ≢ y) xs x (λ k k_in same. free (k, k_in, sym same)))

-- nothing is replaced where the cell is not there
replaced_other : (from to : ℕ) (xs : List ℕ) → Other from xs → replaced from to xs ≡ xs
replaced_other from to [] other = refl
replaced_other from to (x ∷ xs) other = λ i. cond-false (eqb x from) to x (ne_eqb x from (λ e. other.0 (sym e))) i ∷ replaced_other from to xs other.1 i

-- no tile is there, so none is moved
weight_other : (rule : WeightsModel) (tiles cells : List ℕ) (x : ℕ) → Other x cells → weight_on rule tiles cells x ≡ 0
weight_other rule [] cells x other = refl
weight_other rule (tile ∷ tiles) [] x other = refl
weight_other rule (tile ∷ tiles) (y ∷ cells) x other = cond-false (eqb y x) _ _ (ne_eqb y x (λ e. other.0 (sym e))) ∙ weight_other rule tiles cells x other.1

-- the weight of the tile whose cell it is
weight_there : (rule : WeightsModel) (tiles cells : List ℕ) (place : ℕ) → length cells ≡ length tiles → Differ cells → place < length cells → weight_on rule tiles cells (get_or cells place 0) ≡ weight_of rule (get_or tiles place 0)
weight_there rule tiles [] place long differ low = absurd (omega arith)
weight_there rule [] (x ∷ cells) place long differ low = absurd (omega arith)
weight_there rule (tile ∷ tiles) (x ∷ cells) zero long differ low = cond-true (eqb x x) _ _ (eq-eqb x x refl)
weight_there rule (tile ∷ tiles) (x ∷ cells) (suc place) long differ low =
    let low' : place < length cells = omega arith in
    let ne : x ≢ get_or cells place 0 = All-from_recursion (λ y. x ≢ y) cells differ.0 place 0 low' in
    cond-false (eqb x (get_or cells place 0)) _ _ (ne_eqb x (get_or cells place 0) ne) ∙ weight_there rule tiles cells place (omega arith) differ.1 low'

-- plans one after the other
pub leads_then : (a : Abstraction) (v : ViewModel) (plan more : List Move) (w x : ViewModel) (j k : ℕ) → ViewLeads a v plan w j → ViewLeads a w more x k → ViewLeads a v (plan ++ more) x (j + k)
leads_then a v [] more w x j k first second =
    let cost : k ≡ j + k = omega (arith, first.1) in
    subst (λ (n : ℕ). ViewLeads a v more x n) cost (subst (λ (y : ViewModel). ViewLeads a y more x k) first.0 second)
leads_then a v (m ∷ plan) more w x j k first second =
    let rest = leads_then a first.0 plan more w x first.2 k first.4 second in
    (first.0, first.1, first.2 + k, first.3, rest, omega (arith, first.5))

module _ (r : Regions) (es : Edges) (rule : WeightsModel) (tiles weights : List ℕ) (counted : length tiles ≡ r.count) where
  -- the puzzle as the group sees it
  abbrev pub space : Abstraction
  space = record { grid = r.shape; rule = rule; tiles = tiles }

  -- the cells of a view are placed, and its blank is free
  pub view_placed : (v : ViewModel) → IsView r.shape tiles v → IsPlaced r.shape r.count v.cells
  view_placed v view = record {
    listing = record { in_range = All-tail (λ cell. cell < cell_count r.shape) v.blank v.cells view.in_range; different = λ i j d lt j_in. view.different (suc i) (suc j) d (omega arith) (omega arith) };
    one_each = view.one_each ∙ counted;
  }

  pub view_free : (v : ViewModel) → IsView r.shape tiles v → IsFree r.shape v.cells v.blank
  view_free v view = record {
    inside = view.in_range 0 0 (omega arith);
    free = λ has. view.different 0 (suc has.0) v.blank (omega arith) (omega (arith, has.1)) (sym has.2);
  }

  -- and each blank that is free is one of a view
  pub view_from : (cells : List ℕ) (blank : ℕ) → IsPlaced r.shape r.count cells → IsFree r.shape cells blank → IsView r.shape tiles (record { blank = blank; cells = cells })
  view_from cells blank is_placed free = record {
    one_each = is_placed.one_each ∙ sym counted;
    in_range = All-cons (λ cell. cell < cell_count r.shape) blank cells free.inside is_placed.listing.in_range;
    different = pairs_from_differ (blank ∷ cells) (other_from_free blank cells free.free, differ_in (cell_count r.shape) cells is_placed.listing);
  }

  -- the order of a view's cells is below the number of orders
  pub view_order : (v : ViewModel) → IsView r.shape tiles v → order_of v.cells < factorial r.count
  view_order v view = subst (λ (k : ℕ). order_of v.cells < factorial k) (view_placed v view).one_each (order_below v.cells)

  -- the region and the order are read off a view's node
  pub node_region : (v : ViewModel) → IsView r.shape tiles v → node_in r v / factorial r.count ≡ region_in r v.cells v.blank
  node_region v view = div-mul-add (region_in r v.cells v.blank) (factorial r.count) (order_of v.cells) (view_order v view)

  pub node_order : (v : ViewModel) → IsView r.shape tiles v → node_in r v % factorial r.count ≡ order_of v.cells
  node_order v view = mod-mul-add (region_in r v.cells v.blank) (factorial r.count) (order_of v.cells) (view_order v view)

  -- the blank's way past none of the tiles is a view plan that costs nothing
  wander_leads : (cells : List ℕ) (from : ℕ) (moves : List Move) (to : ℕ) → Wanders r.shape cells from moves to → ViewLeads space (record { blank = from; cells = cells }) moves (record { blank = to; cells = cells }) 0
  wander_leads cells from [] to wanders = ((λ i. record { blank = wanders i; cells = cells }), refl)
  wander_leads cells from (m ∷ moves) to wanders =
      let next = wanders.0 in
      let other = other_from_free next cells wanders.2 in
      let step : ViewMoves space (record { blank = from; cells = cells }) m (record { blank = next; cells = cells }) 0 =
      record { towards = wanders.1; exchanged = sym (replaced_other next from cells other); cost = sym (weight_other rule tiles cells next other) } in
      (record { blank = next; cells = cells }, 0, 0, step, wander_leads cells next moves to wanders.3, omega arith)

  module _ (regions : HasRegions r) where
    pub graph_inside : (v : ViewModel) → IsView r.shape tiles v → node_in r v < node_count r
    graph_inside v view =
        let m = mul-add-lt (region_in r v.cells v.blank) (factorial r.count) (order_of v.cells) (length r.homes.items) (regions.inside v.cells v.blank (view_placed v view) (view_free v view)) (view_order v view) in
        omega arith

    pub graph_seen : (node : ℕ) → node < node_count r → (v : ViewModel) × IsView r.shape tiles v × (node_in r v ≡ node)
    graph_seen node low =
        let n = cell_count r.shape in
        let f = factorial r.count in
        let some : 0 < f = factorial_some r.count in
        let region = node / f in
        let order = node % f in
        let region_low : region < length r.homes.items = div_below node f (length r.homes.items) some low in
        let order_low : order < f = mod_below node f some in
        let none : Home = record { set = 0; cell = 0 } in
        let home : Home = get_or r.homes.items region none in
        let is = regions.homes region home (slice_get-get_or r.homes.items region none region_low) in
        let cells : List ℕ = set_at n r.count home.set in
        let set = set_is n r.count home.set is.0 in
        let made = placed n cells order set.0 (subst (λ (k : ℕ). order < factorial k) (sym set.1) order_low) in
        let xs : List ℕ = made.0 in
        let xs_placed : IsPlaced r.shape r.count xs = record { listing = made.1; one_each = made.3 ∙ set.1 } in
        let xs_free : IsFree r.shape xs home.cell = record { inside = is.1.inside; free = λ has. is.1.free ((made.2 home.cell).0 has) } in
        let place : set_place xs ≡ set_place cells = same_place n xs cells made.1 set.0 made.2 in
        let there : region_in r xs home.cell ≡ region = ap (λ (p : ℕ). slice_index r.numbers.items (p * n + home.cell)) place ∙ is.2 in
        (record { blank = home.cell; cells = xs }, view_from xs home.cell xs_placed xs_free, (λ i. there i * f + made.4 i) ∙ div-add-mod' node f)

    pub graph_joined : (v w : ViewModel) → IsView r.shape tiles v → IsView r.shape tiles w → node_in r v ≡ node_in r w → (plan : List Move) × ViewLeads space v plan w 0
    graph_joined v w view other same =
        let parts = same_from_place (region_in r v.cells v.blank) (order_of v.cells) (region_in r w.cells w.blank) (order_of w.cells) (factorial r.count) (view_order v view) (view_order w other) same in
        let vp = view_placed v view in
        let wp = view_placed w other in
        let joint = regions.joined v.cells w.cells v.blank w.blank vp wp (view_free v view) (view_free w other) parts.0 in
        let cells : v.cells ≡ w.cells = one_placement (cell_count r.shape) v.cells w.cells vp.listing wp.listing joint.0 parts.1 in
        let leads = wander_leads v.cells v.blank joint.1.0 w.blank joint.1.1 in
        (joint.1.0, subst (λ (xs : List ℕ). ViewLeads space v joint.1.0 (record { blank = w.blank; cells = xs }) 0) cells leads)

    -- each view of a node comes to where one of them is moved
    comes_back : (w x v : ViewModel) (m : Move) (c : ℕ) → IsView r.shape tiles w → IsView r.shape tiles x → node_in r w ≡ node_in r x → ViewMoves space x m v c → (plan : List Move) × ViewLeads space w plan v c
    comes_back w x v m c w_view x_view same moves =
        let joint = graph_joined w x w_view x_view same in
        let last : ViewLeads space x (m ∷ []) v c = (v, c, 0, moves, (refl, refl), omega arith) in
        let whole = leads_then space w joint.0 (m ∷ []) x v 0 c joint.1 last in
        let cost : 0 + c ≡ c = omega arith in
        (joint.0 ++ m ∷ [], subst (λ (k : ℕ). ViewLeads space w (joint.0 ++ m ∷ []) v k) cost whole)

    module _ (edges : AreEdges r es) (costs : AreWeightsOf rule tiles weights) where
      -- what the edge of a tile says of the view after the tile has moved
      edge_past : (v : ViewModel) (from : ℕ) (e : Edge) → IsView r.shape tiles v → Contains v.cells from → IsEdgeOf r v.cells from v.blank e
          → (node_in r (record { blank = from; cells = replaced from v.blank v.cells }) ≡ e.region * factorial r.count + moved_order r.count (node_in r v % factorial r.count) e.from e.to)
          × (weight_on rule tiles v.cells from ≡ slice_index weights (tile_of r.count (node_in r v % factorial r.count) e.from))
      edge_past v from e view has is =
          let n = cell_count r.shape in
          let f = factorial r.count in
          let vp = view_placed v view in
          let vf = view_free v view in
          let order = node_order v view in
          let count = vp.one_each in
          let after = moved_is n from v.blank v.cells vp.listing has vf.inside vf.free in
          let at = tile_is n from v.cells vp.listing has in
          let place : ℕ = tile_of (length v.cells) (order_of v.cells) (below from v.cells) in
          let same_place' : place ≡ tile_of r.count (node_in r v % f) e.from = λ i. tile_of (count i) (sym order i) (sym is.before i) in
          let moved : order_of (replaced from v.blank v.cells) ≡ moved_order r.count (node_in r v % f) e.from e.to = after ∙ (λ i. moved_order (count i) (sym order i) (sym is.before i) (sym is.after i)) in
          let there = weight_there rule tiles v.cells place view.one_each (differ_in n v.cells vp.listing) at.0 in
          let low : place < length tiles = omega (arith, at.0, view.one_each) in (
            (λ i. sym is.other i * f + moved i),
            ap (weight_on rule tiles v.cells) (sym at.1) ∙ there ∙ sym (costs place low) ∙ ap (slice_index weights) same_place',
          )

      pub graph_complete : (v : ViewModel) (m : Move) (v' : ViewModel) (c : ℕ) → IsView r.shape tiles v → ViewMoves space v m v' c
          → ((node_in r v' ≡ node_in r v) × (c ≡ 0)) ⊎ ((e : Edge) × IsPast r es weights (node_in r v) e (node_in r v') c)
      graph_complete v m v' c view moves =
          let f = factorial r.count in
          let vp = view_placed v view in
          let vf = view_free v view in
          ⊎_elim
          (λ (has : Contains v.cells v'.blank).
          let cross : IsCrossing r.shape v.cells m v'.blank v.blank = record { blank = vf; tile = has; towards = moves.towards } in
          let edge = edges.complete v.cells m v'.blank v.blank vp cross in
          let past = edge_past v v'.blank edge.0 view has edge.2 in
          let seen : node_in r v' ≡ node_in r (record { blank = v'.blank; cells = replaced v'.blank v.blank v.cells }) = ap (λ (xs : List ℕ). region_in r xs v'.blank * f + order_of xs) moves.exchanged in
          inr (
            edge.0,
            record {
              edge = subst (λ (region : ℕ). HasEdge es region edge.0) (sym (node_region v view)) edge.1;
              other = seen ∙ past.0;
              cost = moves.cost ∙ past.1;
            },
          ))
          (λ (out : ¬ Contains v.cells v'.blank).
          let other = other_from_free v'.blank v.cells out in
          let cells : v'.cells ≡ v.cells = moves.exchanged ∙ replaced_other v'.blank v.blank v.cells other in
          let free : IsFree r.shape v.cells v'.blank = record { inside = cell_below r.shape m v.blank v'.blank moves.towards; free = out } in
          let near = regions.near v.cells m v.blank v'.blank vp vf free moves.towards in
          inl (
            ap (λ (xs : List ℕ). region_in r xs v'.blank * f + order_of xs) cells ∙ ap (λ (region : ℕ). region * f + order_of v.cells) near,
            moves.cost ∙ weight_other rule tiles v.cells v'.blank other,
          ))
          (in_or_out v'.blank v.cells)

      -- where an edge begins, the blank of some view is a neighbour of its tile
      edge_view : (node : ℕ) (e : Edge) → node < node_count r → HasEdge es (node / factorial r.count) e
          → (v : ViewModel) × (m : Move) × (from : ℕ) × IsView r.shape tiles v × (node_in r v ≡ node) × IsCrossing r.shape v.cells m from v.blank × IsEdgeOf r v.cells from v.blank e
      edge_view node e low has =
          let f = factorial r.count in
          let region_low : node / f < length r.homes.items = div_below node f (length r.homes.items) (factorial_some r.count) low in
          let first = graph_seen node low in
          let cells : List ℕ = first.0.cells in
          let is_placed = view_placed first.0 first.1 in
          let here : region_in r cells first.0.blank ≡ node / f = sym (node_region first.0 first.1) ∙ ap (λ (k : ℕ). k / f) first.2 in
          let edge = edges.sound (node / f) e cells first.0.blank region_low has is_placed (view_free first.0 first.1) here in
          let v : ViewModel = record { blank = edge.2; cells = cells } in
          let same : node_in r v ≡ node = ap (λ (region : ℕ). region * f + order_of cells) (edge.4 ∙ sym here) ∙ first.2 in
          (v, edge.0, edge.1, view_from cells edge.2 is_placed edge.3.blank, same, edge.3, edge.5)

      -- and the view after the tile has moved is one of the other node, from which a move leads back
      edge_back : (v : ViewModel) (m : Move) (from node : ℕ) (e : Edge) (other c : ℕ) → IsView r.shape tiles v → node_in r v ≡ node → IsCrossing r.shape v.cells m from v.blank → IsEdgeOf r v.cells from v.blank e → IsPast r es weights node e other c
          → (x : ViewModel) × IsView r.shape tiles x × (node_in r x ≡ other) × ViewMoves space x (opposite m) v c
      edge_back v m from node e other c view same cross edge past =
          let x : ViewModel = record { blank = from; cells = replaced from v.blank v.cells } in
          let gone = edge_past v from e view cross.tile edge in
          let order : node_in r v % factorial r.count ≡ node % factorial r.count = ap (λ (k : ℕ). k % factorial r.count) same in
          let reached : node_in r x ≡ other = gone.0 ∙ ap (λ (k : ℕ). e.region * factorial r.count + moved_order r.count k e.from e.to) order ∙ sym past.other in
          let cost : c ≡ weight_on rule tiles v.cells from = past.cost ∙ sym (gone.1 ∙ ap (λ (k : ℕ). slice_index weights (tile_of r.count k e.from)) order) in
          let moves : ViewMoves space v m x c = record { towards = cross.towards; exchanged = refl; cost = cost } in
          (x, moved_view space v m x c view moves, reached, moved_back space v m x c view moves)

      pub graph_sound : (node : ℕ) (e : Edge) (other c : ℕ) → node < node_count r → IsPast r es weights node e other c
          → (other < node_count r) × ((w : ViewModel) → IsView r.shape tiles w → node_in r w ≡ other → (v : ViewModel) × IsView r.shape tiles v × (node_in r v ≡ node) × ((plan : List Move) × ViewLeads space w plan v c))
      graph_sound node e other c low past =
          let from = edge_view node e low past.edge in
          let back = edge_back from.0 from.1 from.2 node e other c from.3 from.4 from.5 from.6 past in (
            subst (λ (k : ℕ). k < node_count r) back.2 (graph_inside back.0 back.1),
            (λ w view at. (from.0, from.3, from.4, comes_back w back.0 from.0 (opposite from.1) c view back.1 (at ∙ sym back.2) back.3)),
          )

      graph_is : IsGraph space r es weights
      graph_is = record {
        inside = graph_inside;
        seen = graph_seen;
        joined = graph_joined;
        complete = graph_complete;
        sound = graph_sound;
      }

-- the graph of a group's regions and edges is that of its views
pub graph_of : (g : GroupModel) (rule : WeightsModel) (r : Regions) (es : Edges) (weights : List ℕ) → IsGroup g → IsRegions g.grid (length g.tiles) r → AreEdges r es → AreWeightsOf rule g.tiles weights → IsGraph (abstraction_of g rule) r es weights
graph_of g rule r es weights selection is edges costs =
    subst (λ (grid : ShapeModel). IsGraph (record { grid = grid; rule = rule; tiles = g.tiles }) r es weights) is.shape (graph_is r es rule g.tiles weights (sym is.tiles) is.regions edges costs)

-- ---- Why the regions, edges and orders of a group make a graph that a search can go over.

-- the positions of an edge's tile are below the count of tiles
edge_positions : (grid : ShapeModel) (count from to : ℕ) (cells : List ℕ) (r : Regions) (m : Move) (e : Edge) → IsPlaced grid count cells → IsCrossing grid cells m from to → IsEdgeOf r cells from to e → (e.from < count) × (e.to < count)
edge_positions grid count from to cells r m e placed crossing is =
    let n : ℕ = cell_count grid in
    let moved = replaced_listing n from to cells placed.listing crossing.blank.inside crossing.blank.free in
    let there : Contains (replaced from to cells) to = subst (λ x. Contains (replaced from to cells) x) (cond-true (eqb from from) to from (eq-eqb from from refl)) (in_map (λ cell. cond (eqb cell from) to cell) cells from crossing.tile) in
    let before = below_within from cells (differ_in n cells placed.listing) crossing.tile in
    let after = below_within to (replaced from to cells) (differ_in n (replaced from to cells) moved.0) there in
    (omega (arith, is.before, placed.one_each), omega (arith, is.after, placed.one_each, moved.1))

-- where an edge of a node leads
edge_leads : (s : GroupModel) (rule : WeightsModel) (g : Graph) → IsGraphOf s rule g → AreEdges g.regions g.edges → (node : ℕ) (e : Edge) → node < node_count g.regions → HasEdge g.edges (node / factorial g.regions.count) e
    → (e.from < g.regions.count) × (e.to < g.regions.count) × (target g (node % factorial g.regions.count) e < node_count g.regions)
edge_leads s rule g is edges node e less has =
    let r : Regions = g.regions in
    let counted : length s.tiles ≡ r.count = sym is.regions.tiles in
    let seen = is.graph.seen node less in
    let v : ViewModel = seen.0 in
    let view : IsView r.shape s.tiles v = subst (λ (grid : ShapeModel). IsView grid s.tiles v) (sym is.regions.shape) seen.1 in
    let at : region_in r v.cells v.blank ≡ node / factorial r.count = sym (node_region r g.edges rule s.tiles g.costs counted v view) ∙ ap (λ k. k / factorial r.count) seen.2 in
    let placed = view_placed r g.edges rule s.tiles g.costs counted v view in
    let free = view_free r g.edges rule s.tiles g.costs counted v view in
    let part = parted (length r.homes.items) (factorial r.count) node less in
    let sound = edges.sound (node / factorial r.count) e v.cells v.blank part.region has placed free at in
    let ends = edge_positions r.shape r.count sound.1 sound.2 v.cells r sound.0 e placed sound.3 sound.5 in
    let other = is.graph.sound node e (target g (node % factorial r.count) e) (slice_index g.costs (tile_of r.count (node % factorial r.count) e.from)) less (record { edge = has; other = refl; cost = refl }) in
    (ends.0, ends.1, other.0)

-- the graph of a group
pub graph_made : (s : GroupModel) (rule : WeightsModel) (g : Graph) → IsGroup s → IsRegions s.grid (length s.tiles) g.regions → AreEdges g.regions g.edges → AreWeightsOf rule s.tiles g.costs → IsGraphOf s rule g
graph_made s rule g selection regions edges costs = record { regions = regions; graph = graph_of s rule g.regions g.edges g.costs selection regions edges costs }

-- and what a search reads of it
pub sound_made : (s : GroupModel) (rule : WeightsModel) (g : Graph) → IsGroup s → IsRegions s.grid (length s.tiles) g.regions → AreEdges g.regions g.edges → IsOrders (length s.tiles) g.orders → AreWeightsOf rule s.tiles g.costs → length g.costs ≡ 9 → IsSoundGraph g
sound_made s rule g selection regions edges orders costs long = record {
  orders = subst (λ (n : ℕ). IsOrders n g.orders) (sym regions.tiles) orders;
  costs = long;
  few = omega (arith, few, selection.small);
  starts = edges.starts_length;
  rising = edges.rising;
  within = edges.within;
  ends = edge_leads s rule g (graph_made s rule g selection regions edges costs) edges;
}
  where
    few : node_count g.regions ≤ size_of s
    few = subst (λ (n : ℕ). node_count g.regions ≤ ways n (suc (length s.tiles))) (ap cell_count regions.shape) (subst (λ (n : ℕ). node_count g.regions ≤ ways (cell_count g.regions.shape) (suc n)) regions.tiles regions.regions.few)

-- ---- what a group sees of a board

pub board_seen : (s : GroupModel) (b : BoardModel) → IsBoard b → IsGroup s → b.grid ≡ s.grid → IsView s.grid s.tiles (view_of s.tiles b)
board_seen s b board selection same =
    subst (λ (grid : ShapeModel). IsView grid s.tiles (view_of s.tiles b)) same (board_view s.tiles b board (subst (λ (grid : ShapeModel). AreGroupTiles grid s.tiles) (sym same) selection.group))

-- the cells that are picked out of the cells of all numbers
pub cells_picked : (s : GroupModel) (b : BoardModel) (numbers ts us picked rest : List ℕ) → IsGroup s → b.grid ≡ s.grid → ts ≡ s.tiles → us ≡ s.tiles → picked ≡ map (slice_index numbers) us → ((number : ℕ) → number < cell_count b.grid → slice_index numbers number ≡ cell_of b number)
    → take (length ts) (picked ++ rest) ≡ map (cell_of b) s.tiles
cells_picked s b numbers ts us picked rest selection same ts_are us_are is known =
    let low : All (λ tile. tile < cell_count b.grid) s.tiles = subst (λ (grid : ShapeModel). All (λ tile. tile < cell_count grid) s.tiles) (sym same) (λ k d k_in. (selection.group.tiles k d k_in).1) in
    let seen : picked ≡ map (cell_of b) s.tiles = is ∙ ap (map (slice_index numbers)) us_are ∙ looked_up b numbers s.tiles known (recursion_from_All (λ tile. tile < cell_count b.grid) s.tiles low) in
    let long : length ts ≡ length picked = ap length ts_are ∙ sym (ap length seen ∙ length-map s.tiles (cell_of b)) in
    take-append-le (length ts) picked rest (omega arith) ∙ take_all (length ts) picked (omega arith) ∙ seen

pub record IsSeen (r : Regions) (cells : List ℕ) (blank : ℕ) : Type 0 where
  pub placed : IsPlaced r.shape r.count cells
  pub free : IsFree r.shape cells blank
  pub below_all : region_in r cells blank * factorial r.count + order_of cells < node_count r

pub view_seen : (s : GroupModel) (g : Graph) (v : ViewModel) → IsRegions s.grid (length s.tiles) g.regions → IsView s.grid s.tiles v → IsSeen g.regions v.cells v.blank
view_seen s g v regions is_view =
    let r : Regions = g.regions in
    let rule : WeightsModel = record { grid = s.grid; weights = [] } in
    let counted : length s.tiles ≡ r.count = sym regions.tiles in
    let view : IsView r.shape s.tiles v = subst (λ (grid : ShapeModel). IsView grid s.tiles v) (sym regions.shape) is_view in
    let placed = view_placed r g.edges rule s.tiles g.costs counted v view in
    let free = view_free r g.edges rule s.tiles g.costs counted v view in
    let order = view_order r g.edges rule s.tiles g.costs counted v view in
    record {
      placed = placed;
      free = free;
      below_all = omega (arith, mul-add-lt (region_in r v.cells v.blank) (factorial r.count) (order_of v.cells) (length r.homes.items) (regions.regions.inside v.cells v.blank placed free) order, mul_comm (factorial r.count) (length r.homes.items));
    }

pub free_at : (grid : ShapeModel) (xs ys : List ℕ) (x y : ℕ) → xs ≡ ys → x ≡ y → IsFree grid ys y → IsFree grid xs x
free_at grid xs ys x y same is free = subst (λ (z : ℕ). IsFree grid xs z) (sym is) (subst (λ (zs : List ℕ). IsFree grid zs y) (sym same) free)

-- a node by its region and its order
pub node_by : (r : Regions) (v : ViewModel) (cells : List ℕ) (blank region size order : ℕ) → cells ≡ v.cells → blank ≡ v.blank → region ≡ region_in r cells blank → size ≡ factorial r.count → order ≡ order_of cells → region * size + order ≡ node_in r v
node_by r v cells blank region size order same is region_is size_is order_is =
    (λ i. region_is i * size_is i + order_is i) ∙ (λ i. region_in r (same i) (is i) * factorial r.count + order_of (same i))

-- ---- tiles that cost the same

pub same_each : (xs : List ℕ) (count weight : ℕ) → count ≤ length xs → take count xs ≡ replicate (length (take count xs)) weight → (place : ℕ) → place < count → slice_index xs place ≡ weight
same_each xs count weight long same place less =
    sym (get_or-take count xs place 0 less) ∙ ap (λ (ys : List ℕ). slice_index ys place) same
    ∙ get_or-replicate (length (take count xs)) place weight 0 (let all = length-take-le count xs long in omega arith)

-- ---- copies of regions

-- what is read of regions
pub record Parts : Type 0 where
  pub shape : ShapeModel
  pub count : ℕ
  pub numbers : List ℕ
  pub homes : List Home

-- the region of the blank's cell while tiles are on those cells
abbrev pub region_at : Parts → List ℕ → ℕ → ℕ
region_at p cells blank = slice_index p.numbers (set_place cells * cell_count p.shape + blank)

abbrev pub parts_of : Regions → Parts
parts_of r = record { shape = r.shape; count = r.count; numbers = r.numbers.items; homes = r.homes.items }

-- copies have the same parts
pub same_parts : (r r' : Regions) → AreSameRegions r r' → parts_of r ≡ parts_of r'
same_parts r r' same = λ i. record { shape = sym same.shape i; count = sym same.count i; numbers = sym same.numbers i; homes = sym same.homes i }

-- a copy of regions has regions
pub has_copied : (r r' : Regions) → AreSameRegions r r' → HasRegions r → HasRegions r'
has_copied r r' same h =
    let is : parts_of r ≡ parts_of r' = same_parts r r' same in
    record {
      rows = subst (λ (p : Parts). length p.numbers ≡ choose (cell_count p.shape) p.count * cell_count p.shape) is h.rows;
      inside = subst (λ (p : Parts). (cells : List ℕ) (blank : ℕ) → IsPlaced p.shape p.count cells → IsFree p.shape cells blank → region_at p cells blank < length p.homes) is h.inside;
      near = subst (λ (p : Parts). (cells : List ℕ) (m : Move) (from to : ℕ) → IsPlaced p.shape p.count cells → IsFree p.shape cells from → IsFree p.shape cells to → LiesTowards p.shape m from to → region_at p cells to ≡ region_at p cells from) is h.near;
      joined = subst (λ (p : Parts). (xs ys : List ℕ) (from to : ℕ) → IsPlaced p.shape p.count xs → IsPlaced p.shape p.count ys → IsFree p.shape xs from → IsFree p.shape ys to → region_at p xs from ≡ region_at p ys to → AreSame xs ys × ((moves : List Move) × Wanders p.shape xs from moves to)) is h.joined;
      homes = subst (λ (p : Parts). (region : ℕ) (home : Home) → slice_get p.homes region ≡ Some home → (home.set < choose (cell_count p.shape) p.count) × IsFree p.shape (set_at (cell_count p.shape) p.count home.set) home.cell × (region_at p (set_at (cell_count p.shape) p.count home.set) home.cell ≡ region)) is h.homes;
      few = subst (λ (p : Parts). length p.homes * factorial p.count ≤ ways (cell_count p.shape) (suc p.count)) is h.few;
    }

-- a copy is of its own shape and count
pub regions_copied : (r r' : Regions) → AreSameRegions r r' → IsRegions r.shape r.count r → IsRegions r'.shape r'.count r'
regions_copied r r' same h =
    let is : parts_of r ≡ parts_of r' = same_parts r r' same in
    record {
      shape = refl;
      sides = subst IsShape (sym same.shape) h.sides;
      tiles = refl;
      some = subst (λ (n : ℕ). 0 < n) (sym same.count) h.some;
      room = subst (λ (p : Parts). suc p.count ≤ cell_count p.shape) is h.room;
      short = subst (λ (n : ℕ). n ≤ 9) (sym same.count) h.short;
      choices = subst IsChoices (sym same.choices) h.choices;
      regions = has_copied r r' same h.regions;
    }

-- ---- copies of edges

-- what is read of edges
pub record Ends : Type 0 where
  pub parts : Parts
  pub starts : List ℕ
  pub edges : List Edge

abbrev pub ends_of : Regions → Edges → Ends
ends_of r es = record { parts = parts_of r; starts = es.starts.items; edges = es.edges.items }

-- the edge is one of those that begin in a region
abbrev pub Begins : Ends → ℕ → Edge → Type 0
Begins b region e = (at : ℕ) × (slice_index b.starts region ≤ at) × (at < slice_index b.starts (suc region)) × (slice_get b.edges at ≡ Some e)

-- the edge of a tile that goes from one cell to another
abbrev pub Goes : Ends → List ℕ → ℕ → ℕ → Edge → Type 0
Goes b cells from to e = (e.from ≡ below from cells) × (e.to ≡ below to (replaced from to cells)) × (e.region ≡ region_at b.parts (replaced from to cells) from)

-- each edge is one of a tile that goes into the region
abbrev pub AreSound : Ends → Type 0
AreSound b = (region : ℕ) (e : Edge) (cells : List ℕ) (blank : ℕ) → region < length b.parts.homes → Begins b region e → IsPlaced b.parts.shape b.parts.count cells → IsFree b.parts.shape cells blank → region_at b.parts cells blank ≡ region
    → (m : Move) × (from : ℕ) × (to : ℕ) × IsCrossing b.parts.shape cells m from to × (region_at b.parts cells to ≡ region) × (Goes b cells from to e)

-- each such tile has an edge
abbrev pub AreComplete : Ends → Type 0
AreComplete b = (cells : List ℕ) (m : Move) (from to : ℕ) → IsPlaced b.parts.shape b.parts.count cells → IsCrossing b.parts.shape cells m from to
    → (e : Edge) × Begins b (region_at b.parts cells to) e × (Goes b cells from to e)

-- copies of the edges between regions are edges between their copies
pub edges_copied : (r r' : Regions) (es es' : Edges) → AreSameRegions r r' → es'.starts.items ≡ es.starts.items → es'.edges.items ≡ es.edges.items → AreEdges r es → AreEdges r' es'
edges_copied r r' es es' same starts edges h =
    let is : ends_of r es ≡ ends_of r' es' = (λ i. record { parts = same_parts r r' same i; starts = sym starts i; edges = sym edges i }) in
    let sound : AreSound (ends_of r es) = (λ region e cells blank less has placed free at. let found = h.sound region e cells blank less has placed free at in (found.0, found.1, found.2, found.3, found.4, (found.5.before, found.5.after, found.5.other))) in
    let complete : AreComplete (ends_of r es) = (λ cells m from to placed crossing. let found = h.complete cells m from to placed crossing in (found.0, found.1, (found.2.before, found.2.after, found.2.other))) in
    let sound_too : AreSound (ends_of r' es') = subst AreSound is sound in
    let complete_too : AreComplete (ends_of r' es') = subst AreComplete is complete in
    record {
      starts_length = subst (λ (b : Ends). length b.starts ≡ suc (length b.parts.homes)) is h.starts_length;
      rising = subst (λ (b : Ends). (region : ℕ) → region < length b.parts.homes → slice_index b.starts region ≤ slice_index b.starts (suc region)) is h.rising;
      within = subst (λ (b : Ends). (region : ℕ) → region < length b.parts.homes → slice_index b.starts (suc region) ≤ length b.edges) is h.within;
      sound = λ region e cells blank less has placed free at. let found = sound_too region e cells blank less has placed free at in (found.0, found.1, found.2, found.3, found.4, record { before = found.5.0; after = found.5.1; other = found.5.2 });
      complete = λ cells m from to placed crossing. let found = complete_too cells m from to placed crossing in (found.0, found.1, record { before = found.2.0; after = found.2.1; other = found.2.2 });
    }

-- ---- frames

-- a copy of a frame is a frame
pub frame_copied : (f f' : Inside) → AreSameRegions f.regions f'.regions → f'.edges.starts.items ≡ f.edges.starts.items → f'.edges.edges.items ≡ f.edges.edges.items → ((count : ℕ) → IsOrders count f.orders → IsOrders count f'.orders) → IsFrame f → IsFrame f'
frame_copied f f' same starts edges orders h = record {
  regions = regions_copied f.regions f'.regions same h.regions;
  edges = edges_copied f.regions f'.regions f.edges f'.edges same starts edges h.edges;
  orders = subst (λ (n : ℕ). IsOrders n f'.orders) (sym same.count) (orders f.regions.count h.orders);
}

-- a frame that fits a group has the group's regions
pub fitting_regions : (f : Inside) (size : FrameModel) (s : GroupModel) → size_of_frame f ≡ size → IsFrame f → FitsGroup size s → IsRegions s.grid (length s.tiles) f.regions
fitting_regions f size s is h fits =
    let its_own : FitsGroup (size_of_frame f) s = subst (λ (z : FrameModel). FitsGroup z s) (sym is) fits in
    subst (λ (z : FrameModel). IsRegions z.grid z.count f.regions) (λ i. record { grid = its_own.grid i; count = its_own.count i }) h.regions

-- and the orders of its tiles
pub fitting_orders : (f : Inside) (size : FrameModel) (s : GroupModel) → size_of_frame f ≡ size → IsFrame f → FitsGroup size s → IsOrders (length s.tiles) f.orders
fitting_orders f size s is h fits =
    let its_own : FitsGroup (size_of_frame f) s = subst (λ (z : FrameModel). FitsGroup z s) (sym is) fits in
    subst (λ (n : ℕ). IsOrders n f.orders) its_own.count h.orders
