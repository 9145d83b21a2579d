-- The search by buckets: ranks that are put into them and taken out, and the values that it finds.
use Rattle.std.proofs.Common.{◌≡◌, ◌≢◌, ◌⊎◌, ℕ, zero, suc, ◌+◌, ◌<◌, ◌≤◌, List, [], ◌∷◌, ◌++◌, length, set, get_or, refl, sym, ap, ◌∙◌, subst, inl, inr, ⊎_elim, arith, Option, Some, None, ◌-◌, ◌*◌, ◌/◌, ◌%◌, replicate}
use Rattle.std.specs.Prelude.{Vec, slice_get, slice_index, sum, Contains, IsSome, MatchOption}
use Rattle.std.specs.Option.{option_to_list}
use Rattle.std.specs.declared.alloc.Global.{Global}
use Rattle.std.proofs.lemmas.Bool.{cases_eq, cases_lt, false≢true}
use Rattle.std.proofs.lemmas.List.{length-set, length-append, get_or-set_same, get_or-set_other, get_or-replicate, length-replicate, get_or_past, get_or_read}
use Rattle.std.proofs.lemmas.List.Elements.{Contains-append_left, Contains-push, Contains-push_cases}
use Rattle.std.proofs.lemmas.List.Sums.{sum_by-set}
use Rattle.std.proofs.lemmas.Option.{slice_get_read, slice_get_past, slice_get_within}
use Rattle.board.specs.declared.moves.Move.{Move}
use Rattle.board.specs.Neighbours.{opposite}
use Rattle.board.specs.Boards.{BoardModel}
use Rattle.board.specs.Weights.{WeightsModel}
use Rattle.pattern_index.specs.Laws.{factorial}
use Rattle.pattern_index.specs.Views.{ViewModel, IsView, Abstraction, ViewMoves, ViewLeads, view_of}
use Rattle.pattern_index.specs.Groups.{GroupModel, abstraction_of}
use Rattle.pattern_index.proofs.ViewMoveLemmas.{moved_view, moved_back}
use Rattle.pattern_graph.proofs.SlotLemmas.{get_set_same, get_set_other}
use Rattle.pattern_graph.specs.Regions.{HasEdge}
use Rattle.pattern_graph.specs.Graphs.{node_in, node_count, IsPast, IsGraph, IsGraphOf, IsSoundGraph, target}
use Rattle.pattern_search.specs.Searches.{cost_by, Buckets, Waits, size_in, waiting_count, IsGrown, IsPut, IsTaken, IsLowered, IsFit, IsFresh, IsPassed, IsSpread, IsSpreadFrom, IsVisited, IsSought, AreFound, IsValue}
use Rattle.pattern_graph.specs.declared.edges.Edge.{Edge}
use Rattle.pattern_graph.specs.declared.graph.Graph.{Graph}
use Rattle.pattern_graph.proofs.GraphLemmas.{parted, leads_then}
use Rattle.pattern_search.specs.declared.search.Search.{Search}
use Rattle.pattern_search.specs.declared.finding.TheConstants.{NO_VALUE}

get_push_within : {X : Type 0} (xs : List X) (x : X) (i : ℕ) → i < length xs → slice_get (xs ++ x ∷ []) i ≡ slice_get xs i
get_push_within [] x i i_in = absurd (omega arith)
get_push_within (y ∷ ys) x zero i_in = refl
get_push_within (y ∷ ys) x (suc i) i_in = get_push_within ys x i (omega arith)

get_push_end : {X : Type 0} (xs : List X) (x : X) → slice_get (xs ++ x ∷ []) (length xs) ≡ Some x
get_push_end [] x = refl
get_push_end (y ∷ ys) x = get_push_end ys x

get_push_past : {X : Type 0} (xs : List X) (x : X) (i : ℕ) → length xs < i → slice_get (xs ++ x ∷ []) i ≡ None
get_push_past xs x i past = slice_get_past (xs ++ x ∷ []) i (omega (arith, length-append xs (x ∷ [])))

pub some_is : {X : Type 0} {x y : X} → Some x ≡ Some y → x ≡ y
some_is e = cc

pub none_some : {X : Type 0} {x : X} → None ≡ Some x → ⊥
none_some e = cc

-- ---- a bucket more, with nothing in it

none_in : (xs : List ℕ) (x : ℕ) → xs ≡ [] → Contains xs x → ⊥
none_in xs x e has = let n : length xs ≡ 0 = ap length e in omega (arith, has.1)

pub grown_more : (b b' : Buckets) (bucket : Vec ℕ Global) → IsGrown b b' → bucket.items ≡ [] → IsGrown b (b' ++ bucket ∷ [])
grown_more b b' bucket grown empty = record {
  waits = λ cost rank w. let h = grown.waits cost rank w in (h.0, get_push_within b' bucket cost (slice_get_within b' cost h.0 h.1) ∙ h.1, h.2);
  only = λ cost rank w. grown.only cost rank (old cost rank w);
  same = λ cost. count cost ∙ grown.same cost;
  wide = let w = grown.wide in omega (arith, length-append b' (bucket ∷ []));
}
  where
    old : (cost rank : ℕ) → Waits (b' ++ bucket ∷ []) cost rank → Waits b' cost rank
    old cost rank w =
        ⊎_elim
        (λ (lt : cost < length b'). (w.0, sym (get_push_within b' bucket cost lt) ∙ w.1, w.2))
        (λ (le : length b' ≤ cost).
        ⊎_elim
        (λ (e : cost ≡ length b').
        let is : bucket ≡ w.0 = some_is (sym (get_push_end b' bucket) ∙ ap (slice_get (b' ++ bucket ∷ [])) (sym e) ∙ w.1) in
        absurd (none_in w.0.items rank (ap (λ v. v.items) (sym is) ∙ empty) w.2))
        (λ (ne : cost ≢ length b'). absurd (none_some (sym (get_push_past b' bucket cost (omega arith)) ∙ w.1)))
        (cases_eq cost (length b')))
        (cases_lt cost (length b'))

    count : (cost : ℕ) → waiting_count (b' ++ bucket ∷ []) cost ≡ waiting_count b' cost
    count cost =
        ⊎_elim
        (λ (lt : cost < length b'). ap size_in (get_push_within b' bucket cost lt))
        (λ (le : length b' ≤ cost).
        let none : waiting_count b' cost ≡ 0 = ap size_in (slice_get_past b' cost le) in
        ⊎_elim
        (λ (e : cost ≡ length b'). ap (waiting_count (b' ++ bucket ∷ [])) e ∙ ap size_in (get_push_end b' bucket) ∙ ap length empty ∙ sym none)
        (λ (ne : cost ≢ length b'). ap size_in (get_push_past b' bucket cost (omega arith)) ∙ sym none)
        (cases_eq cost (length b')))
        (cases_lt cost (length b'))

-- ---- a rank more in a bucket

module _ (b : Buckets) (cost rank : ℕ) (old now : Vec ℕ Global) (inside : cost < length b) (was : old ≡ get_or b cost old) (is : now.items ≡ old.items ++ rank ∷ []) where
  there : slice_get b cost ≡ Some old
  there = slice_get_read b (length b) cost old refl inside was

  put_waits : (at k : ℕ) → Waits b at k → Waits (set b cost now) at k
  put_waits at k w =
      ⊎_elim
      (λ (e : at ≡ cost).
      let same : old ≡ w.0 = some_is (sym there ∙ ap (slice_get b) (sym e) ∙ w.1) in
      let has : Contains old.items k = subst (λ (v : Vec ℕ Global). Contains v.items k) (sym same) w.2 in
      subst (λ d. Waits (set b cost now) d k) (sym e) (now, get_set_same b cost now inside, subst (λ xs. Contains xs k) (sym is) (Contains-append_left old.items (rank ∷ []) k has)))
      (λ (ne : at ≢ cost). (w.0, get_set_other b cost at now ne ∙ w.1, w.2))
      (cases_eq at cost)

  put_only : (at k : ℕ) → Waits (set b cost now) at k → Waits b at k ⊎ (k ≡ rank)
  put_only at k w =
      ⊎_elim
      (λ (e : at ≡ cost).
      let same : now ≡ w.0 = some_is (sym (get_set_same b cost now inside) ∙ ap (slice_get (set b cost now)) (sym e) ∙ w.1) in
      let has : Contains (old.items ++ rank ∷ []) k = subst (λ xs. Contains xs k) is (subst (λ (v : Vec ℕ Global). Contains v.items k) (sym same) w.2) in
      ⊎_elim (λ left. inl (subst (λ d. Waits b d k) (sym e) (old, there, left))) (λ right. inr (sym right)) (Contains-push_cases old.items rank k has))
      (λ (ne : at ≢ cost). inl (w.0, sym (get_set_other b cost at now ne) ∙ w.1, w.2))
      (cases_eq at cost)

  put_count : (at : ℕ) → waiting_count (set b cost now) at ≤ waiting_count b at + 1
  put_count at =
      ⊎_elim
      (λ (e : at ≡ cost).
      let after : waiting_count (set b cost now) at ≡ length now.items = ap (waiting_count (set b cost now)) e ∙ ap size_in (get_set_same b cost now inside) in
      let before : waiting_count b at ≡ length old.items = ap (waiting_count b) e ∙ ap size_in there in
      let longer : length now.items ≡ length old.items + 1 = ap length is ∙ length-append old.items (rank ∷ []) in
      omega arith)
      (λ (ne : at ≢ cost). let e : waiting_count (set b cost now) at ≡ waiting_count b at = ap size_in (get_set_other b cost at now ne) in omega arith)
      (cases_eq at cost)

  pub put_is : IsPut cost rank b (set b cost now)
  put_is = record {
    here = (now, get_set_same b cost now inside, subst (λ xs. Contains xs rank) (sym is) (Contains-push old.items rank));
    waits = put_waits;
    only = put_only;
    count = put_count;
    same_length = length-set b cost now;
  }

-- ---- a value lowered

pub lowered_none : (rank cost : ℕ) (s : Search) → slice_index s.values.items rank ≤ cost → IsLowered rank cost s s
lowered_none rank cost s low = record {
  graph = refl;
  same_length = refl;
  falls = λ k. omega arith;
  low = low;
  cases = λ k. inl refl;
  waits = λ at k w. w;
  only = λ at k w. inl w;
  few = λ h. h;
  wide = omega arith;
  work = λ at. omega arith;
}

pub lowered_put : (rank cost : ℕ) (s s' : Search) (b : Buckets) → s'.graph ≡ s.graph → s'.values.items ≡ set s.values.items rank cost → rank < length s.values.items → cost < slice_index s.values.items rank → IsGrown s.buckets.items b → (length s.buckets.items ≤ NO_VALUE → length b ≤ NO_VALUE) → IsPut cost rank b s'.buckets.items → IsLowered rank cost s s'
lowered_put rank cost s s' b graph is inside less grown few is_put = record {
  graph = graph;
  same_length = ap length is ∙ length-set s.values.items rank cost;
  falls = λ k. ⊎_elim (λ (e : k ≡ rank). let f = at_rank k e in let g : get_or s.values.items k 0 ≡ get_or s.values.items rank 0 = ap (λ j. get_or s.values.items j 0) e in omega arith)
      (λ (ne : k ≢ rank). let f = elsewhere k ne in omega arith) (cases_eq k rank);
  low = let f = at_rank rank refl in omega arith;
  cases = λ k. ⊎_elim (λ (e : k ≡ rank). inr (e, at_rank k e, is_put.here)) (λ (ne : k ≢ rank). inl (elsewhere k ne)) (cases_eq k rank);
  waits = λ at k w. is_put.waits at k (grown.waits at k w);
  only = λ at k w. ⊎_elim (λ old. inl (grown.only at k old)) (λ new. inr new) (is_put.only at k w);
  few = λ h. let f = few h in let s = is_put.same_length in omega arith;
  wide = let s = is_put.same_length in let w = grown.wide in omega arith;
  work = λ at. let t = sum_by-set (λ x. x) s.values.items rank cost 0 inside in let u : sum s'.values.items ≡ sum (set s.values.items rank cost) = ap sum is in let c = is_put.count at in let g = grown.same at in omega arith;
}
  where
    at_rank : (k : ℕ) → k ≡ rank → get_or s'.values.items k 0 ≡ cost
    at_rank k e = (λ i. get_or (is i) (e i) 0) ∙ get_or-set_same s.values.items rank cost 0 inside

    elsewhere : (k : ℕ) → k ≢ rank → get_or s'.values.items k 0 ≡ get_or s.values.items k 0
    elsewhere k ne = ap (λ (xs : List ℕ). get_or xs k 0) is ∙ get_or-set_other s.values.items rank k cost 0 ne

-- ---- a rank less in a bucket

module _ (b : Buckets) (cost rank : ℕ) (old now : Vec ℕ Global) (inside : cost < length b) (was : old ≡ get_or b cost old) (is : old.items ≡ now.items ++ rank ∷ []) where
  stood : slice_get b cost ≡ Some old
  stood = slice_get_read b (length b) cost old refl inside was

  take_waits : (at k : ℕ) → Waits b at k → Waits (set b cost now) at k ⊎ ((at ≡ cost) × (k ≡ rank))
  take_waits at k w =
      ⊎_elim
      (λ (e : at ≡ cost).
      let same : old ≡ w.0 = some_is (sym stood ∙ ap (slice_get b) (sym e) ∙ w.1) in
      let has : Contains (now.items ++ rank ∷ []) k = subst (λ xs. Contains xs k) is (subst (λ (v : Vec ℕ Global). Contains v.items k) (sym same) w.2) in
      ⊎_elim (λ left. inl (subst (λ d. Waits (set b cost now) d k) (sym e) (now, get_set_same b cost now inside, left))) (λ right. inr (e, sym right)) (Contains-push_cases now.items rank k has))
      (λ (ne : at ≢ cost). inl (w.0, get_set_other b cost at now ne ∙ w.1, w.2))
      (cases_eq at cost)

  take_only : (at k : ℕ) → Waits (set b cost now) at k → Waits b at k
  take_only at k w =
      ⊎_elim
      (λ (e : at ≡ cost).
      let same : now ≡ w.0 = some_is (sym (get_set_same b cost now inside) ∙ ap (slice_get (set b cost now)) (sym e) ∙ w.1) in
      let has : Contains now.items k = subst (λ (v : Vec ℕ Global). Contains v.items k) (sym same) w.2 in
      subst (λ d. Waits b d k) (sym e) (old, stood, subst (λ xs. Contains xs k) (sym is) (Contains-append_left now.items (rank ∷ []) k has)))
      (λ (ne : at ≢ cost). (w.0, sym (get_set_other b cost at now ne) ∙ w.1, w.2))
      (cases_eq at cost)

  pub take_is : IsTaken cost rank b (set b cost now)
  take_is =
      let after : waiting_count (set b cost now) cost ≡ length now.items = ap size_in (get_set_same b cost now inside) in
      let before : waiting_count b cost ≡ length old.items = ap size_in stood in
      let longer : length old.items ≡ length now.items + 1 = ap length is ∙ length-append now.items (rank ∷ []) in
      record {
        here = (old, stood, subst (λ xs. Contains xs rank) (sym is) (Contains-push now.items rank));
        waits = take_waits;
        only = take_only;
        count = omega arith;
        same_length = length-set b cost now;
      }

pub none_waits : (b : Buckets) (cost k : ℕ) → waiting_count b cost ≡ 0 → Waits b cost k → ⊥
none_waits b cost k none w = let e : waiting_count b cost ≡ length w.0.items = ap size_in w.1 in omega (arith, w.2.1)

pub released : (b : Buckets) (cost : ℕ) (bucket : Vec ℕ Global) → cost < length b → waiting_count b cost ≡ 0 → bucket.items ≡ [] → IsGrown b (set b cost bucket)
released b cost bucket inside none empty = record {
  waits = λ at k w. ⊎_elim (λ (e : at ≡ cost). absurd (none_waits b cost k none (subst (λ d. Waits b d k) e w))) (λ (ne : at ≢ cost). (w.0, get_set_other b cost at bucket ne ∙ w.1, w.2)) (cases_eq at cost);
  only = λ at k w. ⊎_elim (λ (e : at ≡ cost). let same : bucket ≡ w.0 = some_is (sym (get_set_same b cost bucket inside) ∙ ap (slice_get (set b cost bucket)) (sym e) ∙ w.1) in absurd (none_in w.0.items k (ap (λ v. v.items) (sym same) ∙ empty) w.2))
      (λ (ne : at ≢ cost). (w.0, sym (get_set_other b cost at bucket ne) ∙ w.1, w.2)) (cases_eq at cost);
  same = λ at. ⊎_elim (λ (e : at ≡ cost). ap (waiting_count (set b cost bucket)) e ∙ ap size_in (get_set_same b cost bucket inside) ∙ ap length empty ∙ sym (ap (waiting_count b) e ∙ none)) (λ (ne : at ≢ cost). ap size_in (get_set_other b cost at bucket ne)) (cases_eq at cost);
  wide = omega (arith, length-set b cost bucket);
}

pub take_option : (b : Buckets) (cost : ℕ) (old now : Vec ℕ Global) (r : Option ℕ) → cost < length b → old ≡ get_or b cost old → IsSome r → old.items ≡ now.items ++ option_to_list r → MatchOption r ((waiting_count b cost ≡ 0) × (set b cost now ≡ b)) (λ rank. IsTaken cost rank b (set b cost now))
take_option b cost old now None inside was some is = absurd (false≢true some)
take_option b cost old now (Some rank) inside was some is = take_is b cost rank old now inside was is

-- two reads of one place
pub same_read : (b : Buckets) (cost : ℕ) (v w : Vec ℕ Global) → cost < length b → v ≡ get_or b cost v → w ≡ get_or b cost w → v ≡ w
same_read b cost v w inside first second = some_is (sym (slice_get_read b (length b) cost v refl inside first) ∙ slice_get_read b (length b) cost w refl inside second)

-- What is sought: what it costs to bring views to the goal's, over the graph of their nodes.
pub record Quest : Type 0 where
  pub space : Abstraction
  pub graph : Graph
  pub goal : ViewModel

-- v is a view of the group
abbrev pub IsViewOf : Quest → ViewModel → Type 0
IsViewOf q v = IsView q.space.grid q.space.tiles v

abbrev pub node : Quest → ViewModel → ℕ
node q v = node_in q.graph.regions v

abbrev pub count_of : Quest → ℕ
count_of q = node_count q.graph.regions

-- the graph is that of the views
abbrev pub HasGraph : Quest → Type 0
HasGraph q = IsGraph q.space q.graph.regions q.graph.edges q.graph.costs

-- the edge leads from a node to another
abbrev pub Passes : Quest → ℕ → Edge → ℕ → ℕ → Type 0
Passes q k e to c = IsPast q.graph.regions q.graph.edges q.graph.costs k e to c

-- the plan brings the view to the goal's
abbrev pub Leads : Quest → ViewModel → List Move → ℕ → Type 0
Leads q v plan n = ViewLeads q.space v plan q.goal n

-- each view of the node has a plan at this cost
abbrev pub IsReached : Quest → ℕ → ℕ → Type 0
IsReached q k n = (v : ViewModel) → IsViewOf q v → node q v ≡ k → (plan : List Move) × Leads q v plan n

-- where a node is reached, so is each node to which an edge leads from there
pub reached_past : (q : Quest) → HasGraph q → (cost here : ℕ) (e : Edge) (to c : ℕ) → here < count_of q → IsReached q here cost → Passes q here e to c → (to < count_of q) × IsReached q to (cost + c)
reached_past q graph cost here e to c here_in reached past =
    let sound = graph.sound here e to c here_in past in (
      sound.0,
      (λ w is_view same.
          let back = sound.1 w is_view same in
          let way = reached back.0 back.1 back.2 in
          (back.3.0 ++ way.0, subst (λ k. Leads q w (back.3.0 ++ way.0) k) (omega arith) (leads_then q.space w back.3.0 way.0 back.0 q.goal c cost back.3.1 way.1))),
    )

-- no edge from the node leads to a value that is greater by more than its cost
abbrev pub IsClosed : Quest → List ℕ → ℕ → Type 0
IsClosed q values k = (e : Edge) (to c : ℕ) → Passes q k e to c → slice_index values to ≤ slice_index values k + c

-- the search, with the buckets below a cost done
pub record IsUnderWay (q : Quest) (cost : ℕ) (values : List ℕ) (b : Buckets) : Type 0 where
  pub size : length values ≡ count_of q
  pub capped : (k : ℕ) → slice_index values k ≤ NO_VALUE
  pub start : slice_index values (node q q.goal) ≡ 0
  pub reached : (k : ℕ) → k < count_of q → slice_index values k < NO_VALUE → IsReached q k (slice_index values k)
  pub settled : (k : ℕ) → k < count_of q → slice_index values k < NO_VALUE → IsClosed q values k ⊎ ((cost ≤ slice_index values k) × Waits b (slice_index values k) k)
  pub inside : (at k : ℕ) → Waits b at k → k < count_of q
  pub few : length b ≤ NO_VALUE

-- values that have fallen, each to what is reached and waits
pub record IsProgress (q : Quest) (cost : ℕ) (values values' : List ℕ) (b b' : Buckets) : Type 0 where
  pub same_length : length values' ≡ length values
  pub falls : (k : ℕ) → slice_index values' k ≤ slice_index values k
  pub cases : (k : ℕ) → (slice_index values' k ≡ slice_index values k) ⊎ (IsReached q k (slice_index values' k) × (cost ≤ slice_index values' k) × Waits b' (slice_index values' k) k)
  pub waits : (at k : ℕ) → Waits b at k → Waits b' at k
  pub only : (at k : ℕ) → Waits b' at k → Waits b at k ⊎ (k < count_of q)
  pub few : length b ≤ NO_VALUE → length b' ≤ NO_VALUE
  pub wide : length b ≤ length b'
  pub work : 2 * sum values' + waiting_count b' cost ≤ 2 * sum values + waiting_count b cost

progress_none : (q : Quest) (cost : ℕ) (values : List ℕ) (b : Buckets) → IsProgress q cost values values b b
progress_none q cost values b = record {
  same_length = refl;
  falls = λ k. omega arith;
  cases = λ k. inl refl;
  waits = λ at k w. w;
  only = λ at k w. inl w;
  few = λ h. h;
  wide = omega arith;
  work = omega arith;
}

progress_then : (q : Quest) (cost : ℕ) (v₀ v₁ v₂ : List ℕ) (b₀ b₁ b₂ : Buckets) → IsProgress q cost v₀ v₁ b₀ b₁ → IsProgress q cost v₁ v₂ b₁ b₂ → IsProgress q cost v₀ v₂ b₀ b₂
progress_then q cost v₀ v₁ v₂ b₀ b₁ b₂ p r = record {
  same_length = r.same_length ∙ p.same_length;
  falls = λ k. let a = p.falls k in let b = r.falls k in omega arith;
  cases = λ k.
      ⊎_elim
      (λ (same : slice_index v₂ k ≡ slice_index v₁ k).
      ⊎_elim (λ first. inl (same ∙ first))
      (λ (new : IsReached q k (slice_index v₁ k) × (cost ≤ slice_index v₁ k) × Waits b₁ (slice_index v₁ k) k).
      inr (subst (λ n. IsReached q k n × (cost ≤ n) × Waits b₂ n k) (sym same) (new.0, new.1, r.waits (slice_index v₁ k) k new.2)))
      (p.cases k))
      (λ new. inr new)
      (r.cases k);
  waits = λ at k w. r.waits at k (p.waits at k w);
  only = λ at k w. ⊎_elim (λ old. p.only at k old) (λ new. inr new) (r.only at k w);
  few = λ h. r.few (p.few h);
  wide = let a = p.wide in let b = r.wide in omega arith;
  work = let a = p.work in let b = r.work in omega arith;
}

-- ---- the edges of a node that is reached at a cost

module _ (q : Quest) (graph : HasGraph q) (cost here : ℕ) (here_in : here < count_of q) (reached : IsReached q here cost) where
  abbrev region : ℕ
  region = here / factorial q.graph.regions.count

  abbrev order : ℕ
  order = here % factorial q.graph.regions.count

  abbrev first : ℕ
  first = slice_index q.graph.edges.starts.items region

  abbrev end : ℕ
  end = slice_index q.graph.edges.starts.items (suc region)

  -- where the edge leads the value is no more than by the edge
  abbrev IsLow : Edge → List ℕ → Type 0
  IsLow e values = slice_index values (target q.graph order e) ≤ cost + cost_by q.graph order e

  passed_at : (e : Edge) → HasEdge q.graph.edges region e → (s s' : Search) → s.graph ≡ q.graph → IsPassed order cost e s s' → IsProgress q cost s.values.items s'.values.items s.buckets.items s'.buckets.items × IsLow e s'.values.items × (s'.graph ≡ q.graph)
  passed_at e has s s' fits passed =
      let to : ℕ = target q.graph order e in
      let c : ℕ = cost_by q.graph order e in
      let lowered : IsLowered to (cost + c) s s' = subst (λ (g : Graph). IsLowered (target g order e) (cost + cost_by g order e) s s') fits passed in
      let past : Passes q here e to c = record { edge = has; other = refl; cost = refl } in
      let there = reached_past q graph cost here e to c here_in reached past in (
        record {
          same_length = lowered.same_length;
          falls = lowered.falls;
          cases = λ k.
              ⊎_elim (λ same. inl same)
              (λ (new : (k ≡ to) × (slice_index s'.values.items k ≡ cost + c) × Waits s'.buckets.items (cost + c) to).
              inr (subst (λ n. IsReached q k n × (cost ≤ n) × Waits s'.buckets.items n k) (sym new.1)
              (subst (λ r. IsReached q r (cost + c) × (cost ≤ cost + c) × Waits s'.buckets.items (cost + c) r) (sym new.0) (there.1, omega arith, new.2))))
              (lowered.cases k);
          waits = lowered.waits;
          only = λ at k w. ⊎_elim (λ old. inl old) (λ (new : k ≡ to). inr (subst (λ r. r < count_of q) (sym new) there.0)) (lowered.only at k w);
          few = lowered.few;
          wide = lowered.wide;
          work = lowered.work cost;
        },
        lowered.low,
        lowered.graph ∙ fits,
      )

  spread_list : (count : ℕ) (s s' : Search) → count ≤ end - first → s.graph ≡ q.graph → IsSpread order cost first count s s'
      → IsProgress q cost s.values.items s'.values.items s.buckets.items s'.buckets.items × ((j : ℕ) (e : Edge) → j < count → slice_get q.graph.edges.edges.items (first + j) ≡ Some e → IsLow e s'.values.items) × (s'.graph ≡ q.graph)
  spread_list zero s s' few fits is =
      (subst (λ (x : Search). IsProgress q cost s.values.items x.values.items s.buckets.items x.buckets.items) (sym is) (progress_none q cost s.values.items s.buckets.items), (λ j e less. absurd (omega arith)), ap (λ (x : Search). x.graph) is ∙ fits)
  spread_list (suc count) s s' few fits spread =
      let t : Search = spread.0 in
      let e : Edge = spread.1 in
      let before = spread_list count s t (omega arith) fits spread.2 in
      let there : slice_get q.graph.edges.edges.items (first + count) ≡ Some e = subst (λ (g : Graph). slice_get g.edges.edges.items (first + count) ≡ Some e) before.2 spread.3 in
      let after = passed_at e (first + count, omega arith, omega arith, there) t s' before.2 spread.4 in (
        progress_then q cost s.values.items t.values.items s'.values.items s.buckets.items t.buckets.items s'.buckets.items before.0 after.0,
        (λ j d less at.
            ⊎_elim
            (λ (last : j ≡ count).
            let same : e ≡ d = some_is (sym there ∙ ap (λ i. slice_get q.graph.edges.edges.items (first + i)) (sym last) ∙ at) in
            subst (λ (x : Edge). IsLow x s'.values.items) same after.1)
            (λ (other : j ≢ count).
            let low = before.1 j d (omega arith) at in
            let f = after.0.falls (target q.graph order d) in
            omega arith)
            (cases_eq j count)),
        after.2,
      )

  spread_all : (s s' : Search) → s.graph ≡ q.graph → IsSpreadFrom region order cost s s'
      → IsProgress q cost s.values.items s'.values.items s.buckets.items s'.buckets.items × ((e : Edge) (to c : ℕ) → Passes q here e to c → slice_index s'.values.items to ≤ cost + c) × (s'.graph ≡ q.graph)
  spread_all s s' fits spread =
      let all = spread_list (end - first) s s' (omega arith) fits (subst (λ (g : Graph). IsSpread order cost (slice_index g.edges.starts.items region) (slice_index g.edges.starts.items (suc region) - slice_index g.edges.starts.items region) s s') fits spread) in (
        all.0,
        (λ e to c past.
            let at : ℕ = past.edge.0 in
            let from : first + (at - first) ≡ at = omega (arith, past.edge.1) in
            let low = all.1 (at - first) e (omega (arith, past.edge.1, past.edge.2)) (ap (slice_get q.graph.edges.edges.items) from ∙ past.edge.3) in
            let same : slice_index s'.values.items to ≡ slice_index s'.values.items (target q.graph order e) = ap (slice_index s'.values.items) past.other in
            omega (arith, past.cost)),
        all.2,
      )

-- ---- the steps of the search

-- a node that is taken out and visited
module _ (q : Quest) (graph : HasGraph q) (cost here : ℕ) (b : Buckets) (s s' : Search) (now : IsUnderWay q cost s.values.items b) (taken : IsTaken cost here b s.buckets.items) (fits : s.graph ≡ q.graph) where
  passed_over : slice_index s.values.items here ≢ cost → IsUnderWay q cost s.values.items s.buckets.items
  passed_over other = record {
    size = now.size;
    capped = now.capped;
    start = now.start;
    reached = now.reached;
    settled = λ k k_in low.
        ⊎_elim (λ closed. inl closed)
        (λ (waiting : (cost ≤ slice_index s.values.items k) × Waits b (slice_index s.values.items k) k).
        ⊎_elim (λ w. inr (waiting.0, w)) (λ (gone : (slice_index s.values.items k ≡ cost) × (k ≡ here)). absurd (other (ap (slice_index s.values.items) (sym gone.1) ∙ gone.0))) (taken.waits (slice_index s.values.items k) k waiting.1))
        (now.settled k k_in low);
    inside = λ at k w. now.inside at k (taken.only at k w);
    few = let long = taken.same_length in let f = now.few in omega arith;
  }

  spread_on : slice_index s.values.items here ≡ cost → IsSpreadFrom (here / factorial q.graph.regions.count) (here % factorial q.graph.regions.count) cost s s'
      → IsUnderWay q cost s'.values.items s'.buckets.items × (2 * sum s'.values.items + waiting_count s'.buckets.items cost < 2 * sum s.values.items + waiting_count b cost) × (length b ≤ length s'.buckets.items) × (s'.graph ≡ q.graph)
  spread_on is spread =
      let within : cost < length b = slice_get_within b cost taken.here.0 taken.here.1 in
      let few = now.few in
      let here_in = now.inside cost here taken.here in
      let reached : IsReached q here cost = subst (λ n. IsReached q here n) is (now.reached here here_in (omega arith)) in
      let all = spread_all q graph cost here here_in reached s s' fits spread in
      let progress = all.0 in
      let counted = taken.count in
      let worked = progress.work in
      let same_length = taken.same_length in
      let wide = progress.wide in (
        record {
          size = progress.same_length ∙ now.size;
          capped = λ k. let f = progress.falls k in let c = now.capped k in omega arith;
          start = let f = progress.falls (node q q.goal) in let s = now.start in omega arith;
          reached = λ k k_in low.
              ⊎_elim
              (λ (same : slice_index s'.values.items k ≡ slice_index s.values.items k). subst (λ n. IsReached q k n) (sym same) (now.reached k k_in (omega arith)))
              (λ new. new.0)
              (progress.cases k);
          settled = λ k k_in low.
              ⊎_elim
              (λ (same : slice_index s'.values.items k ≡ slice_index s.values.items k).
              ⊎_elim
              (λ (at_here : k ≡ here).
              inl
              (λ e to c past.
              let h = all.1 e to c (subst (λ j. Passes q j e to c) at_here past) in
              let f : slice_index s.values.items k ≡ slice_index s.values.items here = ap (slice_index s.values.items) at_here in
              omega arith))
              (λ (other : k ≢ here).
              ⊎_elim
              (λ (closed : IsClosed q s.values.items k).
              inl
              (λ e to c past.
              let h = closed e to c past in
              let f = progress.falls to in
              omega arith))
              (λ (waiting : (cost ≤ slice_index s.values.items k) × Waits b (slice_index s.values.items k) k).
              ⊎_elim
              (λ (w : Waits s.buckets.items (slice_index s.values.items k) k). inr (subst (λ n. (cost ≤ n) × Waits s'.buckets.items n k) (sym same) (waiting.0, progress.waits (slice_index s.values.items k) k w)))
              (λ gone. absurd (other gone.1))
              (taken.waits (slice_index s.values.items k) k waiting.1))
              (now.settled k k_in (omega arith)))
              (cases_eq k here))
              (λ new. inr (new.1, new.2))
              (progress.cases k);
          inside = λ at k w. ⊎_elim (λ old. now.inside at k (taken.only at k old)) (λ lt. lt) (progress.only at k w);
          few = progress.few (omega arith);
        },
        omega arith,
        omega arith,
        all.2,
      )

  visited : IsVisited here cost s s' → IsUnderWay q cost s'.values.items s'.buckets.items × (2 * sum s'.values.items + waiting_count s'.buckets.items cost < 2 * sum s.values.items + waiting_count b cost) × (length b ≤ length s'.buckets.items) × (s'.graph ≡ q.graph)
  visited (inl other) =
      let counted = taken.count in
      subst (λ (x : Search). IsUnderWay q cost x.values.items x.buckets.items × (2 * sum x.values.items + waiting_count x.buckets.items cost < 2 * sum s.values.items + waiting_count b cost) × (length b ≤ length x.buckets.items) × (x.graph ≡ q.graph)) (sym other.1)
      (passed_over other.0, omega arith, omega (arith, taken.same_length), fits)
  visited (inr spread) =
      spread_on spread.0 (subst (λ (g : Graph). IsSpreadFrom (here / factorial g.regions.count) (here % factorial g.regions.count) cost s s') fits spread.1)

-- a bucket in which nothing waits any more
next_cost : (q : Quest) (cost : ℕ) (values : List ℕ) (b b' : Buckets) → IsUnderWay q cost values b → waiting_count b cost ≡ 0 → IsGrown b b' → length b' ≡ length b → IsUnderWay q (cost + 1) values b'
next_cost q cost values b b' now none same long = record {
  size = now.size;
  capped = now.capped;
  start = now.start;
  reached = now.reached;
  settled = λ k k_in low.
      ⊎_elim (λ closed. inl closed)
      (λ (waiting : (cost ≤ slice_index values k) × Waits b (slice_index values k) k).
      let ne : slice_index values k ≢ cost = λ e. none_waits b cost k none (subst (λ d. Waits b d k) e waiting.1) in
      inr (omega (arith, waiting.0), same.waits (slice_index values k) k waiting.1))
      (now.settled k k_in low);
  inside = λ at k w. now.inside at k (same.only at k w);
  few = let f = now.few in omega arith;
}

-- ---- a search that goes from edge to edge

-- what a search keeps from edge to edge
pub record IsSpreading (order cost first count : ℕ) (s s' : Search) : Type 0 where
  pub spread : IsSpread order cost first count s s'
  pub graph : s'.graph ≡ s.graph
  pub fits : IsFit s'

pub fit_after : (node cost : ℕ) (s s' : Search) → IsFit s → IsLowered node cost s s' → IsFit s'
fit_after node cost s s' fits lowered = record {
  sound = subst (λ (g : Graph). IsSoundGraph g) (sym lowered.graph) fits.sound;
  one_each = lowered.same_length ∙ fits.one_each ∙ ap (λ (g : Graph). node_count g.regions) (sym lowered.graph);
}

pub spreading_more : (order cost first count more : ℕ) (e : Edge) (s t s' : Search) → IsSpreading order cost first count s t → more ≡ suc count → slice_get t.graph.edges.edges.items (first + count) ≡ Some e → IsPassed order cost e t s' → IsSpreading order cost first more s s'
spreading_more order cost first count more e s t s' now is at passed = record {
  spread = subst (λ n. IsSpread order cost first n s s') (sym is) (t, e, now.spread, at, passed);
  graph = passed.graph ∙ now.graph;
  fits = fit_after (target t.graph order e) (cost + cost_by t.graph order e) t s' now.fits passed;
}

-- where the edges of a node's region begin and end
pub record IsAt (g : Graph) (here first end : ℕ) : Type 0 where
  pub sound : IsSoundGraph g
  pub inside : here < node_count g.regions
  pub first_is : first ≡ slice_index g.edges.starts.items (here / factorial g.regions.count)
  pub end_is : end ≡ slice_index g.edges.starts.items (suc (here / factorial g.regions.count))

pub at_from : (g : Graph) (here size first end : ℕ) → IsSoundGraph g → here < node_count g.regions → size ≡ factorial g.regions.count → first ≡ get_or g.edges.starts.items (here / size) first → end ≡ get_or g.edges.starts.items (here / size + 1) end → IsAt g here first end
at_from g here size first end sound inside is first_read end_read =
    let part = parted (length g.regions.homes.items) (factorial g.regions.count) here inside in
    let same : here / size ≡ here / factorial g.regions.count = ap (λ z. here / z) is in
    let r = part.region in
    let l = sound.starts in
    record {
      sound = sound;
      inside = inside;
      first_is = get_or_read g.edges.starts.items (here / size) first (omega arith) first_read 0 ∙ ap (slice_index g.edges.starts.items) same;
      end_is = get_or_read g.edges.starts.items (here / size + 1) end (omega arith) end_read 0 ∙ ap (slice_index g.edges.starts.items) (omega arith);
    }

pub edge_read : (g g' : Graph) (here first end at : ℕ) → g' ≡ g → IsAt g here first end → at < end → at < length g'.edges.edges.items
edge_read g g' here first end at same now less =
    let part = parted (length g.regions.homes.items) (factorial g.regions.count) here now.inside in
    let within = now.sound.within (here / factorial g.regions.count) part.region in
    subst (λ (x : Graph). at < length x.edges.edges.items) (sym same) (omega (arith, now.end_is))

pub edge_ends : (g g' : Graph) (here size first end at : ℕ) (e : Edge) → g' ≡ g → IsAt g here first end → size ≡ factorial g.regions.count → first ≤ at → at < end → e ≡ get_or g'.edges.edges.items at e → (e.from < g'.regions.count) × (e.to < g'.regions.count) × (target g' (here % size) e < node_count g'.regions) × (slice_get g'.edges.edges.items at ≡ Some e)
edge_ends g g' here size first end at e same now is low less read =
    subst (λ (x : Graph). (e.from < x.regions.count) × (e.to < x.regions.count) × (target x (here % size) e < node_count x.regions) × (slice_get x.edges.edges.items at ≡ Some e)) (sym same)
    (subst (λ z. (e.from < g.regions.count) × (e.to < g.regions.count) × (target g (here % z) e < node_count g.regions) × (slice_get g.edges.edges.items at ≡ Some e)) (sym is) (ends.0, ends.1, ends.2, there))
  where
    there : slice_get g.edges.edges.items at ≡ Some e
    there = slice_get_read g.edges.edges.items (length g.edges.edges.items) at e refl (edge_read g g here first end at refl now less) (subst (λ (x : Graph). e ≡ get_or x.edges.edges.items at e) same read)

    ends : (e.from < g.regions.count) × (e.to < g.regions.count) × (target g (here % factorial g.regions.count) e < node_count g.regions)
    ends = now.sound.ends here e now.inside (at, omega (arith, now.first_is), omega (arith, now.end_is), there)

-- where all edges are passed the node is visited
pub visited_all : (here cost size first end at : ℕ) (s s' : Search) → IsAt s.graph here first end → size ≡ factorial s.graph.regions.count → (first ≤ end → at ≤ end) → end ≤ at → first ≤ at → slice_index s.values.items here ≡ cost → IsSpreading (here % size) cost first (at - first) s s' → IsVisited here cost s s'
visited_all here cost size first end at s s' now is most least low value spreading =
    let part = parted (length s.graph.regions.homes.items) (factorial s.graph.regions.count) here now.inside in
    let rising = now.sound.rising (here / factorial s.graph.regions.count) part.region in
    let count : at - first ≡ slice_index s.graph.edges.starts.items (suc (here / factorial s.graph.regions.count)) - slice_index s.graph.edges.starts.items (here / factorial s.graph.regions.count) = omega (arith, now.first_is, now.end_is) in
    let all = subst (λ z. IsSpread (here % z) cost first (at - first) s s') is spreading.spread in
    inr (value, subst (λ n. IsSpread (here % factorial s.graph.regions.count) cost (slice_index s.graph.edges.starts.items (here / factorial s.graph.regions.count)) n s s') count (subst (λ n. IsSpread (here % factorial s.graph.regions.count) cost n (at - first) s s') now.first_is all))

-- ---- the beginning and the end

-- the goal's value is lowered to 0, and all others stay as they were
first_step : (q : Quest) (s s' : Search) (start : ℕ) → HasGraph q → IsViewOf q q.goal → start ≡ node q q.goal → IsFresh q.graph s → IsLowered start 0 s s' → IsUnderWay q 0 s'.values.items s'.buckets.items
first_step q s s' start graph view at fresh lowered =
    let low = lowered.low in
    let same_start : slice_index s'.values.items start ≡ slice_index s'.values.items (node q q.goal) = ap (slice_index s'.values.items) at in
    record {
      size = lowered.same_length ∙ ap length fresh.values ∙ length-replicate (count_of q) NO_VALUE;
      capped = λ k. let f = lowered.falls k in let c = most k in omega arith;
      start = omega arith;
      reached = λ k k_in less.
          ⊎_elim (λ (same : slice_index s'.values.items k ≡ slice_index s.values.items k). let whole = all k k_in in absurd (omega arith))
          (λ (new : (k ≡ start) × (slice_index s'.values.items k ≡ 0) × Waits s'.buckets.items 0 start).
          (λ w is_view is. subst (λ n. (plan : List Move) × Leads q w plan n) (sym new.1) (graph.joined w q.goal is_view view (is ∙ new.0 ∙ at))))
          (lowered.cases k);
      settled = λ k k_in less.
          ⊎_elim (λ (same : slice_index s'.values.items k ≡ slice_index s.values.items k). let whole = all k k_in in absurd (omega arith))
          (λ (new : (k ≡ start) × (slice_index s'.values.items k ≡ 0) × Waits s'.buckets.items 0 start).
          inr (omega arith, subst (λ n. Waits s'.buckets.items n k) (sym new.1) (subst (λ r. Waits s'.buckets.items 0 r) (sym new.0) new.2)))
          (lowered.cases k);
      inside = λ cost k w. ⊎_elim (λ (old : Waits s.buckets.items cost k). absurd (none_some (subst (λ (b : Buckets). slice_get b cost ≡ Some old.0) fresh.buckets old.1))) (λ (new : k ≡ start). subst (λ r. r < count_of q) (sym (new ∙ at)) (graph.inside q.goal view)) (lowered.only cost k w);
      few = lowered.few (let none : length s.buckets.items ≡ 0 = ap length fresh.buckets in omega arith);
    }
  where
    all : (k : ℕ) → k < count_of q → slice_index s.values.items k ≡ NO_VALUE
    all k k_in = ap (λ (xs : List ℕ). slice_index xs k) fresh.values ∙ get_or-replicate (count_of q) k NO_VALUE 0 k_in

    most : (k : ℕ) → slice_index s.values.items k ≤ NO_VALUE
    most k =
        ⊎_elim (λ (k_in : k < count_of q). let e = all k k_in in omega arith)
        (λ (past : count_of q ≤ k). let e : slice_index s.values.items k ≡ 0 = ap (λ (xs : List ℕ). slice_index xs k) fresh.values ∙ get_or_past (replicate (count_of q) NO_VALUE) k 0 (omega (arith, length-replicate {A = ℕ} (count_of q) NO_VALUE)) in omega arith)
        (cases_lt k (count_of q))

-- a search that is under way for a quest
pub record IsRunning (q : Quest) (cost : ℕ) (s : Search) : Type 0 where
  pub under_way : IsUnderWay q cost s.values.items s.buckets.items
  pub graph : s.graph ≡ q.graph

running_first : (q : Quest) (s s' : Search) (start : ℕ) → HasGraph q → IsViewOf q q.goal → start ≡ node q q.goal → IsFresh q.graph s → IsLowered start 0 s s' → IsRunning q 0 s'
running_first q s s' start graph view at fresh lowered = record {
  under_way = first_step q s s' start graph view at fresh lowered;
  graph = lowered.graph ∙ fresh.graph;
}

-- s is the search before a node is taken out, t after it, and s' after the visit
running_visited : (q : Quest) (cost here : ℕ) (s t s' : Search) → HasGraph q → IsRunning q cost s → t.graph ≡ s.graph → t.values.items ≡ s.values.items → IsTaken cost here s.buckets.items t.buckets.items → IsVisited here cost t s'
    → IsRunning q cost s' × (2 * sum s'.values.items + waiting_count s'.buckets.items cost < 2 * sum s.values.items + waiting_count s.buckets.items cost) × (length s.buckets.items ≤ length s'.buckets.items)
running_visited q cost here s t s' graph now kept values taken seen =
    let under_way = subst (λ (xs : List ℕ). IsUnderWay q cost xs s.buckets.items) (sym values) now.under_way in
    let after = visited q graph cost here s.buckets.items t s' under_way taken (kept ∙ now.graph) seen in
    let same : sum t.values.items ≡ sum s.values.items = ap sum values in
    (record { under_way = after.0; graph = after.3 }, omega (arith, after.1), after.2)

running_next : (q : Quest) (cost : ℕ) (s s' : Search) (b : Buckets) → IsRunning q cost s → s'.graph ≡ s.graph → s'.values.items ≡ s.values.items → (waiting_count s.buckets.items cost ≡ 0) × (b ≡ s.buckets.items) → IsGrown b s'.buckets.items → length s'.buckets.items ≡ length b → IsRunning q (cost + 1) s'
running_next q cost s s' b now kept values none same long = record {
  under_way =
      subst (λ (xs : List ℕ). IsUnderWay q (cost + 1) xs s'.buckets.items) (sym values)
      (next_cost q cost s.values.items s.buckets.items s'.buckets.items now.under_way none.0 (subst (λ (ys : Buckets). IsGrown ys s'.buckets.items) none.1 same) (long ∙ ap length none.1));
  graph = kept ∙ now.graph;
}

-- where no bucket is left each value is that of its node's views
module _ (q : Quest) (graph : HasGraph q) (cost : ℕ) (values : List ℕ) (b : Buckets) (now : IsUnderWay q cost values b) (over : length b ≤ cost) where
  closed : (k : ℕ) → k < count_of q → slice_index values k < NO_VALUE → IsClosed q values k
  closed k k_in low =
      ⊎_elim (λ (c : IsClosed q values k). c)
      (λ (waiting : (cost ≤ slice_index values k) × Waits b (slice_index values k) k).
      let within = slice_get_within b (slice_index values k) waiting.1.0 waiting.1.1 in
      absurd (omega (arith, waiting.0)))
      (now.settled k k_in low)

  none_below : (v : ViewModel) → IsViewOf q v → (plan : List Move) (j : ℕ) → Leads q v plan j → slice_index values (node q v) ≤ j
  none_below v view [] j leads =
      let start = now.start in
      let same : slice_index values (node q q.goal) ≡ slice_index values (node q v) = ap (λ (x : ViewModel). slice_index values (node q x)) leads.0 in
      omega arith
  none_below v view (m ∷ plan) j leads =
      let next : IsViewOf q leads.0 = moved_view q.space v m leads.0 leads.1 view leads.3 in
      let back : ViewMoves q.space leads.0 (opposite m) v leads.1 = moved_back q.space v m leads.0 leads.1 view leads.3 in
      let rest = none_below leads.0 next plan leads.2 leads.4 in
      let cap = now.capped (node q v) in
      ⊎_elim
      (λ (low : slice_index values (node q leads.0) < NO_VALUE).
      ⊎_elim
      (λ (stays : (node q v ≡ node q leads.0) × (leads.1 ≡ 0)).
      let same : slice_index values (node q v) ≡ slice_index values (node q leads.0) = ap (slice_index values) stays.0 in
      omega (arith, leads.5))
      (λ (goes : (e : Edge) × Passes q (node q leads.0) e (node q v) leads.1).
      let h = closed (node q leads.0) (graph.inside leads.0 next) low goes.0 (node q v) leads.1 goes.1 in
      omega (arith, leads.5))
      (graph.complete leads.0 (opposite m) v leads.1 next back))
      (λ (high : NO_VALUE ≤ slice_index values (node q leads.0)). omega (arith, leads.5))
      (cases_lt (slice_index values (node q leads.0)) NO_VALUE)

  pub values_are : (v : ViewModel) → IsViewOf q v → IsValue q.space q.goal v (slice_index values (node q v))
  values_are v view = record {
    capped = now.capped (node q v);
    reached = λ low. now.reached (node q v) (graph.inside v view) low v view refl;
    none_below = none_below v view;
  }

-- ---- a search for a group

abbrev pub quest_of : GroupModel → WeightsModel → BoardModel → Graph → Quest
quest_of selection rule goal g = record { space = abstraction_of selection rule; graph = g; goal = view_of selection.tiles goal }

-- a search that is under way for a group and a goal
pub record IsSeeking (selection : GroupModel) (rule : WeightsModel) (goal : BoardModel) (cost : ℕ) (s : Search) : Type 0 where
  pub made : IsGraphOf selection rule s.graph
  pub sound : IsSoundGraph s.graph
  pub under_way : IsUnderWay (quest_of selection rule goal s.graph) cost s.values.items s.buckets.items

module _ (selection : GroupModel) (rule : WeightsModel) (goal : BoardModel) where
  seeking_from : (g : Graph) (cost : ℕ) (s : Search) → IsGraphOf selection rule g → IsSoundGraph g → IsRunning (quest_of selection rule goal g) cost s → IsSeeking selection rule goal cost s
  seeking_from g cost s made sound running = record {
    made = subst (λ (x : Graph). IsGraphOf selection rule x) (sym running.graph) made;
    sound = subst (λ (x : Graph). IsSoundGraph x) (sym running.graph) sound;
    under_way = subst (λ (x : Graph). IsUnderWay (quest_of selection rule goal x) cost s.values.items s.buckets.items) (sym running.graph) running.under_way;
  }

  pub seeking_first : (g : Graph) (s s' : Search) (start : ℕ) → IsGraphOf selection rule g → IsSoundGraph g → IsView selection.grid selection.tiles (view_of selection.tiles goal) → start ≡ node_in g.regions (view_of selection.tiles goal) → IsFresh g s → IsLowered start 0 s s' → IsSeeking selection rule goal 0 s'
  seeking_first g s s' start made sound view at fresh lowered =
      seeking_from g 0 s' made sound (running_first (quest_of selection rule goal g) s s' start made.graph view at fresh lowered)

  pub seeking_visited : (cost here : ℕ) (s t s' : Search) → IsSeeking selection rule goal cost s → t.graph ≡ s.graph → t.values.items ≡ s.values.items → IsTaken cost here s.buckets.items t.buckets.items → IsVisited here cost t s'
      → IsSeeking selection rule goal cost s' × (2 * sum s'.values.items + waiting_count s'.buckets.items cost < 2 * sum s.values.items + waiting_count s.buckets.items cost) × (length s.buckets.items ≤ length s'.buckets.items)
  seeking_visited cost here s t s' now kept values taken seen =
      let after = running_visited (quest_of selection rule goal s.graph) cost here s t s' now.made.graph (record { under_way = now.under_way; graph = refl }) kept values taken seen in
      (seeking_from s.graph cost s' now.made now.sound after.0, after.1, after.2)

  pub seeking_next : (cost : ℕ) (s s' : Search) (b : Buckets) → IsSeeking selection rule goal cost s → s'.graph ≡ s.graph → s'.values.items ≡ s.values.items → (waiting_count s.buckets.items cost ≡ 0) × (b ≡ s.buckets.items) → IsGrown b s'.buckets.items → length s'.buckets.items ≡ length b → IsSeeking selection rule goal (cost + 1) s'
  seeking_next cost s s' b now kept values none same long =
      seeking_from s.graph (cost + 1) s' now.made now.sound (running_next (quest_of selection rule goal s.graph) cost s s' b (record { under_way = now.under_way; graph = refl }) kept values none same long)

  pub seeking_done : (cost : ℕ) (s : Search) → IsSeeking selection rule goal cost s → length s.buckets.items ≤ cost → (v : ViewModel) → IsView selection.grid selection.tiles v → IsValue (abstraction_of selection rule) (view_of selection.tiles goal) v (slice_index s.values.items (node_in s.graph.regions v))
  seeking_done cost s now over v view = values_are (quest_of selection rule goal s.graph) now.made.graph cost s.values.items s.buckets.items now.under_way over v view

-- so it is for all groups and goals that are sought
abbrev pub AreSeeking : Graph → ℕ → ℕ → Search → Type 0
AreSeeking g start cost s = (selection : GroupModel) (rule : WeightsModel) (goal : BoardModel) → IsSought selection rule goal g start → IsSeeking selection rule goal cost s

-- some group and goal
abbrev pub SomeSought : Graph → ℕ → Type 0
SomeSought g start = (selection : GroupModel) × (rule : WeightsModel) × (goal : BoardModel) × IsSought selection rule goal g start

-- what is sought, out of the pair that says that there is something
pub seeking_some : (g : Graph) (start cost : ℕ) (s : Search) → AreSeeking g start cost s → (some : SomeSought g start) → IsSeeking some.0 some.1 some.2 cost s
seeking_some g start cost s are some = are some.0 some.1 some.2 some.3

pub are_seeking_first : (g : Graph) (s s' : Search) (start : ℕ) → IsSoundGraph g → IsFresh g s → IsLowered start 0 s s' → AreSeeking g start 0 s'
are_seeking_first g s s' start sound fresh lowered selection rule goal sought =
    seeking_first selection rule goal g s s' start sought.made sound sought.view sought.node fresh lowered

-- what a search has found at its end
pub seeking_found : (g : Graph) (start cost : ℕ) (s : Search) → AreSeeking g start cost s → length s.buckets.items ≤ cost → (selection : GroupModel) (rule : WeightsModel) (goal : BoardModel) → IsSought selection rule goal g start
    → AreFound selection rule goal (record { regions = s.graph.regions; values = s.values })
seeking_found g start cost s are over selection rule goal sought =
    let is = are selection rule goal sought in
    record {
      regions = is.made.regions;
      size = is.under_way.size;
      values = seeking_done selection rule goal cost s is over;
    }

-- ---- a view has one value

-- a smaller value is reached, so the other is none above it
no_more : (a : Abstraction) (goal v : ViewModel) (n k : ℕ) → IsValue a goal v n → IsValue a goal v k → k ≤ n
no_more a goal v n k is is' =
    ⊎_elim
    (λ (low : n < NO_VALUE). let plan = is.reached low in is'.none_below plan.0 n plan.1)
    (λ (high : NO_VALUE ≤ n). let top = is'.capped in omega arith)
    (cases_lt n NO_VALUE)

pub one_value : (a : Abstraction) (goal v : ViewModel) (n k : ℕ) → IsValue a goal v n → IsValue a goal v k → n ≡ k
one_value a goal v n k is is' =
    let le = no_more a goal v n k is is' in
    let ge = no_more a goal v k n is' is in
    omega arith
