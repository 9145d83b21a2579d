-- Lists stay in order when entries are put and taken, and boards are relaxed and closed.
use Rattle.std.proofs.Common.{◌≡◌, ◌≢◌, ◌⊎◌, ℕ, zero, suc, ◌+◌, ◌<◌, ◌≤◌, Bool, true, false, List, [], ◌∷◌, ◌++◌, length, Option, None, Some, refl, sym, ap, ◌∙◌, subst, inl, inr, ⊎_elim, arith}
use Rattle.std.specs.Prelude.{Contains, IfSome, slice_get, nat_lt, if◌then◌else◌}
use Rattle.std.specs.FinMap as map
use Rattle.std.specs.Ordering.{nat_cmp}
use Rattle.std.proofs.lemmas.Bool.{cases_eq, cases_lt, cases_Bool, cond-true, cond-false}
use Rattle.std.proofs.lemmas.List.{length-append, nil_from_length}
use Rattle.std.proofs.lemmas.List.Elements.{Contains-append_left, Contains-push, Contains-push_cases}
use Rattle.std.proofs.lemmas.List.Sorted.{Contains-permutation, IsPermutation-sym, IsPermutation-trans, length_permutation}
use Rattle.std.proofs.lemmas.Option.{slice_get_within, get_or_from_slice_get}
use Rattle.board.specs.declared.moves.Move.{Move}
use Rattle.open_buckets.specs.OpenLists.{OpenModel, entries_at, places_at, NothingWaits, IsLeastF, PutsEntry, TakesEntry, Sorts, BringsLast, IsNextEntry}
use Rattle.closed_table.specs.Tables.{ClosedModel, arrivals, relaxation_answer, table_relaxation, table_closure}
use Rattle.closed_table.specs.declared.table.Relaxed.TheVariants.{New, Lower, Kept}
use Rattle.world_model.specs.declared.parts.Known.{Known}
use Rattle.world_model.specs.Knowledge.{Knowledge, is_news}
use Rattle.world_model.proofs.ChangeLemmas.{with_insert, get_inserted, same_known}
use Rattle.search_lists.specs.Lists.{SearchListsModel, empty_lists, both, AreKnown, HasEntriesOf, HasMoreRoom}
use Rattle.open_buckets.specs.declared.open.TheConstants.{GREATEST_F}
use Rattle.search_lists.specs.Orders.{Guide, IsOpenKey, IsInOrder, NoneBelow, IsFirst, IsWaiting, IsLeastOpen, AddsUp}
use Rattle.search_lists.specs.declared.lists.Next.{Next}
use Rattle.search_lists.specs.declared.lists.Met.{Met}

-- ---- entries

abbrev pub Entry : Type 0
Entry = ℕ × ℕ

-- what is left was there
pub was_there : (f : ℕ) (e : Entry) (old new : OpenModel ℕ) → TakesEntry f e old new → (h : ℕ) (x : Entry) → Contains (entries_at new h) x → Contains (entries_at old h) x
was_there f e old new takes h x has =
    ⊎_elim
    (λ (here : h ≡ f). subst (λ (k : ℕ). Contains (entries_at old k) x) (sym here) (subst (λ (xs : List Entry). Contains xs x) (sym takes.here) (Contains-append_left (entries_at new f) (e ∷ []) x (subst (λ (k : ℕ). Contains (entries_at new k) x) here has))))
    (λ (other : h ≢ f). subst (λ (xs : List Entry). Contains xs x) (takes.others h other).0 has)
    (cases_eq h f)

-- what was there is left, or was taken
pub is_left : (f : ℕ) (e : Entry) (old new : OpenModel ℕ) → TakesEntry f e old new → (h : ℕ) (x : Entry) → Contains (entries_at old h) x → Contains (entries_at new h) x ⊎ ((h ≡ f) × (e ≡ x))
is_left f e old new takes h x has =
    ⊎_elim
    (λ (here : h ≡ f).
    ⊎_elim
    (λ (there : Contains (entries_at new f) x). inl (subst (λ (k : ℕ). Contains (entries_at new k) x) (sym here) there))
    (λ (taken : e ≡ x). inr (here, taken))
    (Contains-push_cases (entries_at new f) e x (subst (λ (xs : List Entry). Contains xs x) takes.here (subst (λ (k : ℕ). Contains (entries_at old k) x) here has))))
    (λ (other : h ≢ f). inl (subst (λ (xs : List Entry). Contains xs x) (sym (takes.others h other).0) has))
    (cases_eq h f)

-- what was there is there still
pub stays : (f : ℕ) (e : Entry) (old new : OpenModel ℕ) → PutsEntry f e old new → (h : ℕ) (x : Entry) → Contains (entries_at old h) x → Contains (entries_at new h) x
stays f e old new puts h x has =
    ⊎_elim
    (λ (here : h ≡ f). subst (λ (k : ℕ). Contains (entries_at new k) x) (sym here) (subst (λ (xs : List Entry). Contains xs x) (sym puts.here) (Contains-append_left (entries_at old f) (e ∷ []) x (subst (λ (k : ℕ). Contains (entries_at old k) x) here has))))
    (λ (other : h ≢ f). subst (λ (xs : List Entry). Contains xs x) (sym (puts.others h other).0) has)
    (cases_eq h f)

-- what is there was there, or was put
pub was_put : (f : ℕ) (e : Entry) (old new : OpenModel ℕ) → PutsEntry f e old new → (h : ℕ) (x : Entry) → Contains (entries_at new h) x → Contains (entries_at old h) x ⊎ ((h ≡ f) × (e ≡ x))
was_put f e old new puts h x has =
    ⊎_elim
    (λ (here : h ≡ f).
    ⊎_elim
    (λ (there : Contains (entries_at old f) x). inl (subst (λ (k : ℕ). Contains (entries_at old k) x) (sym here) there))
    (λ (put : e ≡ x). inr (here, put))
    (Contains-push_cases (entries_at old f) e x (subst (λ (xs : List Entry). Contains xs x) puts.here (subst (λ (k : ℕ). Contains (entries_at new k) x) here has))))
    (λ (other : h ≢ f). inl (subst (λ (xs : List Entry). Contains xs x) (puts.others h other).0 has))
    (cases_eq h f)

-- what waits first is there
pub is_there : (f : ℕ) (e : Entry) (list : OpenModel ℕ) → IsNextEntry f e list → Contains (entries_at list f) e
is_there f e list first = subst (λ (xs : List Entry). Contains xs e) (sym first.last.1) (Contains-push first.last.0 e)

-- no place is lost
pub places_stay : (f : ℕ) (e : Entry) (old new : OpenModel ℕ) → TakesEntry f e old new → (h : ℕ) → places_at old h ≤ places_at new h
places_stay f e old new takes h =
    ⊎_elim
    (λ (here : h ≡ f). subst (λ (k : ℕ). places_at old k ≤ places_at new k) (sym here) (omega (arith, takes.places)))
    (λ (other : h ≢ f). omega (arith, (takes.others h other).1))
    (cases_eq h f)

-- how many entries there are below f
abbrev pub count_below : ℕ → OpenModel ℕ → ℕ
count_below zero list = 0
count_below (suc n) list = count_below n list + length (entries_at list n)

-- one is taken below n
pub one_less : (f : ℕ) (e : Entry) (old new : OpenModel ℕ) → TakesEntry f e old new → (n : ℕ) → f < n → count_below n old ≡ count_below n new + 1
one_less f e old new takes zero below = absurd (omega (arith, below))
one_less f e old new takes (suc n) below =
    ⊎_elim
    (λ (here : n ≡ f).
    let more : length (entries_at old n) ≡ length (entries_at new n) + 1 = subst (λ (k : ℕ). length (entries_at old k) ≡ length (entries_at new k) + 1) (sym here) (ap length takes.here ∙ length-append (entries_at new f) (e ∷ [])) in
    omega (arith, more, same_below n (omega (arith, here))))
    (λ (other : n ≢ f). omega (arith, one_less f e old new takes n (omega (arith, below, other)), ap length (takes.others n other).0))
    (cases_eq n f)
  where
    -- nothing else has changed
    same_below : (m : ℕ) → m ≤ f → count_below m old ≡ count_below m new
    same_below zero low = refl
    same_below (suc m) low = omega (arith, same_below m (omega (arith, low)), ap length (takes.others m (omega (arith, low))).0)

-- ---- order

-- where nothing waits below n, no open board is below n
pub none_below : (guide : Guide) (lists : SearchListsModel) (n : ℕ) → IsInOrder guide lists → NothingWaits lists.waiting n → NoneBelow guide lists.closed n
none_below guide lists n order nothing key known opens =
    let waits = order.waits key known opens in
    ⊎_elim
    (λ (low : known.cost + guide.sum key < n). absurd (no_entry (waits.0, known.cost) (subst (λ (xs : List Entry). Contains xs (waits.0, known.cost)) (nothing (known.cost + guide.sum key) low) waits.2)))
    (λ (high : n ≤ known.cost + guide.sum key). high)
    (cases_lt (known.cost + guide.sum key) n)
  where
    no_entry : (x : Entry) → Contains [] x → ⊥
    no_entry x has = omega (arith, has.1)

-- the least f of all entries is no more than that of an open board
pub least_below : (lists : SearchListsModel) (least : Option ℕ) → IsLeastF lists.waiting least → IfSome least (λ f. (guide : Guide) → IsInOrder guide lists → NoneBelow guide lists.closed f)
least_below lists None lowest = tt
least_below lists (Some f) lowest = λ guide order. none_below guide lists f order lowest.1

-- ---- entries in another order

-- the least f stays
pub lowest_sorted : (f : ℕ) (old new : OpenModel ℕ) → Sorts f old new → IsLeastF old (Some f) → IsLeastF new (Some f)
lowest_sorted f old new sorts lowest = (
  λ none. lowest.0 (nil_from_length (entries_at old f) (sym (length_permutation (entries_at old f) (entries_at new f) sorts.moved) ∙ ap length none)),
  λ h below. (sorts.others h (omega (arith, below))).0 ∙ lowest.1 h below,
)

-- so it does where one is made the last
pub lowest_brought : (f before : ℕ) (old new : OpenModel ℕ) → BringsLast f before old new → IsLeastF old (Some f) → IsLeastF new (Some f)
lowest_brought f before old new brings lowest = (
  λ none. lowest.0 (nil_from_length (entries_at old f) (sym (length_permutation (entries_at old f) (entries_at new f) brings.exchanged) ∙ ap length none)),
  λ h below. (brings.others h (omega (arith, below))).0 ∙ lowest.1 h below,
)

-- entries that are moved twice are the same ones
pub moved_twice : (old between new : OpenModel ℕ) → HasEntriesOf old between → HasEntriesOf between new → HasEntriesOf old new
moved_twice old between new first second = record {
  entries = λ h. IsPermutation-trans (entries_at old h) (entries_at between h) (entries_at new h) (first.entries h) (second.entries h);
  places = λ h. second.places h ∙ first.places h;
}

-- what is read of entries is one of them
pub entry_has : (entries : List Entry) (before : ℕ) (entry : Entry) → slice_get entries before ≡ Some entry → Contains entries entry
entry_has entries before entry is = (before, slice_get_within entries before entry is, get_or_from_slice_get entries before entry entry is)

-- what waits first waits
pub first_waits : (lists : SearchListsModel) (next : Next) → IsFirst lists next → IsWaiting lists next
first_waits lists next first = record {
  place = first.place;
  known = (first.known.0, first.known.1, first.known.4);
  waits = is_there next.f (next.place, next.cost) lists.waiting first.waits;
}

module _ (old new : OpenModel ℕ) (same : HasEntriesOf old new) where
  had : (h : ℕ) (x : Entry) → Contains (entries_at new h) x → Contains (entries_at old h) x
  had h x has = Contains-permutation (entries_at new h) (entries_at old h) x (IsPermutation-sym (entries_at old h) (entries_at new h) (same.entries h)) has

  pub known_same : (closed : ClosedModel) → AreKnown (both closed old) → AreKnown (both closed new)
  known_same closed known h p c has = known h p c (had h (p, c) has)

  pub order_same : (guide : Guide) (closed : ClosedModel) → IsInOrder guide (both closed old) → IsInOrder guide (both closed new)
  order_same guide closed order = record {
    waits = λ key known opens.
        let waits = order.waits key known opens in
        let f = known.cost + guide.sum key in
        (waits.0, waits.1, Contains-permutation (entries_at old f) (entries_at new f) (waits.0, known.cost) (same.entries f) waits.2);
    adds = λ h p c has. order.adds h p c (had h (p, c) has);
  }

  pub count_same : (n : ℕ) → count_below n new ≡ count_below n old
  count_same zero = refl
  count_same (suc n) = λ t. count_same n t + length_permutation (entries_at old n) (entries_at new n) (same.entries n) t

-- the entry is out of date: its board is closed, or has another cost
abbrev pub IsStale : ClosedModel → ℕ → ℕ → Type 0
IsStale closed place cost = (key : ℕ) (known : Known) → slice_get closed.keys place ≡ Some key → map.get closed.known key ≡ Some known → known.expanded ≡ false → known.cost ≢ cost

module _ (guide : Guide) (closed : ClosedModel) (f place cost : ℕ) (old new : OpenModel ℕ) (takes : TakesEntry f (place, cost) old new) where
  place_of : {p c : ℕ} → ◌≡◌ {A = Entry} (place, cost) (p, c) → place ≡ p
  place_of e = ap (λ (x : Entry). x.0) e

  -- what is out of date goes out
  pub order_dropped : IsStale closed place cost → IsInOrder guide (both closed old) → IsInOrder guide (both closed new)
  order_dropped stale order = record {
    waits = λ key known opens.
        let waits = order.waits key known opens in
        ⊎_elim
        (λ (left : Contains (entries_at new (known.cost + guide.sum key)) (waits.0, known.cost)). (waits.0, waits.1, left))
        (λ (taken : (known.cost + guide.sum key ≡ f) × ◌≡◌ {A = Entry} (place, cost) (waits.0, known.cost)).
        absurd (stale key known (ap (slice_get closed.keys) (place_of taken.1) ∙ waits.1) opens.knows opens.unexpanded (sym (ap (λ (x : Entry). x.1) taken.1))))
        (is_left f (place, cost) old new takes (known.cost + guide.sum key) (waits.0, known.cost) waits.2);
    adds = λ h p c has. order.adds h p c (was_there f (place, cost) old new takes h (p, c) has);
  }

  -- a board is closed, and its entry goes out
  pub order_closed : (key : ℕ) (known : Known) → slice_get closed.keys place ≡ Some key → map.get closed.known key ≡ Some known → IsInOrder guide (both closed old) → IsInOrder guide (both (table_closure closed key (Some known)) new)
  order_closed key known stands knows order = record {
    waits = λ q now opens. still q now opens (with_insert closed.known key q (record known { expanded = true }));
    adds = λ h p c has. order.adds h p c (was_there f (place, cost) old new takes h (p, c) has);
  }
    where
      shut : Known
      shut = record known { expanded = true }

      -- the board that was closed is not open
      never : (q : ℕ) (now : Known) → IsOpenKey guide (table_closure closed key (Some known)) q now → q ≡ key → ⊥
      never q now opens same =
          let is : now ≡ shut = same_known (map.insert closed.known key shut) key now shut (ap (map.get (map.insert closed.known key shut)) (sym same) ∙ opens.knows) (get_inserted closed.known key shut) in
          let e : false ≡ true = sym opens.unexpanded ∙ ap (λ (k : Known). k.expanded) is in
          cc

      still : (q : ℕ) (now : Known) → IsOpenKey guide (table_closure closed key (Some known)) q now → (map.get (map.insert closed.known key shut) q ≡ map.get closed.known q) ⊎ ((q ≡ key) × (map.get (map.insert closed.known key shut) q ≡ Some shut)) → (p : ℕ) × (slice_get closed.keys p ≡ Some q) × Contains (entries_at new (now.cost + guide.sum q)) (p, now.cost)
      still q now opens (inr there) = absurd (never q now opens there.0)
      still q now opens (inl same) =
          let was : IsOpenKey guide closed q now = record { knows = sym same ∙ opens.knows; unexpanded = opens.unexpanded; no_goal = opens.no_goal } in
          let waits = order.waits q now was in
          ⊎_elim
          (λ (left : Contains (entries_at new (now.cost + guide.sum q)) (waits.0, now.cost)). (waits.0, waits.1, left))
          (λ (taken : (now.cost + guide.sum q ≡ f) × ◌≡◌ {A = Entry} (place, cost) (waits.0, now.cost)).
          let same_place : Some q ≡ Some key = sym waits.1 ∙ ap (slice_get closed.keys) (sym (place_of taken.1)) ∙ stands in
          absurd (never q now opens (cc)))
          (is_left f (place, cost) old new takes (now.cost + guide.sum q) (waits.0, now.cost) waits.2)

-- ---- a board is relaxed

abbrev pub met_as : ℕ → Move → Known
met_as cost via = record { cost = cost; expanded = false; via = via }

-- what is known after a board is relaxed, where its key is known so
abbrev relaxed_as : Option Known → Knowledge → ℕ → ℕ → Move → Knowledge
relaxed_as o known key cost via = if is_news o cost then map.insert known key (met_as cost via) else known

-- at each key: what was known there, or the board as it was met, where its cost was news
relaxed_by : (o : Option Known) (known : Knowledge) (key cost : ℕ) (via : Move) (q : ℕ) (now : Known) → map.get (relaxed_as o known key cost via) q ≡ Some now → (map.get known q ≡ Some now) ⊎ ((q ≡ key) × (now ≡ met_as cost via) × (is_news o cost ≡ true))
relaxed_by o known key cost via q now is =
    ⊎_elim
    (λ (news : is_news o cost ≡ true).
    let inserted : map.get (map.insert known key (met_as cost via)) q ≡ Some now = ap (λ (m : Knowledge). map.get m q) (sym (cond-true _ _ _ news)) ∙ is in
    ⊎_elim
    (λ (same : map.get (map.insert known key (met_as cost via)) q ≡ map.get known q). inl (sym same ∙ inserted))
    (λ (there : (q ≡ key) × (map.get (map.insert known key (met_as cost via)) q ≡ Some (met_as cost via))). inr (there.0, same_known (map.insert known key (met_as cost via)) q now (met_as cost via) inserted there.1, news))
    (with_insert known key q (met_as cost via)))
    (λ (old : is_news o cost ≡ false). inl (ap (λ (m : Knowledge). map.get m q) (sym (cond-false _ _ _ old)) ∙ is))
    (cases_Bool (is_news o cost))

-- no key goes
grown : (o : Option Known) (keys : List ℕ) (key p q : ℕ) → slice_get keys p ≡ Some q → slice_get (arrivals o keys key) p ≡ Some q
grown (Some known) keys key p q is = is
grown None keys key p q is = further keys p is
  where
    further : (xs : List ℕ) (i : ℕ) → slice_get xs i ≡ Some q → slice_get (xs ++ key ∷ []) i ≡ Some q
    further [] i is = let e : None ≡ Some q = is in absurd (cc)
    further (x ∷ xs) zero is = is
    further (x ∷ xs) (suc i) is = further xs i is

-- a cost that is kept is no news
kept_old : (o : Option Known) (cost : ℕ) → relaxation_answer o cost ≡ Kept → is_news o cost ≡ false
kept_old None cost is = let e : New ≡ Kept = is in absurd (cc)
kept_old (Some known) cost is = either (nat_lt cost known.cost) is
  where
    either : (b : Bool) → (if b then Lower else Kept) ≡ Kept → b ≡ false
    either true e = absurd (cc)
    either false e = refl

module _ (guide : Guide) (closed : ClosedModel) (met : Met) (old : OpenModel ℕ) where
  abbrev pub after : ClosedModel
  after = table_relaxation closed met.key met.cost met.via

  abbrev pub found : Option Known
  found = map.get closed.known met.key

  by : (q : ℕ) (now : Known) → IsOpenKey guide after q now → IsOpenKey guide closed q now ⊎ ((q ≡ met.key) × (now ≡ met_as met.cost met.via) × (is_news found met.cost ≡ true))
  by q now opens = ⊎_elim (λ (was : map.get closed.known q ≡ Some now). inl (record { knows = was; unexpanded = opens.unexpanded; no_goal = opens.no_goal })) (λ new. inr new) (relaxed_by found closed.known met.key met.cost met.via q now opens.knows)

  -- nothing is put: the cost is kept, or the board is the goal
  pub order_kept : (relaxation_answer found met.cost ≡ Kept) ⊎ (met.key ≡ guide.goal) → IsInOrder guide (both closed old) → IsInOrder guide (both after old)
  order_kept why order = record {
    waits = λ q now opens.
        ⊎_elim
        (λ (was : IsOpenKey guide closed q now). let waits = order.waits q now was in (waits.0, grown found closed.keys met.key waits.0 q waits.1, waits.2))
        (λ (new : (q ≡ met.key) × (now ≡ met_as met.cost met.via) × (is_news found met.cost ≡ true)). absurd (never q opens.no_goal new.0 new.2 why))
        (by q now opens);
    adds = λ h p c has. let adds = order.adds h p c has in (adds.0, grown found closed.keys met.key p adds.0 adds.1, adds.2, adds.3, adds.4);
  }
    where
      never : (q : ℕ) → q ≢ guide.goal → q ≡ met.key → is_news found met.cost ≡ true → (relaxation_answer found met.cost ≡ Kept) ⊎ (met.key ≡ guide.goal) → ⊥
      never q other same news (inl kept) = let e : true ≡ false = sym news ∙ kept_old found met.cost kept in cc
      never q other same news (inr goal) = other (same ∙ goal)

  -- the board is put
  pub order_put : (place : ℕ) (new : OpenModel ℕ) → slice_get after.keys place ≡ Some met.key → PutsEntry met.f (place, met.cost) old new → met.key ≢ guide.goal → AddsUp guide met → IsInOrder guide (both closed old) → IsInOrder guide (both after new)
  order_put place new stands puts other sums order = record {
    waits = λ q now opens.
        ⊎_elim
        (λ (was : IsOpenKey guide closed q now). let waits = order.waits q now was in (waits.0, grown found closed.keys met.key waits.0 q waits.1, stays met.f (place, met.cost) old new puts (now.cost + guide.sum q) (waits.0, now.cost) waits.2))
        (λ (fresh : (q ≡ met.key) × (now ≡ met_as met.cost met.via) × (is_news found met.cost ≡ true)).
        let cost : now.cost ≡ met.cost = ap (λ (k : Known). k.cost) fresh.1 in
        let at : now.cost + guide.sum q ≡ met.f = (λ t. cost t + guide.sum (fresh.0 t)) ∙ sym sums.adds in (
          place,
          stands ∙ ap Some (sym fresh.0),
          subst (λ (h : ℕ). Contains (entries_at new h) (place, now.cost)) (sym at)
              (subst (λ (c : ℕ). Contains (entries_at new met.f) (place, c)) (sym cost)
              (subst (λ (xs : List Entry). Contains xs (place, met.cost)) (sym puts.here) (Contains-push (entries_at old met.f) (place, met.cost)))),
        ))
        (by q now opens);
    adds = λ h p c has.
        ⊎_elim
        (λ (was : Contains (entries_at old h) (p, c)). let adds = order.adds h p c was in (adds.0, grown found closed.keys met.key p adds.0 adds.1, adds.2, adds.3, adds.4))
        (λ (put : (h ≡ met.f) × ◌≡◌ {A = Entry} (place, met.cost) (p, c)).
        let at : place ≡ p = ap (λ (x : Entry). x.0) put.1 in
        let cost : met.cost ≡ c = ap (λ (x : Entry). x.1) put.1 in
        (met.key, ap (slice_get after.keys) (sym at) ∙ stands, other, omega (arith, put.0, cost, sums.adds), omega (arith, put.0, sums.within)))
        (was_put met.f (place, met.cost) old new puts h (p, c) has);
  }

module _ (closed : ClosedModel) (met : Met) (old : OpenModel ℕ) where
  -- what waits is known still
  pub known_kept : AreKnown (both closed old) → AreKnown (both (table_relaxation closed met.key met.cost met.via) old)
  known_kept known h p c has = longer (map.get closed.known met.key) (known h p c has)
    where
      longer : (o : Option Known) → p < length closed.keys → p < length (arrivals o closed.keys met.key)
      longer (Some k) within = within
      longer None within = omega (arith, within, length-append closed.keys (met.key ∷ []))

  pub known_put : (place : ℕ) (new : OpenModel ℕ) → slice_get (table_relaxation closed met.key met.cost met.via).keys place ≡ Some met.key → PutsEntry met.f (place, met.cost) old new → AreKnown (both closed old) → AreKnown (both (table_relaxation closed met.key met.cost met.via) new)
  known_put place new stands puts known h p c has =
      ⊎_elim
      (λ (was : Contains (entries_at old h) (p, c)). known_kept known h p c was)
      (λ (put : (h ≡ met.f) × ◌≡◌ {A = Entry} (place, met.cost) (p, c)). subst (λ (i : ℕ). i < length (table_relaxation closed met.key met.cost met.via).keys) (ap (λ (x : Entry). x.0) put.1) (slice_get_within (table_relaxation closed met.key met.cost met.via).keys place met.key stands))
      (was_put met.f (place, met.cost) old new puts h (p, c) has)

-- ---- what waits first

-- where lists are in order, what waits first is an open board of least cost plus sum
pub first_least : (guide : Guide) (lists : SearchListsModel) (next : Next) → IsInOrder guide lists → IsFirst lists next → IsLeastOpen guide lists.closed next
first_least guide lists next order first =
    let adds = order.adds next.f next.place next.cost (is_there next.f (next.place, next.cost) lists.waiting first.waits) in
    let same : Some adds.0 ≡ Some next.key = sym adds.1 ∙ first.place in
    let key : adds.0 ≡ next.key = cc in
    record {
      opens = (first.known.0, record { knows = first.known.1; unexpanded = first.known.2; no_goal = λ is. adds.2 (key ∙ is) }, first.known.3, first.known.4);
      adds = adds.3 ∙ ap (λ (k : ℕ). next.cost + guide.sum k) key;
      least = none_below guide lists next.f order first.waits.least;
    }

-- where no open board is below a bound above all, there is none
pub none_open : (guide : Guide) (lists : SearchListsModel) (n : ℕ) → IsInOrder guide lists → NoneBelow guide lists.closed n → GREATEST_F < n → (key : ℕ) (known : Known) → IsOpenKey guide lists.closed key known → ⊥
none_open guide lists n order none high key known opens =
    let waits = order.waits key known opens in
    let adds = order.adds (known.cost + guide.sum key) waits.0 known.cost waits.2 in
    omega (arith, none key known opens, adds.4, high)

-- ---- more room

-- more places leave the order as it is
pub order_with_room : (guide : Guide) (old new : SearchListsModel) → HasMoreRoom old new → IsInOrder guide old → IsInOrder guide new
order_with_room guide old new more order = record {
  waits = λ key known at.
      let place = order.waits key known (record { knows = ap (λ m. map.get m key) (sym more.known) ∙ at.knows; unexpanded = at.unexpanded; no_goal = at.no_goal }) in
      (place.0, ap (λ (keys : List ℕ). slice_get keys place.0) more.keys ∙ place.1, subst (λ (xs : List (ℕ × ℕ)). Contains xs (place.0, known.cost)) (sym (more.entries (known.cost + guide.sum key))) place.2);
  adds = λ f place cost has.
      let found = order.adds f place cost (subst (λ (xs : List (ℕ × ℕ)). Contains xs (place, cost)) (more.entries f) has) in
      (found.0, ap (λ (keys : List ℕ). slice_get keys place) more.keys ∙ found.1, found.2, found.3, found.4);
}

-- lists that know no board are in order
abbrev no_boards : Knowledge
no_boards = map.empty

unknown : (key : ℕ) (known : Known) → map.get no_boards key ≡ Some known → ⊥
unknown key known at = let none : ◌≡◌ {A = Option Known} None (Some known) = sym (map.get-empty nat_cmp key) ∙ at in cc

pub empty_order : (guide : Guide) (lists : SearchListsModel) → HasMoreRoom empty_lists lists → IsInOrder guide lists
empty_order guide lists more = order_with_room guide empty_lists lists more (record {
  waits = λ key known at. absurd (unknown key known at.knows);
  adds = λ f place cost has. let inside : has.0 < 0 = has.1 in absurd (omega (arith, inside));
})
