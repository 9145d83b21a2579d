-- Buckets where one changes.
use Rattle.std.proofs.Common.{◌≡◌, ◌≢◌, ℕ, ◌+◌, ◌-◌, ◌<◌, ◌≤◌, ◌∙◌, List, [], ◌∷◌, ◌++◌, length, sym, ap, refl, subst, inl, inr, arith, get_or, length-set, Some}
use Rattle.std.specs.Prelude.{map, set, swap, take, slice_get, IsPermutation, Contains}
use Rattle.std.specs.List.Sorted.{IsNonDecreasingBy}
use Rattle.std.specs.Vec.{vec_len}
use Rattle.std.specs.declared.vec.Vec.{Vec}
use Rattle.std.proofs.lemmas.Bool.{cases_eq, cases_lt}
use Rattle.std.proofs.lemmas.List.{take_more, take_all, get_or-set_same, get_or-set_other, get_or-map, length-map, get_or_past, get_or_append_left, get_or_push, length_push, nil_from_length}
use Rattle.std.proofs.Math.Seq.{map-set_same}
use Rattle.std.proofs.lemmas.List.Sorted.{Contains-permutation, IsPermutation-sym, IsPermutation-refl, IsPermutation-swap}
use Rattle.std.proofs.lemmas.Option.{get_or_from_slice_get, slice_get_within}
use Rattle.open_buckets.specs.OpenLists.{OpenModel, entries_at, places_at, OthersStay, PutsEntry, TakesEntry, Sorts, BringsLast, IsLastAt, IsNextEntry}
use Rattle.open_buckets.specs.Buckets.{list_of}

module _ {K Z : Type 0} where
  items_of : Vec (K × ℕ) Z → List (K × ℕ)
  items_of b = b.items

  spare_of : Vec (K × ℕ) Z → ℕ
  spare_of b = b.cap - b.len

  pub entries_in : (bs : List (Vec (K × ℕ) Z)) (f : ℕ) (e : Vec (K × ℕ) Z) → f < length bs → entries_at (list_of bs) f ≡ (get_or bs f e).items
  entries_in bs f e lt = get_or-map (λ (b : Vec (K × ℕ) Z). b.items) bs f e [] lt

  pub places_in : (bs : List (Vec (K × ℕ) Z)) (f : ℕ) (e : Vec (K × ℕ) Z) → f < length bs → places_at (list_of bs) f ≡ (get_or bs f e).cap - (get_or bs f e).len
  places_in bs f e lt = get_or-map (λ (b : Vec (K × ℕ) Z). b.cap - b.len) bs f e 0 lt

  pub entries_past : (bs : List (Vec (K × ℕ) Z)) (f : ℕ) → length bs ≤ f → entries_at (list_of bs) f ≡ []
  entries_past bs f le =
      let e : length (map (λ (b : Vec (K × ℕ) Z). b.items) bs) ≡ length bs = length-map bs (λ b. b.items) in
      get_or_past (map (λ (b : Vec (K × ℕ) Z). b.items) bs) f [] (omega arith)

  pub places_past : (bs : List (Vec (K × ℕ) Z)) (f : ℕ) → length bs ≤ f → places_at (list_of bs) f ≡ 0
  places_past bs f le =
      let e : length (map (λ (b : Vec (K × ℕ) Z). b.cap - b.len) bs) ≡ length bs = length-map bs (λ b. b.cap - b.len) in
      get_or_past (map (λ (b : Vec (K × ℕ) Z). b.cap - b.len) bs) f 0 (omega arith)

  -- where there is a place there is a bucket
  pub has_bucket : (bs : List (Vec (K × ℕ) Z)) (f : ℕ) → 0 < places_at (list_of bs) f → f < length bs
  has_bucket bs f some = elim (cases_lt f (length bs)) [
    | inl lt ↦ lt
    | inr past ↦ let none = places_past bs f past in absurd (omega arith)
  ]

  module _ (bs : List (Vec (K × ℕ) Z)) (f : ℕ) (b : Vec (K × ℕ) Z) (lt : f < length bs) where
    pub entries_set : entries_at (list_of (set bs f b)) f ≡ b.items
    entries_set =
        let within : f < length (set bs f b) = let e : length (set bs f b) ≡ length bs = length-set bs f b in omega arith in
        entries_in (set bs f b) f b within ∙ ap (λ (v : Vec (K × ℕ) Z). v.items) (get_or-set_same bs f b b lt)

    pub places_set : places_at (list_of (set bs f b)) f ≡ b.cap - b.len
    places_set =
        let within : f < length (set bs f b) = let e : length (set bs f b) ≡ length bs = length-set bs f b in omega arith in
        places_in (set bs f b) f b within ∙ ap (λ (v : Vec (K × ℕ) Z). v.cap - v.len) (get_or-set_same bs f b b lt)

    pub others_set : OthersStay f (list_of bs) (list_of (set bs f b))
    others_set h apart = elim (cases_lt h (length bs)) [
      | inl below ↦
          let within : h < length (set bs f b) = let e : length (set bs f b) ≡ length bs = length-set bs f b in omega arith in (
            entries_in (set bs f b) h b within ∙ ap (λ (v : Vec (K × ℕ) Z). v.items) (get_or-set_other bs f h b b apart) ∙ sym (entries_in bs h b below),
            places_in (set bs f b) h b within ∙ ap (λ (v : Vec (K × ℕ) Z). v.cap - v.len) (get_or-set_other bs f h b b apart) ∙ sym (places_in bs h b below),
          )
      | inr past ↦
          let beyond : length (set bs f b) ≤ h = let e : length (set bs f b) ≡ length bs = length-set bs f b in omega arith in
          (entries_past (set bs f b) h beyond ∙ sym (entries_past bs h past), places_past (set bs f b) h beyond ∙ sym (places_past bs h past))
    ]

    module _ (old : Vec (K × ℕ) Z) (is : old ≡ get_or bs f old) where
      entries_old : entries_at (list_of bs) f ≡ old.items
      entries_old = entries_in bs f old lt ∙ ap (λ (v : Vec (K × ℕ) Z). v.items) (sym is)

      places_old : places_at (list_of bs) f ≡ old.cap - old.len
      places_old = places_in bs f old lt ∙ ap (λ (v : Vec (K × ℕ) Z). v.cap - v.len) (sym is)

      pub put_in : (e : K × ℕ) → b.items ≡ old.items ++ e ∷ [] → old.cap ≤ b.cap → PutsEntry f e (list_of bs) (list_of (set bs f b))
      put_in e items more = record {
        here = entries_set ∙ items ∙ ap (λ xs. xs ++ e ∷ []) (sym entries_old);
        places =
            let p = places_set in
            let o = places_old in
            let now : length b.items ≡ length old.items + 1 = ap length items ∙ length_push old.items e in
            let len = b.ok.0 in
            let old_len = old.ok.0 in
            omega arith;
        others = others_set;
      }

      pub taken_from : (e : K × ℕ) → old.items ≡ b.items ++ e ∷ [] → b.cap - b.len ≡ old.cap - old.len + 1 → ((h : ℕ) → h < f → entries_at (list_of bs) h ≡ []) → TakesEntry f e (list_of bs) (list_of (set bs f b))
      taken_from e items spare before = record {
        here = entries_old ∙ items ∙ ap (λ xs. xs ++ e ∷ []) (sym entries_set);
        least = before;
        places = let p = places_set in let o = places_old in omega arith;
        others = others_set;
      }

      pub sorted_in : IsPermutation old.items b.items → IsNonDecreasingBy (λ (e : K × ℕ). e.1) b.items → b.cap - b.len ≡ old.cap - old.len → Sorts f (list_of bs) (list_of (set bs f b))
      sorted_in moved sorted spare = record {
        moved = subst (λ xs. IsPermutation xs (entries_at (list_of (set bs f b)) f)) (sym entries_old) (subst (IsPermutation old.items) (sym entries_set) moved);
        sorted = subst (IsNonDecreasingBy (λ (e : K × ℕ). e.1)) (sym entries_set) sorted;
        places = let p = places_set in let o = places_old in omega arith;
        others = others_set;
      }

      -- an entry exchanged with the last one
      pub brought_in : (before : ℕ) → before < length old.items → b.items ≡ swap old.items before (old.len - 1) → ((d : K × ℕ) → get_or b.items (old.len - 1) d ≡ get_or old.items before d) → b.len ≡ old.len → b.cap ≡ old.cap → BringsLast f before (list_of bs) (list_of (set bs f b))
      brought_in before within items last len cap =
          let old_len = old.ok.0 in
          let new_len = b.ok.0 in record {
            exchanged = subst (λ xs. IsPermutation xs (entries_at (list_of (set bs f b)) f)) (sym entries_old) (subst (IsPermutation old.items) (sym entries_set) (IsPermutation-swap old.items b.items before (old.len - 1) within (omega (arith, within)) items));
            swapped = λ _. entries_set ∙ items ∙ ap (λ n. swap old.items before (n - 1)) old_len ∙ ap (λ xs. swap xs before (length xs - 1)) (sym entries_old);
            last = λ entry there.
                let here : slice_get old.items before ≡ Some entry = ap (λ xs. slice_get xs before) (sym entries_old) ∙ there in
                let read : get_or b.items (old.len - 1) entry ≡ entry = last entry ∙ get_or_from_slice_get old.items before entry entry here in
                let size : length b.items ≡ old.len - 1 + 1 = omega (arith, within) in
                let cut : take (length b.items) b.items ≡ take (old.len - 1) b.items ++ get_or b.items (old.len - 1) entry ∷ [] = ap (λ n. take n b.items) size ∙ take_more b.items (old.len - 1) entry (omega (arith, size)) in
                (take (old.len - 1) b.items, entries_set ∙ sym (take_all (length b.items) b.items (omega arith)) ∙ cut ∙ ap (λ x. take (old.len - 1) b.items ++ x ∷ []) read);
            none = λ past. let e : length (entries_at (list_of bs) f) ≡ length old.items = ap length entries_old in absurd (omega (arith, past, within, e));
            places = let p = places_set in let o = places_old in omega (arith, p, o, len, cap);
            others = others_set;
          }

      -- a bucket replaced by one with the same entries and as many places
      pub nothing_taken : b.items ≡ old.items → b.cap ≡ old.cap → b.len ≡ old.len → list_of (set bs f b) ≡ list_of bs
      nothing_taken items cap len = λ q. record {
        entries = map-set_same (λ (v : Vec (K × ℕ) Z). v.items) bs f b old (items ∙ ap (λ (v : Vec (K × ℕ) Z). v.items) is) q;
        places = map-set_same (λ (v : Vec (K × ℕ) Z). v.cap - v.len) bs f b old ((λ r. cap r - len r) ∙ ap (λ (v : Vec (K × ℕ) Z). v.cap - v.len) is) q;
      }

      pub same_entries : b.items ≡ old.items → (h : ℕ) → entries_at (list_of (set bs f b)) h ≡ entries_at (list_of bs) h
      same_entries items h = elim (cases_eq h f) [
        | inl here ↦ ap (λ k. entries_at (list_of (set bs f b)) k) here ∙ entries_set ∙ items ∙ sym entries_old ∙ ap (λ k. entries_at (list_of bs) k) (sym here)
        | inr apart ↦ (others_set h apart).0
      ]

      pub no_fewer_places : old.cap - old.len ≤ b.cap - b.len → (h : ℕ) → places_at (list_of bs) h ≤ places_at (list_of (set bs f b)) h
      no_fewer_places more h = elim (cases_eq h f) [
        | inl here ↦
            let p = places_set in
            let o = places_old in
            let there : places_at (list_of bs) f ≤ places_at (list_of (set bs f b)) f = omega arith in
            subst (λ (k : ℕ). places_at (list_of bs) k ≤ places_at (list_of (set bs f b)) k) (sym here) there
        | inr apart ↦ let e = (others_set h apart).1 in omega arith
      ]

  -- an entry of a bucket
  pub entry_in : (bs : List (Vec (K × ℕ) Z)) (f : ℕ) (b : Vec (K × ℕ) Z) → f < length bs → b ≡ get_or bs f b → entries_at (list_of bs) f ≡ b.items
  entry_in bs f b lt is = entries_in bs f b lt ∙ ap (λ (v : Vec (K × ℕ) Z). v.items) (sym is)

  -- one empty bucket more
  pub entries_more : (bs : List (Vec (K × ℕ) Z)) (v : Vec (K × ℕ) Z) → v.items ≡ [] → (h : ℕ) → entries_at (list_of (bs ++ v ∷ [])) h ≡ entries_at (list_of bs) h
  entries_more bs v none h =
      let size : length (bs ++ v ∷ []) ≡ length bs + 1 = length_push bs v in
      elim (cases_lt h (length bs)) [
        | inl below ↦ entries_in (bs ++ v ∷ []) h v (omega arith) ∙ ap (λ (x : Vec (K × ℕ) Z). x.items) (get_or_append_left bs (v ∷ []) v h below) ∙ sym (entries_in bs h v below)
        | inr past ↦ elim (cases_eq h (length bs)) [
          | inl last ↦ entries_in (bs ++ v ∷ []) h v (omega arith) ∙ ap (λ (x : Vec (K × ℕ) Z). x.items) (get_or_push bs v v h (sym last)) ∙ none ∙ sym (entries_past bs h past)
          | inr apart ↦ entries_past (bs ++ v ∷ []) h (omega arith) ∙ sym (entries_past bs h past)
        ]
      ]

  pub places_more : (bs : List (Vec (K × ℕ) Z)) (v : Vec (K × ℕ) Z) → v.cap - v.len ≡ 0 → (h : ℕ) → places_at (list_of (bs ++ v ∷ [])) h ≡ places_at (list_of bs) h
  places_more bs v none h =
      let size : length (bs ++ v ∷ []) ≡ length bs + 1 = length_push bs v in
      elim (cases_lt h (length bs)) [
        | inl below ↦ places_in (bs ++ v ∷ []) h v (omega arith) ∙ ap (λ (x : Vec (K × ℕ) Z). x.cap - x.len) (get_or_append_left bs (v ∷ []) v h below) ∙ sym (places_in bs h v below)
        | inr past ↦ elim (cases_eq h (length bs)) [
          | inl last ↦ places_in (bs ++ v ∷ []) h v (omega arith) ∙ ap (λ (x : Vec (K × ℕ) Z). x.cap - x.len) (get_or_push bs v v h (sym last)) ∙ none ∙ sym (places_past bs h past)
          | inr apart ↦ places_past (bs ++ v ∷ []) h (omega arith) ∙ sym (places_past bs h past)
        ]
      ]

  -- a bucket of length 0
  pub empty_at : (bs : List (Vec (K × ℕ) Z)) (f : ℕ) (b : Vec (K × ℕ) Z) → f < length bs → b ≡ get_or bs f b → vec_len b ≡ 0 → entries_at (list_of bs) f ≡ []
  empty_at bs f b lt is none = entries_in bs f b lt ∙ ap (λ (v : Vec (K × ℕ) Z). v.items) (sym is) ∙ nil_from_length b.items (sym b.ok.0 ∙ none)

  -- the last item of a bucket
  pub last_in : (bs : List (Vec (K × ℕ) Z)) (f : ℕ) (b : Vec (K × ℕ) Z) (entry : K × ℕ) → f < length bs → b ≡ get_or bs f b → vec_len b ≢ 0 → entry ≡ get_or b.items (vec_len b - 1) entry → IsLastAt f entry (list_of bs)
  last_in bs f b entry lt is some read =
      let size : length b.items ≡ b.len - 1 + 1 = let len = b.ok.0 in omega arith in
      let cut : take (length b.items) b.items ≡ take (b.len - 1) b.items ++ get_or b.items (b.len - 1) entry ∷ [] = ap (λ n. take n b.items) size ∙ take_more b.items (b.len - 1) entry (omega arith) in
      (take (b.len - 1) b.items, entries_in bs f b lt ∙ ap (λ (v : Vec (K × ℕ) Z). v.items) (sym is) ∙ sym (take_all (length b.items) b.items (omega arith)) ∙ cut ∙ ap (λ x. take (b.len - 1) b.items ++ x ∷ []) (sym read))

-- no such entry
pub none_brought : {K : Type 0} (list : OpenModel K) (f before : ℕ) → length (entries_at list f) ≤ before → BringsLast f before list list
none_brought list f before past = record {
  exchanged = IsPermutation-refl (entries_at list f);
  swapped = λ within. absurd (omega (arith, past, within));
  last = λ entry there. let lt = slice_get_within (entries_at list f) before entry there in absurd (omega (arith, past, lt));
  none = λ _. refl;
  places = refl;
  others = λ h apart. (refl, refl);
}

-- what is next where the entries at f were put in order
next_is_last : {K : Type 0} (f : ℕ) (next : K × ℕ) (new : OpenModel K) (is_next : IsNextEntry f next new) (d : K × ℕ) → (get_or (entries_at new f) (length is_next.last.0) d ≡ next) × (length (entries_at new f) ≡ length is_next.last.0 + 1)
next_is_last f next new is_next d = (ap (λ xs. get_or xs (length is_next.last.0) d) is_next.last.1 ∙ get_or_push is_next.last.0 next d (length is_next.last.0) (λ _. length is_next.last.0), ap length is_next.last.1 ∙ length_push is_next.last.0 next)

pub next_was_there : {K : Type 0} (f : ℕ) (next : K × ℕ) (old new : OpenModel K) → Sorts f old new → IsNextEntry f next new → Contains (entries_at old f) next
next_was_there f next old new sorts is_next =
    let last = next_is_last f next new is_next next in
    let count = last.1 in
    Contains-permutation (entries_at new f) (entries_at old f) next (IsPermutation-sym (entries_at old f) (entries_at new f) sorts.moved) (length is_next.last.0, omega arith, last.0)

pub none_costs_more : {K : Type 0} (f : ℕ) (next other : K × ℕ) (old new : OpenModel K) → Sorts f old new → IsNextEntry f next new → Contains (entries_at old f) other → other.1 ≤ next.1
none_costs_more {K} f next other old new sorts is_next found =
    let last = next_is_last f next new is_next other in
    let count = last.1 in
    let there : Contains (entries_at new f) other = Contains-permutation (entries_at old f) (entries_at new f) other sorts.moved found in
    let below = there.1 in
    let ordered : (get_or (entries_at new f) there.0 other).1 ≤ (get_or (entries_at new f) (length is_next.last.0) other).1 = sorts.sorted there.0 (length is_next.last.0) other (omega arith) (omega arith) in
    let here : (get_or (entries_at new f) there.0 other).1 ≡ other.1 = ap (λ (e : K × ℕ). e.1) there.2 in
    let dearest : (get_or (entries_at new f) (length is_next.last.0) other).1 ≡ next.1 = ap (λ (e : K × ℕ). e.1) last.0 in
    omega arith

pub all_in_order : {K : Type 0} (f i j : ℕ) (one other : K × ℕ) (old new : OpenModel K) → Sorts f old new → i ≤ j → slice_get (entries_at new f) i ≡ Some one → slice_get (entries_at new f) j ≡ Some other → one.1 ≤ other.1
all_in_order {K} f i j one other old new sorts before first second =
    let ordered : (get_or (entries_at new f) i one).1 ≤ (get_or (entries_at new f) j one).1 = sorts.sorted i j one before (slice_get_within (entries_at new f) j other second) in
    let here : (get_or (entries_at new f) i one).1 ≡ one.1 = ap (λ (e : K × ℕ). e.1) (get_or_from_slice_get (entries_at new f) i one one first) in
    let there : (get_or (entries_at new f) j one).1 ≡ other.1 = ap (λ (e : K × ℕ). e.1) (get_or_from_slice_get (entries_at new f) j other one second) in
    omega (arith, ordered, here, there)
