-- Rows as a finite map, and as keys in order of arrival.
use Rattle.std.proofs.Common.{◌≡◌, ◌≢◌, ℕ, ◌+◌, ◌-◌, ◌<◌, ◌≤◌, ◌∙◌, zero, suc, List, [], ◌∷◌, ◌++◌, Option, None, Some, Bool, true, false, cond, length, refl, sym, ap, subst, inl, inr, arith, get_or}
use Rattle.std.specs.Prelude.{map, set, take, IsSome, Contains, nat_eq, nat_lt, slice_get, if◌then◌else◌}
use Rattle.std.specs.List.{list_any}
use Rattle.std.proofs.lemmas.Map.Keys.{IsDistinct-from_apart}
use Rattle.std.proofs.lemmas.Map.Views.{Contains-from_any, list_any-from_Contains}
use Rattle.std.proofs.lemmas.Bool.{eqb-true, le-ltb, lt-ltb, cases_eq, ne_eqb, eq-eqb}
use Rattle.std.proofs.lemmas.Option.{slice_get-get_or}
use Rattle.std.specs.Cmp.{nat_eq_equiv}
use Rattle.std.specs.Ordering.{nat_cmp, eq_by_cmp}
use Rattle.std.specs.Cmp.{nat_cmp_total, unsigned_tied}
use Rattle.std.specs.FinMap.{get, insert, from_entries, find, get-from_entries, get-insert, same_map, from_entries_push, nat_cmp-IsAntisymmetric, FinMap}
use Rattle.std.proofs.lemmas.List.{get_or-map, get_or-take, length-map, length-take-le, map-set, map_push, length_push, get_or_push}
use Rattle.std.proofs.Math.Seq.{take-set-lt, map-set_same}
use Rattle.board.specs.declared.moves.Move.{Move}
use Rattle.world_model.specs.declared.parts.Known.{Known}
use Rattle.world_model.specs.Knowledge.{is_news}
use Rattle.closed_table.specs.declared.index.Slot.{Slot}
use Rattle.closed_table.specs.declared.table.Relaxed.TheVariants.{Lower, Kept}
use Rattle.closed_table.specs.Tables.{ClosedModel, IsTable, relaxation_answer, arrivals, room_after, table_relaxation}
use Rattle.closed_table.specs.Chains.{slot_at, no_slot, key_in, key_at, row_of_slot, rows_of_slots}

finds_here : (es : List (ℕ × Known)) (e : ℕ × Known) (key : ℕ) → e.0 ≡ key → find nat_cmp key (e ∷ es) ≡ Some e.1
finds_here es e key is = ap (λ b. cond b (Some e.1) (find nat_cmp key es)) (unsigned_tied key e.0 ∙ eq-eqb key e.0 (sym is))

finds_later : (es : List (ℕ × Known)) (e : ℕ × Known) (key : ℕ) → e.0 ≢ key → find nat_cmp key (e ∷ es) ≡ find nat_cmp key es
finds_later es e key apart = ap (λ b. cond b (Some e.1) (find nat_cmp key es)) (unsigned_tied key e.0 ∙ ne_eqb key e.0 (λ same. apart (sym same)))

-- a key that only the row at a place has
finds_at : (es : List (ℕ × Known)) (i key : ℕ) (d : ℕ × Known) → i < length es → (get_or es i d).0 ≡ key → ((j : ℕ) → j < length es → (get_or es j d).0 ≡ key → j ≡ i) → find nat_cmp key es ≡ Some (get_or es i d).1
finds_at [] i key d lt is once = absurd (omega arith)
finds_at (e ∷ es) zero key d lt is once = finds_here es e key is
finds_at (e ∷ es) (suc i) key d lt is once =
    let apart : e.0 ≢ key = (λ same. let at : 0 ≡ suc i = once 0 (omega arith) same in absurd (omega arith)) in
    finds_later es e key apart ∙ finds_at es i key d (omega arith) is (λ j below same. let next : suc j ≡ suc i = once (suc j) (omega arith) same in omega arith)

finds_none : (es : List (ℕ × Known)) (key : ℕ) (d : ℕ × Known) → ((j : ℕ) → j < length es → (get_or es j d).0 ≢ key) → find nat_cmp key es ≡ None
finds_none [] key d none = refl
finds_none (e ∷ es) key d none = finds_later es e key (none 0 (omega arith)) ∙ finds_none es key d (λ j below. none (suc j) (omega arith))

-- one row changed
finds_after_set : (es : List (ℕ × Known)) (i key : ℕ) (k : Known) (d : ℕ × Known) → i < length es → (get_or es i d).0 ≡ key → ((j : ℕ) → j < length es → (get_or es j d).0 ≡ key → j ≡ i) → (q : ℕ) → find nat_cmp q (set es i (key, k)) ≡ cond (eq_by_cmp nat_cmp q key) (Some k) (find nat_cmp q es)
finds_after_set [] i key k d lt is once q = absurd (omega arith)
finds_after_set (e ∷ es) zero key k d lt is once q = elim (cases_eq q key) [
  | inl same ↦ finds_here es (key, k) q (sym same) ∙ sym (ap (λ b. cond b (Some k) (find nat_cmp q (e ∷ es))) (unsigned_tied q key ∙ eq-eqb q key same))
  | inr apart ↦ finds_later es (key, k) q (λ same. apart (sym same)) ∙ sym (finds_later es e q (λ same. apart (sym same ∙ is))) ∙ sym (ap (λ b. cond b (Some k) (find nat_cmp q (e ∷ es))) (unsigned_tied q key ∙ ne_eqb q key apart))
]
finds_after_set (e ∷ es) (suc i) key k d lt is once q =
    let apart : e.0 ≢ key = (λ same. let at : 0 ≡ suc i = once 0 (omega arith) same in absurd (omega arith)) in
    let rest : find nat_cmp q (set es i (key, k)) ≡ cond (eq_by_cmp nat_cmp q key) (Some k) (find nat_cmp q es) = finds_after_set es i key k d (omega arith) is (λ j below same. let next : suc j ≡ suc i = once (suc j) (omega arith) same in omega arith) q in
    elim (cases_eq e.0 q) [
      | inl here ↦
          let other : q ≢ key = (λ same. apart (here ∙ same)) in
          finds_here (set es i (key, k)) e q here ∙ sym (finds_here es e q here) ∙ sym (ap (λ b. cond b (Some k) (find nat_cmp q (e ∷ es))) (unsigned_tied q key ∙ ne_eqb q key other))
      | inr later ↦ finds_later (set es i (key, k)) e q later ∙ rest ∙ ap (λ o. cond (eq_by_cmp nat_cmp q key) (Some k) o) (sym (finds_later es e q later))
    ]

-- no two of these slots have the same key
abbrev pub AreDifferent : List Slot → ℕ → Type 0
AreDifferent slots len = (i j : ℕ) → i < len → j < len → key_at slots i ≡ key_at slots j → i ≡ j

pub length_of_rows : (slots : List Slot) (len : ℕ) → len ≤ length slots → length (rows_of_slots slots len) ≡ len
length_of_rows slots len le = length-map (take len slots) row_of_slot ∙ length-take-le len slots le

pub row_at : (slots : List Slot) (len i : ℕ) → len ≤ length slots → i < len → get_or (rows_of_slots slots len) i (row_of_slot no_slot) ≡ row_of_slot (slot_at slots i)
row_at slots len i le lt =
    let within : i < length (take len slots) = let e : length (take len slots) ≡ len = length-take-le len slots le in omega arith in
    get_or-map row_of_slot (take len slots) i no_slot (row_of_slot no_slot) within ∙ ap row_of_slot (get_or-take len slots i no_slot lt)

module _ (slots : List Slot) (len : ℕ) (le : len ≤ length slots) where
  once : AreDifferent slots len → (i key : ℕ) → i < len → key_at slots i ≡ key → (j : ℕ) → j < length (rows_of_slots slots len) → (get_or (rows_of_slots slots len) j (row_of_slot no_slot)).0 ≡ key → j ≡ i
  once different i key lt is j below same =
      let in_len : j < len = let e : length (rows_of_slots slots len) ≡ len = length_of_rows slots len le in omega arith in
      different j i in_len lt (ap (λ (r : ℕ × Known). r.0) (sym (row_at slots len j le in_len)) ∙ same ∙ sym is)

  pub known_at : AreDifferent slots len → (i key : ℕ) → i < len → key_at slots i ≡ key → get (from_entries {R = nat_cmp} (rows_of_slots slots len)) key ≡ Some (row_of_slot (slot_at slots i)).1
  known_at different i key lt is =
      let within : i < length (rows_of_slots slots len) = let e : length (rows_of_slots slots len) ≡ len = length_of_rows slots len le in omega arith in
      get-from_entries nat_cmp_total (rows_of_slots slots len) key
      ∙ finds_at (rows_of_slots slots len) i key (row_of_slot no_slot) within (ap (λ (r : ℕ × Known). r.0) (row_at slots len i le lt) ∙ is) (once different i key lt is)
      ∙ ap (λ (r : ℕ × Known). Some r.1) (row_at slots len i le lt)

  pub unknown : (key : ℕ) → ((i : ℕ) → i < len → key_at slots i ≢ key) → find nat_cmp key (rows_of_slots slots len) ≡ None
  unknown key none = finds_none (rows_of_slots slots len) key (row_of_slot no_slot) (λ j below same.
      let in_len : j < len = let e : length (rows_of_slots slots len) ≡ len = length_of_rows slots len le in omega arith in
      none j in_len (ap (λ (r : ℕ × Known). r.0) (sym (row_at slots len j le in_len)) ∙ same))

  pub unknown_at : (key : ℕ) → ((i : ℕ) → i < len → key_at slots i ≢ key) → get (from_entries {R = nat_cmp} (rows_of_slots slots len)) key ≡ None
  unknown_at key none = get-from_entries nat_cmp_total (rows_of_slots slots len) key ∙ unknown key none

  -- a slot that keeps its key
  pub rows_after_set : AreDifferent slots len → (i : ℕ) (slot : Slot) → i < len → key_in slot ≡ key_at slots i → rows_of_slots (set slots i slot) len ≡ set (rows_of_slots slots len) i (row_of_slot slot)
  rows_after_set different i slot lt same = ap (λ xs. map row_of_slot xs) (take-set-lt len slots i slot lt) ∙ map-set row_of_slot (take len slots) i slot

  pub known_after_set : AreDifferent slots len → (i : ℕ) (slot : Slot) → i < len → key_in slot ≡ key_at slots i → from_entries {R = nat_cmp} (rows_of_slots (set slots i slot) len) ≡ insert (from_entries (rows_of_slots slots len)) (key_in slot) (row_of_slot slot).1
  known_after_set different i slot lt same =
      let within : i < length (rows_of_slots slots len) = let e : length (rows_of_slots slots len) ≡ len = length_of_rows slots len le in omega arith in
      ap (λ es. from_entries {R = nat_cmp} es) (rows_after_set different i slot lt same)
      ∙ same_map nat_cmp_total nat_cmp-IsAntisymmetric _ _ (λ q.
      get-from_entries nat_cmp_total (set (rows_of_slots slots len) i (row_of_slot slot)) q
      ∙ finds_after_set (rows_of_slots slots len) i (key_in slot) (row_of_slot slot).1 (row_of_slot no_slot) within (ap (λ (r : ℕ × Known). r.0) (row_at slots len i le lt) ∙ sym same) (once different i (key_in slot) lt (sym same)) q
      ∙ sym (get-insert nat_cmp_total (from_entries (rows_of_slots slots len)) (key_in slot) (row_of_slot slot).1 q ∙ ap (λ o. cond (eq_by_cmp nat_cmp q (key_in slot)) (Some (row_of_slot slot).1) o) (get-from_entries nat_cmp_total (rows_of_slots slots len) q)))

  pub length_of_keys : length (map (λ (r : ℕ × Known). r.0) (rows_of_slots slots len)) ≡ len
  length_of_keys = length-map (rows_of_slots slots len) (λ (r : ℕ × Known). r.0) ∙ length_of_rows slots len le

  pub key_in_order : (i d : ℕ) → i < len → get_or (map (λ (r : ℕ × Known). r.0) (rows_of_slots slots len)) i d ≡ key_at slots i
  key_in_order i d lt =
      let within : i < length (rows_of_slots slots len) = let e : length (rows_of_slots slots len) ≡ len = length_of_rows slots len le in omega arith in
      get_or-map (λ (r : ℕ × Known). r.0) (rows_of_slots slots len) i (row_of_slot no_slot) d within ∙ ap (λ (r : ℕ × Known). r.0) (row_at slots len i le lt)

  contains_some : AreDifferent slots len → (key : ℕ) → Contains (map (λ (r : ℕ × Known). r.0) (rows_of_slots slots len)) key → IsSome (get (from_entries {R = nat_cmp} (rows_of_slots slots len)) key)
  contains_some different key found =
      let lt : found.0 < len = let l = found.1 in let e = length_of_keys in omega arith in
      subst (λ (o : Option Known). IsSome o) (sym (known_at different found.0 key lt (sym (key_in_order found.0 key lt) ∙ found.2))) refl

  some_contains : (key : ℕ) → IsSome (get (from_entries {R = nat_cmp} (rows_of_slots slots len)) key) → Contains (map (λ (r : ℕ × Known). r.0) (rows_of_slots slots len)) key
  some_contains key some = by_test (list_any (nat_eq key) (map (λ (r : ℕ × Known). r.0) (rows_of_slots slots len))) refl
    where
      by_test : (b : Bool) → list_any (nat_eq key) (map (λ (r : ℕ × Known). r.0) (rows_of_slots slots len)) ≡ b → Contains (map (λ (r : ℕ × Known). r.0) (rows_of_slots slots len)) key
      by_test true is = Contains-from_any (λ x y e. eqb-true x y e) key (map (λ (r : ℕ × Known). r.0) (rows_of_slots slots len)) is
      by_test false is =
          let none : get (from_entries {R = nat_cmp} (rows_of_slots slots len)) key ≡ None = unknown_at key (λ i lt same.
          let within : i < length (map (λ (r : ℕ × Known). r.0) (rows_of_slots slots len)) = let e = length_of_keys in omega arith in
          let yes : list_any (nat_eq key) (map (λ (r : ℕ × Known). r.0) (rows_of_slots slots len)) ≡ true = list_any-from_Contains nat_eq_equiv key (map (λ (r : ℕ × Known). r.0) (rows_of_slots slots len)) (i, within, key_in_order i key lt ∙ same) in
          cc) in
          let never : IsSome {T = Known} None = subst (λ (o : Option Known). IsSome o) none some in cc

  pub rows_are_table : AreDifferent slots len → (room : ℕ) → IsTable (record { keys = map (λ (r : ℕ × Known). r.0) (rows_of_slots slots len); known = from_entries (rows_of_slots slots len); room = room })
  rows_are_table different room = record {
    each = λ key. (contains_some different key, some_contains key);
    once = IsDistinct-from_apart nat_eq (map (λ (r : ℕ × Known). r.0) (rows_of_slots slots len)) (λ i j d lt below.
        let j_lt : j < len = let e = length_of_keys in omega arith in
        let i_lt : i < len = omega arith in
        (λ q. nat_eq (key_in_order i d i_lt q) (key_in_order j d j_lt q)) ∙ ne_eqb (key_at slots i) (key_at slots j) (λ same. let e : i ≡ j = different i j i_lt j_lt same in absurd (omega arith)));
  }

  -- the place of a key
  pub key_listed : (i key : ℕ) → i < len → key_at slots i ≡ key → slice_get (map (λ (r : ℕ × Known). r.0) (rows_of_slots slots len)) i ≡ Some key
  key_listed i key lt is =
      let e = length_of_keys in
      slice_get-get_or (map (λ (r : ℕ × Known). r.0) (rows_of_slots slots len)) i 0 (omega arith) ∙ ap (λ (k : ℕ). Some k) (key_in_order i 0 lt ∙ is)

  -- the place of a key that comes next
  pub next_listed : (key : ℕ) → slice_get (map (λ (r : ℕ × Known). r.0) (rows_of_slots slots len) ++ key ∷ []) len ≡ Some key
  next_listed key =
      let keys = map (λ (r : ℕ × Known). r.0) (rows_of_slots slots len) in
      let e = length_of_keys in
      let size : length (keys ++ key ∷ []) ≡ length keys + 1 = length_push keys key in
      slice_get-get_or (keys ++ key ∷ []) len 0 (omega arith) ∙ ap (λ (k : ℕ). Some k) (get_or_push keys key 0 len e)

  -- the table with one slot changed that keeps its key
  pub changed : AreDifferent slots len → (i room : ℕ) (slot : Slot) → i < len → key_in slot ≡ key_at slots i
      → (let t : ClosedModel = record { keys = map (λ (r : ℕ × Known). r.0) (rows_of_slots (set slots i slot) len); known = from_entries (rows_of_slots (set slots i slot) len); room = room } in t)
      ≡ (let t : ClosedModel = record { keys = map (λ (r : ℕ × Known). r.0) (rows_of_slots slots len); known = insert (from_entries (rows_of_slots slots len)) (key_in slot) (row_of_slot slot).1; room = room } in t)
  changed different i room slot lt same =
      let keys_same : map (λ (r : ℕ × Known). r.0) (rows_of_slots (set slots i slot) len) ≡ map (λ (r : ℕ × Known). r.0) (rows_of_slots slots len) =
      ap (λ rows. map (λ (r : ℕ × Known). r.0) rows) (rows_after_set different i slot lt same) ∙ map-set_same (λ (r : ℕ × Known). r.0) (rows_of_slots slots len) i (row_of_slot slot) (row_of_slot no_slot) (same ∙ ap (λ (r : ℕ × Known). r.0) (sym (row_at slots len i le lt))) in
      λ q. record { keys = keys_same q; known = known_after_set different i slot lt same q; room = room }

-- the table with one row more
pub pushed : (rows more : List (ℕ × Known)) (key room : ℕ) (k : Known) → more ≡ rows ++ (key, k) ∷ [] → find nat_cmp key rows ≡ None
    → (let t : ClosedModel = record { keys = map (λ (r : ℕ × Known). r.0) more; known = from_entries more; room = room } in t)
    ≡ (let t : ClosedModel = record { keys = map (λ (r : ℕ × Known). r.0) rows ++ key ∷ []; known = insert (from_entries rows) key k; room = room } in t)
pushed rows more key room k is none =
    let keys_more : map (λ (r : ℕ × Known). r.0) more ≡ map (λ (r : ℕ × Known). r.0) rows ++ key ∷ [] = ap (λ (es : List (ℕ × Known)). map (λ (r : ℕ × Known). r.0) es) is ∙ map_push (λ (r : ℕ × Known). r.0) rows (key, k) in
    let known_more : from_entries {R = nat_cmp} more ≡ insert (from_entries rows) key k = ap (λ (es : List (ℕ × Known)). from_entries {R = nat_cmp} es) is ∙ from_entries_push nat_cmp_total nat_cmp-IsAntisymmetric rows key k none in
    λ q. record { keys = keys_more q; known = known_more q; room = room }

pub kept_is : (k : Known) (cost : ℕ) → k.cost ≤ cost → relaxation_answer (Some k) cost ≡ Kept
kept_is k cost le = ap (λ b. if b then Lower else Kept) (le-ltb cost k.cost le)

pub lower_is : (k : Known) (cost : ℕ) → cost < k.cost → relaxation_answer (Some k) cost ≡ Lower
lower_is k cost lt = ap (λ b. if b then Lower else Kept) (lt-ltb cost k.cost lt)

-- what is taken of a board that was met
abbrev pub met_at : ℕ → Move → Known
met_at cost via = record { cost = cost; expanded = false; via = via }

-- the table after each of the three answers
module _ (t : ClosedModel) (key cost : ℕ) (via : Move) where
  pub table_new : get t.known key ≡ None → table_relaxation t key cost via ≡ (let after : ClosedModel = record { keys = t.keys ++ key ∷ []; known = insert t.known key (met_at cost via); room = t.room - 1 } in after)
  table_new is = λ q. record {
    keys = arrivals (is q) t.keys key;
    known = if is_news (is q) cost then insert t.known key (met_at cost via) else t.known;
    room = room_after (is q) t.room;
  }

  in_place : (k : Known) → get t.known key ≡ Some k → table_relaxation t key cost via ≡ (let after : ClosedModel = record t { known = if nat_lt cost k.cost then insert t.known key (met_at cost via) else t.known } in after)
  in_place k is = λ q. record {
    keys = arrivals (is q) t.keys key;
    known = if is_news (is q) cost then insert t.known key (met_at cost via) else t.known;
    room = room_after (is q) t.room;
  }

  pub table_lower : (k : Known) → get t.known key ≡ Some k → cost < k.cost → table_relaxation t key cost via ≡ (let after : ClosedModel = record t { known = insert t.known key (met_at cost via) } in after)
  table_lower k is lt = in_place k is ∙ (λ q. record t { known = if (lt-ltb cost k.cost lt) q then insert t.known key (met_at cost via) else t.known })

  pub table_kept : (k : Known) → get t.known key ≡ Some k → k.cost ≤ cost → table_relaxation t key cost via ≡ t
  table_kept k is le = in_place k is ∙ (λ q. record t { known = if (le-ltb cost k.cost le) q then insert t.known key (met_at cost via) else t.known })

-- the parts of the table of these slots
abbrev pub keys_with : List Slot → ℕ → List ℕ
keys_with slots len = map (λ (r : ℕ × Known). r.0) (rows_of_slots slots len)

abbrev pub known_with : List Slot → ℕ → FinMap nat_cmp Known
known_with slots len = from_entries {R = nat_cmp} (rows_of_slots slots len)

abbrev pub table_with : List Slot → ℕ → ℕ → ClosedModel
table_with slots len room = record { keys = keys_with slots len; known = known_with slots len; room = room }
