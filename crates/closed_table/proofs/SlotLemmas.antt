-- A slot of a table as it was read, and the table after a change there.
use Rattle.std.proofs.Common.{◌≡◌, ◌≢◌, ℕ, ◌<◌, ◌∙◌, List, None, Some, length, sym, ap, subst, arith, get_or, length-set}
use Rattle.std.specs.Prelude.{set, slice_get, slice_index}
use Rattle.std.specs.FinMap as map
use Rattle.world_model.specs.declared.parts.Known.{Known}
use Rattle.closed_table.specs.declared.index.Slot.{Slot}
use Rattle.closed_table.specs.declared.table.Closed.TheInside.{Inside}
use Rattle.closed_table.specs.Tables.{ClosedModel}
use Rattle.closed_table.specs.Chains.{key_in, key_at, slot_at, no_slot, row_of_slot, chain_count, IsIndexed}
use Rattle.closed_table.specs.Storage.{table_of, IsSoundTable}
use Rattle.closed_table.proofs.FindLemmas.{read_at}
use Rattle.closed_table.proofs.IndexLemmas.{set_indexed}
use Rattle.closed_table.proofs.TableLemmas.{known_at, unknown_at, key_in_order, key_listed, length_of_keys, changed, keys_with, known_with, table_with}

-- the table with other slots
abbrev pub with_slots : Inside → List Slot → Inside
with_slots s slots = record s { index = record s.index { slots = slots } }

pub slot_there : (s : Inside) → IsSoundTable s → (place : ℕ) → place < s.index.len → (read : Slot) → read ≡ get_or s.index.slots place read → read ≡ slot_at s.index.slots place
slot_there s sound place lt read is = read_at s.index.slots place read no_slot (let le = sound.indexed.in_slots in omega arith) is

module _ (s : Inside) (sound : IsSoundTable s) (t : ClosedModel) (view : table_of s ≡ t) where
  -- a place in order of arrival is that of a slot
  pub place_lt : (place : ℕ) → place < length t.keys → place < s.index.len
  place_lt place lt =
      let size : length t.keys ≡ s.index.len = ap (λ (u : ClosedModel). length u.keys) (sym view) ∙ length_of_keys s.index.slots s.index.len sound.indexed.in_slots in
      omega arith

  pub key_there : (place : ℕ) → place < s.index.len → key_at s.index.slots place ≡ slice_index t.keys place
  key_there place lt = sym (key_in_order s.index.slots s.index.len sound.indexed.in_slots place 0 lt) ∙ ap (λ (u : ClosedModel). get_or u.keys place 0) view

  module _ (key : ℕ) (absent : (i : ℕ) → i < s.index.len → key_at s.index.slots i ≢ key) where
    pub none_known : map.get t.known key ≡ None
    none_known = ap (λ (u : ClosedModel). map.get u.known key) (sym view) ∙ unknown_at s.index.slots s.index.len sound.indexed.in_slots key absent

    pub has_room : (map.get t.known key ≡ None → 0 < t.room) → 0 < s.room
    has_room room = subst (λ (n : ℕ). 0 < n) (ap (λ (u : ClosedModel). u.room) (sym view)) (room none_known)

  module _ (key place : ℕ) (lt : place < s.index.len) (there : key_at s.index.slots place ≡ key) where
    pub listed_there : slice_get t.keys place ≡ Some key
    listed_there = ap (λ (u : ClosedModel). slice_get u.keys place) (sym view) ∙ key_listed s.index.slots s.index.len sound.indexed.in_slots place key lt there

    module _ (read : Slot) (is : read ≡ get_or s.index.slots place read) where
      slot_is : read ≡ slot_at s.index.slots place
      slot_is = slot_there s sound place lt read is

      pub known_there : map.get t.known key ≡ Some (row_of_slot read).1
      known_there = ap (λ (u : ClosedModel). map.get u.known key) (sym view) ∙ known_at s.index.slots s.index.len sound.indexed.in_slots sound.indexed.different place key lt there ∙ ap (λ (x : Slot). Some (row_of_slot x).1) (sym slot_is)

      -- the slot with something else known of its key
      module _ (k : Known) (after : List Slot) (put : after ≡ set s.index.slots place (record read { cost = k.cost; expanded = k.expanded; via = k.via })) where
        abbrev changed_slot : Slot
        changed_slot = record read { cost = k.cost; expanded = k.expanded; via = k.via }

        pub sound_there : IsSoundTable (with_slots s after)
        sound_there =
            let kept = set_indexed s.index.slots s.index.links s.index.buckets s.index.len (chain_count s.index.len) s.index.bits place changed_slot sound.indexed lt (ap key_in slot_is) in
            let size : length after ≡ length s.index.slots = ap length put ∙ length-set s.index.slots place changed_slot in
            record {
              indexed = subst (λ (xs : List Slot). IsIndexed xs s.index.links s.index.buckets s.index.len (chain_count s.index.len) s.index.bits) (sym put) kept;
              slots = let room = sound.slots in omega arith;
              links = sound.links;
              buckets = sound.buckets;
              few = sound.few;
              clear = sound.clear;
            }

        pub table_there : table_of (with_slots s after) ≡ record t { known = map.insert t.known key k }
        table_there =
            ap (λ xs. table_with xs s.index.len s.room) put
            ∙ changed s.index.slots s.index.len sound.indexed.in_slots sound.indexed.different place s.room changed_slot lt (ap key_in slot_is)
            ∙ ap (λ (n : ℕ). record { keys = keys_with s.index.slots s.index.len; known = map.insert (known_with s.index.slots s.index.len) n k; room = s.room }) (ap key_in slot_is ∙ there)
            ∙ ap (λ (u : ClosedModel). record u { known = map.insert u.known key k }) view
