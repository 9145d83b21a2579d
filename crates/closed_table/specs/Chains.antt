-- Slots in chains by the hashes of their keys.
--
-- 127 chains with the first slot; from 508 slots on one more with each fourth slot, which takes its slots from one other
-- chain. The bucket of a chain has the places and the hashes of its first seven slots, and the others hang in a list.
-- What a bucket and a link have to be is a function of the keys alone.
use Rattle.std.specs.Prelude.{ℕ, ◌≡◌, ◌≢◌, ◌<◌, ◌≤◌, ◌+◌, ◌-◌, ◌*◌, ◌/◌, ◌%◌, ◌^◌, ◌==◌, ◌⊎◌, nat_lt, cond, if◌then◌else◌, max, not, zero, suc, Bool, List, length, map, take, set, replicate, slice_index_or, slice_index, bit_or, false}
use Rattle.board.specs.declared.moves.Move.{Move}
use Rattle.board.specs.declared.moves.Move.TheVariants.{U}
use Rattle.world_model.specs.declared.parts.Known.{Known}
use Rattle.closed_table.specs.declared.index.Slot.{Slot}
use Rattle.closed_table.specs.declared.index.Bucket.{Bucket}
use Rattle.closed_table.specs.declared.index.Index.{Index}

-- the hash of a key
unfoldable pub key_hash : ℕ → ℕ
key_hash key = key * 0x9E3779B97F4A7C15F39CC0605CEDC835 % 2 ^ 128 / 2 ^ 96

-- the number of chains for `len` slots
abbrev pub chain_count : ℕ → ℕ
chain_count len = if len == 0 then 0 else max 127 ((len + 3) / 4)

-- the chain of a hash among n chains, where n is at most 2 ^ bits and at least half of that: the last bits of the hash, or one bit less
-- where there is no such chain yet
unfoldable pub place : ℕ → ℕ → ℕ → ℕ
place bits n hash = cond (nat_lt (hash % 2 ^ bits) n) (hash % 2 ^ bits) (hash % 2 ^ bits - 2 ^ bits / 2)

-- n chains are at least half of those that this many bits of a hash can tell
pub record AreBitsFor (bits n : ℕ) : Type 0 where
  pub small : bits ≤ 32
  pub low : 2 ^ bits / 2 ≤ n

-- the bucket of a chain with no slot
abbrev pub no_bucket : Bucket
no_bucket = record { hashes = replicate 7 0; link = 0; filter = 0; count = 0; places = replicate 7 0 }

-- the bucket of a chain after a slot was put behind the others: it is one of the first seven, or the first of the list,
-- with a bit for its hash
abbrev pub bucket_with : Bucket → ℕ → ℕ → Bucket
bucket_with bucket place hash = cond (nat_lt bucket.count 7)
    (record bucket { hashes = set bucket.hashes bucket.count hash; places = set bucket.places bucket.count place; count = bucket.count + 1 })
    (record bucket { link = place + 1; filter = bit_or bucket.filter (1 * 2 ^ (hash / 2 ^ 28) % 2 ^ 16) })

-- the bucket of a chain, with those of the first i slots that belong to it
unfoldable pub bucket_of : (ℕ → ℕ) → (ℕ → ℕ) → ℕ → ℕ → Bucket
bucket_of chains hashes chain zero = no_bucket
bucket_of chains hashes chain (suc i) = cond (chains i == chain) (bucket_with (bucket_of chains hashes chain i) i (hashes i)) (bucket_of chains hashes chain i)

abbrev pub no_slot : Slot
no_slot = record { high = 0; low = 0; cost = 0; via = U; expanded = false }

-- the key of a slot, which has it in two halves
abbrev pub key_in : Slot → ℕ
key_in slot = slot.high * 2 ^ 64 + slot.low

abbrev pub slot_at : List Slot → ℕ → Slot
slot_at slots i = slice_index_or slots i no_slot

abbrev pub key_at : List Slot → ℕ → ℕ
key_at slots i = key_in (slot_at slots i)

abbrev pub hash_at : List Slot → ℕ → ℕ
hash_at slots i = key_hash (key_at slots i)

abbrev pub chain_at : List Slot → ℕ → ℕ → ℕ → ℕ
chain_at slots bits n i = place bits n (hash_at slots i)

-- the bucket of a chain, among n, with those of the first i slots that belong to it
abbrev pub bucket_at : List Slot → ℕ → ℕ → ℕ → ℕ → Bucket
bucket_at slots bits n chain i = bucket_of (chain_at slots bits n) (hash_at slots) chain i

-- the first `len` slots are in n chains, and the links of those that are in no bucket are right
pub record IsIndexed (slots : List Slot) (links : List ℕ) (buckets : List Bucket) (len n bits : ℕ) : Type 0 where
  pub small : bits ≤ 32
  pub low : 2 ^ bits / 2 ≤ n
  pub high : n ≤ 2 ^ bits
  pub few : len < 2 ^ 32
  pub in_slots : len ≤ length slots
  pub in_links : len ≤ length links
  pub in_buckets : n ≤ length buckets
  pub starts : (chain : ℕ) → chain < n → slice_index_or buckets chain no_bucket ≡ bucket_at slots bits n chain len
  pub nexts : (i : ℕ) → i < len → (bucket_at slots bits n (chain_at slots bits n i) i).count ≡ 7 → slice_index links i ≡ (bucket_at slots bits n (chain_at slots bits n i) i).link
  pub different : (i j : ℕ) → i < len → j < len → key_at slots i ≡ key_at slots j → i ≡ j

-- the slots of an index are in n chains
abbrev pub HasChains : Index → ℕ → Type 0
HasChains index n = IsIndexed index.slots index.links index.buckets index.len n index.bits

-- the slots are in as many chains as there are for their number
abbrev pub IsIndexInOrder : Index → Type 0
IsIndexInOrder index = HasChains index (chain_count index.len)

-- an index has n chains and this count of slots after a step, and as many places as before it
pub record IsIndexGrown (was index : Index) (n count : ℕ) : Type 0 where
  pub indexed : HasChains index n
  pub len : index.len ≡ count
  pub slots : length index.slots ≡ length was.slots
  pub links : length index.links ≡ length was.links
  pub buckets : length index.buckets ≡ length was.buckets

-- a bucket has at most seven places itself, and each is below n
pub record HasPlacesBelow (bucket : Bucket) (n : ℕ) : Type 0 where
  pub count : bucket.count ≤ 7
  pub places : (k : ℕ) → k < bucket.count → slice_index bucket.places k < n

-- an entry of a bucket holds nothing
abbrev pub IsClearAt : Bucket → ℕ → Type 0
IsClearAt bucket k = (slice_index bucket.hashes k ≡ 0) × (slice_index bucket.places k ≡ 0)

-- no slot has this key
abbrev pub HasNoKey : Index → ℕ → Type 0
HasNoKey index key = (i : ℕ) → i < index.len → key_at index.slots i ≢ key

-- each bucket of the first 127 chains is that of a chain with no slot; that of a later chain is written when the chain is added
abbrev pub AreClear : List Bucket → Type 0
AreClear buckets = (chain : ℕ) → chain < 127 → slice_index_or buckets chain no_bucket ≡ no_bucket

-- the index is in order, and has buckets for the chains that it has with one slot more; the first ones are clear before the first slot
pub record HasNextChains (index : Index) : Type 0 where
  pub indexed : IsIndexInOrder index
  pub room : chain_count (index.len + 1) ≤ length index.buckets
  pub clear : index.len ≡ 0 → AreClear index.buckets

-- a place is below n, and a link can lead to it
pub record IsPlace (place n : ℕ) : Type 0 where
  pub within : place < n
  pub small : place < 2 ^ 32 - 1

-- what a slot says of its key
abbrev pub row_of_slot : Slot → ℕ × Known
row_of_slot slot = (key_in slot, record { cost = slot.cost; expanded = slot.expanded; via = slot.via })

-- what is said of a board that is met the first time
abbrev pub new_row : ℕ → ℕ → Move → ℕ × Known
new_row key cost via = (key, record { cost = cost; expanded = false; via = via })

abbrev pub rows_of_slots : List Slot → ℕ → List (ℕ × Known)
rows_of_slots slots len = map row_of_slot (take len slots)

-- whether a hash stays in its chain when one is added to n, or goes to the one that is added
abbrev pub stays : ℕ → ℕ → ℕ → ℕ → Bool
stays bits n from hash = place bits (n + 1) hash == from

abbrev pub moves_on : ℕ → ℕ → ℕ → ℕ → Bool
moves_on bits n from hash = not (place bits (n + 1) hash == from)

-- the bucket of those of the first k slots in a bucket whose hash passes a test
unfoldable pub bucket_part : (ℕ → Bool) → Bucket → ℕ → Bucket
bucket_part test bucket zero = no_bucket
bucket_part test bucket (suc k) = cond (test (slice_index bucket.hashes k)) (bucket_with (bucket_part test bucket k) (slice_index bucket.places k) (slice_index bucket.hashes k)) (bucket_part test bucket k)

-- two buckets are the halves of the slots of a chain before each place where its bucket is as full as in the end, and
-- its list begins with this link
abbrev pub AreHalves : List Slot → ℕ → ℕ → ℕ → ℕ → ℕ → Bucket → Bucket → Type 0
AreHalves slots len bits n from link stay go = (m : ℕ) → m ≤ len → (bucket_at slots bits n from m).count ≡ (bucket_at slots bits n from len).count → (bucket_at slots bits n from m).link ≡ link → (stay ≡ bucket_at slots bits (n + 1) from m) × (go ≡ bucket_at slots bits (n + 1) n m)

-- the list of a chain can be divided from this link on; `stay` and `go` are the halves of the slots before the list
pub record MayBeRelinked (slots : List Slot) (links : List ℕ) (len bits n from link : ℕ) (stay go : Bucket) : Type 0 where
  pub small : bits ≤ 32
  pub low : 2 ^ bits / 2 ≤ n
  pub few : n ≤ len
  pub halved : from ≡ n - 2 ^ bits / 2
  pub some : from < n
  pub within : link ≤ len
  pub short : len < 2 ^ 32
  pub in_slots : len ≤ length slots
  pub in_links : len ≤ length links
  pub nexts : (i : ℕ) → i < len → chain_at slots bits n i ≡ from → (bucket_at slots bits n from i).count ≡ 7 → slice_index links i ≡ (bucket_at slots bits n from i).link
  pub newest : link ≡ (bucket_at slots bits n from link).link
  pub halves : AreHalves slots len bits n from 0 stay go

-- it was divided: buckets and links are those of one chain more
pub record IsRelinked (slots : List Slot) (links after : List ℕ) (len bits n from link : ℕ) (stay go : Bucket) : Type 0 where
  pub same : length after ≡ length links
  pub halves : AreHalves slots len bits n from link stay go
  pub nexts : (i : ℕ) → i < link → chain_at slots bits n i ≡ from → (bucket_at slots bits n from i).count ≡ 7 → slice_index after i ≡ (bucket_at slots bits (n + 1) (chain_at slots bits (n + 1) i) i).link
  pub others : (i : ℕ) → (link ≤ i) ⊎ (chain_at slots bits n i ≢ from) → slice_index after i ≡ slice_index links i
