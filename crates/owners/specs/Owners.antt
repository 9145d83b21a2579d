-- The owner of a board: by the cell of its blank, or by its hash, of all tiles or of some. The hash is the exclusive or of one word for each
-- tile and its cell (Zobrist 1970).
use Rattle.std.specs.Prelude.{ℕ, zero, suc, ◌≡◌, ◌+◌, ◌-◌, ◌*◌, ◌%◌, ◌<◌, ◌==◌, if◌then◌else◌, List, [], ◌∷◌, length, slice_index, bit_xor}
use Rattle.std.proofs.Math.Nat.{mod-lt}
use Rattle.board.specs.Shapes.{cell_count}
use Rattle.board.specs.Boards.{BoardModel, blank_of}
use Rattle.rand_xoshiro.specs.SplitMix64.{mix_u64}

-- the state of SplitMix64 after this number of words, from eight zero bytes on
abbrev pub state_after : ℕ → ℕ
state_after zero = 0
state_after (suc k) = (mix_u64 (state_after k)).1

-- its word of this number, from 0 on
abbrev pub word : ℕ → ℕ
word k = (mix_u64 (state_after k)).0

-- these are its first words
abbrev pub AreWords : List ℕ → Type 0
AreWords words = (k : ℕ) → k < length words → slice_index words k ≡ word k

-- the word of a tile on a cell: tile by tile from 1 on, and for each tile cell by cell; the blank has none
abbrev pub word_on : ℕ → ℕ → ℕ → ℕ
word_on cells tile cell = if tile == 0 then 0 else word ((tile - 1) * cells + cell)

-- the exclusive or of the words of tiles, the first of them on this cell; `word_of` has the word of a tile on a cell
abbrev pub hash_by : (ℕ → ℕ → ℕ) → ℕ → List ℕ → ℕ
hash_by word_of cell [] = 0
hash_by word_of cell (tile ∷ tiles) = bit_xor (word_of tile cell) (hash_by word_of (cell + 1) tiles)

-- the hash of a board
abbrev pub hash_of : BoardModel → ℕ
hash_of b = hash_by (word_on (cell_count b.grid)) 0 b.tiles

-- the word of a tile where tiles 1, 5, 9, .. alone count, and the others have none (a case of abstract Zobrist hashing, Jinnai and Fukunaga 2017)
abbrev pub abstract_word_on : ℕ → ℕ → ℕ → ℕ
abstract_word_on cells tile cell = if tile % 4 == 1 then word_on cells tile cell else 0

-- the hash of a board by the tiles that count
abbrev pub abstract_hash_of : BoardModel → ℕ
abstract_hash_of b = hash_by (abstract_word_on (cell_count b.grid)) 0 b.tiles

-- by each spread, the owner of a board among n workers is one of them
abbrev pub AreWorkers : {S : Type 0} → (S → ℕ → BoardModel → ℕ) → Type 0
AreWorkers {S} owner_of = (spread : S) (n : ℕ) (b : BoardModel) → 0 < n → owner_of spread n b < n

-- the owner of a board among n workers, by the cell of its blank
abbrev pub owner_by_blank : ℕ → BoardModel → ℕ
owner_by_blank n b = blank_of b % n

-- and by its hash
abbrev pub owner_by_hash : ℕ → BoardModel → ℕ
owner_by_hash n b = hash_of b % n

-- and by the hash of the tiles that count
abbrev pub owner_by_abstract_hash : ℕ → BoardModel → ℕ
owner_by_abstract_hash n b = abstract_hash_of b % n

-- each is one of the workers
pub owner_by_blank-lt : (n : ℕ) (b : BoardModel) → 0 < n → owner_by_blank n b < n
owner_by_blank-lt n b some = mod-lt (blank_of b) some

pub owner_by_hash-lt : (n : ℕ) (b : BoardModel) → 0 < n → owner_by_hash n b < n
owner_by_hash-lt n b some = mod-lt (hash_of b) some

pub owner_by_abstract_hash-lt : (n : ℕ) (b : BoardModel) → 0 < n → owner_by_abstract_hash n b < n
owner_by_abstract_hash-lt n b some = mod-lt (abstract_hash_of b) some
