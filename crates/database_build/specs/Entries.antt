-- What a table keeps of the views of its group: their values by rank, or by slot; and a folded table: by place, or by sparse place.
use Rattle.std.specs.Prelude.{ℕ, suc, ◌≡◌, ◌⊎◌, ◌<◌, ◌==◌, All, List, length, map, slice_index, if◌then◌else◌, ◌*◌, ◌≤◌, min, Some, slice_get}
use Rattle.std.specs.List.{range_with_len}
use Rattle.board.specs.Shapes.{cell_count}
use Rattle.pattern_index.specs.Ranks.{list_at}
use Rattle.pattern_index.specs.Groups.{GroupModel, size_of, folded_size_of}
use Rattle.pattern_index.specs.Sparse.{digit_base, slot_count_of, sparse_of, sparse_size_of, stride_of}
use Rattle.pattern_graph.specs.Placements.{HasNoView}
use Rattle.database_build.specs.declared.entries.Entries.{Entries}
use Rattle.database_build.specs.declared.entries.Entries.TheVariants.{Ranked, Bytes, Words}
use Rattle.pattern_search.specs.declared.finding.TheConstants.{NO_VALUE}
use Rattle.database_build.specs.declared.folding.TheConstants.{MOST_PLACES, PLACES_A_VALUE}

-- the value that a byte encodes: 255 encodes `NO_VALUE`
abbrev pub widened : ℕ → ℕ
widened byte = if byte == 255 then NO_VALUE else byte

-- the slot of the view with a rank
abbrev pub slot_of_rank : GroupModel → ℕ → ℕ
slot_of_rank g rank = sparse_of (digit_base g.grid) (list_at (cell_count g.grid) (suc (length g.tiles)) rank)

-- the entries at the slots of all views, by rank
unfoldable pub by_rank : GroupModel → (ℕ → ℕ) → List ℕ
by_rank g at_slot = map (λ rank. at_slot (slot_of_rank g rank)) (range_with_len 0 (size_of g))

-- the values of all views, by rank
abbrev pub values_in : GroupModel → Entries → List ℕ
values_in g (Ranked values) = values.items
values_in g (Bytes bytes) = by_rank g (λ slot. widened (slice_index bytes.items slot))
values_in g (Words words) = by_rank g (slice_index words.items)

-- there is an entry for each view
abbrev pub HasEntries : GroupModel → Entries → Type 0
HasEntries g (Ranked values) = length values.items ≡ size_of g
HasEntries g (Bytes bytes) = length bytes.items ≡ slot_count_of g
HasEntries g (Words words) = length words.items ≡ slot_count_of g

-- each value is below 255, or is `NO_VALUE`
abbrev pub AreSmall : List ℕ → Type 0
AreSmall values = All (λ value. (value < 255) ⊎ (value ≡ NO_VALUE)) values

-- both are by rank, both bytes, or both words
abbrev pub HaveOneForm : Entries → Entries → Type 0
HaveOneForm (Ranked one) (Ranked other) = Unit {0}
HaveOneForm (Ranked one) (Bytes other) = ⊥
HaveOneForm (Ranked one) (Words other) = ⊥
HaveOneForm (Bytes one) (Ranked other) = ⊥
HaveOneForm (Bytes one) (Bytes other) = Unit {0}
HaveOneForm (Bytes one) (Words other) = ⊥
HaveOneForm (Words one) (Ranked other) = ⊥
HaveOneForm (Words one) (Bytes other) = ⊥
HaveOneForm (Words one) (Words other) = Unit {0}

-- values are kept by rank only where there are too many places, and as words only where some value needs one
abbrev pub IsKeptBest : (fits : Type 0) → List ℕ → Entries → Type 0
IsKeptBest fits values (Ranked kept) = ¬ fits
IsKeptBest fits values (Bytes kept) = fits × AreSmall values
IsKeptBest fits values (Words kept) = fits × (¬ AreSmall values)

-- ---- folded tables

-- the sparse place of the views whose tiles have a place
abbrev pub sparse_of_place : GroupModel → ℕ → ℕ
sparse_of_place g place = sparse_of (cell_count g.grid) (list_at (cell_count g.grid) (length g.tiles) place)

-- the entries at the sparse places of all views, by place
unfoldable pub by_place : GroupModel → (ℕ → ℕ) → List ℕ
by_place g at_sparse = map (λ place. at_sparse (sparse_of_place g place)) (range_with_len 0 (folded_size_of g))

-- the folded values, by place
abbrev pub least_in : GroupModel → Entries → List ℕ
least_in g (Ranked least) = least.items
least_in g (Bytes bytes) = by_place g (λ sparse. widened (slice_index bytes.items sparse))
least_in g (Words words) = by_place g (slice_index words.items)

-- the most sparse places that are kept of a group: the smaller of `MOST_PLACES` and `PLACES_A_VALUE` for each value
abbrev pub most_places : GroupModel → ℕ
most_places g = min MOST_PLACES (PLACES_A_VALUE * folded_size_of g)

-- they are not too many to be kept
abbrev pub HasFewPlaces : GroupModel → Type 0
HasFewPlaces g = sparse_size_of g ≤ most_places g

-- there is an entry for each sparse place, and it is `none` for those that no view has
pub record ArePlaces (g : GroupModel) (none : ℕ) (entries : List ℕ) : Type 0 where
  pub few : sparse_size_of g ≤ most_places g
  pub size : length entries ≡ sparse_size_of g
  pub others : (sparse entry : ℕ) → HasNoView g sparse → slice_get entries sparse ≡ Some entry → entry ≡ none

-- Entries are by sparse place where these are not too many, else by place. Those by sparse place are words only where some value needs one.
abbrev pub HasLeast : GroupModel → Entries → Type 0
HasLeast g (Ranked least) = (most_places g < sparse_size_of g) × (length least.items ≡ folded_size_of g)
HasLeast g (Bytes bytes) = ArePlaces g 255 bytes.items
HasLeast g (Words words) = ArePlaces g NO_VALUE words.items × (¬ AreSmall words.items)

-- the stride of each number that may be a tile
abbrev pub AreStridesOf : GroupModel → List ℕ → Type 0
AreStridesOf g strides = (number : ℕ) → number < 25 → slice_index strides number ≡ stride_of (cell_count g.grid) g.tiles number
