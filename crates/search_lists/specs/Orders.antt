-- The order of a search: open boards wait at their cost plus sum.
use Rattle.std.specs.Prelude.{ℕ, ◌≡◌, ◌≢◌, ◌+◌, ◌^◌, ◌<◌, ◌≤◌, false, Option, Some, slice_get, Contains}
use Rattle.std.specs.FinMap as map
use Rattle.open_buckets.specs.declared.open.TheConstants.{GREATEST_F}
use Rattle.open_buckets.specs.OpenLists.{entries_at, IsNextEntry}
use Rattle.closed_table.specs.Tables.{ClosedModel}
use Rattle.world_model.specs.declared.parts.Known.{Known}
use Rattle.world_model.specs.Costs.{IsLeastWith}
use Rattle.search_lists.specs.Lists.{SearchListsModel}
use Rattle.search_lists.specs.declared.lists.Met.{Met}
use Rattle.search_lists.specs.declared.lists.Next.{Next}

-- What guides a search: the sum of each board, by its key, and the key of the goal, which is not expanded.
pub record Guide : Type 0 where
  pub sum : ℕ → ℕ
  pub goal : ℕ

-- the board with this key is open: known so, not expanded, and not the goal
pub record IsOpenKey (guide : Guide) (closed : ClosedModel) (key : ℕ) (known : Known) : Type 0 where
  pub knows : map.get closed.known key ≡ Some known
  pub unexpanded : known.expanded ≡ false
  pub no_goal : key ≢ guide.goal

-- Each open board waits at its cost plus sum. What waits is a known board other than the goal, at some cost and at that plus its sum:
-- where that is its cost no longer, or it was expanded, the entry is out of date.
pub record IsInOrder (guide : Guide) (lists : SearchListsModel) : Type 0 where
  pub waits : (key : ℕ) (known : Known) → IsOpenKey guide lists.closed key known → (place : ℕ) × (slice_get lists.closed.keys place ≡ Some key) × Contains (entries_at lists.waiting (known.cost + guide.sum key)) (place, known.cost)
  pub adds : (f place cost : ℕ) → Contains (entries_at lists.waiting f) (place, cost) → (key : ℕ) × (slice_get lists.closed.keys place ≡ Some key) × (key ≢ guide.goal) × (f ≡ cost + guide.sum key) × (f ≤ GREATEST_F)

-- each open board has a cost plus sum of at least n
abbrev pub NoneBelow : Guide → ClosedModel → ℕ → Type 0
NoneBelow guide closed n = (key : ℕ) (known : Known) → IsOpenKey guide closed key known → n ≤ known.cost + guide.sum key

-- the least cost plus sum of an open board
abbrev pub IsFloorOfLists : Guide → ClosedModel → Option ℕ → Type 0
IsFloorOfLists guide closed floor = IsLeastWith (λ f. (key : ℕ) × (known : Known) × IsOpenKey guide closed key known × (known.cost + guide.sum key ≡ f)) floor

-- the board is at this place, is not expanded, is known at this cost by this last move, and is what waits next
pub record IsFirst (lists : SearchListsModel) (next : Next) : Type 0 where
  pub place : slice_get lists.closed.keys next.place ≡ Some next.key
  pub known : (known : Known) × (map.get lists.closed.known next.key ≡ Some known) × (known.expanded ≡ false) × (known.cost ≡ next.cost) × (known.via ≡ next.via)
  pub waits : IsNextEntry next.f (next.place, next.cost) lists.waiting
  pub within : next.f + 1 < 2 ^ 32

-- the board is at this place, was put at this f with this cost, and is known by this last move: it may be closed, or have another cost now
pub record IsWaiting (lists : SearchListsModel) (next : Next) : Type 0 where
  pub place : slice_get lists.closed.keys next.place ≡ Some next.key
  pub known : (known : Known) × (map.get lists.closed.known next.key ≡ Some known) × (known.via ≡ next.via)
  pub waits : Contains (entries_at lists.waiting next.f) (next.place, next.cost)

-- the board is open at this cost by this last move, and one of least cost plus sum
pub record IsLeastOpen (guide : Guide) (closed : ClosedModel) (next : Next) : Type 0 where
  pub opens : (known : Known) × IsOpenKey guide closed next.key known × (known.cost ≡ next.cost) × (known.via ≡ next.via)
  pub adds : next.f ≡ next.cost + guide.sum next.key
  pub least : NoneBelow guide closed next.f

-- the board was met at its cost plus sum
pub record AddsUp (guide : Guide) (met : Met) : Type 0 where
  pub adds : met.f ≡ met.cost + guide.sum met.key
  pub within : met.f ≤ GREATEST_F
