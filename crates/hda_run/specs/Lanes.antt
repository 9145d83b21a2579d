-- The cost plus sum of items in lanes.
use Rattle.std.specs.Prelude.{ℕ, ◌≡◌, List, Some, slice_get}
use Rattle.board.specs.Boards.{BoardModel}
use Rattle.world_model.specs.Workers.{Lane}
use Rattle.world_ends.specs.Lowest.{IsOfItem}

-- a number of one of these
abbrev pub IsOfOne : {A : Type 0} → (A → ℕ → Type 0) → List A → ℕ → Type 0
IsOfOne {A} IsOf xs f = (i : ℕ) × (x : A) × (slice_get xs i ≡ Some x) × IsOf x f

-- the cost plus sum of an item in the lane
abbrev pub IsInLane : (BoardModel → ℕ) → Lane → ℕ → Type 0
IsInLane sum lane f = IsOfOne (IsOfItem sum) lane f

-- the cost plus sum of an item in one of these lanes
abbrev pub IsInLanes : (BoardModel → ℕ) → List Lane → ℕ → Type 0
IsInLanes sum lanes f = IsOfOne (IsInLane sum) lanes f
