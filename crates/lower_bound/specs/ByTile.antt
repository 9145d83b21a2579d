-- The group that has a tile.
use Rattle.std.specs.Prelude.{ℕ, ◌<◌, ◌≤◌, List, length, All, Contains, slice_index, slice_index_or}
use Rattle.pattern_index.specs.Groups.{GroupModel}

-- the group at this place has the tile; where none has it, the place is behind the last group
pub record IsGroupWith (groups : List GroupModel) (tile place : ℕ) : Type 0 where
  pub some : place < length groups → (d : GroupModel) → Contains (slice_index_or groups place d).tiles tile
  pub none : length groups ≤ place → All (λ group. ¬ Contains group.tiles tile) groups
  pub few : place ≤ length groups

-- there is such a place for each number that may be a tile
abbrev pub AreGroupsByTile : List GroupModel → List ℕ → Type 0
AreGroupsByTile groups places = (tile : ℕ) → tile < 25 → IsGroupWith groups tile (slice_index places tile)
