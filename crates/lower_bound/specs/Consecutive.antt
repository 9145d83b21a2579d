-- Groups of consecutive tiles, on boards of at most 16 cells: the slot of what such a group sees is made of digits of the board's search key.
use Rattle.std.specs.Prelude.{ℕ, ◌≡◌, ◌≤◌, List, length, slice_index, All, Contains}
use Rattle.std.specs.List.{range_with_len}
use Rattle.board.specs.Shapes.{cell_count}
use Rattle.board.specs.Boards.{BoardModel, IsBoard}
use Rattle.pattern_index.specs.Groups.{GroupModel}
use Rattle.pattern_index.specs.Partitions.{PartitionModel}
use Rattle.lower_bound.specs.Slides.{IsMoveOf}
use Rattle.lower_bound.specs.Tables.{AreWhole, BoundModel}

-- the tiles follow one another, from the first on
abbrev pub AreConsecutive : List ℕ → Type 0
AreConsecutive tiles = tiles ≡ range_with_len (slice_index tiles 0) (length tiles)

-- there are at most 16 cells, and the tiles of each group are consecutive
pub record HasConsecutiveGroups (split : PartitionModel) : Type 0 where
  pub few : cell_count split.grid ≤ 16
  pub groups : All (λ g. AreConsecutive g.tiles) split.groups

-- no table is folded, there are at most 16 cells, and the tiles of each table's group are consecutive
pub record HasConsecutiveTables (tables : BoundModel) : Type 0 where
  pub whole : AreWhole tables
  pub groups : HasConsecutiveGroups tables.split

-- the board is one of the group's grid, which has at most 16 cells, and the group's tiles are consecutive
pub record IsConsecutiveOn (g : GroupModel) (b : BoardModel) : Type 0 where
  pub board : IsBoard b
  pub few : cell_count b.grid ≤ 16
  pub sides : b.grid ≡ g.grid
  pub consecutive : AreConsecutive g.tiles

-- the group's tiles are consecutive on such a board, and there is a move of one of them from the board
pub record IsConsecutiveMove (g : GroupModel) (tile : ℕ) (b : BoardModel) : Type 0 where
  pub here : IsConsecutiveOn g b
  pub has : Contains g.tiles tile
  pub moved : (b' : BoardModel) × IsMoveOf tile b b'
