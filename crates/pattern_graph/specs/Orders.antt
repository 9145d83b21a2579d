-- Orders: how tiles lie on a set of cells, whatever the cells are.
use Rattle.std.specs.Prelude.{ℕ, zero, suc, ◌+◌, ◌-◌, ◌*◌, ◌/◌, ◌%◌, ◌==◌, ◌≡◌, ◌<◌, ◌≤◌, List, [], ◌∷◌, ◌++◌, length, map, count_by, nat_lt, if◌then◌else◌, All}
use Rattle.std.specs.List.{position_or_len}
use Rattle.pattern_index.specs.Laws.{factorial}
use Rattle.pattern_index.specs.Ranks.{spread}

-- how many of the cells are below one
abbrev pub below : ℕ → List ℕ → ℕ
below cell cells = count_by (λ other. nat_lt other cell) cells

-- The order of what is left of a list, where tiles are on those of `seen`. Each cell counts as the number of smaller ones before it, times
-- the number of orders of all those before it.
unfoldable pub order_after : List ℕ → List ℕ → ℕ
order_after seen [] = 0
order_after seen (x ∷ xs) = below x seen * factorial (length seen) + order_after (x ∷ seen) xs

-- the order of the cells that tiles are on
unfoldable pub order_of : List ℕ → ℕ
order_of cells = order_after [] cells

-- for each tile, the number of tiles on smaller cells, by their order
unfoldable pub positions_at : ℕ → ℕ → List ℕ
positions_at zero order = []
positions_at (suc count) order = map (spread (order / factorial count)) (positions_at count (order % factorial count)) ++ (order / factorial count) ∷ []

-- the tile at a position
abbrev pub tile_of : ℕ → ℕ → ℕ → ℕ
tile_of count order position = position_or_len (λ other. other == position) (positions_at count order)

-- the position of a tile after two at neighbouring positions are exchanged
abbrev pub exchanged_position : ℕ → ℕ → ℕ
exchanged_position position other = if other == position then position + 1 else (if other == position + 1 then position else other)

-- the position of a tile after the tile at a position has left it
abbrev pub closed_up : ℕ → ℕ → ℕ
closed_up from position = if nat_lt from position then position - 1 else position

-- the position of a tile after the tile at a position has come to another
abbrev pub moved_position : ℕ → ℕ → ℕ → ℕ
moved_position from to position = if position == from then to else spread to (closed_up from position)

-- the order after the tile at a position has come to another
abbrev pub moved_order : ℕ → ℕ → ℕ → ℕ → ℕ
moved_order count order from to = order_of (map (moved_position from to) (positions_at count order))

-- an order of `count` tiles, and two positions
pub record IsChange (count order from to : ℕ) : Type 0 where
  pub order_low : order < factorial count
  pub from_low : from < count
  pub to_low : to < count

-- the order after the tile at the first position has come to the second
pub record IsChanged (count order from to changed : ℕ) : Type 0 where
  pub value : changed ≡ moved_order count order from to
  pub below : changed < factorial count

-- at least one tile, and at most nine
pub record IsTileCount (count : ℕ) : Type 0 where
  pub some : 0 < count
  pub short : count ≤ 9

-- an order of at most nine tiles
pub record IsOrderOf (count order : ℕ) : Type 0 where
  pub few : count ≤ 9
  pub below : order < factorial count

-- ---- elements of a list that are picked by their indices

-- each index is below a limit, and there is one place for each
pub record AreIndices (limit : ℕ) (indices places : List ℕ) : Type 0 where
  pub same : length places ≡ length indices
  pub within : All (λ index. index < limit) indices
