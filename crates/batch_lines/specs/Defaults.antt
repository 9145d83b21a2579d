-- The groups where none are named.
use Rattle.std.specs.Prelude.{ℕ, ◌+◌, ◌-◌, ◌*◌, List, min, map, nat_le, if◌then◌else◌}
use Rattle.std.specs.List.{range_with_len}
use Rattle.std.specs.Int.{div_ceil}
use Rattle.board.specs.Shapes.{ShapeModel, cell_count}

-- how many tiles a group has, by the count of cells
abbrev pub default_size : ℕ → ℕ
default_size cells = if nat_le cells 6 then 2 else if nat_le cells 10 then 4 else if nat_le cells 16 then 5 else 4

-- the tiles of the group at this place: `size` of them in rising order, or as many as are left
abbrev pub default_tiles : ℕ → ℕ → ℕ → List ℕ
default_tiles cells size place = range_with_len (1 + place * size) (min size (cells - (1 + place * size)))

-- the tiles in rising order, cut into groups of the default size; the last group may be smaller
abbrev pub default_groups : ShapeModel → List (List ℕ)
default_groups grid =
    let cells = cell_count grid in
    let size = default_size cells in
    map (default_tiles cells size) (range_with_len 0 (div_ceil (cells - 1) size))
