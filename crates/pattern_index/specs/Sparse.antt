-- Sparse places of views: the cells of the tiles are the digits of a number. Making and changing one takes less work than a rank. Not every
-- number is one, since the cells of a view differ.
use Rattle.std.specs.Prelude.{ℕ, zero, suc, ◌+◌, ◌*◌, ◌/◌, ◌%◌, ◌^◌, ◌==◌, List, [], ◌∷◌, length, max, if◌then◌else◌}
use Rattle.board.specs.Shapes.{ShapeModel, cell_count}
use Rattle.pattern_index.specs.Views.{ViewModel}
use Rattle.pattern_index.specs.Groups.{GroupModel}

-- the number that has these cells, of n, as its digits, the first as the lowest
unfoldable pub sparse_of : ℕ → List ℕ → ℕ
sparse_of n [] = 0
sparse_of n (cell ∷ cells) = cell + n * sparse_of n cells

-- the lowest `count` digits of a number to the base n, the lowest first
unfoldable pub digits_in : ℕ → ℕ → ℕ → List ℕ
digits_in n zero number = []
digits_in n (suc count) number = (number % n) ∷ digits_in n count (number / n)

-- the place value of a tile's digit: n to the power of the tile's place, or 0 for a tile that isn't among them
unfoldable pub stride_of : ℕ → List ℕ → ℕ → ℕ
stride_of n [] tile = 0
stride_of n (first ∷ tiles) tile = if first == tile then 1 else n * stride_of n tiles tile

-- the sparse place of a view
abbrev pub sparse_in : ShapeModel → ViewModel → ℕ
sparse_in grid v = sparse_of (cell_count grid) v.cells

-- all sparse places of a group's views are below this
abbrev pub sparse_size_of : GroupModel → ℕ
sparse_size_of g = cell_count g.grid ^ length g.tiles

-- ---- slots, which have the blank's cell too

-- the base in which cells are digits of a slot: 16 where there are no more of them, so that a digit has four bits
abbrev pub digit_base : ShapeModel → ℕ
digit_base grid = max (cell_count grid) 16

-- the slot of a view: the number that has the blank's cell as its lowest digit, and those of the tiles as the next ones
abbrev pub slot_in : ShapeModel → ViewModel → ℕ
slot_in grid v = sparse_of (digit_base grid) (v.blank ∷ v.cells)

-- all slots of a group's views are below this
abbrev pub slot_count_of : GroupModel → ℕ
slot_count_of g = digit_base g.grid ^ suc (length g.tiles)
