-- Search keys: a board as the number that has the cell of each of its numbers as a digit, the blank's cell as the lowest.
use Rattle.std.specs.Prelude.{ℕ, ◌≡◌, ◌≢◌, ◌/◌, ◌%◌, ◌^◌, ◌<◌, List, map, nat_le, if◌then◌else◌}
use Rattle.std.specs.List.{range_with_len}
use Rattle.board.specs.Shapes.{ShapeModel, cell_count}
use Rattle.board.specs.Boards.{BoardModel, IsBoard, cell_of}
use Rattle.pattern_index.specs.Sparse.{sparse_of}

-- how many bits a digit has: four where there are at most 16 cells, else five
abbrev pub digit_bits : ShapeModel → ℕ
digit_bits grid = if nat_le (cell_count grid) 16 then 4 else 5

-- the base of the digits
abbrev pub key_base : ShapeModel → ℕ
key_base grid = 2 ^ digit_bits grid

-- the cells of the numbers 0, 1, .. of a board
abbrev pub cells_by_number : BoardModel → List ℕ
cells_by_number b = map (cell_of b) (range_with_len 0 (cell_count b.grid))

-- the search key of a board
abbrev pub search_key : BoardModel → ℕ
search_key b = sparse_of (key_base b.grid) (cells_by_number b)

-- this is a board of the grid, and the key is its search key
pub record HasSearchKey (grid : ShapeModel) (key : ℕ) (b : BoardModel) : Type 0 where
  pub board : IsBoard b
  pub sides : b.grid ≡ grid
  pub packed : search_key b ≡ key

-- to the base n the number has the digit at this place, and at no lower one
pub record IsFirstDigit (n number digit place : ℕ) : Type 0 where
  pub there : number / n ^ place % n ≡ digit
  pub none_before : (i : ℕ) → i < place → number / n ^ i % n ≢ digit
