-- Keys: a board as one number, 5 bits a cell, cell 0 highest.
use Rattle.std.specs.Prelude.{ℕ, ◌≡◌, ◌⊎◌, ◌+◌, ◌*◌, ◌^◌, ◌<◌, List, [], ◌∷◌, length}
use Rattle.board.specs.Shapes.{ShapeModel}
use Rattle.board.specs.Boards.{BoardModel, IsBoard}

-- each number times 32 to the power of how many follow it, added up
abbrev pub packed_number : List ℕ → ℕ
packed_number [] = 0
packed_number (tile ∷ rest) = tile * 32 ^ length rest + packed_number rest

-- the key of a board
abbrev pub key_of : BoardModel → ℕ
key_of b = packed_number b.tiles

-- this is a board of the grid, and the key is its key
pub record HasKey (grid : ShapeModel) (key : ℕ) (b : BoardModel) : Type 0 where
  pub board : IsBoard b
  pub sides : b.grid ≡ grid
  pub packed : key_of b ≡ key

-- at the first place where two lists differ the first has the smaller number, or it ends there
abbrev pub Precedes : List ℕ → List ℕ → Type 0
Precedes xs [] = ⊥
Precedes [] (y ∷ ys) = Unit {0}
Precedes (x ∷ xs) (y ∷ ys) = (x < y) ⊎ ((x ≡ y) × Precedes xs ys)
