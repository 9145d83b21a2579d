-- The two classes of boards, between which no plan leads.
use Rattle.std.specs.Prelude.{ℕ, ◌≡◌, ◌+◌, ◌-◌, ◌%◌, List, [], ◌∷◌, count_by, nat_lt}
use Rattle.board.specs.Shapes.{ShapeModel, row_of, column_of}
use Rattle.board.specs.Boards.{BoardModel, blank_of}

-- the number of pairs of places where the earlier place holds the greater number; the blank counts as 0
abbrev pub inversions : List ℕ → ℕ
inversions [] = 0
inversions (x ∷ xs) = count_by (λ y. nat_lt y x) xs + inversions xs

-- how far apart two numbers are
abbrev pub distance : ℕ → ℕ → ℕ
distance x y = (x - y) + (y - x)

-- the taxicab or Manhattan distance: how far apart the rows of two cells are, and their columns
abbrev pub taxicab : ShapeModel → ℕ → ℕ → ℕ
taxicab grid x y = distance (row_of grid x) (row_of grid y) + distance (column_of grid x) (column_of grid y)

-- the inversions of both boards have the parity of the taxicab distance of the two blanks
abbrev pub SameClass : BoardModel → BoardModel → Type 0
SameClass b q = (inversions b.tiles + inversions q.tiles) % 2 ≡ taxicab b.grid (blank_of b) (blank_of q) % 2
