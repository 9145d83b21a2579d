-- Sets of cells, and their places among those of one size: the combinatorial number system.
use Rattle.std.specs.Prelude.{ℕ, zero, suc, ◌+◌, ◌-◌, ◌<◌, ◌≤◌, ◌==◌, ◌↔◌, List, [], ◌∷◌, ◌++◌, map, sum, Contains, nat_lt, length, ◌≡◌, slice_index, slice_index_or, if◌then◌else◌, Bool, false, IsTrue}
use Rattle.pattern_graph.specs.Orders.{below}
use Rattle.pattern_graph.specs.declared.sets.Choices.{Choices}

-- the number of ways to choose `count` of `cells` cells
unfoldable pub choose : ℕ → ℕ → ℕ
choose cells zero = 1
choose zero (suc count) = 0
choose (suc cells) (suc count) = choose cells count + choose cells (suc count)

-- the place of a set: a cell that has i of the set below it counts as the number of ways to choose i + 1 of the cells below it
unfoldable pub set_place : List ℕ → ℕ
set_place cells = sum (map (λ cell. choose cell (suc (below cell cells))) cells)

-- the set of `count` of `cells` cells that has this place, in rising order
unfoldable pub set_at : ℕ → ℕ → ℕ → List ℕ
set_at cells zero place = []
set_at zero (suc count) place = []
set_at (suc cells) (suc count) place = if nat_lt place (choose cells (suc count)) then set_at cells (suc count) place else set_at cells count (place - choose cells (suc count)) ++ cells ∷ []

-- both lists have the same cells
abbrev pub AreSame : List ℕ → List ℕ → Type 0
AreSame xs ys = (cell : ℕ) → Contains xs cell ↔ Contains ys cell

-- the cells with one of them exchanged for another
abbrev pub replaced : ℕ → ℕ → List ℕ → List ℕ
replaced from to cells = map (λ cell. if cell == from then to else cell) cells

-- the table of choices has them
pub record IsChoices (c : Choices) : Type 0 where
  pub rows : length c.table ≡ 26
  pub row : (cells : ℕ) → cells < 26 → length (slice_index_or c.table cells []) ≡ 11
  pub counts : (cells count : ℕ) → cells < 26 → count < 11 → slice_index (slice_index_or c.table cells []) count ≡ choose cells count

-- the table of choices has them, also of this many cells
pub record CanChoose (c : Choices) (cells : ℕ) : Type 0 where
  pub choices : IsChoices c
  pub wide : cells ≤ 25

-- ---- which numbers are tiles of a group, or cells of a set

-- a number is marked exactly if it is one of the tiles; no tile is behind the marks
abbrev pub AreMarksOf : List ℕ → List Bool → Type 0
AreMarksOf tiles marks = (number : ℕ) → IsTrue (slice_index_or marks number false) ↔ Contains tiles number
