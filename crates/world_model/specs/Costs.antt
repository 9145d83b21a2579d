-- Costs that may be absent. An absent one is above all numbers.
use Rattle.std.specs.Prelude.{⊤, ℕ, ◌+◌, ◌≤◌, min, Option, Some, None}
use Rattle.board.specs.declared.costs.TheConstants.{GREATEST_EXPANDED_COST}

-- the first is not below the second
abbrev pub IsNotBelow : Option ℕ → Option ℕ → Type 0
IsNotBelow None y = ⊤
IsNotBelow (Some x) None = ⊥
IsNotBelow (Some x) (Some y) = y ≤ x

-- the smaller of the two
abbrev pub lesser : Option ℕ → Option ℕ → Option ℕ
lesser None y = y
lesser (Some x) None = Some x
lesser (Some x) (Some y) = Some (min x y)

-- n is the least number with P; none where there is none
abbrev pub IsLeastWith : (ℕ → Type 0) → Option ℕ → Type 0
IsLeastWith P None = (n : ℕ) → ¬ P n
IsLeastWith P (Some n) = P n × ((m : ℕ) → P m → n ≤ m)

-- a board with this cost plus sum, or a greater one, is not expanded: the best cost, and at most one above `GREATEST_EXPANDED_COST`
abbrev pub limit_of : Option ℕ → ℕ
limit_of None = GREATEST_EXPANDED_COST + 1
limit_of (Some best) = min best (GREATEST_EXPANDED_COST + 1)
