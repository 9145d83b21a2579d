-- The digits of a number to the base 32.
use Rattle.std.specs.Prelude.{ℕ, ◌/◌, ◌%◌, List, [], ◌∷◌, ◌++◌, zero, suc}

-- the last n digits, the highest first
abbrev pub digits_of : ℕ → ℕ → List ℕ
digits_of zero k = []
digits_of (suc n) k = digits_of n (k / 32) ++ k % 32 ∷ []
