-- Lists of different cells, and their ranks.
use Rattle.std.specs.Prelude.{◌≢◌, ℕ, zero, suc, ◌+◌, ◌-◌, ◌*◌, ◌/◌, ◌%◌, ◌<◌, List, [], ◌∷◌, map, length, All, AllPairs, count_by, nat_lt, nat_le, if◌then◌else◌}

-- the number of ways to list r of n cells, no two the same
unfoldable pub ways : ℕ → ℕ → ℕ
ways n zero = 1
ways n (suc r) = n * ways (n - 1) r

-- the cells are below n, and no two are the same
pub record IsListing (n : ℕ) (cells : List ℕ) : Type 0 where
  pub in_range : All (λ cell. cell < n) cells
  pub different : AllPairs (λ x y. x ≢ y) cells

-- The rank of what is left of a list, where n cells have not been taken and those of `seen` have.
-- Each cell counts without the smaller ones before it, times the ways to go on.
unfoldable pub rank_after : ℕ → List ℕ → List ℕ → ℕ
rank_after n seen [] = 0
rank_after n seen (x ∷ xs) = (x - count_by (λ y. nat_lt y x) seen) * ways (n - 1) (length xs) + rank_after (n - 1) (x ∷ seen) xs

-- the rank of a list of different cells, of n
unfoldable pub rank_of : ℕ → List ℕ → ℕ
rank_of n cells = rank_after n [] cells

-- a cell among those that are left after x is taken out
abbrev pub spread : ℕ → ℕ → ℕ
spread x y = if nat_le x y then y + 1 else y

-- the list of r of n cells that has this rank: a first cell, and behind it the list that has what is left of the
-- rank, moved up past that cell
unfoldable pub list_at : ℕ → ℕ → ℕ → List ℕ
list_at n zero k = []
list_at zero (suc r) k = []
list_at (suc n) (suc r) k = (k / ways n r) ∷ map (spread (k / ways n r)) (list_at n r (k % ways n r))
