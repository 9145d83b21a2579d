-- Owners that no hash modulo the number of workers gives.
use Rattle.std.specs.Prelude.{ℕ, ◌≡◌, ◌+◌, ◌/◌, ◌%◌, ◌<◌, ◌≤◌, if◌then◌else◌, nat_lt, Bool, true, false, [], ◌∷◌}
use Rattle.std.proofs.Common.{arith}
use Rattle.std.proofs.Math.Nat.{div-lt_self}
use Rattle.board.specs.Shapes.{cell_count}
use Rattle.board.specs.Boards.{BoardModel, blank_of}

-- the worker in the middle owns the boards whose blank is in the last row, and worker 0 all others
abbrev pub owner_by_row : ℕ → BoardModel → ℕ
owner_by_row n b = if nat_lt (blank_of b + b.grid.cols) (cell_count b.grid) then 0 else (n / 2)

-- each is one of the workers
pub owner_by_row-lt : (n : ℕ) (b : BoardModel) → 0 < n → owner_by_row n b < n
owner_by_row-lt n b some = among (nat_lt (blank_of b + b.grid.cols) (cell_count b.grid))
  where
    among : (is_above : Bool) → (if is_above then 0 else (n / 2)) < n
    among true = some
    among false = div-lt_self some (omega arith)

-- the board of 2 by 2 with the blank on its last cell
abbrev blank_last : BoardModel
blank_last = record { grid = record { rows = 2; cols = 2 }; tiles = 3 ∷ 2 ∷ 1 ∷ 0 ∷ [] }

-- no hash modulo the number of workers gives them: that of the board with the blank last would be odd for two workers, and even for four
pub no_hash_gives_them : (hash : BoardModel → ℕ) → ((n : ℕ) (b : BoardModel) → 0 < n → n ≤ 4 → owner_by_row n b ≡ hash b % n) → ⊥
no_hash_gives_them hash gives =
    let two : 1 ≡ hash blank_last % 2 = gives 2 blank_last (omega arith) (omega arith) in
    let four : 2 ≡ hash blank_last % 4 = gives 4 blank_last (omega arith) (omega arith) in
    omega (arith, two, four)
