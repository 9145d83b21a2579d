-- Rows that prove a cost to be least: boards with what it costs to reach them.
use Rattle.std.specs.Prelude.{ℕ, ◌⊎◌, ◌+◌, ◌≤◌, List, Contains}
use Rattle.board.specs.declared.moves.Move.{Move}
use Rattle.board.specs.Boards.{BoardModel, IsBoard}
use Rattle.board.specs.Weights.{WeightsModel}
use Rattle.board.specs.Moves.{Moves}
use Rattle.board.specs.Plans.{NothingBelow}

-- the board has a row with at most this cost
abbrev pub HasRow : List (BoardModel × ℕ) → BoardModel → ℕ → Type 0
HasRow rows b g = (cost : ℕ) × Contains rows (b, cost) × (cost ≤ g)

-- b has a row at 0 or its sum is at least k; q has no row; and each move from a row leads to a sum that reaches k, or to a row
pub record Proves (rule : WeightsModel) (rows : List (BoardModel × ℕ)) (sum : BoardModel → ℕ) (b q : BoardModel) (k : ℕ) : Type 0 where
  pub start : HasRow rows b 0 ⊎ (k ≤ sum b)
  pub no_goal : (g : ℕ) → ¬ Contains rows (q, g)
  pub closed : (r : BoardModel) (g : ℕ) → Contains rows (r, g) → (m : Move) (r' : BoardModel) (c : ℕ) → Moves rule r m r' c → (k ≤ sum r' + (g + c)) ⊎ HasRow rows r' (g + c)

-- the sum of a board is never above the cost of a plan to q: as a heuristic it is admissible
abbrev pub IsLowerBound : WeightsModel → (BoardModel → ℕ) → BoardModel → Type 0
IsLowerBound rule sum q = (r : BoardModel) → IsBoard r → NothingBelow rule r q (sum r)
