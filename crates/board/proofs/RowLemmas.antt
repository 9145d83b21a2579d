-- Why rows prove a cost to be least.
use Rattle.std.proofs.Common.{◌⊎◌, ℕ, ◌+◌, ◌≤◌, List, [], ◌∷◌, sym, subst, inl, inr, arith}
use Rattle.std.specs.Prelude.{Contains}
use Rattle.board.specs.declared.moves.Move.{Move}
use Rattle.board.specs.Boards.{BoardModel, IsBoard}
use Rattle.board.specs.Weights.{WeightsModel}
use Rattle.board.specs.Plans.{Leads, NothingBelow}
use Rattle.board.specs.Rows.{HasRow, Proves, IsLowerBound}
use Rattle.board.proofs.MoveLemmas.{moved_board}

-- from a board with a row of at most g, or with a sum that reaches k from g, each plan adds up to k at least
covered : (rule : WeightsModel) (rows : List (BoardModel × ℕ)) (sum : BoardModel → ℕ) (b q : BoardModel) (k : ℕ) → Proves rule rows sum b q k → IsLowerBound rule sum q → (r : BoardModel) (g : ℕ) → IsBoard r → (plan : List Move) (j : ℕ) → (k ≤ sum r + g) ⊎ HasRow rows r g → Leads rule r plan q j → k ≤ g + j
covered rule rows sum b q k proves bound r g board [] j (inl above) leads = let low = bound r board [] j leads in omega arith
covered rule rows sum b q k proves bound r g board [] j (inr row) leads = absurd (proves.no_goal row.0 (subst (λ x. Contains rows (x, row.0)) (sym leads.0) row.1))
covered rule rows sum b q k proves bound r g board (m ∷ plan) j (inl above) leads = let low = bound r board (m ∷ plan) j leads in omega arith
covered rule rows sum b q k proves bound r g board (m ∷ plan) j (inr row) leads =
    let moved = moved_board rule r board m leads.0 leads.1 leads.3 in
    let rest = covered rule rows sum b q k proves bound leads.0 (row.0 + leads.1) moved plan leads.2 (proves.closed r row.0 row.1 m leads.0 leads.1 leads.3) leads.4 in
    let below = row.2 in
    let adds = leads.5 in
    omega arith

pub rows_suffice : (rule : WeightsModel) (rows : List (BoardModel × ℕ)) (sum : BoardModel → ℕ) (b q : BoardModel) (k : ℕ) → IsBoard b → Proves rule rows sum b q k → IsLowerBound rule sum q → NothingBelow rule b q k
rows_suffice rule rows sum b q k board proves bound plan j leads =
    let h = covered rule rows sum b q k proves bound b 0 board plan j (turned proves.start) leads in omega arith
  where
    turned : HasRow rows b 0 ⊎ (k ≤ sum b) → (k ≤ sum b + 0) ⊎ HasRow rows b 0
    turned (inl row) = inr row
    turned (inr above) = inl (omega arith)
