-- Plans, and what the least of them costs.
use Rattle.std.specs.Prelude.{ℕ, ◌≡◌, ◌+◌, ◌≤◌, List, [], ◌∷◌, Some, slice_get, take}
use Rattle.board.specs.declared.moves.Move.{Move}
use Rattle.board.specs.Boards.{BoardModel}
use Rattle.board.specs.Weights.{WeightsModel}
use Rattle.board.specs.Moves.{Moves}

-- the moves of the plan take b to q, and their costs add up to k
abbrev pub Leads : WeightsModel → BoardModel → List Move → BoardModel → ℕ → Type 0
Leads rule b [] q k = (q ≡ b) × (k ≡ 0)
Leads rule b (m ∷ plan) q k =
    (next : BoardModel) × (c rest : ℕ) × Moves rule b m next c × Leads rule next plan q rest × (k ≡ c + rest)

-- no plan that leads from b to q costs less than k
abbrev pub NothingBelow : WeightsModel → BoardModel → BoardModel → ℕ → Type 0
NothingBelow rule b q k = (plan : List Move) (j : ℕ) → Leads rule b plan q j → k ≤ j

-- some plan leads from b to q at k, and every plan that leads from b to q costs at least k
pub record IsLeast (rule : WeightsModel) (b q : BoardModel) (k : ℕ) : Type 0 where
  pub reached : (plan : List Move) × Leads rule b plan q k
  pub none_below : NothingBelow rule b q k

-- the moves before this place of the plan lead somewhere, and the move at it leads nowhere
abbrev pub IsStuckAt : WeightsModel → BoardModel → List Move → ℕ → Type 0
IsStuckAt rule b plan place =
    (here : BoardModel) × (k : ℕ) × (m : Move) × Leads rule b (take place plan) here k × (slice_get plan place ≡ Some m) × ((next : BoardModel) (c : ℕ) → ¬ Moves rule here m next c)
