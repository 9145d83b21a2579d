-- How weights lie in memory: those of the numbers of a board, and zeros behind them.
use Rattle.std.specs.Prelude.{ℕ, ◌≡◌, List, take}
use Rattle.std.proofs.Common.{ap}
use Rattle.board.specs.Shapes.{cell_count}
use Rattle.board.specs.Weights.{WeightsModel, AreWeights}
use Rattle.board.specs.Padding.{array_of, IsPadded, array_of-take}
use Rattle.board.specs.declared.costs.Weights.TheInside.{Inside}

-- what readers see of the memory
abbrev pub rule_in : Inside → WeightsModel
rule_in inside = record { grid = inside.shape; weights = take (cell_count inside.shape) inside.weights }

-- the memory of a cost rule
abbrev pub storage_of : WeightsModel → Inside
storage_of rule = record { shape = rule.grid; weights = array_of 25 rule.weights }

-- the memory holds a cost rule, and the entries that it doesn't use are 0
pub record IsStored (inside : Inside) : Type 0 where
  pub rule : AreWeights (rule_in inside)
  pub unused : IsPadded 25 (cell_count inside.shape) inside.weights

-- nothing is lost
pub storage_of-rule_in : (inside : Inside) → IsStored inside → storage_of (rule_in inside) ≡ inside
storage_of-rule_in inside stored =
    let with_weights : List ℕ → Inside = λ (weights : List ℕ). record { shape = inside.shape; weights = weights } in
    ap with_weights (array_of-take 25 (cell_count inside.shape) inside.weights stored.rule.one_each stored.unused)
