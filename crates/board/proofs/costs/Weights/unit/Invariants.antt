use Rattle.std.proofs.Common.{◌≡◌, ◌-◌, ◌++◌, ◌∷◌, replicate}
use Rattle.board.proofs.costs.Weights.unit.Given as goal

abbrev pub invariant-loop-tile : goal.invariant-loop-tile
invariant-loop-tile l = l.weights ≡ (0 ∷ replicate (l.tile - 1) 1) ++ replicate (25 - l.tile) 0
