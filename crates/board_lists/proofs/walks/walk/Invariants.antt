use Rattle.std.proofs.Common.{◌≡◌}
use Rattle.board.specs.Weights.{unit_rule}
use Rattle.board_lists.proofs.WalkLemmas.{IsUnderWay}
use Rattle.board_lists.proofs.walks.walk.Given as goal

abbrev pub invariant-moves : goal.invariant-moves
invariant-moves l = IsUnderWay l.goal l.counter l.board l.last × (l.weights ≡ unit_rule l.goal.grid)
