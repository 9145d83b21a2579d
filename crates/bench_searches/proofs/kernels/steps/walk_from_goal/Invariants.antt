use Rattle.std.proofs.Common.{◌≡◌, ◌≤◌, ◌*◌}
use Rattle.bench_searches.proofs.kernels.steps.walk_from_goal.Given as goal

-- the weights fit the board, no more moves are counted than were tried, and each costs at most 255
abbrev pub invariant-steps : goal.invariant-steps
invariant-steps l = (l.weights.grid ≡ l.walk.board.grid) × (l.walk.accepted ≤ l.counter) × (l.walk.cost ≤ 255 * l.walk.accepted)
