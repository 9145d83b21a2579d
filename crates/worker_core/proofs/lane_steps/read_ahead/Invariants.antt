use Rattle.std.proofs.Common.{◌≡◌}
use Rattle.worker_core.proofs.lane_steps.read_ahead.Given as goal

abbrev pub invariant-items : goal.invariant-items
invariant-items l = l.lists ≡ l.fn.lists
