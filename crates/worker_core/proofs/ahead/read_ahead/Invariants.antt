use Rattle.std.proofs.Common.{◌≡◌}
use Rattle.worker_core.proofs.ahead.read_ahead.Given as goal

abbrev pub invariant-offers : goal.invariant-offers
invariant-offers l = l.lists ≡ l.fn.lists
