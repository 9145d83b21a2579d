use Rattle.std.proofs.Common.{◌≡◌}
use Rattle.worker_core.proofs.ahead.read_all.Given as goal

abbrev pub invariant-places : goal.invariant-places
invariant-places l = l.lists ≡ l.fn.lists
