use Rattle.std.proofs.Common.{◌≡◌}
use Rattle.test_kernels.proofs.calls.spend_all.Given as goal

abbrev pub invariant-spend : goal.invariant-spend
invariant-spend g l = l.allowance.granted ≡ l.initial.allowance.granted

abbrev pub decreases-spend : goal.decreases-spend
decreases-spend g l = l.allowance.left
