use Rattle.std.proofs.Common.{ℕ, ◌<◌}
use Rattle.certificate_check.specs.Refusals.{IsFitAt}
use Rattle.certificate_check.proofs.groups.find_unfit.Given as goal

abbrev pub invariant-groups : goal.invariant-groups
invariant-groups l = (k : ℕ) → k < l.place → IsFitAt l.certificate l.bound k
