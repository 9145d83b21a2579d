use Rattle.std.proofs.Common.{◌≤◌, length}
use Rattle.certificate_check.specs.Lookups.{AreNotLower}
use Rattle.certificate_check.proofs.lookups.first_before.Given as goal

abbrev pub invariant-steps : goal.invariant-steps
invariant-steps l = (1 ≤ l.step) × (l.high ≤ length l.rows) × AreNotLower l.rows l.key l.high

abbrev pub decreases-steps : goal.decreases-steps
decreases-steps l = l.high
