use Rattle.std.proofs.Common.{◌-◌, ◌≤◌, length}
use Rattle.certificate_check.specs.Lookups.{AreLower}
use Rattle.certificate_check.proofs.lookups.first_behind.Given as goal

abbrev pub invariant-steps : goal.invariant-steps
invariant-steps l = (1 ≤ l.step) × (l.low ≤ length l.rows) × AreLower l.rows l.key l.low

abbrev pub decreases-steps : goal.decreases-steps
decreases-steps l = length l.rows - l.low
