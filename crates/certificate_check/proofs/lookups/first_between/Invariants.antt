use Rattle.std.proofs.Common.{◌-◌, ◌≤◌, length}
use Rattle.certificate_check.specs.Lookups.{AreLower, AreNotLower}
use Rattle.certificate_check.proofs.lookups.first_between.Given as goal

abbrev pub invariant-halves : goal.invariant-halves
invariant-halves l = (l.low ≤ l.high) × (l.high ≤ length l.rows) × AreLower l.rows l.key l.low × AreNotLower l.rows l.key l.high

abbrev pub decreases-halves : goal.decreases-halves
decreases-halves l = l.high - l.low
