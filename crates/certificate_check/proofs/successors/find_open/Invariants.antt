use Rattle.certificate_check.specs.Refusals.{AreClosed}
use Rattle.certificate_check.proofs.successors.find_open.Given as goal

abbrev pub invariant-rows : goal.invariant-rows
invariant-rows l = AreClosed l.certificate l.bound 0 l.place
