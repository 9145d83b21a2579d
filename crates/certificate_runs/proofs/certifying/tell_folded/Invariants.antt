use Rattle.std.proofs.Common.{take}
use Rattle.std.specs.Prelude.{All}
use Rattle.certificate_runs.specs.Built.{HasSmallFolds}
use Rattle.certificate_runs.proofs.certifying.tell_folded.Given as goal

abbrev pub invariant-tables : goal.invariant-tables
invariant-tables l = All HasSmallFolds (take l.place l.folds)
