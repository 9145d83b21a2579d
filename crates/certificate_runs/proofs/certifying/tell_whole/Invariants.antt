use Rattle.std.proofs.Common.{take}
use Rattle.std.specs.Prelude.{All}
use Rattle.certificate_runs.specs.Built.{HasSmallEntries}
use Rattle.certificate_runs.proofs.certifying.tell_whole.Given as goal

abbrev pub invariant-tables : goal.invariant-tables
invariant-tables l = All HasSmallEntries (take l.place l.tables)
