-- Why a run over lines ends early.
use Rattle.std.specs.Prelude.{ℕ, List, codes}
use Rattle.batch_runs.specs.declared.faults.LinesFault.{LinesFault}
use Rattle.batch_runs.specs.declared.faults.LinesFault.TheVariants.{Read, Write, Memory}

-- the code that a fault is reported by
abbrev pub lines_code : LinesFault → List ℕ
lines_code Read = codes "B1"
lines_code Write = codes "B2"
lines_code (Memory lacking) = codes "B3"
