-- The codes of faults by which a board is not answered.
use Rattle.std.specs.Prelude.{ℕ, List, codes}
use Rattle.outcomes.specs.declared.faults.SolveFault.{SolveFault}
use Rattle.outcomes.specs.declared.faults.SolveFault.TheVariants.{ShapesDiffer, WorkerCount, Memory}

-- the code of a task of several shapes, of a number of workers out of range, and of memory refused before the first step
abbrev pub solve_code : SolveFault → List ℕ
solve_code ShapesDiffer = codes "V1"
solve_code WorkerCount = codes "V2"
solve_code (Memory refused) = codes "V3"
