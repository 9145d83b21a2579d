-- The faults of jobs and worlds.
use Rattle.std.specs.Prelude.{ℕ, List, codes}
use Rattle.outcomes.specs.declared.faults.SolveFault.{SolveFault}
use Rattle.outcomes.specs.declared.faults.SolveFault.TheVariants as solve
use Rattle.hda_run.specs.declared.faults.JobFault.{JobFault}
use Rattle.hda_run.specs.declared.faults.JobFault.TheVariants.{ShapesDiffer}
use Rattle.hda_run.specs.declared.faults.WorldFault.{WorldFault}
use Rattle.hda_run.specs.declared.faults.WorldFault.TheVariants.{WorkerCount, Memory}

-- the code that a job's fault is reported by
abbrev pub job_code : JobFault → List ℕ
job_code ShapesDiffer = codes "V1"

-- the code that a world's fault is reported by
abbrev pub world_code : WorldFault → List ℕ
world_code WorkerCount = codes "V2"
world_code (Memory refused) = codes "V3"

-- a job's fault, as one by which a board is not answered
abbrev pub of_job : JobFault → SolveFault
of_job ShapesDiffer = solve.ShapesDiffer

-- a world's fault, as one by which a board is not answered
abbrev pub of_world : WorldFault → SolveFault
of_world WorkerCount = solve.WorkerCount
of_world (Memory refused) = solve.Memory refused
