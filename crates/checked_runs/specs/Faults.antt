-- The faults of checked runs.
use Rattle.std.specs.Prelude.{ℕ, ◌≢◌, List, codes}
use Rattle.memory.specs.declared.OutOfMemory.{OutOfMemory}
use Rattle.certificate_check.specs.declared.refusals.Refusal.{Refusal}
use Rattle.hda_run.specs.declared.faults.WorldFault.{WorldFault}
use Rattle.hda_run.specs.declared.faults.WorldFault.TheVariants as world
use Rattle.checked_runs.specs.declared.faults.CheckedFault.{CheckedFault}
use Rattle.checked_runs.specs.declared.faults.CheckedFault.TheVariants.{WorkerCount, Memory, Refused}

-- the code that a fault is reported by
abbrev pub checked_code : CheckedFault → List ℕ
checked_code WorkerCount = codes "V2"
checked_code (Memory refused) = codes "V3"
checked_code (Refused refusal) = codes "V4"

-- a count of workers, memory that was refused, and a certificate that was refused have different codes
abbrev pub CheckedCodesDiffer : Type 0
CheckedCodesDiffer =
    (refused : OutOfMemory) (refusal : Refusal)
    → (checked_code WorkerCount ≢ checked_code (Memory refused))
    × (checked_code WorkerCount ≢ checked_code (Refused refusal))
    × (checked_code (Memory refused) ≢ checked_code (Refused refusal))

-- a world's fault, as one of a checked run
abbrev pub of_world_fault : WorldFault → CheckedFault
of_world_fault world.WorkerCount = WorkerCount
of_world_fault (world.Memory refused) = Memory refused
