use Rattle.std.proofs.Common.{◌≡◌, string_bytes, take}
use Rattle.batch_runs.specs.Reports.{letters_of}
use Rattle.batch_runs.proofs.report.plan_letters.Given as goal

abbrev pub invariant-loop-direction : goal.invariant-loop-direction
invariant-loop-direction l = string_bytes l.text ≡ letters_of (take l.direction-index l.plan)
