use Rattle.lower_bound.specs.Bounds.{sum_of}
use Rattle.lower_bound.specs.Tables.{parts_of}
use Rattle.worker_core.specs.Workers.{state_of}
use Rattle.world_ends.specs.Lowest.{IsLeastBeside}
use Rattle.world_ends.proofs.PartLemmas.{IsOfUnsentUpTo}
use Rattle.world_ends.proofs.lowest.lowest_unsent.Given as goal

-- the least beside the items for the workers so far
abbrev pub invariant-packets : goal.invariant-packets
invariant-packets g l = IsLeastBeside (IsOfUnsentUpTo l.to (sum_of (parts_of l.bound)) (state_of l.worker)) l.fn.lowest l.least
