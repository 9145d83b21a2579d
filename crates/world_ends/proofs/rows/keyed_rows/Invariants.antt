use Rattle.world_ends.specs.Parts.{task_asked, states_of}
use Rattle.world_ends.proofs.RowLemmas.{AreRowsOfFirst}
use Rattle.world_ends.proofs.rows.keyed_rows.Given as goal

-- the rows of the workers so far
abbrev pub invariant-workers : goal.invariant-workers
invariant-workers g l = AreRowsOfFirst (task_asked l.asked) l.cost (states_of l.workers) l.worker-index l.rows.items
