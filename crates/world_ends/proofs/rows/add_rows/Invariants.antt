use Rattle.world_ends.specs.Parts.{task_asked}
use Rattle.world_ends.proofs.RowLemmas.{AreRowsUpTo}
use Rattle.world_ends.proofs.rows.add_rows.Given as goal

-- the rows of the boards so far are there, beside the old ones
abbrev pub invariant-boards : goal.invariant-boards
invariant-boards l = AreRowsUpTo (task_asked l.asked) l.cost l.lists.closed l.fn.rows.items l.place l.rows.items
