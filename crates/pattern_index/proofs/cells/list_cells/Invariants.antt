use Rattle.std.proofs.Common.{length}
use Rattle.pattern_index.proofs.CellLemmas.{IsListedFrom}
use Rattle.pattern_index.proofs.cells.list_cells.Given as goal

abbrev pub invariant-places : goal.invariant-places
invariant-places l = IsListedFrom l.cells l.rank (length l.initial.list) l.list l.place l.rest

abbrev pub decreases-places : goal.decreases-places
decreases-places l = l.place
