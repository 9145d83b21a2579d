use Rattle.database_build.proofs.LeastLemmas.{AreAddedTo}
use Rattle.database_build.proofs.least.add_orders.Given as goal

-- the placements in the orders before this one are added
abbrev pub invariant-orders : goal.invariant-orders
invariant-orders l = AreAddedTo l.table l.cells l.fn.least.items l.order l.least.items
