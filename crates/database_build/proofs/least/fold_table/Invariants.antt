use Rattle.database_build.proofs.LeastLemmas.{AreLeastBefore}
use Rattle.database_build.proofs.least.fold_table.Given as goal

-- the placements on the sets before this one are there
abbrev pub invariant-sets : goal.invariant-sets
invariant-sets l = AreLeastBefore l.table l.set l.least.items
