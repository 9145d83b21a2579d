use Rattle.database_build.proofs.LeastLemmas.{AreLeastTo}
use Rattle.database_build.proofs.least.fold_nodes.Given as goal

-- the placements on the sets before this one have their least values
abbrev pub invariant-sets : goal.invariant-sets
invariant-sets l = AreLeastTo l.regions l.nodes l.set l.least.items
