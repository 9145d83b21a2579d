use Rattle.database_build.proofs.LeastLemmas.{AreLowered}
use Rattle.database_build.proofs.least.lower_set.Given as goal

-- the free cells before this one were looked at
abbrev pub invariant-blanks : goal.invariant-blanks
invariant-blanks l = AreLowered l.regions l.nodes l.set l.blank l.row
