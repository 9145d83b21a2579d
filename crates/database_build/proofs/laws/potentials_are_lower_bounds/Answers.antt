use Rattle.database_build.proofs.FoldLemmas.{potential_below}
use Rattle.database_build.proofs.laws.potentials_are_lower_bounds.Goals as goal

pub returns : goal.returns
returns c = potential_below
