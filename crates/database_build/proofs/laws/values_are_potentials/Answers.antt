use Rattle.database_build.proofs.FoldLemmas.{values_potential}
use Rattle.database_build.proofs.laws.values_are_potentials.Goals as goal

pub returns : goal.returns
returns c = λ table rule goal group board same holds. values_potential table rule goal holds group board same
