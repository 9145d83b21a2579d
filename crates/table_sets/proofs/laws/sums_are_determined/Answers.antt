use Rattle.table_sets.proofs.BuiltLemmas.{sums_agree}
use Rattle.table_sets.proofs.laws.sums_are_determined.Goals as goal

pub returns : goal.returns
returns c = sums_agree c.values_are_determined.ensures
