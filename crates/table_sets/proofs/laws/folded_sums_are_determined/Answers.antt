use Rattle.table_sets.proofs.BuiltLemmas.{folded_sums_agree}
use Rattle.table_sets.proofs.laws.folded_sums_are_determined.Goals as goal

pub returns : goal.returns
returns c = folded_sums_agree c.values_are_determined.ensures
