use Rattle.table_sets.proofs.BuiltLemmas.{folded_sums_low}
use Rattle.table_sets.proofs.laws.folded_sums_are_no_greater.Goals as goal

pub returns : goal.returns
returns c = folded_sums_low c.values_are_determined.ensures
