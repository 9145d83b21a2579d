use Rattle.database_build.proofs.FoldLemmas.{one_folded_value}
use Rattle.database_build.proofs.laws.folded_values_are_least.Goals as goal

pub returns-clause-low : goal.returns-clause-low
returns-clause-low c = λ table fold v w is view view_w same. (is.least v view).none_below w view_w same

pub returns-clause-reached : goal.returns-clause-reached
returns-clause-reached c = λ table fold v is view. (is.least v view).reached

pub returns-clause-one : goal.returns-clause-one
returns-clause-one c = one_folded_value
