use Rattle.certificate_check.proofs.RefusalLemmas.{folded_refused, other_shape_refused}
use Rattle.certificate_check.proofs.laws.folded_tables_are_refused.Goals as goal

pub returns-clause-folded : goal.returns-clause-folded
returns-clause-folded c = folded_refused

pub returns-clause-shape : goal.returns-clause-shape
returns-clause-shape c = other_shape_refused
