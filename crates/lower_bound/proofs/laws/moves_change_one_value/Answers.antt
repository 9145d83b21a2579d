use Rattle.lower_bound.proofs.SlideLemmas.{one_value_changes}
use Rattle.lower_bound.proofs.laws.moves_change_one_value.Goals as goal

pub returns : goal.returns
returns c = one_value_changes
