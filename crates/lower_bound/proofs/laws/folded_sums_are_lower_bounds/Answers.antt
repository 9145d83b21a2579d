use Rattle.lower_bound.proofs.PartLemmas.{folded_sums_below}
use Rattle.lower_bound.proofs.laws.folded_sums_are_lower_bounds.Goals as goal

pub returns : goal.returns
returns c = folded_sums_below
