use Rattle.lower_bound.proofs.SlideLemmas.{has_one_group}
use Rattle.lower_bound.proofs.laws.a_tile_has_one_group.Goals as goal

pub returns : goal.returns
returns c = has_one_group
