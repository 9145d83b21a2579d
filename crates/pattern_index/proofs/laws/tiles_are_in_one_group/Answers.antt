use Rattle.pattern_index.proofs.SplitLemmas.{one_group, apart_groups}
use Rattle.pattern_index.proofs.laws.tiles_are_in_one_group.Goals as goal

pub returns : goal.returns
returns c = λ groups. (one_group groups, apart_groups groups)
