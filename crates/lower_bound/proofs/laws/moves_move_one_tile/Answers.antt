use Rattle.lower_bound.proofs.PartLemmas.{moves_one}
use Rattle.lower_bound.proofs.laws.moves_move_one_tile.Goals as goal

pub returns : goal.returns
returns c = moves_one
