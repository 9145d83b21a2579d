use Rattle.board_lists.proofs.WalkLemmas.{walk_keeps_class}
use Rattle.board_lists.proofs.laws.walks_keep_the_class.Goals as goal

pub returns : goal.returns
returns c = walk_keeps_class
