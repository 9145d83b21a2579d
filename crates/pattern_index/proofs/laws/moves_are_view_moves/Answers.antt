use Rattle.pattern_index.proofs.ViewMoveLemmas.{seen_move}
use Rattle.pattern_index.proofs.laws.moves_are_view_moves.Goals as goal

pub returns : goal.returns
returns c = seen_move
