use Rattle.board.proofs.MoveLemmas.{moved_board}
use Rattle.board.proofs.laws.moves_keep_boards.Goals as goal

pub returns : goal.returns
returns c = λ rule b m b' k board moves. moved_board rule b board m b' k moves
