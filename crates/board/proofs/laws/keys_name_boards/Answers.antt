use Rattle.board.proofs.KeyLemmas.{same_board, key_of-lt}
use Rattle.board.proofs.laws.keys_name_boards.Goals as goal

pub returns-clause-one : goal.returns-clause-one
returns-clause-one c = same_board

pub returns-clause-bits : goal.returns-clause-bits
returns-clause-bits c = key_of-lt
