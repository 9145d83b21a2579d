use Rattle.board.proofs.NeighbourLemmas.{neighbour_lies, successor_moves}
use Rattle.board.proofs.laws.successors_are_moves.Goals as goal

pub returns-clause-cells : goal.returns-clause-cells
returns-clause-cells c = neighbour_lies

pub returns-clause-boards : goal.returns-clause-boards
returns-clause-boards c = successor_moves
