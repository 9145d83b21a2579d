use Rattle.board.proofs.GoalLemmas.{goal_stored}
use Rattle.board.proofs.boards.Board.goal.Goals as goal

pub invariant_of-result : goal.invariant_of-result
invariant_of-result c = goal_stored c.args.shape c.cells.result c.count_up-tiles.result c.cells.ensures.sides c.cells.ensures.value c.count_up-tiles.ensures

pub returns-clause-board : goal.returns-clause-board
returns-clause-board c = (invariant_of-result c).board
