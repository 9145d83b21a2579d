use Rattle.board.proofs.GoalLemmas.{face_stored}
use Rattle.board.proofs.costs.Weights.face.Goals as goal

pub invariant_of-result : goal.invariant_of-result
invariant_of-result c = face_stored c.args.shape c.cells.result c.count_up-weights.result c.cells.ensures.sides c.cells.ensures.value c.cells.ensures.high c.count_up-weights.ensures
