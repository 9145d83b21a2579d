use Rattle.board.proofs.PlanLemmas.{stuck_there}
use Rattle.board.proofs.laws.plans_are_stuck_there.Goals as goal

pub returns : goal.returns
returns c = stuck_there
