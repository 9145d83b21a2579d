use Rattle.drawings.proofs.StepLemmas.{IsPushed}
use Rattle.drawings.proofs.pictures.push_steps.Given as goal

abbrev pub invariant-moves : goal.invariant-moves
invariant-moves l = IsPushed l.weights l.start l.plan l.fn.pictures.items l.direction-index l.number l.board l.pictures.items
