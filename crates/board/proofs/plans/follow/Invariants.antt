use Rattle.board.proofs.PlanLemmas.{IsFollowed}
use Rattle.board.proofs.plans.follow.Given as goal

abbrev pub invariant-loop-place : goal.invariant-loop-place
invariant-loop-place l = IsFollowed l.weights l.start l.plan l.place l.board l.cost
