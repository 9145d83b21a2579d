use Rattle.std.proofs.Common.{get_or, refl, arith}
use Rattle.std.proofs.lemmas.Option.{slice_get-get_or}
use Rattle.board.specs.declared.moves.Move.TheVariants.{U}
use Rattle.board.specs.Plans.{IsStuckAt}
use Rattle.board.proofs.PlanLemmas.{IsFollowed-more, stuck_here, led_here, followed_to_end, followed_to_edge}
use Rattle.board.proofs.plans.follow.Goals as goal

pub loop-place-preserved : goal.loop-place-preserved
loop-place-preserved c =
    IsFollowed-more c.args.weights.now c.args.start.now c.args.plan.now c.loop-place.place c.loop-place.board c.loop-place.cost (get_or c.args.plan.now c.loop-place.place U) c.in-Some.moved.0 c.in-Some.moved.1 c.loop-place.invariant
    (slice_get-get_or c.args.plan.now c.loop-place.place U c.loop-place-test.true) ((c.in-Some.ensures.moves c.in-Some.moved.0 c.in-Some.moved.1).0 refl) c.in-Some.ensures.high

-- no move is possible where the loop stops
stuck : (c : goal.In_default) → IsStuckAt c.args.weights.now c.args.start.now c.args.plan.now c.loop-place.place
stuck c =
    stuck_here c.args.weights.now c.args.start.now c.args.plan.now c.loop-place.place c.loop-place.board c.loop-place.cost (get_or c.args.plan.now c.loop-place.place U) c.loop-place.invariant
    (slice_get-get_or c.args.plan.now c.loop-place.place U c.loop-place-test.true) (λ next k moves. c.in_default.not-Some (next, k) ((c.step.ensures.moves next k).1 moves))

pub returns-in_default-clause-led : goal.returns-in_default-clause-led
returns-in_default-clause-led c = (followed_to_edge c.args.weights.now c.args.start.now c.args.plan.now c.loop-place.place (stuck c) _ refl).0

pub returns-in_default-clause-stuck : goal.returns-in_default-clause-stuck
returns-in_default-clause-stuck c = (followed_to_edge c.args.weights.now c.args.start.now c.args.plan.now c.loop-place.place (stuck c) _ refl).1

pub returns-clause-led : goal.returns-clause-led
returns-clause-led c =
    (followed_to_end c.args.weights.now c.args.start.now c.args.plan.now c.loop-place.board c.loop-place.cost (led_here c.args.weights.now c.args.start.now c.args.plan.now c.loop-place.place c.loop-place.board c.loop-place.cost c.loop-place.invariant (omega arith)) _ refl).0

pub returns-clause-stuck : goal.returns-clause-stuck
returns-clause-stuck c =
    (followed_to_end c.args.weights.now c.args.start.now c.args.plan.now c.loop-place.board c.loop-place.cost (led_here c.args.weights.now c.args.start.now c.args.plan.now c.loop-place.place c.loop-place.board c.loop-place.cost c.loop-place.invariant (omega arith)) _ refl).1
