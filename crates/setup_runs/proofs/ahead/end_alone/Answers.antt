use Rattle.std.proofs.Common.{arith, Some, subst, sym}
use Rattle.outcomes.specs.declared.outcome.Ending.{Ending}
use Rattle.setup_runs.specs.Solving.{MayAnswer}
use Rattle.setup_runs.specs.declared.solving.TheConstants.{ENOUGH_EXPANDED}
use Rattle.setup_runs.proofs.SolvingLemmas.{left_too_hard, may_end, may_lack, may_leave, may_refuse, one_has_stats, one_is_few}
use Rattle.setup_runs.proofs.ahead.end_alone.Goals as goal

pub returns-in-Err-clause-left : goal.returns-in-Err-clause-left
returns-in-Err-clause-left g c =
    let run = c.in-Err.ensures in
    may_refuse c.args.question.now.setup.now c.args.question.now.start.now c.in-Err.refused _ run.parity.1

pub returns-in-Some-clause-left : goal.returns-in-Some-clause-left
returns-in-Some-clause-left g c =
    let run = c.in-Ok.ensures in
    may_lack c.args.question.now.setup.now c.args.question.now.start.now _ c.in-Ok.found run.parity.1 c.in-Some.ensures.some

pub returns-then-is_too_hard-clause-hard : goal.returns-then-is_too_hard-clause-hard
returns-then-is_too_hard-clause-hard g c =
    let run = c.in-Ok.ensures in
    let hard = c.is_too_hard.ensures.yes c.if-is_too_hard.true in
    λ is. left_too_hard c.args.question.now.setup.now c.args.question.now.start.now c.min-limit.result g.S.Spread.owner_of g.met.S.Spread.owners_are_workers c.args.spread.now _ c.in-Ok.found (omega (arith, hard.0, c.min-limit.ensures)) (omega (arith, hard.0, c.min-limit.ensures)) run.parity.1 run.run hard.1 c.in_default.ensures.none

pub returns-then-is_too_hard-clause-left : goal.returns-then-is_too_hard-clause-left
returns-then-is_too_hard-clause-left g c =
    let run = c.in-Ok.ensures in
    may_leave c.args.question.now.setup.now c.args.question.now.start.now _ c.in-Ok.found run.parity.1 (c.is_too_hard.ensures.yes c.if-is_too_hard.true).1

pub returns-clause-ok : goal.returns-clause-ok
returns-clause-ok g c =
    let setup = c.args.question.now.setup.now in
    let start = c.args.question.now.start.now in
    let run = c.in-Ok.ensures in
    subst (λ (ending : Ending). MayAnswer setup start (Some ending)) (sym c.solved_since.ensures.ending)
    (may_end setup start c.min-limit.result g.S.Spread.owner_of g.met.S.Spread.owners_are_workers c.args.spread.now _ c.in-Ok.found (omega (arith, c.min-limit.ensures)) (λ _. omega (arith, c.min-limit.ensures)) (c.is_too_hard.ensures.no c.if-is_too_hard.false) run.parity.1 run.run run.answers run.kept)

pub returns-clause-stats : goal.returns-clause-stats
returns-clause-stats g c =
    let run = c.in-Ok.ensures in
    one_has_stats c.args.question.now.setup.now c.args.question.now.start.now c.min-limit.result g.S.Spread.owner_of g.met.S.Spread.owners_are_workers c.args.spread.now c.in-Ok.found _ (omega (arith, c.min-limit.ensures)) (λ _. omega (arith, c.min-limit.ensures)) (c.is_too_hard.ensures.no c.if-is_too_hard.false) run.parity.1 run.run c.solved_since.ensures.ending c.solved_since.ensures.stats

pub returns-clause-few : goal.returns-clause-few
returns-clause-few g c =
    let run = c.in-Ok.ensures in
    one_is_few c.args.question.now.setup.now c.args.question.now.start.now c.min-limit.result ENOUGH_EXPANDED g.S.Spread.owner_of c.args.spread.now c.in-Ok.found _ (omega (arith, c.min-limit.ensures)) run.parity.1 run.run c.solved_since.ensures.stats
