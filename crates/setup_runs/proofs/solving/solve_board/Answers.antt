use Rattle.std.proofs.Common.{Some, Ok, Err, subst, sym}
use Rattle.outcomes.specs.declared.outcome.Ending.{Ending}
use Rattle.setup_runs.specs.Solving.{MayAnswer}
use Rattle.setup_runs.proofs.SolvingLemmas.{may_solve, workers_have_stats}
use Rattle.setup_runs.proofs.solving.solve_board.Goals as goal

pub returns-in-Ok-clause-allowed : goal.returns-in-Ok-clause-allowed
returns-in-Ok-clause-allowed g c =
    let setup = c.args.question.now.setup.now in
    let start = c.args.question.now.start.now in
    let run = c.in-Ok.ensures in
    subst (λ (ending : Ending). MayAnswer setup start (Some ending)) (sym c.solved_since.ensures.ending)
    (may_solve setup start _ (Ok c.in-Ok.found) run.parity.1 run.run run.answers run.kept)

pub returns-in-Ok-clause-stats : goal.returns-in-Ok-clause-stats
returns-in-Ok-clause-stats g c =
    let run = c.in-Ok.ensures in
    workers_have_stats c.args.question.now.setup.now c.args.question.now.start.now c.in-Ok.found _ run.parity.1 run.run c.solved_since.ensures.ending c.solved_since.ensures.stats

pub returns-in-Err-clause-allowed : goal.returns-in-Err-clause-allowed
returns-in-Err-clause-allowed g c =
    let run = c.in-Err.ensures in
    may_solve c.args.question.now.setup.now c.args.question.now.start.now _ (Err c.in-Err.refused) run.parity.1 run.run run.answers run.kept
