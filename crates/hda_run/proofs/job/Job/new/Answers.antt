use Rattle.std.proofs.Common.{◌≡◌, sym, subst, rules}
use Rattle.board.specs.Boards.{BoardModel}
use Rattle.hda_run.specs.Jobs.{problem, IsProblem}
use Rattle.hda_run.proofs.job.Job.new.Goals as goal

pub invariant_of-result : goal.invariant_of-result
invariant_of-result c =
    let a = c.args in
    let start : a.start.grid ≡ a.goal.grid = search rules in
    let rule : a.weights.grid ≡ a.goal.grid = search rules in
    let tables : a.bound.now.split.grid ≡ a.goal.grid = search rules in
    subst (λ (goal : BoardModel). IsProblem (problem a.start goal a.weights a.bound.now a.limit)) (sym c.new.ensures) (record {
      task = record { start = c.shape.ensures.board; goal = c.shape-shape.ensures.board; sides = start; rule = c.shape-2.ensures.rule; costs = rule };
      sides = tables;
      potentials = c.requires;
      lower = c.sums_are_lower_bounds.ensures.tables a.weights a.goal a.bound.now c.partition.ensures.tables (search rules) c.requires;
    })
