use Rattle.std.proofs.Common.{◌≡◌, sym, ap, ◌∙◌, arith}
use Rattle.board.specs.Weights.{WeightsModel}
use Rattle.board.specs.Boards.{BoardModel}
use Rattle.pattern_index.specs.Partitions.{PartitionModel}
use Rattle.bench_searches.proofs.kernels.sums.check_offers.Goals as goal

pub invariant_of-terms : goal.invariant_of-terms
invariant_of-terms g c =
    let bound = c.in-Ok-build_bound in
    let same : c.shape-shape.result ≡ bound.bound.split.grid = c.shape-shape.ensures.value ∙ sym (ap (λ (s : PartitionModel). s.grid) (bound.ensures.built.groups ∙ c.in-Ok.ensures)) in
    let goal_grid : c.goal-goal.result.grid ≡ bound.bound.split.grid = ap (λ (b : BoardModel). b.grid) c.goal-goal.ensures.value ∙ same in
    record {
      rule = ap (λ (r : WeightsModel). r.grid) c.face-weights.ensures ∙ same;
      consistent = record { rule = c.face-weights.result; goal = c.goal-goal.result; grid = goal_grid; whole = bound.ensures.potentials.whole };
      some = omega arith;
    }
