use Rattle.std.proofs.Common.{ap, ◌∙◌}
use Rattle.pattern_index.specs.Partitions.{PartitionModel}
use Rattle.batch_runs.proofs.setup.Setup.folded.Goals as goal

pub invariant_of-result : goal.invariant_of-result
invariant_of-result c = record {
  sides = c.self.invariant.sides;
  guided = (
    ap (λ (s : PartitionModel). s.grid) c.in_ok-bound.ensures.folded.split ∙ c.self.invariant.guided.0,
    c.in_ok-bound.ensures.potentials c.self.inside.weights c.self.inside.goal c.self.invariant.guided.1,
  );
  some = c.self.invariant.some;
  few = c.self.invariant.few;
}
