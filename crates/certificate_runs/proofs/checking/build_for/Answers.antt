use Rattle.std.proofs.Common.{◌≡◌, Result, Ok, Err, subst, ◌∙◌}
use Rattle.std.specs.Prelude.{IfOk}
use Rattle.board.specs.Boards.{BoardModel}
use Rattle.board.specs.Weights.{WeightsModel}
use Rattle.memory.specs.declared.OutOfMemory.{OutOfMemory}
use Rattle.pattern_index.specs.Partitions.{PartitionModel}
use Rattle.lower_bound.specs.Tables.{BoundModel, ArePotentials}
use Rattle.table_sets.specs.Built.{AreBuilt}
use Rattle.certificate.specs.Certificates.{CertificateModel}
use Rattle.certificate_check.specs.Refusals.{AreTablesFit}
use Rattle.certificate_runs.proofs.checking.build_for.Goals as goal

-- tables that are built for a certificate's groups, costs and goal are fit
fit_as_built : (c : CertificateModel) (groups : PartitionModel) (costs : WeightsModel) (end : BoardModel) → groups ≡ c.groups → costs ≡ c.costs → end ≡ c.goal → (result : Result BoundModel OutOfMemory) → IfOk result (AreBuilt groups costs end) → IfOk result (ArePotentials costs end) → IfOk result (AreTablesFit c)
fit_as_built c groups costs end same_groups same_costs same_goal (Ok tables) built potentials = record {
  groups = built.groups ∙ same_groups;
  whole = built.whole;
  potentials = subst (λ (rule : WeightsModel). ArePotentials rule c.goal tables) same_costs (subst (λ (b : BoardModel). ArePotentials costs b tables) same_goal potentials);
}
fit_as_built c groups costs end same_groups same_costs same_goal (Err refused) built potentials = tt

pub returns-clause-fit : goal.returns-clause-fit
returns-clause-fit g c =
    fit_as_built c.args.certificate.now c.in_ok-groups.groups c.costs.result c.goal.result (c.in_ok-groups.ensures ∙ c.groups.ensures.value) c.costs.ensures c.goal.ensures c.build_bound.result c.build_bound.ensures.built c.build_bound.ensures.potentials
