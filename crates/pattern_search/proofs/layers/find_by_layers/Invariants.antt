use Rattle.std.proofs.Common.{◌-◌}
use Rattle.pattern_search.specs.declared.finding.TheConstants.{NO_VALUE}
use Rattle.pattern_search.proofs.LayerLemmas.{IsLayered}
use Rattle.pattern_search.proofs.layers.find_by_layers.Given as goal

abbrev pub invariant-layers : goal.invariant-layers
invariant-layers l = IsLayered l.fn.graph l.start l.weight l.cost l.any l.layers

abbrev pub decreases-layers : goal.decreases-layers
decreases-layers l = NO_VALUE - l.cost
