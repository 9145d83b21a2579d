use Rattle.std.proofs.Common.{◌≡◌, ◌*◌, ◌≤◌, take}
use Rattle.std.specs.Prelude.{sum}
use Rattle.pattern_search.specs.declared.finding.TheConstants.{NO_VALUE}
use Rattle.lower_bound.proofs.parts.add_up.Given as goal

abbrev pub invariant-values : goal.invariant-values
invariant-values l = record {
  is : l.total ≡ sum (take l.value-index l.values);
  high : l.total ≤ NO_VALUE * l.value-index;
}
