use Rattle.std.proofs.Common.{◌≡◌, ◌*◌, ◌≤◌, take, sum_by}
use Rattle.pattern_search.specs.declared.finding.TheConstants.{NO_VALUE}
use Rattle.lower_bound.specs.Folded.{value_for}
use Rattle.lower_bound.proofs.bound.sum_folded.Given as goal

abbrev pub invariant-tables : goal.invariant-tables
invariant-tables l = record {
  is : l.sum ≡ sum_by (value_for l.board) (take l.fold-index l.folds);
  high : l.sum ≤ NO_VALUE * l.fold-index;
}
