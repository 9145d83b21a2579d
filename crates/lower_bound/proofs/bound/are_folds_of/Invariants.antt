use Rattle.std.proofs.Common.{◌≡◌, take, length}
use Rattle.lower_bound.specs.Folded.{AreFoldsOf}
use Rattle.lower_bound.proofs.bound.are_folds_of.Given as goal

abbrev pub invariant-tables : goal.invariant-tables
invariant-tables l = record {
  same : AreFoldsOf (take l.i l.groups) (take l.i l.folds);
  count : length l.folds ≡ length l.groups;
}
