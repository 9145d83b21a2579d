use Rattle.std.proofs.Common.{◌≡◌, take, length, map}
use Rattle.lower_bound.specs.Folded.{value_for}
use Rattle.lower_bound.proofs.parts.Parts.of.Given as goal

abbrev pub invariant-tables : goal.invariant-tables
invariant-tables l = record {
  all : length l.values ≡ 24;
  is : take l.i l.values ≡ map (value_for l.board) (take l.i l.folds);
}
