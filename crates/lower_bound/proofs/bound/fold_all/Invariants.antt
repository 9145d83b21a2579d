use Rattle.lower_bound.specs.Folded.{AreFolded}
use Rattle.lower_bound.proofs.bound.fold_all.Given as goal

abbrev pub invariant-whole : goal.invariant-whole
invariant-whole l = AreFolded l.yielded l.folds.items
