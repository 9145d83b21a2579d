use Rattle.std.proofs.Common.{◌≡◌, map}
use Rattle.lower_bound.specs.Folded.{value_for}
use Rattle.lower_bound.proofs.PartLemmas.{mixed}
use Rattle.lower_bound.proofs.parts.renew.Given as goal

abbrev pub invariant-tables : goal.invariant-tables
invariant-tables l = l.values ≡ mixed l.i (map (value_for l.board) l.folds) l.initial.values
