use Rattle.std.proofs.Common.{◌≡◌, drop}
use Rattle.pattern_index.specs.Views.{weight_on}
use Rattle.pattern_index.proofs.group.weight_on.Given as goal

abbrev pub invariant-loop-i : goal.invariant-loop-i
invariant-loop-i l = weight_on l.weights l.tiles l.cells l.cell ≡ weight_on l.weights (drop l.i l.tiles) (drop l.i l.cells) l.cell
