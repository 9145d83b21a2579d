use Rattle.std.proofs.Common.{◌≡◌, length}
use Rattle.pattern_graph.proofs.RowLemmas.{AreFound}
use Rattle.pattern_graph.proofs.rows.find_larger.Given as goal

-- the sets before this one have their places
abbrev pub invariant-sets : goal.invariant-sets
invariant-sets l = record {
  all : length l.cells ≡ 9;
  found : AreFound l.regions l.set 0 l.larger.items;
}

-- and with this set the cells before this one
abbrev pub invariant-cells : goal.invariant-cells
invariant-cells l = AreFound l.regions l.set l.cell l.larger.items
