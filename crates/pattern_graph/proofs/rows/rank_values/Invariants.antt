use Rattle.std.proofs.Common.{◌≡◌, length}
use Rattle.board.specs.Shapes.{cell_count}
use Rattle.pattern_graph.specs.Placements.{node_value}
use Rattle.pattern_graph.proofs.RowLemmas.{AreRows}
use Rattle.pattern_graph.proofs.rows.rank_values.Given as goal

-- the rows before this one have their values
abbrev pub invariant-rows : goal.invariant-rows
invariant-rows l = record {
  all : length l.list ≡ 9;
  rows : AreRows (cell_count l.group.grid) (length l.group.tiles) (node_value l.regions l.nodes) l.row l.values.items;
}
