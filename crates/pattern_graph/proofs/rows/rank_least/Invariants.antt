use Rattle.std.proofs.Common.{◌≡◌, length, map}
use Rattle.std.specs.List.{range_with_len}
use Rattle.pattern_graph.proofs.RowLemmas.{at_place}
use Rattle.pattern_graph.proofs.rows.rank_least.Given as goal

-- the places before this one have their values
abbrev pub invariant-places : goal.invariant-places
invariant-places l = record {
  all : length l.list ≡ 9;
  are : l.values.items ≡ map (at_place l.group l.least) (range_with_len 0 l.place);
}
