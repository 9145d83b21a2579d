use Rattle.std.proofs.Common.{◌≡◌, ◌*◌, ◌≤◌, take, sum_by}
use Rattle.pattern_index.specs.Views.{view_at}
use Rattle.database_build.specs.Tables.{value_in}
use Rattle.pattern_search.specs.declared.finding.TheConstants.{NO_VALUE}
use Rattle.lower_bound.proofs.slides.sum_whole.Given as goal

abbrev pub invariant-tables : goal.invariant-tables
invariant-tables l = record {
  is : l.sum ≡ sum_by (λ table. value_in table (view_at table.selection.tiles l.cells)) (take l.table-index l.tables);
  high : l.sum ≤ NO_VALUE * l.table-index;
}
