use Rattle.std.proofs.Common.{◌≡◌, take, length}
use Rattle.lower_bound.specs.Tables.{AreTablesOf}
use Rattle.lower_bound.proofs.bound.are_tables_of.Given as goal

abbrev pub invariant-tables : goal.invariant-tables
invariant-tables l = record {
  same : AreTablesOf (take l.i l.groups) (take l.i l.tables);
  count : length l.tables ≡ length l.groups;
}
