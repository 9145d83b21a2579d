use Rattle.std.specs.Prelude.{All}
use Rattle.database_build.specs.Tables.{value_in, IsPotential}
use Rattle.test_worlds.proofs.tables.bound_of.Given as goal

abbrev pub invariant-tables : goal.invariant-tables
invariant-tables l = All (λ table. IsPotential l.weights table.selection.tiles l.goal (value_in table)) l.tables.items
