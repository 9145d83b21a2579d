use Rattle.std.proofs.Common.{◌≡◌, map, Some, Ok}
use Rattle.table_sets.proofs.building.take_tables.Given as goal

abbrev pub invariant-places : goal.invariant-places
invariant-places g l = l.yielded ≡ map (λ table. Some (Ok table)) l.tables.items
