use Rattle.std.proofs.Common.{◌≡◌, length}
use Rattle.table_sets.proofs.building.empty_places.Given as goal

abbrev pub invariant-places : goal.invariant-places
invariant-places g l = length l.places.items ≡ l.counter
