use Rattle.std.proofs.Common.{◌≡◌, ◌-◌, ◌*◌, ◌≤◌}
use Rattle.pattern_index.specs.Ranks.{ways}
use Rattle.pattern_index.specs.declared.group.TheConstants.{MAX_SIZE}
use Rattle.pattern_index.proofs.group.count_ways.Given as goal

abbrev pub invariant-places : goal.invariant-places
invariant-places l = (l.ways * ways (l.cells - l.place) (l.places - l.place) ≡ ways l.cells l.places) × (l.ways ≤ MAX_SIZE)
