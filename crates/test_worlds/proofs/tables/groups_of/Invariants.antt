use Rattle.std.proofs.Common.{◌≡◌}
use Rattle.std.specs.Prelude.{All}
use Rattle.test_worlds.proofs.tables.groups_of.Given as goal

abbrev pub invariant-groups : goal.invariant-groups
invariant-groups l = All (λ g. g.grid ≡ l.shape) l.groups.items
