use Rattle.std.proofs.Common.{◌≡◌, map}
use Rattle.std.specs.Prelude.{All}
use Rattle.std.specs.List.{range_with_len}
use Rattle.batch_lines.specs.Defaults.{default_tiles}
use Rattle.batch_lines.proofs.defaults.default_groups.Given as goal

abbrev pub invariant-groups : goal.invariant-groups
invariant-groups l = record {
  of_grid : All (λ g. g.grid ≡ l.shape) l.groups.items;
  tiles : map (λ g. g.tiles) l.groups.items ≡ map (default_tiles l.cells l.size) (range_with_len 0 l.place);
}
