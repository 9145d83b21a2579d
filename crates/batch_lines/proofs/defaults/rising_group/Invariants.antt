use Rattle.std.proofs.Common.{◌≡◌}
use Rattle.std.specs.List.{range_with_len}
use Rattle.batch_lines.proofs.defaults.rising_group.Given as goal

abbrev pub invariant-tiles : goal.invariant-tiles
invariant-tiles l = l.tiles.items ≡ range_with_len l.first l.place
