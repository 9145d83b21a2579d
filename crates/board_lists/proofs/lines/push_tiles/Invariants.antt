use Rattle.std.proofs.Common.{◌≡◌, ◌≤◌, ◌+◌, ◌*◌, ◌++◌, length, take}
use Rattle.std.specs.List.{flat_map}
use Rattle.board_lists.specs.Lines.{tile_text}
use Rattle.board_lists.proofs.lines.push_tiles.Given as goal

abbrev pub invariant-tiles : goal.invariant-tiles
invariant-tiles l = (l.line.items ≡ l.fn.line.items ++ flat_map tile_text (take l.tile-index l.tiles)) × (length l.line.items ≤ length l.fn.line.items + 4 * l.tile-index)
