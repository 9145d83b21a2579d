use Rattle.std.proofs.Common.{◌≡◌, ◌++◌, take}
use Rattle.std.specs.List.{flat_map}
use Rattle.drawings.specs.Drawings.{at_right, tile_cell_text}
use Rattle.drawings.proofs.bands.push_tiles.Given as goal

abbrev pub invariant-tiles : goal.invariant-tiles
invariant-tiles l = l.text.items ≡ l.fn.text.items ++ flat_map (λ tile. at_right 3 (tile_cell_text tile)) (take l.tile-index l.tiles)
