use Rattle.std.proofs.Common.{◌≡◌, map, take}
use Rattle.std.specs.Prelude.{slice_index}
use Rattle.pattern_graph.proofs.graph.pick_cells.Given as goal

abbrev pub invariant-tiles : goal.invariant-tiles
invariant-tiles l = take l.place l.cells ≡ map (slice_index l.numbers) (take l.place l.tiles)
