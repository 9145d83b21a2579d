use Rattle.std.proofs.Common.{◌≡◌, length, map, take}
use Rattle.std.specs.Prelude.{slice_index}
use Rattle.pattern_graph.proofs.slots.place_tiles.Given as goal

-- the tiles before this one are placed
abbrev pub invariant-tiles : goal.invariant-tiles
invariant-tiles l = record {
  size : length l.placed ≡ length l.positions;
  are : take l.tile l.placed ≡ map (slice_index l.cells) (take l.tile l.positions);
}
