use Rattle.std.proofs.Common.{◌+◌, ◌*◌, take}
use Rattle.pattern_graph.specs.Edges.{HasFound}
use Rattle.pattern_graph.proofs.edges.add_edges.Given as goal

-- the edges of the tiles done
abbrev pub invariant-tiles : goal.invariant-tiles
invariant-tiles l = HasFound l.regions (take l.regions.count l.cells) l.region (l.tile * 4) l.initial.edges.items l.edges.items

-- and those of one tile more, in the directions done
abbrev pub invariant-moves : goal.invariant-moves
invariant-moves l = HasFound l.regions (take l.regions.count l.cells) l.region (l.tile * 4 + l.direction-index) l.fn.edges.items l.edges.items
