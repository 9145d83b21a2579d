use Rattle.std.proofs.Common.{List, ℕ, map, drop}
use Rattle.std.specs.Prelude.{slice_index}
use Rattle.pattern_index.specs.Ranks.{rank_of}
use Rattle.pattern_index.proofs.CellLemmas.{IsRanked}
use Rattle.pattern_index.proofs.cells.rank_tiles.Given as goal

-- the cells that were ranked
abbrev pub invariant-tiles : goal.invariant-tiles
invariant-tiles l = (seen : List ℕ) × IsRanked (rank_of l.count (map (slice_index l.cells) l.fn.tiles)) l.free l.rank l.seen seen (map (slice_index l.cells) (drop l.tile-index l.fn.tiles))
