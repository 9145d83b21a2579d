use Rattle.std.specs.Prelude.{◌≡◌, ◌≤◌, map}
use Rattle.board.specs.Shapes.{cell_count}
use Rattle.owners.specs.Owners.{hash_by}
use Rattle.owners.proofs.OwnerLemmas.{below}
use Rattle.owners.proofs.zobrist.hash_board.Given as goal

-- the tiles before this one are hashed
abbrev pub invariant-tiles : goal.invariant-tiles
invariant-tiles g l = record {
  some : 1 ≤ l.tile;
  hashed : l.hash ≡ hash_by (g.W.Words.word_on (cell_count l.board.grid)) 0 (map (below l.tile) l.board.tiles);
}
