use Rattle.std.proofs.Common.{sym, subst}
use Rattle.board.specs.Boards.{IsBoard}
use Rattle.board_lists.proofs.DrawLemmas.{shuffled_front}
use Rattle.board_lists.proofs.draws.shuffle_tiles.Goals as goal

pub unwrap-requires : goal.unwrap-requires
unwrap-requires c = c.from_tiles.ensures.accepted.1 (shuffled_front c.args.goal.now c.shape-shape.result c.cells-cells.result c.tiles_of-tiles.result c.shuffle.new.self _ c.shape-shape.ensures.board c.shape-shape.ensures.value c.cells-cells.ensures.value c.tiles_of-tiles.ensures c.shuffle.ensures.permutation)

pub returns-clause-board : goal.returns-clause-board
returns-clause-board c =
    let is = rw c.unwrap.ensures at c.from_tiles.ensures.value in
    subst IsBoard (sym is) (shuffled_front c.args.goal.now c.shape-shape.result c.cells-cells.result c.tiles_of-tiles.result c.shuffle.new.self _ c.shape-shape.ensures.board c.shape-shape.ensures.value c.cells-cells.ensures.value c.tiles_of-tiles.ensures c.shuffle.ensures.permutation)
