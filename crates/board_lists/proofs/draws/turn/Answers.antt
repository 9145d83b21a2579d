use Rattle.std.proofs.Common.{◌≡◌, ◌≤◌, ℕ, ap, sym, subst, ◌∙◌}
use Rattle.board.specs.Shapes.{cell_count}
use Rattle.board.specs.Boards.{BoardModel, IsBoard}
use Rattle.board.specs.Classes.{SameClass}
use Rattle.board_lists.specs.Classes.{in_other_class}
use Rattle.board_lists.proofs.DrawLemmas.{tiled, turned_front, turned_class}
use Rattle.board_lists.proofs.draws.turn.Goals as goal

pub unwrap-requires : goal.unwrap-requires
unwrap-requires c = c.from_tiles.ensures.accepted.1 (turned_front c.args.board.now c.shape-shape.result c.cells-cells.result c.tiles_of-tiles.result c.exchange.new.tiles _ c.shape-shape.ensures.board c.shape-shape.ensures.value c.cells-cells.ensures.value c.cells-cells.ensures.low c.tiles_of-tiles.ensures c.exchange.ensures).0

pub returns-clause-board : goal.returns-clause-board
returns-clause-board c =
    let is = rw c.unwrap.ensures at c.from_tiles.ensures.value in
    subst IsBoard (sym is) (turned_front c.args.board.now c.shape-shape.result c.cells-cells.result c.tiles_of-tiles.result c.exchange.new.tiles _ c.shape-shape.ensures.board c.shape-shape.ensures.value c.cells-cells.ensures.value c.cells-cells.ensures.low c.tiles_of-tiles.ensures c.exchange.ensures).0

pub returns-clause-class : goal.returns-clause-class
returns-clause-class c =
    let is = rw c.unwrap.ensures at c.from_tiles.ensures.value in
    let tiles = ap (λ (b : BoardModel). b.tiles) is ∙ (turned_front c.args.board.now c.shape-shape.result c.cells-cells.result c.tiles_of-tiles.result c.exchange.new.tiles _ c.shape-shape.ensures.board c.shape-shape.ensures.value c.cells-cells.ensures.value c.cells-cells.ensures.low c.tiles_of-tiles.ensures c.exchange.ensures).1 in
    let grid = ap (λ (b : BoardModel). b.grid) is ∙ c.shape-shape.ensures.value in
    let whole : c.unwrap.result ≡ tiled c.args.board.now (in_other_class c.args.board.now.tiles) = λ i. record { grid = grid i; tiles = tiles i } in
    let low = c.cells-cells.ensures.low in
    let some : 4 ≤ cell_count c.args.board.now.grid = subst (λ (n : ℕ). 4 ≤ n) (c.cells-cells.ensures.value ∙ ap cell_count c.shape-shape.ensures.value) low in
    λ q other. subst (λ (p : BoardModel). SameClass p q) (sym whole) (turned_class c.args.board.now q c.shape-shape.ensures.board some other)
