use Rattle.std.proofs.Common.{◌∙◌, ap, length-take-le, List, ℕ}
use Rattle.board.specs.Boards.{BoardModel}
use Rattle.board_lists.proofs.ClassLemmas.{listed_front}
use Rattle.board_lists.proofs.lists.board_at.Goals as goal

pub unwrap-requires : goal.unwrap-requires
unwrap-requires c =
    c.from_tiles.ensures.accepted.1 (listed_front c.args.shape c.cells-cells.result _ c.args.place c.list_cells.new.list _ c.cells-cells.ensures.sides c.cells-cells.ensures.value (length-take-le c.cells-cells.result _ c.cells-cells.ensures.high) c.requires c.list_cells.ensures).0

pub returns : goal.returns
returns c =
    let is = rw c.unwrap.ensures at c.from_tiles.ensures.value in
    let tiles = (listed_front c.args.shape c.cells-cells.result _ c.args.place c.list_cells.new.list _ c.cells-cells.ensures.sides c.cells-cells.ensures.value (length-take-le c.cells-cells.result _ c.cells-cells.ensures.high) c.requires c.list_cells.ensures).1 in
    let with_tiles : List ℕ → BoardModel = λ (l : List ℕ). record { grid = c.args.shape; tiles = l } in
    is ∙ ap with_tiles tiles
