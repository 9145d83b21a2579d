use Rattle.std.proofs.Common.{◌≡◌, ◌∙◌, length, get_or, refl, ap, arith}
use Rattle.std.proofs.lemmas.List.{length-set}
use Rattle.board.proofs.TileLemmas.{has_cell}
use Rattle.pattern_index.proofs.GroupLemmas.{cells_high}
use Rattle.pattern_index.proofs.StorageLemmas.{met_more, met_no_other, zeros_are_0}
use Rattle.pattern_index.proofs.view.cells_of.Goals as goal

pub cells-init : goal.cells-init
cells-init c = (refl, λ number low less. absurd (omega (arith, less)), λ number high. zeros_are_0 25 number)

pub cells-preserved : goal.cells-preserved
cells-preserved c = (
  length-set c.cells.cells (get_or c.tiles-tile-items.result.now c.cells.cell 0) c.cells.cell ∙ c.cells.invariant.0,
  met_more c.args.board.now c.tiles-tile-items.result.now c.cells.cells c.cells.cell c.tiles-tile-items.ensures.board c.tiles-tile-items.ensures.value c.cells-test.true (omega (arith, c.cells.invariant.0, cells_high c.args.board.now.grid c.tiles-tile-items.ensures.board.sides)) c.cells.invariant.1,
  met_no_other c.args.board.now c.tiles-tile-items.result.now c.cells.cells c.cells.cell c.tiles-tile-items.ensures.board c.tiles-tile-items.ensures.value c.cells-test.true c.cells.invariant.2,
)

pub returns-clause-cells : goal.returns-clause-cells
returns-clause-cells c = λ number low.
    let found = has_cell c.args.board.now c.tiles-tile-items.ensures.board number low in
    let all : length c.tiles-tile-items.result.now ≡ length c.args.board.now.tiles = ap length c.tiles-tile-items.ensures.value in
    c.cells.invariant.1 number low (omega (arith, found.0, c.cells-test.false, c.tiles-tile-items.ensures.board.one_each))
