use Rattle.std.proofs.Common.{◌≡◌, ℕ, get_or, sym, ap, ◌∙◌, subst}
use Rattle.std.proofs.lemmas.Option.{get_or_from_slice_get}
use Rattle.board.specs.Boards.{blank_of}
use Rattle.lower_bound.specs.Folded.{KeepsOtherTiles}
use Rattle.test_kernels.proofs.parts.moved.Goals as goal

pub parts_after-requires-clause-before : goal.parts_after-requires-clause-before
parts_after-requires-clause-before c =
    let moves = (c.step.ensures.moves c.in_ok-board.board c.in_ok-board.field-0-1).0 c.in_ok-board.was in
    let tile : get_or c.args.before.now.tiles (blank_of c.in_ok-board.board) 0 ≡ c.tile-tile.result =
    ap (λ (cell : ℕ). get_or c.args.before.now.tiles cell 0) (sym c.blank.ensures.value) ∙ get_or_from_slice_get c.args.before.now.tiles c.blank.result c.tile-tile.result 0 c.tile-tile.ensures.value in
    let stand = c.moves_move_one_tile.ensures c.args.weights.now c.args.before.now c.args.direction c.in_ok-board.board c.in_ok-board.field-0-1 c.shape.ensures.board moves in
    (c.args.before.now, subst (λ (t : ℕ). KeepsOtherTiles c.args.before.now c.in_ok-board.board t) tile stand, c.requires.parts)
