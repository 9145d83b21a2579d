use Rattle.std.proofs.Common.{◌≡◌, ◌≢◌, ℕ, sym, ◌∙◌, ap, subst}
use Rattle.std.proofs.lemmas.List.{get_or-take}
use Rattle.board.specs.Shapes.{cell_count}
use Rattle.board.specs.Boards.{BoardModel, IsBoard, blank_of}
use Rattle.board.specs.Storage.{position_in}
use Rattle.board.specs.declared.boards.Board.TheInside.{Inside}
use Rattle.board.proofs.MoveLemmas.{cell_below, other_cell}
use Rattle.board.proofs.StepLemmas.{tile_above, tile_below, stored_after, board_after, answer_is, moves_from}
use Rattle.board.proofs.boards.Board.step.Goals as goal

-- the blank's cell, by what lies in memory
from_is : (inside : Inside) (b : BoardModel) (from : ℕ) → position_in inside ≡ b → from ≡ blank_of b → from ≡ blank_of (position_in inside)
from_is inside b from view at = at ∙ ap blank_of (sym view)

pub of-requires-clause-tile : goal.of-requires-clause-tile
of-requires-clause-tile c =
    let from = from_is c.self.inside _ _ c.self.view_is c.blank-from.ensures.value in
    let lies = (c.neighbour.ensures.towards c.in_ok-to.to).0 c.in_ok-to.was in
    let within = cell_below c.self.inside.shape c.args.direction c.blank-from.result c.in_ok-to.to lies in
    let other : c.in_ok-to.to ≢ blank_of (position_in c.self.inside) = λ same. other_cell c.self.inside.shape c.args.direction c.blank-from.result c.in_ok-to.to lies (same ∙ sym from) in
    rw (← get_or-take (cell_count c.self.inside.shape) c.self.inside.tiles c.in_ok-to.to 0 within) (tile_above (position_in c.self.inside) c.in_ok-to.to c.self.invariant.board within other)

pub of-requires-clause-within : goal.of-requires-clause-within
of-requires-clause-within c =
    let lies = (c.neighbour.ensures.towards c.in_ok-to.to).0 c.in_ok-to.was in
    let within = cell_below c.self.inside.shape c.args.direction c.blank-from.result c.in_ok-to.to lies in
    let low = tile_below (position_in c.self.inside) c.in_ok-to.to c.self.invariant.board within in
    let same : c.args.weights.now.grid ≡ c.self.inside.shape = c.requires ∙ ap (λ (p : BoardModel). p.grid) (sym c.self.view_is) in
    rw (same, ← get_or-take (cell_count c.self.inside.shape) c.self.inside.tiles c.in_ok-to.to 0 within) low

pub invariant_of-board : goal.invariant_of-board
invariant_of-board c =
    let from = from_is c.self.inside _ _ c.self.view_is c.blank-from.ensures.value in
    let lies = (c.neighbour.ensures.towards c.in_ok-to.to).0 c.in_ok-to.was in
    let within = cell_below c.self.inside.shape c.args.direction c.blank-from.result c.in_ok-to.to lies in
    stored_after c.self.inside c.blank-from.result c.in_ok-to.to c.self.invariant from within

pub returns-clause-value : goal.returns-clause-value
returns-clause-value c =
    let from = from_is c.self.inside _ _ c.self.view_is c.blank-from.ensures.value in
    let lies = (c.neighbour.ensures.towards c.in_ok-to.to).0 c.in_ok-to.was in
    let within = cell_below c.self.inside.shape c.args.direction c.blank-from.result c.in_ok-to.to lies in
    rw (← c.self.view_is) (answer_is c.self.inside c.blank-from.result c.in_ok-to.to c.self.invariant from within c.args.weights.now c.args.direction c.of.result (sym c.in_ok-to.was ∙ c.neighbour.ensures.value) c.of.ensures.value)

pub returns-clause-moves : goal.returns-clause-moves
returns-clause-moves c =
    moves_from c.args.weights.now c.args.self.now c.args.direction _ (subst IsBoard c.self.view_is c.self.invariant.board) (returns-clause-value c)

pub returns-clause-board : goal.returns-clause-board
returns-clause-board c =
    let from = from_is c.self.inside _ _ c.self.view_is c.blank-from.ensures.value in
    let lies = (c.neighbour.ensures.towards c.in_ok-to.to).0 c.in_ok-to.was in
    let within = cell_below c.self.inside.shape c.args.direction c.blank-from.result c.in_ok-to.to lies in
    board_after c.self.inside c.blank-from.result c.in_ok-to.to c.self.invariant from within
