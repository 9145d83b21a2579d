use Rattle.std.proofs.Common.{◌≡◌, ◌-◌, ◌+◌, ◌<◌, Some, sym, ◌∙◌, subst, arith}
use Rattle.board.specs.Shapes.{ShapeModel, cell_count}
use Rattle.board.specs.Neighbours.{neighbour}
use Rattle.board.specs.Boards.{BoardModel, blank_of}
use Rattle.board.specs.Keys.{key_of}
use Rattle.board.specs.Moves.{blank_exchange}
use Rattle.board.proofs.MoveLemmas.{cell_below}
use Rattle.lower_bound.specs.Slides.{AreCellsOf, HasCells}
use Rattle.lower_bound.specs.Tables.{parts_of}
use Rattle.successor_sums.proofs.MoveLemmas.{fits_grid, led_to, some_told}
use Rattle.successor_sums.proofs.unpacked.UnpackedBoard.successor.Goals as goal

pub overflow_sub-behind : goal.overflow_sub-behind
overflow_sub-behind c =
    let low = cell_below c.self.inside.shape c.args.direction c.blank-from.result c.in_ok-to.to ((c.neighbour.ensures.towards c.in_ok-to.to).0 c.in_ok-to.was) in
    let count = c.cells-last.ensures.value in
    omega (arith, low, count)

pub exchange-requires : goal.exchange-requires
exchange-requires c =
    let led = led_to c.self.inside c.args.self.now c.args.direction c.cells-last.result c.blank-from.result c.in_ok-to.to c.digit_of-tile.result c.self.invariant c.self.view_is c.cells-last.ensures.value c.blank-from.ensures.value ((c.neighbour.ensures.towards c.in_ok-to.to).0 c.in_ok-to.was) c.digit_of-tile.ensures in
    led.small

pub overflow_sub-result : goal.overflow_sub-result
overflow_sub-result c =
    let led = led_to c.self.inside c.args.self.now c.args.direction c.cells-last.result c.blank-from.result c.in_ok-to.to c.digit_of-tile.result c.self.invariant c.self.view_is c.cells-last.ensures.value c.blank-from.ensures.value ((c.neighbour.ensures.towards c.in_ok-to.to).0 c.in_ok-to.was) c.digit_of-tile.ensures in
    omega (arith, led.key_low, c.digit_at.ensures)

pub overflow_add-result : goal.overflow_add-result
overflow_add-result c =
    let led = led_to c.self.inside c.args.self.now c.args.direction c.cells-last.result c.blank-from.result c.in_ok-to.to c.digit_of-tile.result c.self.invariant c.self.view_is c.cells-last.ensures.value c.blank-from.ensures.value ((c.neighbour.ensures.towards c.in_ok-to.to).0 c.in_ok-to.was) c.digit_of-tile.ensures in
    let key : c.self.inside.key - c.digit_at.result + c.digit_at-2.result ≡ key_of (blank_exchange c.args.self.now c.in_ok-to.to) = (λ i. c.self.inside.key - c.digit_at.ensures i + c.digit_at-2.ensures i) ∙ led.key_is in
    let low = led.key_fits in
    omega arith

pub of-requires-clause-tile : goal.of-requires-clause-tile
of-requires-clause-tile c =
    let led = led_to c.self.inside c.args.self.now c.args.direction c.cells-last.result c.blank-from.result c.in_ok-to.to c.digit_of-tile.result c.self.invariant c.self.view_is c.cells-last.ensures.value c.blank-from.ensures.value ((c.neighbour.ensures.towards c.in_ok-to.to).0 c.in_ok-to.was) c.digit_of-tile.ensures in
    led.tile_some

pub of-requires-clause-within : goal.of-requires-clause-within
of-requires-clause-within c =
    let led = led_to c.self.inside c.args.self.now c.args.direction c.cells-last.result c.blank-from.result c.in_ok-to.to c.digit_of-tile.result c.self.invariant c.self.view_is c.cells-last.ensures.value c.blank-from.ensures.value ((c.neighbour.ensures.towards c.in_ok-to.to).0 c.in_ok-to.was) c.digit_of-tile.ensures in
    subst (λ (g : ShapeModel). c.digit_of-tile.result < cell_count g) (sym c.requires.rule) led.tile_low

pub sum_at-requires : goal.sum_at-requires
sum_at-requires c =
    let led = led_to c.self.inside c.args.self.now c.args.direction c.cells-last.result c.blank-from.result c.in_ok-to.to c.digit_of-tile.result c.self.invariant c.self.view_is c.cells-last.ensures.value c.blank-from.ensures.value ((c.neighbour.ensures.towards c.in_ok-to.to).0 c.in_ok-to.was) c.digit_of-tile.ensures in
    let has : HasCells c.args.bound.now.split.grid c.exchange.new.cells (blank_exchange c.args.self.now c.in_ok-to.to) = record { board = led.board; sides = sym c.requires.bound; listed = subst (AreCellsOf (blank_exchange c.args.self.now c.in_ok-to.to)) (sym c.exchange.ensures) led.cells } in
    (blank_exchange c.args.self.now c.in_ok-to.to, has)

pub returns-clause-value : goal.returns-clause-value
returns-clause-value c =
    let led = led_to c.self.inside c.args.self.now c.args.direction c.cells-last.result c.blank-from.result c.in_ok-to.to c.digit_of-tile.result c.self.invariant c.self.view_is c.cells-last.ensures.value c.blank-from.ensures.value ((c.neighbour.ensures.towards c.in_ok-to.to).0 c.in_ok-to.was) c.digit_of-tile.ensures in
    let key : c.self.inside.key - c.digit_at.result + c.digit_at-2.result ≡ key_of (blank_exchange c.args.self.now c.in_ok-to.to) = (λ i. c.self.inside.key - c.digit_at.ensures i + c.digit_at-2.ensures i) ∙ led.key_is in
    let has : HasCells c.args.bound.now.split.grid c.exchange.new.cells (blank_exchange c.args.self.now c.in_ok-to.to) = record { board = led.board; sides = sym c.requires.bound; listed = subst (AreCellsOf (blank_exchange c.args.self.now c.in_ok-to.to)) (sym c.exchange.ensures) led.cells } in
    let found : neighbour c.args.self.now.grid c.args.direction (blank_of c.args.self.now) ≡ Some c.in_ok-to.to = (λ i. neighbour (sym c.self.view_is i).grid c.args.direction (sym c.blank-from.ensures.value i)) ∙ sym c.neighbour.ensures.value ∙ c.in_ok-to.was in
    some_told c.args.weights.now (parts_of c.args.bound.now) c.args.self.now c.args.direction c.self.inside c.cells-last.result c.blank-from.result (record { key = c.self.inside.key - c.digit_at.result + c.digit_at-2.result; cell = c.in_ok-to.to; tile = c.digit_of-tile.result; cost = c.of.result; sum = c.sum_at.result }) led found key c.of.ensures.value (c.sum_at.ensures.value (blank_exchange c.args.self.now c.in_ok-to.to) has)

pub returns-clause-fit : goal.returns-clause-fit
returns-clause-fit c =
    let led = led_to c.self.inside c.args.self.now c.args.direction c.cells-last.result c.blank-from.result c.in_ok-to.to c.digit_of-tile.result c.self.invariant c.self.view_is c.cells-last.ensures.value c.blank-from.ensures.value ((c.neighbour.ensures.towards c.in_ok-to.to).0 c.in_ok-to.was) c.digit_of-tile.ensures in
    let key : c.self.inside.key - c.digit_at.result + c.digit_at-2.result ≡ key_of (blank_exchange c.args.self.now c.in_ok-to.to) = (λ i. c.self.inside.key - c.digit_at.ensures i + c.digit_at-2.ensures i) ∙ led.key_is in
    let low = cell_below c.self.inside.shape c.args.direction c.blank-from.result c.in_ok-to.to ((c.neighbour.ensures.towards c.in_ok-to.to).0 c.in_ok-to.was) in
    fits_grid c.args.weights.now (parts_of c.args.bound.now) c.args.self.now c.args.direction c.self.inside c.cells-last.result c.blank-from.result (record { key = c.self.inside.key - c.digit_at.result + c.digit_at-2.result; cell = c.in_ok-to.to; tile = c.digit_of-tile.result; cost = c.of.result; sum = c.sum_at.result }) led key (subst (λ (p : BoardModel). c.in_ok-to.to < cell_count p.grid) c.self.view_is low) c.of.ensures.low c.of.ensures.high c.sum_at.ensures.high
