use Rattle.std.proofs.Common.{◌≡◌, ◌<◌, ◌≤◌, Some, refl, sym, ap, ◌∙◌, drop, arith}
use Rattle.std.proofs.lemmas.List.{take_rest}
use Rattle.std.specs.Prelude.{option_map}
use Rattle.board.specs.Shapes.{cell_count}
use Rattle.board.specs.Neighbours.{neighbour}
use Rattle.board.proofs.MoveLemmas.{cell_below}
use Rattle.pattern_index.specs.Views.{weight_on}
use Rattle.pattern_index.specs.Groups.{view_successor_at, abstraction_of}
use Rattle.pattern_index.proofs.ViewMoveLemmas.{moved_view, blank_inside, sight_moves_from}
use Rattle.pattern_index.proofs.GroupLemmas.{cells_high}
use Rattle.pattern_index.proofs.group.Group.step.Goals as goal

pub overflow_cast-to : goal.overflow_cast-to
overflow_cast-to c =
    let lies = (c.neighbour.ensures.towards c.in_ok-to.to).0 c.in_ok-to.was in
    let low : c.in_ok-to.to < cell_count c.shape.result = cell_below c.shape.result c.args.direction c.blank.result c.in_ok-to.to lies in
    let same : cell_count c.shape.result ≡ cell_count c.args.self.now.grid = ap cell_count c.shape.ensures.value in
    let high : cell_count c.args.self.now.grid ≤ 25 = cells_high c.args.self.now.grid c.shape.ensures.group.sides in
    omega arith

pub returns-clause-value : goal.returns-clause-value
returns-clause-value c =
    let there : neighbour c.args.self.now.grid c.args.direction c.args.view.now.blank ≡ Some c.in_ok-to.to = sym (sym c.in_ok-to.was ∙ c.neighbour.ensures.value ∙ (λ i. neighbour (c.shape.ensures.value i) c.args.direction (c.blank.ensures i))) in
    let cost : c.weight_on-cost.result ≡ weight_on c.args.weights.now c.args.self.now.tiles c.args.view.now.cells c.in_ok-to.to =
    c.weight_on-cost.ensures.value
    ∙ (λ i. weight_on c.args.weights.now (c.tiles.ensures.value i) (take_rest c.cells.result.now 1 i) c.in_ok-to.to)
    ∙ ap (λ xs. weight_on c.args.weights.now c.args.self.now.tiles (drop 1 xs) c.in_ok-to.to) c.cells.ensures
    in
    sym (ap (option_map (view_successor_at (abstraction_of c.args.self.now c.args.weights.now) c.args.view.now)) there ∙ (λ i. Some (sym c.moved_to.ensures i, sym cost i)))

pub returns-clause-moves : goal.returns-clause-moves
returns-clause-moves c =
    sight_moves_from (abstraction_of c.args.self.now c.args.weights.now) c.args.view.now c.args.direction _ (blank_inside c.args.self.now.grid c.args.self.now.tiles c.args.view.now c.requires.view) (returns-clause-value c)

pub returns-clause-view : goal.returns-clause-view
returns-clause-view c =
    moved_view (abstraction_of c.args.self.now c.args.weights.now) c.args.view.now c.args.direction c.moved_to.result c.weight_on-cost.result c.requires.view ((returns-clause-moves c c.moved_to.result c.weight_on-cost.result).0 refl)
