use Rattle.std.proofs.Common.{ap, subst, sym, ◌∙◌}
use Rattle.board.specs.Shapes.{ShapeModel}
use Rattle.board.specs.Weights.{weight_of}
use Rattle.board.proofs.StepLemmas.{moves_from}
use Rattle.search_keys.specs.SearchKeys.{HasSearchKey}
use Rattle.search_keys.proofs.SearchKeyLemmas.{stepped}
use Rattle.search_keys.proofs.keyed.KeyedBoard.step.Goals as goal

pub returns-clause-value : goal.returns-clause-value
returns-clause-value c =
    let has = subst (λ (grid : ShapeModel). HasSearchKey grid c.slide-slid.result.key c.of_key-board.result) c.shape-shape.ensures.value c.of_key-board.ensures in
    let to = sym (sym c.in_ok-to.was ∙ c.neighbour.ensures.value) in
    stepped c.args.weights.now c.args.self.now c.of_key-board.result c.args.direction c.in_ok-to.to c.slide-slid.result.key c.of.result (rw (← c.shape-shape.ensures.value, ← c.blank.ensures.value) to) c.slide-slid.ensures.key c.slide-slid.ensures.board has (c.of.ensures.value ∙ ap (weight_of c.args.weights.now) c.slide-slid.ensures.tile)

pub returns-clause-moves : goal.returns-clause-moves
returns-clause-moves c = moves_from c.args.weights.now c.args.self.now c.args.direction _ c.blank.ensures.board (returns-clause-value c)
