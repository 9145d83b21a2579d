use Rattle.std.proofs.Common.{◌≡◌, ◌∙◌, ℕ, sym, ap, subst, arith}
use Rattle.board.specs.Weights.{WeightsModel, unit_rule}
use Rattle.board.specs.Moves.{Moves}
use Rattle.board_lists.specs.Walks.{IsWalkedTo}
use Rattle.board_lists.proofs.WalkLemmas.{IsUnderWay-none, IsUnderWay-more}
use Rattle.board_lists.proofs.walks.walk.Goals as goal

pub moves-init : goal.moves-init
moves-init c = (IsUnderWay-none c.args.goal.now, c.unit-weights.ensures ∙ ap unit_rule c.shape.ensures.value)

pub step-requires : goal.step-requires
step-requires c = ap (λ (r : WeightsModel). r.grid) c.moves.invariant.1 ∙ sym c.moves.invariant.0.grid

pub moves-preserved : goal.moves-preserved
moves-preserved c =
    let made = (c.step.ensures.moves c.unwrap-board.result.0 c.unwrap-board.result.1).0 c.unwrap-board.ensures in
    let by_rule = subst (λ (r : WeightsModel). Moves r c.moves.board c.draw_move-direction.result c.unwrap-board.result.0 c.unwrap-board.result.1) c.moves.invariant.1 made in
    (IsUnderWay-more c.args.goal.now c.moves.counter c.moves.board c.moves.last c.draw_move-direction.result c.unwrap-board.result.0 c.unwrap-board.result.1 c.moves.invariant.0 c.draw_move-direction.ensures by_rule, c.moves.invariant.1)

pub returns-clause-walked : goal.returns-clause-walked
returns-clause-walked c =
    let all : c.moves.counter ≡ c.args.moves = omega arith in
    subst (λ (n : ℕ). IsWalkedTo c.args.goal.now n c.moves.board) all c.moves.invariant.0.walked
