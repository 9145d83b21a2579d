use Rattle.std.proofs.Common.{ℕ, ◌≡◌, ◌+◌, List, get_or, drop, Option, Some, refl, sym, subst, ◌∙◌, arith}
use Rattle.std.specs.Option.{IsSome}
use Rattle.board.specs.declared.moves.Move.TheVariants.{U}
use Rattle.board.specs.Boards.{BoardModel}
use Rattle.board.specs.Moves.{Moves}
use Rattle.drawings.specs.declared.pictures.Picture.{Picture}
use Rattle.drawings.proofs.StepLemmas.{IsPushed, LeadsOn, next_move, one_more_pushed, all_pushed}
use Rattle.drawings.proofs.pictures.push_steps.Goals as goal

pub unwrap-board-requires : goal.unwrap-board-requires
unwrap-board-requires c =
    let next = next_move c.args.weights.now c.moves.board c.args.plan.now c.moves.direction-index c.moves-test.true c.moves.invariant.leads in
    subst (λ (r : Option (BoardModel × ℕ)). IsSome r) (sym ((c.step.ensures.moves next.0 next.1).1 next.2)) refl

pub moves-preserved : goal.moves-preserved
moves-preserved c =
    let rule = c.args.weights.now in
    let plan = c.args.plan.now in
    let i = c.moves.direction-index in
    let next = next_move rule c.moves.board plan i c.moves-test.true c.moves.invariant.leads in
    let moved = c.unwrap-board.result in
    let is : Some moved ≡ Some (next.0, next.1) = sym c.unwrap-board.ensures ∙ (c.step.ensures.moves next.0 next.1).1 next.2 in
    let same : (next.0, next.1) ≡ moved = cc in
    let leads = subst (λ (b : BoardModel × ℕ). LeadsOn rule b.0 (drop (i + 1) plan)) same next.3 in
    let moves = subst (λ (b : BoardModel × ℕ). Moves rule c.moves.board (get_or plan i U) b.0 b.1) same next.2 in
    let pushed = one_more_pushed rule c.args.start.now plan c.args.pictures.now.items i c.moves.number c.moves.board c.moves.pictures.items moved.0 moved.1 c.moves-test.true c.moves.invariant moves leads in
    subst (λ (ps : List Picture). IsPushed rule c.args.start.now plan c.args.pictures.now.items (i + 1) (c.moves.number + 1) moved.0 ps) (sym c.in_ok-push.ensures.items) pushed

pub returns : goal.returns
returns c = all_pushed c.args.weights.now c.args.start.now c.args.plan.now c.args.pictures.now.items c.moves.direction-index c.moves.number c.moves.board c.moves.pictures.items (omega arith) c.moves.invariant
