use Rattle.std.proofs.Common.{◌≡◌, ℕ, refl, sym, ap, ◌∙◌, subst, Option, Some, arith}
use Rattle.std.specs.Prelude.{unwrap_or}
use Rattle.board.specs.Boards.{BoardModel}
use Rattle.board.specs.Moves.{Moves}
use Rattle.world_model.specs.declared.parts.Known.{Known}
use Rattle.world_model.specs.Workers.{IsTaskBoard}
use Rattle.world_ends.specs.Parts.{task_asked, states_of, known_in}
use Rattle.world_ends.proofs.PartLemmas.{stepped_back, some_is, found_before, known_by_answer}
use Rattle.world_ends.proofs.plan.step_back.Goals as goal

pub unwrap-before-requires : goal.unwrap-before-requires
unwrap-before-requires g c =
    let has = c.requires.reached in
    let is : c.step.result ≡ Some (has.0, has.1) = stepped_back c.args.asked.now.weights c.args.board.now c.args.here.via c.undo.result c.step.result has.0 has.1 c.undo.ensures c.step.ensures.moves has.3.board.0 has.3.moves in
    rw is refl

pub unwrap-there-requires : goal.unwrap-there-requires
unwrap-there-requires g c =
    let has = c.requires.reached in
    let is : c.step.result ≡ Some (has.0, has.1) = stepped_back c.args.asked.now.weights c.args.board.now c.args.here.via c.undo.result c.step.result has.0 has.1 c.undo.ensures c.step.ensures.moves has.3.board.0 has.3.moves in
    let same = some_is c.step.result c.unwrap-before.result (has.0, has.1) c.unwrap-before.ensures is in
    let at = known_in (g.S.Spread.owner_of c.args.owners.now) (states_of c.args.workers.now) in
    let there : c.known_by_key.result ≡ Some has.2 = found_before at c.known_by_key.result c.unwrap-before.result (has.0, has.1) has.2 c.known_by_key.ensures same has.3.known in
    rw there refl

pub returns-clause-before : goal.returns-clause-before
returns-clause-before g c =
    let has = c.requires.reached in
    let is : c.step.result ≡ Some (has.0, has.1) = stepped_back c.args.asked.now.weights c.args.board.now c.args.here.via c.undo.result c.step.result has.0 has.1 c.undo.ensures c.step.ensures.moves has.3.board.0 has.3.moves in
    let same = some_is c.step.result c.unwrap-before.result (has.0, has.1) c.unwrap-before.ensures is in
    let at = known_in (g.S.Spread.owner_of c.args.owners.now) (states_of c.args.workers.now) in
    let there : c.known_by_key.result ≡ Some has.2 = found_before at c.known_by_key.result c.unwrap-before.result (has.0, has.1) has.2 c.known_by_key.ensures same has.3.known in
    let cost : c.unwrap-there.result.cost ≡ has.2.cost = ap (λ (o : Option Known). (unwrap_or o has.2).cost) (sym c.unwrap-there.ensures ∙ there) in
    let paid : c.unwrap-before.result.1 ≡ has.1 = ap (λ (p : BoardModel × ℕ). p.1) same in
    record {
      board = subst (λ (p : BoardModel × ℕ). IsTaskBoard (task_asked c.args.asked.now) p.0) (sym same) has.3.board;
      moves = subst (λ (p : BoardModel × ℕ). Moves c.args.asked.now.weights p.0 c.args.here.via c.args.board.now p.1) (sym same) has.3.moves;
      known = known_by_answer c.known_by_key.result (at c.unwrap-before.result.0) c.unwrap-there.result c.known_by_key.ensures c.unwrap-there.ensures;
      cheaper = omega (arith, cost, paid, has.3.cheaper);
    }
