use Rattle.std.proofs.Common.{◌≡◌, ◌+◌, List, [], ◌∷◌, sym, ap, ◌∙◌, subst, arith}
use Rattle.std.specs.Prelude.{reverse}
use Rattle.std.proofs.lemmas.List.{reverse-append}
use Rattle.board.specs.declared.moves.Move.{Move}
use Rattle.board.specs.Boards.{BoardModel}
use Rattle.board.specs.Plans.{Leads}
use Rattle.world_model.specs.Worlds.{WorldState}
use Rattle.world_model.specs.Outcomes.{IsByLastMoves}
use Rattle.world_ends.specs.Parts.{task_asked, states_of, HasParts}
use Rattle.world_ends.proofs.PartLemmas.{before_is, differs, same_as, traced_more}
use Rattle.world_ends.proofs.plan.plan_back.Goals as goal

pub step_back-before-requires-clause-reached : goal.step_back-before-requires-clause-reached
step_back-before-requires-clause-reached g c κs within =
    let now = c.boards.invariant in
    before_is (task_asked c.args.asked.now) (g.S.Spread.owner_of c.args.owners.now) (states_of c.args.workers.now) c.requires.world.0 c.requires.world.1 c.boards.board c.boards.here now.board now.found (differs c.boards.board c.args.asked.now.start (sym c.boards-test.true ∙ (rw c.new-start.ensures at c.ne.ensures)))

pub boards-preserved : goal.boards-preserved
boards-preserved g c =
    let task = task_asked c.args.asked.now in
    let owner_among = g.S.Spread.owner_of c.args.owners.now in
    let states = states_of c.args.workers.now in
    let now = c.boards.invariant in
    let back = c.step_back-before.ensures in
    let before = c.step_back-before.result.0 in
    let cost = c.step_back-before.result.1 in
    let plan : List Move = reverse c.boards.backwards.items in
    let more : reverse c.push.new.items.items ≡ c.boards.here.via ∷ plan = ap (λ (ms : List Move). reverse ms) c.in_ok-push.ensures.items ∙ reverse-append c.boards.backwards.items (c.boards.here.via ∷ []) in
    let traced : (w : WorldState) → HasParts task owner_among states w → IsByLastMoves w before (c.boards.here.via ∷ plan) task.goal = traced_more task owner_among states before c.boards.board cost c.boards.here plan now.board now.found back.before.moves now.traced in
    let leads : Leads c.args.asked.now.weights before (c.boards.here.via ∷ plan) c.args.asked.now.goal (c.boards.cost + cost) = (c.boards.board, cost, c.boards.cost, back.before.moves, now.leads, omega arith) in
    record {
      board = back.before.board;
      found = back.before.known;
      leads = subst (λ (ms : List Move). Leads c.args.asked.now.weights before ms c.args.asked.now.goal (c.boards.cost + cost)) (sym more) leads;
      within = omega (arith, now.within, back.before.cheaper);
      still = λ same. absurd (differs c.boards.board c.args.asked.now.start (sym c.boards-test.true ∙ (rw c.new-start.ensures at c.ne.ensures)) (now.still same));
      traced = λ w parts. subst (λ (ms : List Move). IsByLastMoves w before ms c.args.asked.now.goal) (sym more) (traced w parts);
    }

pub returns-in_err-push-clause-free : goal.returns-in_err-push-clause-free
returns-in_err-push-clause-free g c same = absurd (differs c.boards.board c.args.asked.now.start (sym c.boards-test.true ∙ (rw c.new-start.ensures at c.ne.ensures)) (c.boards.invariant.still same))

pub returns-clause-plan : goal.returns-clause-plan
returns-clause-plan g c =
    let now = c.boards.invariant in
    let start : c.boards.board ≡ c.args.asked.now.start = same_as c.boards.board c.args.asked.now.start (sym c.boards-test.false ∙ (rw c.new-start.ensures at c.ne.ensures)) in
    let is = c.reverse.ensures.items in
    record {
      leads = subst (λ (ms : List Move). Leads c.args.asked.now.weights c.args.asked.now.start ms c.args.asked.now.goal c.boards.cost) (sym is) (subst (λ (b : BoardModel). Leads c.args.asked.now.weights b (reverse c.boards.backwards.items) c.args.asked.now.goal c.boards.cost) start now.leads);
      within = omega (arith, now.within);
      traced = λ w parts. subst (λ (ms : List Move). IsByLastMoves w c.args.asked.now.start ms c.args.asked.now.goal) (sym is) (subst (λ (b : BoardModel). IsByLastMoves w b (reverse c.boards.backwards.items) c.args.asked.now.goal) start (now.traced w parts));
    }
