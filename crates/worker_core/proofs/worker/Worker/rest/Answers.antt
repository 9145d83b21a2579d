use Rattle.std.proofs.Common.{rules, ◌≡◌, ◌≢◌, ℕ, List, [], length, Option, Some, None, refl, sym, ap, ◌∙◌, subst, inl, inr}
use Rattle.std.specs.Prelude.{All}
use Rattle.std.specs.FinMap as map
use Rattle.search_keys.specs.SearchKeys.{search_key}
use Rattle.board.specs.Boards.{BoardModel}
use Rattle.world_model.specs.declared.steps.Refusal.{Refusal}
use Rattle.world_model.specs.Costs.{IsNotBelow}
use Rattle.world_model.specs.Turns.{turn}
use Rattle.world_model.specs.Workers.{Packet, KnowsGoalAt}
use Rattle.world_model.specs.BookCalls.{BookRest}
use Rattle.world_model.specs.BookSteps.{AtBook, RestStep}
use Rattle.world_model.proofs.CreditLemmas.{rests}
use Rattle.quiescence.specs.Answers.{account}
use Rattle.worker_core.specs.Workers.{state_of, with_book, packets_of}
use Rattle.worker_core.proofs.GuideLemmas.{rest_left, same_floor, Items, nothing}
use Rattle.worker_core.proofs.worker.Worker.rest.Goals as goal

pub returns-then-knows_better-clause-step : goal.returns-then-knows_better-clause-step
returns-then-knows_better-clause-step g c = λ role guide of_me is.
    let worker = state_of c.args.self.now in
    let runs : c.args.book.now.stop ≢ None → ⊥ = search rules in
    let rich : c.args.self.now.purse ≢ 0 = search rules in
    let better = c.knows_better.ensures.yes (search rules) in
    let knows : KnowsGoalAt role.task worker better.0.cost = (better.0, ap (λ (b : BoardModel). map.get worker.known (search_key b)) of_me.ends ∙ better.1, refl) in
    inr (
      runs,
      inr (
        rich,
        inl (
          λ idle. better.2 (subst (IsNotBelow (Some better.0.cost)) (sym c.best.ensures) (idle.no_better_goal better.0.cost knows)),
          (refl, refl),
        ),
      ),
    )

pub returns-in-Ok-clause-step : goal.returns-in-Ok-clause-step
returns-in-Ok-clause-step g c = λ role guide of_me is.
    let worker = state_of c.args.self.now in
    let zero : length c.args.self.now.held.items ≡ 0 = search rules in
    let held = nothing c.args.self.now.held.items zero in
    let sent = subst (λ (xs : List Items). All (λ (packet : Packet). packet ≡ []) (packets_of xs)) c.deref.ensures.value (c.are_empty.ensures.0 (search rules)) in
    let better : (cost : ℕ) → KnowsGoalAt role.task worker cost → IsNotBelow (Some cost) c.args.book.now.best = λ cost knows.
    subst
    (λ (x : ℕ × Option ℕ). IsNotBelow (Some x.0) x.1)
    (λ t. (knows.2 t, c.best.ensures t))
    (c.knows_better.ensures.no (search rules) knows.0 (ap (λ (b : BoardModel). map.get worker.known (search_key b)) (sym of_me.ends) ∙ knows.1)) in
    let floor = same_floor role.task guide c.args.self.now.lists worker refl is c.floor-floor.result (c.floor-floor.ensures.floor guide is.order) in
    let book' = c.rest.new.self in
    let purse' = c.rest.new.purse in
    let call : BookRest role.me c.floor-floor.result (turn (account c.args.book.now worker.purse) None (account book' purse')) =
    subst (λ (i : ℕ). BookRest i c.floor-floor.result (turn (account c.args.book.now worker.purse) None (account book' purse'))) (sym of_me.me) c.in-Ok.ensures.call in
    subst
    (λ (x : AtBook). RestStep role (turn (with_book worker c.args.book.now) None x))
    (λ t. with_book (record worker { known = (sym c.floor-floor.ensures.closed t).known; purse = purse'; best = sym c.best-self.ensures t }) book')
    (rests role (with_book worker c.args.book.now) c.floor-floor.result None (account book' purse') held sent better floor call)

pub returns-in-Err-clause-step : goal.returns-in-Err-clause-step
returns-in-Err-clause-step g c = λ role guide of_me is.
    let worker = state_of c.args.self.now in
    let zero : length c.args.self.now.held.items ≡ 0 = search rules in
    let held = nothing c.args.self.now.held.items zero in
    let sent = subst (λ (xs : List Items). All (λ (packet : Packet). packet ≡ []) (packets_of xs)) c.deref.ensures.value (c.are_empty.ensures.0 (search rules)) in
    let better : (cost : ℕ) → KnowsGoalAt role.task worker cost → IsNotBelow (Some cost) c.args.book.now.best = λ cost knows.
    subst
    (λ (x : ℕ × Option ℕ). IsNotBelow (Some x.0) x.1)
    (λ t. (knows.2 t, c.best.ensures t))
    (c.knows_better.ensures.no (search rules) knows.0 (ap (λ (b : BoardModel). map.get worker.known (search_key b)) (sym of_me.ends) ∙ knows.1)) in
    let floor = same_floor role.task guide c.args.self.now.lists worker refl is c.floor-floor.result (c.floor-floor.ensures.floor guide is.order) in
    let book' = c.rest.new.self in
    let purse' = c.rest.new.purse in
    let call : BookRest role.me c.floor-floor.result (turn (account c.args.book.now worker.purse) (Some c.in-Err.fault) (account book' purse')) =
    subst (λ (i : ℕ). BookRest i c.floor-floor.result (turn (account c.args.book.now worker.purse) (Some c.in-Err.fault) (account book' purse'))) (sym of_me.me) c.in-Err.ensures.call in
    let left = rest_left role.me c.floor-floor.result (account c.args.book.now worker.purse) (account book' purse') c.in-Err.fault call in
    subst
    (λ (x : Refusal × AtBook). RestStep role (turn (with_book worker c.args.book.now) (Some x.0) x.1))
    (λ t. (sym c.refusal_for.ensures t, with_book (record worker { known = (sym c.floor-floor.ensures.closed t).known; purse = (sym left t).purse }) (sym left t).book))
    (rests role (with_book worker c.args.book.now) c.floor-floor.result (Some c.in-Err.fault) (account book' purse') held sent better floor call)
