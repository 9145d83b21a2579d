use Rattle.std.proofs.Common.{◌≡◌, ℕ, None, Option, refl, sym, ap, ◌∙◌, subst}
use Rattle.std.specs.FinMap as map
use Rattle.search_keys.specs.SearchKeys.{search_key}
use Rattle.board.specs.Boards.{BoardModel}
use Rattle.world_model.specs.Turns.{turn}
use Rattle.world_model.specs.Workers.{KnowsGoalAt}
use Rattle.world_model.specs.BookCalls.{BookAnnounce}
use Rattle.world_model.specs.BookSteps.{AnnounceStep}
use Rattle.world_model.proofs.CreditLemmas.{announces}
use Rattle.worker_core.specs.Workers.{state_of, with_book}
use Rattle.worker_core.proofs.worker.Worker.announce.Goals as goal

pub returns-clause-step : goal.returns-clause-step
returns-clause-step g c = λ role is owner.
    let worker = state_of c.args.self.now in
    let there = ap (λ (k : ℕ). g.S.Spread.owner_of c.args.owners.now k c.args.goal.now) (sym c.len.ensures) ∙ ap (λ (b : BoardModel). g.S.Spread.owner_of c.args.owners.now c.len.result b) (sym c.board.ensures) ∙ sym c.owner.ensures.value ∙ c.if-owner-me.false in
    let mine : role.owner role.task.goal ≡ role.me = ap role.owner is.ends ∙ owner ∙ ap (λ (k : ℕ). g.S.Spread.owner_of c.args.owners.now k c.args.goal.now) (sym c.args.self.now.unsent.ok.0) ∙ there ∙ sym is.me in
    let knows : KnowsGoalAt role.task worker c.in-Some.known.cost = (c.in-Some.known, ap (λ (k : ℕ). map.get worker.known k) (ap search_key is.ends ∙ sym c.key.ensures.value) ∙ sym c.get.ensures ∙ c.in-Some.is, refl) in
    let book' = c.announce.new.self in
    let call : BookAnnounce c.in-Some.known.cost (turn c.args.book.now None book') = c.in_default-announce.ensures.call in
    subst (λ (best : Option ℕ). AnnounceStep role (turn (with_book worker c.args.book.now) None (with_book (record worker { best = best }) book'))) (sym c.best-self.ensures) (announces role (with_book worker c.args.book.now) c.in-Some.known.cost None book' mine knows call)
