use Rattle.std.proofs.Common.{◌≡◌, Option, ap, inl, inr, ◌∙◌, length, refl, arith, subst, sym}
use Rattle.world_model.specs.declared.steps.Refusal.{Refusal}
use Rattle.world_model.specs.BookSteps.{AtBook, AnnounceStep}
use Rattle.world_model.specs.Turns.{turn}
use Rattle.world_model.specs.Workers.{Role}
use Rattle.message_ledger.specs.Spending.{AllowanceModel}
use Rattle.owners.specs.Owners.{owner_by_blank}
use Rattle.search_lists.specs.Lists.{SearchListsModel}
use Rattle.worker_core.specs.Contexts.{task_from}
use Rattle.worker_core.specs.Expanding.{role_by}
use Rattle.worker_core.specs.Roles.{IsGuided, task_of}
use Rattle.worker_core.specs.Workers.{state_of, with_book}
use Rattle.bench_searches.proofs.expand.refill.Goals as goal

-- What is granted stays when the goal is announced.

announced : (role : Role) (before after : AtBook) (answer : Option Refusal) → AnnounceStep role (turn before answer after) → after.book.granted ≡ before.book.granted
announced role before after answer (inl refused) = ap (λ (at : AtBook). at.book.granted) refused.1.1
announced role before after answer (inr (_, inl refused)) = ap (λ (at : AtBook). at.book.granted) refused.1.1
announced role before after answer (inr (_, inr done)) = ap (λ (at : AtBook). at.book.granted) done.1.2.1

pub grant-requires-clause-counted : goal.grant-requires-clause-counted
grant-requires-clause-counted c κs =
    let inside = c.context.inside in
    let role = role_by (task_of inside.goal.now inside.goal.now inside.weights.now inside.bound.now) owner_by_blank (length c.args.worker.now.unsent.items) 0 in
    let same = announced role (with_book (state_of c.args.worker.now) c.args.book.now) (with_book (state_of c.announce.new.self) c.announce.new.book) _ (c.announce.ensures.step role (record { me = refl; ends = refl }) refl) in
    let kept = ap (λ (it : AllowanceModel). it.granted) c.announce.ensures.keeps.allowance in
    let counted = c.requires.counted in
    omega (arith, same, kept, counted)

pub returns-clause-counted : goal.returns-clause-counted
returns-clause-counted c =
    let inside = c.context.inside in
    let role = role_by (task_of inside.goal.now inside.goal.now inside.weights.now inside.bound.now) owner_by_blank (length c.args.worker.now.unsent.items) 0 in
    let same = announced role (with_book (state_of c.args.worker.now) c.args.book.now) (with_book (state_of c.announce.new.self) c.announce.new.book) _ (c.announce.ensures.step role (record { me = refl; ends = refl }) refl) in
    let kept = ap (λ (it : AllowanceModel). it.granted) c.announce.ensures.keeps.allowance in
    let counted = c.requires.counted in
    let granted = c.grant.ensures.granted in
    omega (arith, same, kept, counted, granted)

pub returns-clause-serves : goal.returns-clause-serves
returns-clause-serves c =
    let serves = c.requires.serves in
    let task = task_from serves.guided.0 c.args.context.now in
    let guide = serves.guided.1 in
    let announced = subst (λ (lists : SearchListsModel). IsGuided task guide lists) (sym c.announce.ensures.keeps.lists) serves.guided.2 in
    record {
      workers = ap (λ u. length u.items) c.grant.ensures.keeps.unsent ∙ ap (λ u. length u.items) c.announce.ensures.keeps.unsent ∙ serves.workers;
      guided = (serves.guided.0, guide, c.grant.ensures.keeps.guided task guide announced);
    }
