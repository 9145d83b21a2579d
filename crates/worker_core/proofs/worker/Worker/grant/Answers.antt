use Rattle.std.proofs.Common.{rules, ◌≢◌, None, refl, ap, ◌∙◌, subst, inl, inr}
use Rattle.closed_table.specs.Tables.{ClosedModel}
use Rattle.world_model.specs.Costs.{limit_of}
use Rattle.world_model.specs.Workers.{HasNothingBelow}
use Rattle.worker_core.specs.Workers.{state_of, with_book}
use Rattle.worker_core.proofs.GuideLemmas.{none_below}
use Rattle.worker_core.proofs.worker.Worker.grant.Goals as goal

pub returns-in_default-clause-step : goal.returns-in_default-clause-step
returns-in_default-clause-step g c = λ role guide is.
    let worker = state_of c.args.self.now in
    let runs : c.args.book.now.stop ≢ None → ⊥ = search rules in
    let limit = c.limit.ensures ∙ ap limit_of c.best.ensures in
    let none = none_below role.task guide c.args.self.now.lists worker refl is c.limit.result (c.in_default.ensures.none guide is.order) in
    inr (runs, inl (subst (HasNothingBelow role.task worker) limit none, (refl, ap (λ (t : ClosedModel). with_book (record worker { known = t.known }) c.args.book.now) c.next.ensures.closed)))
