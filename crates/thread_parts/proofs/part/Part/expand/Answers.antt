use Rattle.std.proofs.Common.{inr, subst, sym}
use Rattle.world_model.specs.Turns.{refusal_in, turn}
use Rattle.world_model.specs.Workers.{Role}
use Rattle.world_model.specs.WorkerSteps.{ExpandOnwardStep}
use Rattle.owners.specs.Terms.{TermsModel}
use Rattle.worker_core.specs.Ahead.{AreFoundAhead}
use Rattle.worker_core.specs.Workers.{state_of}
use Rattle.thread_parts.specs.Parts.{part_state, role_of_part}
use Rattle.thread_parts.proofs.PartLemmas.{serves, role_is, guided_after, with_found, lent_terms}
use Rattle.thread_parts.proofs.part.Part.expand.Goals as goal

pub expand-requires-clause-serves : goal.expand-requires-clause-serves
expand-requires-clause-serves g c κs within =
    serves g.S.Spread.owner_of g.C.Tokens.workers c.args.self.now c.requires c.workers-workers.result c.workers-workers.ensures c.context-context.result c.context-context.ensures.value

pub expand-requires-clause-ahead : goal.expand-requires-clause-ahead
expand-requires-clause-ahead g c κs within =
    let owner_of = g.S.Spread.owner_of in
    let old = c.args.self.now in
    subst (λ (terms : TermsModel g.row.S.Denot). AreFoundAhead owner_of terms old.ahead) (sym (lent_terms owner_of g.C.Tokens.workers old c.requires c.workers-workers.result c.workers-workers.ensures c.context-context.result c.context-context.ensures.value)) c.requires.found

pub returns-clause-step : goal.returns-clause-step
returns-clause-step g c =
    let old = c.args.self.now in
    let same = role_is g.S.Spread.owner_of g.C.Tokens.workers old c.requires c.workers-workers.result c.workers-workers.ensures c.context-context.result c.context-context.ensures.value in
    subst (λ (r : Role). ExpandOnwardStep r (turn (state_of old.worker) (refusal_in c.expand.result) (state_of c.expand.new.self))) same (c.expand.ensures.step old.job.now.start)

pub returns-clause-part : goal.returns-clause-part
returns-clause-part g c =
    let old = c.args.self.now in
    let n = g.C.Tokens.workers in
    let role = role_of_part g.S.Spread.owner_of n old in
    let same = role_is g.S.Spread.owner_of n old c.requires c.workers-workers.result c.workers-workers.ensures c.context-context.result c.context-context.ensures.value in
    let step = subst (λ (r : Role). ExpandOnwardStep r (turn (state_of old.worker) (refusal_in c.expand.result) (state_of c.expand.new.self))) same (c.expand.ensures.step old.job.now.start) in
    with_found g.S.Spread.owner_of n old c.requires c.expand.new.self c.expand.new.ahead
    (c.steps_are_kept.ensures.expand n role (part_state old) (refusal_in c.expand.result) (state_of c.expand.new.self) c.requires.role c.requires.keeps (inr step))
    (guided_after g.S.Spread.owner_of n old c.requires c.workers-workers.result c.workers-workers.ensures c.context-context.result c.context-context.ensures.value c.expand.new.self c.expand.ensures.keeps.guided)
    (subst (λ (terms : TermsModel g.row.S.Denot). AreFoundAhead g.S.Spread.owner_of terms c.expand.new.ahead) (lent_terms g.S.Spread.owner_of n old c.requires c.workers-workers.result c.workers-workers.ensures c.context-context.result c.context-context.ensures.value) c.expand.ensures.ahead)
