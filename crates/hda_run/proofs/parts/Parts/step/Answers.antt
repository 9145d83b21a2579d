use Rattle.std.proofs.Common.{◌∙◌, refl, subst, sym}
use Rattle.world_model.specs.Turns.{refusal_in, turn}
use Rattle.world_model.specs.Workers.{Role}
use Rattle.world_model.specs.WorkerSteps.{ExpandStep}
use Rattle.world_model.specs.Worlds.{role_of}
use Rattle.owners.specs.Terms.{TermsModel}
use Rattle.worker_core.specs.Ahead.{AreFoundAhead}
use Rattle.worker_core.specs.Expanding.{ExpandStepFor}
use Rattle.worker_core.specs.Workers.{state_of}
use Rattle.hda_run.specs.Worlds.{world_of}
use Rattle.hda_run.proofs.PartsLemmas.{inside, by_worker, serves, role_is, whole_step, guided_after, lent_terms}
use Rattle.hda_run.proofs.parts.Parts.step.Goals as goal

pub expand-requires-clause-serves : goal.expand-requires-clause-serves
expand-requires-clause-serves g c κs inner =
    let old = c.args.self.now in
    let owner_of = g.S.Spread.owner_of in
    let worker = c.index_mut.result.now in
    let at = c.index_mut.ensures.value in
    let me = c.in-Expand.me in
    let within = inside old.workers c.len-count.result c.in-Expand.me c.len-count.ensures c.if-me-count.false in
    let count = c.len-count.ensures ∙ old.workers.ok.0 in
    serves owner_of old me worker within at c.len-count.result count c.context-context.result c.context-context.ensures.value c.requires.lawful.shaped c.requires.lawful.guided

pub expand-requires-clause-ahead : goal.expand-requires-clause-ahead
expand-requires-clause-ahead g c κs inner =
    let old = c.args.self.now in
    let owner_of = g.S.Spread.owner_of in
    let worker = c.index_mut.result.now in
    let at = c.index_mut.ensures.value in
    let me = c.in-Expand.me in
    let within = inside old.workers c.len-count.result c.in-Expand.me c.len-count.ensures c.if-me-count.false in
    let count = c.len-count.ensures ∙ old.workers.ok.0 in
    subst (λ (terms : TermsModel g.row.S.Denot). AreFoundAhead owner_of terms c.args.ahead.now) (sym (lent_terms owner_of old me worker within at c.len-count.result count c.context-context.result c.context-context.ensures.value)) c.requires.found

pub returns : goal.returns
returns g c =
    let old = c.args.self.now in
    let owner_of = g.S.Spread.owner_of in
    let worker = c.index_mut.result.now in
    let at = c.index_mut.ensures.value in
    let me = c.in-Expand.me in
    let within = inside old.workers c.len-count.result c.in-Expand.me c.len-count.ensures c.if-me-count.false in
    let count = c.len-count.ensures ∙ old.workers.ok.0 in
    let role = role_of (world_of owner_of old) me in
    let answer = refusal_in c.expand.result in
    let after = state_of c.expand.new.self in
    let same = role_is owner_of old me worker within at c.len-count.result count c.context-context.result c.context-context.ensures.value in
    let step = subst (λ (r : Role). ExpandStepFor c.successors_for.result r (turn (state_of worker) answer after)) same (c.expand.ensures.step old.job.start) in
    record {
      step = rw c.in-Expand.is
          (by_worker owner_of old me worker within at (ExpandStep role) answer c.expand.new.self
          (whole_step owner_of old me worker within at c.requires.lawful.shaped c.requires.lawful.sound c.onward_steps_alone_are_whole.ensures c.successors_for.result (λ onward. sym count ∙ c.successors_for.ensures.0 onward) answer after step));
      guided = guided_after owner_of old me worker within at c.len-count.result count c.context-context.result c.context-context.ensures.value c.expand.new.self c.expand.ensures.keeps.guided c.requires.lawful.guided;
      found = subst (λ (terms : TermsModel g.row.S.Denot). AreFoundAhead owner_of terms c.expand.new.ahead) (lent_terms owner_of old me worker within at c.len-count.result count c.context-context.result c.context-context.ensures.value) c.expand.ensures.ahead;
      job = refl;
      owners = refl;
    }
