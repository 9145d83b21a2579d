use Rattle.std.proofs.Common.{◌≡◌, ℕ, ◌<◌, length, inl, inr, refl, sym, ◌∙◌, subst}
use Rattle.worker_core.specs.Roles.{guide_of}
use Rattle.worker_core.specs.Workers.{state_of}
use Rattle.world_model.specs.Turns.{refusal_in}
use Rattle.hda_run.specs.Jobs.{task_in}
use Rattle.thread_parts.specs.Parts.{part_state, role_of_part}
use Rattle.thread_parts.proofs.PartLemmas.{with_kept, barred_rest}
use Rattle.thread_parts.proofs.part.Part.rest.Goals as goal

pub rest-requires-clause-counted : goal.rest-requires-clause-counted
rest-requires-clause-counted g c κs within = g.met.C.Tokens.counted c.args.book.now.credit c.args.self.now.worker.purse

pub rest-requires-clause-there : goal.rest-requires-clause-there
rest-requires-clause-there g c κs within =
    let floors : length c.args.book.now.floors ≡ g.C.Tokens.workers = sym c.workers.ensures.value ∙ g.met.C.Tokens.one_count c.workers.result c.workers.ensures.allowed in
    subst (λ (k : ℕ). c.args.self.now.me < k) (sym floors) c.requires.role.me

pub returns-in-Err-clause-step : goal.returns-in-Err-clause-step
returns-in-Err-clause-step g c =
    let old = c.args.self.now in
    barred_rest (role_of_part g.S.Spread.owner_of g.C.Tokens.workers old) (state_of old.worker) c.args.book.now c.in-Err.refusal c.in-Err.ensures.refused

pub returns-clause-step : goal.returns-clause-step
returns-clause-step g c =
    let old = c.args.self.now in
    let role = role_of_part g.S.Spread.owner_of g.C.Tokens.workers old in
    c.rest.ensures.step role (guide_of (task_in old.job.now)) (record { me = refl; ends = sym c.keyed_goal-goal.ensures.value }) c.requires.guided

pub returns-clause-part : goal.returns-clause-part
returns-clause-part g c =
    let old = c.args.self.now in
    let n = g.C.Tokens.workers in
    let role = role_of_part g.S.Spread.owner_of n old in
    let task = task_in old.job.now in
    let step = c.rest.ensures.step role (guide_of task) (record { me = refl; ends = sym c.keyed_goal-goal.ensures.value }) c.requires.guided in
    with_kept g.S.Spread.owner_of n old c.requires c.rest.new.self
    (c.steps_are_kept.ensures.book n role (part_state old) c.args.book.now c.rest.new.book (refusal_in c.rest.result) (state_of c.rest.new.self) c.requires.role c.requires.keeps c.in_default.ensures.purse (inr (inr (inr (inl step)))))
    (c.rest.ensures.keeps.guided task (guide_of task) c.requires.guided)
