use Rattle.std.proofs.Common.{inl, inr}
use Rattle.worker_core.specs.Roles.{guide_of}
use Rattle.worker_core.specs.Workers.{state_of, with_book}
use Rattle.world_model.specs.BookSteps.{GrantStep}
use Rattle.world_model.specs.Turns.{refusal_in, turn}
use Rattle.hda_run.specs.Jobs.{task_in}
use Rattle.thread_parts.specs.Parts.{part_state, role_of_part}
use Rattle.thread_parts.proofs.PartLemmas.{with_kept, barred, unbarred}
use Rattle.thread_parts.proofs.part.Part.grant.Goals as goal

pub returns-in-Err-clause-step : goal.returns-in-Err-clause-step
returns-in-Err-clause-step g c = barred (GrantStep (role_of_part g.S.Spread.owner_of g.C.Tokens.workers c.args.self.now)) (state_of c.args.self.now.worker) c.args.book.now c.in-Err.refusal c.in-Err.ensures.refused

pub grant-requires-clause-counted : goal.grant-requires-clause-counted
grant-requires-clause-counted g c κs within = g.met.C.Tokens.counted c.args.book.now.granted c.args.self.now.worker.allowance.granted

pub returns-clause-step : goal.returns-clause-step
returns-clause-step g c =
    let old = c.args.self.now in
    let role = role_of_part g.S.Spread.owner_of g.C.Tokens.workers old in
    unbarred (GrantStep role) (turn (with_book (state_of old.worker) c.args.book.now) (refusal_in c.grant.result) (with_book (state_of c.grant.new.self) c.grant.new.book))
    c.in_default.ensures.goes_on c.in_default.ensures.purse (c.grant.ensures.step role (guide_of (task_in old.job.now)) c.requires.guided)

pub returns-clause-part : goal.returns-clause-part
returns-clause-part g c =
    let old = c.args.self.now in
    let n = g.C.Tokens.workers in
    let role = role_of_part g.S.Spread.owner_of n old in
    let task = task_in old.job.now in
    let step = c.grant.ensures.step role (guide_of task) c.requires.guided in
    with_kept g.S.Spread.owner_of n old c.requires c.grant.new.self
    (c.steps_are_kept.ensures.book n role (part_state old) c.args.book.now c.grant.new.book (refusal_in c.grant.result) (state_of c.grant.new.self) c.requires.role c.requires.keeps c.in_default.ensures.purse (inr (inr (inl step))))
    (c.grant.ensures.keeps.guided task (guide_of task) c.requires.guided)
