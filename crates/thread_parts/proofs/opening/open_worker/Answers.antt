use Rattle.std.proofs.Common.{◌∙◌, refl, subst}
use Rattle.board.specs.declared.moves.Move.TheVariants.{U}
use Rattle.worker_core.specs.Contexts.{ContextModel}
use Rattle.worker_core.specs.Roles.{guide_of}
use Rattle.worker_core.specs.Serving.{StaysGuided}
use Rattle.worker_core.specs.Workers.{state_of}
use Rattle.worker_core.proofs.GuideLemmas.{stays_guided}
use Rattle.hda_run.specs.Jobs.{task_in}
use Rattle.thread_parts.proofs.PartLemmas.{first_is, idle_is}
use Rattle.thread_parts.proofs.opening.open_worker.Goals as goal

pub returns-then-owner-me-clause-guided : goal.returns-then-owner-me-clause-guided
returns-then-owner-me-clause-guided g c =
    let task = task_in c.args.search.now.job in
    c.in_ok-worker.ensures.guided task (guide_of task) (c.tasks_have_guides.ensures task c.context-context.ensures.task.goal)

pub returns-then-owner-me-clause-idle : goal.returns-then-owner-me-clause-idle
returns-then-owner-me-clause-idle g c = λ foreign. idle_is c.args.search.now.workers c.args.means.purse c.args.means.allowance (state_of c.in_ok-worker.worker) c.args.means.fresh c.in_ok-worker.ensures.state

pub returns-clause-first : goal.returns-clause-first
returns-clause-first g c = λ own.
    let n = c.args.search.now.workers in
    let worker = c.in_ok-worker.worker in
    let begun = idle_is n c.args.means.purse c.args.means.allowance (state_of worker) c.args.means.fresh c.in_ok-worker.ensures.state in
    (U, first_is n (task_in c.args.search.now.job) c.args.means.purse (state_of worker) (state_of c.meet.new.self) (record { board = c.new-2.result; cost = 0; via = U }) refl (c.new-2.ensures ∙ c.start-2.ensures) begun c.in_ok-meet.ensures.ok)

pub returns-clause-guided : goal.returns-clause-guided
returns-clause-guided g c =
    let job = c.args.search.now.job in
    let task = task_in job in
    let worker = c.in_ok-worker.worker in
    let leads = c.tasks_have_guides.ensures task c.context-context.ensures.task.goal in
    let stays = stays_guided c.context-context.result worker.lists c.meet.new.self.lists c.meet.ensures.keeps.lists in
    subst (λ (x : ContextModel g.row.S.Denot). StaysGuided x worker.lists c.meet.new.self.lists) c.context-context.ensures.value stays job.start (guide_of task) (c.in_ok-worker.ensures.guided task (guide_of task) leads)
