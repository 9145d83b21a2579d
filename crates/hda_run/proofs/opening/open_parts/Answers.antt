use Rattle.std.proofs.Common.{◌≡◌, ◌∙◌, ap, subst, sym}
use Rattle.board.specs.Boards.{BoardModel}
use Rattle.outcomes.specs.Outcomes.{Task}
use Rattle.worker_core.specs.Contexts.{ContextModel, task_from}
use Rattle.worker_core.specs.Roles.{IsGuided, guide_of}
use Rattle.worker_core.specs.Workers.{state_of}
use Rattle.world_model.specs.Openings.{first_worker, opening}
use Rattle.hda_run.specs.Jobs.{task_in}
use Rattle.hda_run.specs.Worlds.{job_of}
use Rattle.hda_run.proofs.PartsLemmas.{opens}
use Rattle.hda_run.proofs.opening.open_parts.Goals as goal

pub first_worker-requires-clause-sides : goal.first_worker-requires-clause-sides
first_worker-requires-clause-sides g c =
    ap (λ (b : BoardModel). b.grid) c.start-2.ensures ∙ c.goal.ensures.task.sides ∙ sym (ap (λ (x : ContextModel g.row.S.Denot). x.goal.grid) c.context-context.ensures.value)

pub returns-clause-opening : goal.returns-clause-opening
returns-clause-opening g c =
    let owner_of = g.S.Spread.owner_of in
    let n = c.args.workers in
    let job = c.args.job in
    let via = c.in_ok-first.ensures.state.0 in
    let opened = opening (job_of owner_of job c.args.owners.now n) via in
    let credit = c.workers_with.ensures.credit ∙ c.plain-credit.ensures.credit in
    let book : c.new-book.result ≡ opened.book = c.new-book.ensures ∙ (λ t. record opened.book { credit = credit t; limit = c.limit.ensures t }) in
    let owner = c.owner-owner.ensures.value ∙ ap (λ (b : BoardModel). owner_of c.args.owners.now n b) c.start.ensures in
    let first : state_of c.in_ok-first.first ≡ first_worker n (task_in job) via = c.in_ok-first.ensures.state.1 ∙ (λ t. first_worker (c.context-context.ensures.value t).workers (task_from (c.start-2.ensures t) (c.context-context.ensures.value t)) via) in
    (via, opens owner_of (record { job = job; owners = c.args.owners; workers = c.in_ok-all.all; book = c.new-book.result; lanes = c.in_ok-lanes.lanes }) n (state_of c.in_ok-first.first) c.owner-owner.result via c.in_ok-all.ensures.states first owner book c.in_ok-lanes.ensures)

pub returns-clause-guided : goal.returns-clause-guided
returns-clause-guided g c =
    let task = task_in c.args.job in
    let leads = c.tasks_have_guides.ensures task c.goal.ensures.task.goal in
    let same : task_from c.start-2.result.now c.context-context.result ≡ task = λ t. task_from (c.start-2.ensures t) (c.context-context.ensures.value t) in
    c.in_ok-all.ensures.guided task (guide_of task) leads (subst (λ (asked : Task). IsGuided asked (guide_of asked) c.in_ok-first.first.lists) same c.in_ok-first.ensures.guided)
