use Rattle.std.proofs.Common.{◌≡◌, ℕ, ap, ◌∙◌, subst, refl}
use Rattle.board.specs.Boards.{IsBoard}
use Rattle.board.specs.declared.moves.Move.TheVariants.{U}
use Rattle.worker_core.specs.Contexts.{ContextModel, task_from}
use Rattle.worker_core.specs.Roles.{guide_of}
use Rattle.worker_core.specs.Workers.{state_of}
use Rattle.worker_core.proofs.GuideLemmas.{stays_guided}
use Rattle.world_model.specs.Openings.{first_worker}
use Rattle.hda_run.proofs.PartsLemmas.{begins, first_is}
use Rattle.hda_run.proofs.opening.first_worker.Goals as goal

pub returns-clause-state : goal.returns-clause-state
returns-clause-state g c =
    let n = c.context.inside.workers in
    let task = task_from c.args.start.now c.args.context.now in
    let worker = c.in_ok-worker.worker in
    let count : n ≡ c.args.context.now.workers = ap (λ (x : ContextModel g.row.S.Denot). x.workers) c.context.view_is in
    let begun = begins n c.args.purse 1 c.plain.result (state_of worker) c.requires.one c.plain.ensures c.in_ok-worker.ensures.state in
    (U, first_is n task (state_of worker) (state_of c.meet.new.self) (record { board = c.new.result; cost = 0; via = U }) refl c.new.ensures begun c.in_ok-meet.ensures.ok ∙ ap (λ (k : ℕ). first_worker k task U) count)

pub returns-clause-guided : goal.returns-clause-guided
returns-clause-guided g c =
    let context = c.args.context.now in
    let start = c.args.start.now in
    let task = task_from start context in
    let board = subst IsBoard (ap (λ (x : ContextModel g.row.S.Denot). x.goal) c.context.view_is) c.shape.ensures.board in
    stays_guided context c.in_ok-worker.worker.lists c.meet.new.self.lists c.meet.ensures.keeps.lists start (guide_of task) (c.in_ok-worker.ensures.guided task (guide_of task) (c.tasks_have_guides.ensures task board))
