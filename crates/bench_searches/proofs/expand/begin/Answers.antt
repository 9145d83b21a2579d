use Rattle.std.proofs.Common.{◌∙◌, ap, length, subst, sym}
use Rattle.board.specs.Boards.{IsBoard}
use Rattle.owners.specs.declared.spread.ByBlank.{ByBlank}
use Rattle.worker_core.specs.Contexts.{ContextModel, task_from}
use Rattle.worker_core.specs.Roles.{guide_of}
use Rattle.worker_core.proofs.GuideLemmas.{stays_guided}
use Rattle.bench_searches.proofs.expand.begin.Goals as goal

pub returns-clause-serves : goal.returns-clause-serves
returns-clause-serves c =
    let context = c.args.context.now in
    let start = c.args.start in
    let task = task_from start context in
    let guide = guide_of task in
    let board = subst IsBoard (ap (λ (x : ContextModel ByBlank). x.goal) c.context.view_is) c.shape.ensures.board in
    let leads = c.tasks_have_guides.ensures task board in
    record {
      workers = ap (λ u. length u.items) c.meet.ensures.keeps.unsent ∙ c.in-Ok.ensures.workers ∙ sym c.requires.one;
      guided = (start, guide, stays_guided context c.in-Ok.worker.lists c.meet.new.self.lists c.meet.ensures.keeps.lists start guide (c.in-Ok.ensures.guided task guide leads));
    }
