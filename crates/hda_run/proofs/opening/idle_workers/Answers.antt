use Rattle.std.proofs.Common.{◌≡◌, ◌∙◌, rules}
use Rattle.worker_core.specs.Roles.{IsGuided}
use Rattle.worker_core.specs.Workers.{state_of}
use Rattle.world_model.specs.Openings.{idle_worker}
use Rattle.hda_run.proofs.PartsLemmas.{W, begins, one_more, all_more}
use Rattle.hda_run.proofs.opening.idle_workers.Goals as goal

pub workers-preserved : goal.workers-preserved
workers-preserved c =
    let n = c.args.workers in
    let xs = c.workers.made.items in
    let ys = c.push_reserved.new.self.items in
    let worker = c.in_ok-worker.worker in
    let idle : state_of worker ≡ idle_worker n = begins n c.empty_purse-purse.result 0 c.plain.result (state_of worker) c.empty_purse-purse.ensures.empty c.plain.ensures c.in_ok-worker.ensures.state in (
      one_more n xs ys c.workers.count worker c.workers.invariant.0 c.push_reserved.ensures.items idle,
      search rules,
      search rules,
      λ task guide leads. all_more (λ (w : W). IsGuided task guide w.lists) xs ys worker (c.workers.invariant.3 task guide leads) (c.in_ok-worker.ensures.guided task guide leads) c.push_reserved.ensures.items,
      c.empty_purse-purse.ensures.kept ∙ c.workers.invariant.4,
    )
