use Rattle.std.proofs.Common.{rules, ℕ, ◌≡◌, ◌≤◌, subst}
use Rattle.board.specs.Rows.{IsLowerBound}
use Rattle.world_model.specs.Shapes.{IsTask}
use Rattle.world_model.specs.declared.limits.TheConstants.{WORKER_LIMIT}
use Rattle.hda_run.specs.Jobs.{JobModel, problem, task_in}
use Rattle.replay_runs.proofs.worlds.OpeningOpenerWorld.open.Goals as goal

pub returns-in-Ok-clause-guided : goal.returns-in-Ok-clause-guided
returns-in-Ok-clause-guided g c =
    let setup = c.args.self.setup.now in
    let made : c.unwrap-job.result ≡ problem c.args.start.now setup.goal setup.rule setup.tables setup.limit = search rules in
    let some : 1 ≤ setup.workers = subst (λ (n : ℕ). 1 ≤ n) c.worker_count.ensures.value c.worker_count.ensures.some in (
      record {
        task = subst (λ (p : JobModel). IsTask (task_in p)) made c.goal-2.ensures.task;
        some = some;
        few = subst (λ (n : ℕ). n ≤ WORKER_LIMIT) c.worker_count.ensures.value c.worker_count.ensures.few;
        owners = λ b. search rules;
      },
      subst (λ (p : JobModel). IsLowerBound p.rule (task_in p).sum p.goal) made c.bound.ensures.lower,
    )
