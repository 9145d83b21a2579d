use Rattle.std.proofs.Common.{ℕ, subst}
use Rattle.std.specs.Prelude.{◌↔◌, All, IsTrue}
use Rattle.world_model.specs.Workers.{HasNothingBelow}
use Rattle.worker_core.specs.Roles.{guide_of}
use Rattle.world_ends.specs.Parts.{states_of}
use Rattle.hda_run.specs.Jobs.{task_in}
use Rattle.thread_runs.proofs.looks.is_quiet.Goals as goal

pub returns-clause-quiet : goal.returns-clause-quiet
returns-clause-quiet g c =
    let task = task_in c.args.search.now.job in
    let high = subst (λ (limit : ℕ). IsTrue c.are_high.result ↔ All (λ worker. HasNothingBelow task worker limit) (states_of c.args.workers.now)) c.limit.ensures
    (c.are_high.ensures.high task (guide_of task) c.requires.guided) in
    ((λ yes. (c.is_reached.ensures.0 c.if-not-is_reached.false, high.0 yes)), (λ both. high.1 both.1))

pub returns-clause-guided : goal.returns-clause-guided
returns-clause-guided g c = c.are_high.ensures.guided (task_in c.args.search.now.job) (guide_of (task_in c.args.search.now.job)) c.requires.guided
