use Rattle.std.proofs.Common.{arith, refl, subst}
use Rattle.world_model.specs.Shapes.{IsTask}
use Rattle.hda_run.specs.Jobs.{JobModel, task_in}
use Rattle.hda_run.specs.Worlds.{world_of, job_of}
use Rattle.hda_run.proofs.AloneLemmas.{opened_lone, alone_from}
use Rattle.hda_run.proofs.PartsLemmas.{is_job}
use Rattle.hda_run.proofs.alone.run_alone.Goals as goal

pub go_on-end-requires : goal.go_on-end-requires
go_on-end-requires g c =
    let owner_of = g.S.Spread.owner_of in
    let world = c.args.world in
    let task = subst (λ (p : JobModel). IsTask (task_in p)) c.job.ensures c.goal.ensures.task in
    opened_lone (job_of owner_of world.job world.owners.now 1) c.requires.0 (world_of owner_of world) c.requires.1 refl (is_job owner_of g.met.S.Spread.owners_are_workers world.owners.now world.job 1 task (omega arith, omega arith))

pub returns-clause-run : goal.returns-clause-run
returns-clause-run g c =
    let owner_of = g.S.Spread.owner_of in
    let world = c.args.world in
    let task = subst (λ (p : JobModel). IsTask (task_in p)) c.job.ensures c.goal.ensures.task in
    alone_from (job_of owner_of world.job world.owners.now 1) c.requires.0 (world_of owner_of world) (world_of owner_of c.go_on-end.new.world) (world_of owner_of c.stop_for.new.world) c.requires.1 refl
    (is_job owner_of g.met.S.Spread.owners_are_workers world.owners.now world.job 1 task (omega arith, omega arith)) c.go_on-end.ensures.run c.stop_for.ensures.stops
