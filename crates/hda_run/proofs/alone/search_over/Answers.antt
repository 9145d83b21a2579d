use Rattle.std.proofs.Common.{arith, subst}
use Rattle.world_model.specs.Openings.{Job}
use Rattle.hda_run.specs.Alone.{IsRunAlone}
use Rattle.hda_run.specs.Worlds.{world_of, job_of}
use Rattle.hda_run.proofs.LawLemmas.{found_whole}
use Rattle.hda_run.proofs.PartsLemmas.{is_job}
use Rattle.hda_run.proofs.alone.search_over.Goals as goal

pub returns-clause-kept : goal.returns-clause-kept
returns-clause-kept g c =
    let owner_of = g.S.Spread.owner_of in
    let w = world_of owner_of c.run_alone-world.result in
    let is = is_job owner_of g.met.S.Spread.owners_are_workers c.args.spread.now c.args.job 1 c.goal.ensures.task (omega arith, omega arith) in
    let opened = c.in_ok-opened.ensures in
    let run = subst (λ (job : Job). IsRunAlone job w) (λ t. job_of owner_of (opened.job t) (opened.owners t) 1) c.run_alone-world.ensures.run in
    let known = c.workers.ensures in
    found_whole (job_of owner_of c.args.job c.args.spread.now 1) w is run known.shaped known.sound known.bounded (g.A.Reading.end c.read_into-answer.result) (c.keep_laws.ensures.bounds w c.read_into-answer.result c.read_into-answer.ensures.given)
