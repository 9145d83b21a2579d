use Rattle.hda_run.specs.Worlds.{job_of, terms_in}
use Rattle.hda_run.proofs.PartsLemmas.{lawful_opening, is_job}
use Rattle.hda_run.proofs.world.World.open.Goals as goal

pub invariant_of-result : goal.invariant_of-result
invariant_of-result g c =
    let n = c.args.workers in
    let owner_of = g.S.Spread.owner_of in
    let job = job_of owner_of c.args.job c.args.spread.now n in
    let is = is_job owner_of g.met.S.Spread.owners_are_workers c.args.spread.now c.args.job n c.goal.ensures.task c.requires.count in
    let opened = c.in_ok-parts.ensures.opening in
    record {
      lawful = lawful_opening owner_of c.in_ok-parts.parts job opened.0 c.openings_are_sound.ensures is opened.1 c.in_ok-parts.ensures.guided;
      found = c.new-ahead.ensures (terms_in c.in_ok-parts.parts);
    }
