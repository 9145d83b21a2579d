use Rattle.std.proofs.Common.{None}
use Rattle.world_model.specs.declared.steps.Step.TheVariants.{Grant}
use Rattle.hda_run.specs.Worlds.{world_of}
use Rattle.hda_run.proofs.AloneLemmas.{grants, takes, stays, spent_alone}
use Rattle.hda_run.proofs.alone.be_granted.Goals as goal

pub returns-in_default-clause-run : goal.returns-in_default-clause-run
returns-in_default-clause-run g c =
    let old = world_of g.S.Spread.owner_of c.args.world.now in
    let new = world_of g.S.Spread.owner_of c.take.new.world in
    takes (Grant 0) None old new (λ h. h) c.in_default.ensures.step (grants old c.requires.lone new c.in_default.ensures.step).0

pub returns-in_default-clause-less : goal.returns-in_default-clause-less
returns-in_default-clause-less g c accepted = (grants (world_of g.S.Spread.owner_of c.args.world.now) c.requires.lone (world_of g.S.Spread.owner_of c.take.new.world) c.in_default.ensures.step).1

pub returns-clause-run : goal.returns-clause-run
returns-clause-run g c =
    let old = world_of g.S.Spread.owner_of c.args.world.now in
    let new = world_of g.S.Spread.owner_of c.take.new.world in
    let left = spent_alone old c.requires.lone c.requires.spent _ new c.in-Err.ensures.step in
    stays old new left.same left.lone

pub returns-clause-stuck : goal.returns-clause-stuck
returns-clause-stuck g c = (spent_alone (world_of g.S.Spread.owner_of c.args.world.now) c.requires.lone c.requires.spent _ (world_of g.S.Spread.owner_of c.take.new.world) c.in-Err.ensures.step).refuses
