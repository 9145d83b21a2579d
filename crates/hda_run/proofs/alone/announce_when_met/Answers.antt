use Rattle.world_model.specs.declared.steps.Step.TheVariants.{Announce}
use Rattle.world_model.specs.Turns.{refusal_in}
use Rattle.hda_run.specs.Worlds.{world_of}
use Rattle.hda_run.proofs.AloneLemmas.{announces, takes}
use Rattle.hda_run.proofs.alone.announce_when_met.Goals as goal

pub returns-then-has_met_goal-clause-run : goal.returns-then-has_met_goal-clause-run
returns-then-has_met_goal-clause-run g c =
    let old = world_of g.S.Spread.owner_of c.args.world.now in
    let new = world_of g.S.Spread.owner_of c.take.new.world in
    takes (Announce 0) (refusal_in c.take.result) old new (λ h. h) c.take.ensures.step (announces old c.requires (refusal_in c.take.result) new c.take.ensures.step).0

pub returns-then-has_met_goal-clause-same : goal.returns-then-has_met_goal-clause-same
returns-then-has_met_goal-clause-same g c =
    (announces (world_of g.S.Spread.owner_of c.args.world.now) c.requires (refusal_in c.take.result) (world_of g.S.Spread.owner_of c.take.new.world) c.take.ensures.step).1
