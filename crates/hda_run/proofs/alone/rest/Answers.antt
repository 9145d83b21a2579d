use Rattle.world_model.specs.Turns.{refusal_in}
use Rattle.hda_run.specs.Worlds.{world_of}
use Rattle.hda_run.proofs.AloneLemmas.{stops_resting}
use Rattle.hda_run.proofs.alone.rest.Goals as goal

pub returns-clause-stops : goal.returns-clause-stops
returns-clause-stops g c =
    let owner_of = g.S.Spread.owner_of in
    stops_resting (world_of owner_of c.args.world.now) (world_of owner_of c.take.new.world) (world_of owner_of c.take-2.new.world) c.requires.lone c.requires.stuck (refusal_in c.take.result) (refusal_in c.take-2.result) c.take.ensures.step c.take-2.ensures.step
