use Rattle.std.proofs.Common.{subst}
use Rattle.world_model.specs.Turns.{refusal_in}
use Rattle.hda_run.specs.Rounds.{IsStuck}
use Rattle.hda_run.specs.Worlds.{world_of}
use Rattle.hda_run.proofs.AloneLemmas.{stops_for_limit, stops_for_memory}
use Rattle.hda_run.proofs.alone.stop_for.Goals as goal

pub returns-in-Limit-clause-stops : goal.returns-in-Limit-clause-stops
returns-in-Limit-clause-stops g c =
    let old = world_of g.S.Spread.owner_of c.args.world.now in
    stops_for_limit old c.requires.lone (subst (IsStuck old) c.in-Limit.is c.requires.stuck) (refusal_in c.take.result) (world_of g.S.Spread.owner_of c.take.new.world) c.take.ensures.step

pub returns-in-Memory-clause-stops : goal.returns-in-Memory-clause-stops
returns-in-Memory-clause-stops g c =
    let old = world_of g.S.Spread.owner_of c.args.world.now in
    stops_for_memory old c.requires.lone c.in-Memory.refused (subst (IsStuck old) c.in-Memory.is c.requires.stuck) (refusal_in c.take-in-Memory.result) (world_of g.S.Spread.owner_of c.take-in-Memory.new.world) c.take-in-Memory.ensures.step
