use Rattle.std.proofs.Common.{◌∙◌}
use Rattle.hda_run.specs.Worlds.{world_of}
use Rattle.hda_run.proofs.AloneLemmas.{reaches_on}
use Rattle.hda_run.proofs.alone.go_on.Goals as goal

pub returns-in-Err-clause-run : goal.returns-in-Err-clause-run
returns-in-Err-clause-run g c =
    let owner_of = g.S.Spread.owner_of in
    reaches_on (world_of owner_of c.args.world.now) (world_of owner_of c.rounds.world) (world_of owner_of c.round.new.world) c.rounds.invariant.0 c.round.ensures.run

pub rounds-preserved : goal.rounds-preserved
rounds-preserved g c =
    let owner_of = g.S.Spread.owner_of in (
      reaches_on (world_of owner_of c.args.world.now) (world_of owner_of c.rounds.world) (world_of owner_of c.round.new.world) c.rounds.invariant.0 c.round.ensures.run,
      c.round.ensures.job ∙ c.rounds.invariant.1,
    )
