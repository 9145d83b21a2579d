use Rattle.std.proofs.Common.{◌≡◌}
use Rattle.hda_run.specs.Rounds.{Reaches, work_left}
use Rattle.hda_run.specs.Worlds.{world_of}
use Rattle.hda_run.proofs.alone.go_on.Given as goal

-- no step so far halts the run, and the worker is still alone
abbrev pub invariant-rounds : goal.invariant-rounds
invariant-rounds g l =
    let owner_of = g.S.Spread.owner_of in
    Reaches (world_of owner_of l.fn.world) (world_of owner_of l.world) × (l.world.job ≡ l.fn.world.job)

-- what is left to do
abbrev pub decreases-rounds : goal.decreases-rounds
decreases-rounds g l = work_left (world_of g.S.Spread.owner_of l.world)
