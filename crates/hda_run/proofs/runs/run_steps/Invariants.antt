use Rattle.std.proofs.Common.{◌≡◌, List, Option, map, take}
use Rattle.world_model.specs.declared.steps.Refusal.{Refusal}
use Rattle.world_model.specs.declared.steps.Step.{Step}
use Rattle.world_model.specs.Steps.{IsRun}
use Rattle.hda_run.specs.Worlds.{world_of}
use Rattle.hda_run.proofs.runs.run_steps.Given as goal

-- the steps so far are a run
abbrev pub invariant-steps : goal.invariant-steps
invariant-steps g l =
    let owner_of = g.S.Spread.owner_of in
    ((made : List (Step × Option Refusal)) × (map (λ made. made.0) made ≡ take l.step-index l.steps) × IsRun (world_of owner_of l.fn.world) made (world_of owner_of l.world))
    × (l.world.job ≡ l.fn.world.job)
    × (l.world.owners.now ≡ l.fn.world.owners.now)
