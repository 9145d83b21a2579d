use Rattle.test_worlds.specs.Jobs.{IsGuidedToGoal}
use Rattle.bench_refusals.proofs.alone.workers.fill_table.Given as goal

-- the worker's lists stay led
abbrev pub invariant-boards : goal.invariant-boards
invariant-boards l = IsGuidedToGoal l.job l.worker.lists
