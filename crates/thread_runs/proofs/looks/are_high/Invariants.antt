use Rattle.std.proofs.Common.{◌≡◌, ℕ, ◌<◌, Some}
use Rattle.std.specs.Prelude.{slice_get}
use Rattle.outcomes.specs.Outcomes.{Task}
use Rattle.search_lists.specs.Orders.{Guide}
use Rattle.world_model.specs.Workers.{WorkerState, HasNothingBelow}
use Rattle.world_ends.specs.Parts.{states_of, AreWorkersGuided}
use Rattle.thread_runs.proofs.looks.are_high.Given as goal

-- the workers so far have nothing below the limit, and the states are as they were
abbrev pub invariant-workers : goal.invariant-workers
invariant-workers g l =
    record {
      same : states_of l.workers ≡ states_of l.fn.workers;
      guided : (task : Task) (guide : Guide) → AreWorkersGuided task guide l.fn.workers → AreWorkersGuided task guide l.workers;
      high : (task : Task) (guide : Guide) → AreWorkersGuided task guide l.fn.workers → (k : ℕ) (worker : WorkerState) → k < l.i → slice_get (states_of l.fn.workers) k ≡ Some worker → HasNothingBelow task worker l.limit;
    }
