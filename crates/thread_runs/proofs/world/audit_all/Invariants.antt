use Rattle.std.proofs.Common.{◌≡◌, ℕ, ◌<◌, ◌≤◌, Some}
use Rattle.std.specs.Prelude.{slice_get}
use Rattle.search_lists.specs.Orders.{Guide}
use Rattle.outcomes.specs.Outcomes.{Task}
use Rattle.world_model.specs.Workers.{WorkerState}
use Rattle.world_ends.specs.Parts.{states_of, AreWorkersGuided}
use Rattle.thread_runs.proofs.world.audit_all.Given as goal

-- the purses so far are within the credit, and nothing has changed
abbrev pub invariant-workers : goal.invariant-workers
invariant-workers g l =
    record {
      book : l.book ≡ l.fn.book;
      same : states_of l.workers ≡ states_of l.fn.workers;
      guided : (task : Task) (guide : Guide) → AreWorkersGuided task guide l.fn.workers → AreWorkersGuided task guide l.workers;
      bound : (k : ℕ) (worker : WorkerState) → k < l.i → slice_get (states_of l.fn.workers) k ≡ Some worker → worker.purse ≤ l.fn.book.credit;
    }
