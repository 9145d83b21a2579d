use Rattle.std.proofs.Common.{◌≡◌}
use Rattle.search_lists.specs.Orders.{Guide}
use Rattle.world_ends.specs.Parts.{task_asked, states_of, AreWorkersGuided}
use Rattle.world_ends.specs.Lowest.{IsLeastBeside}
use Rattle.world_ends.proofs.PartLemmas.{IsOfWorkersUpTo}
use Rattle.world_ends.proofs.lowest.lowest_of_workers.Given as goal

-- the least beside the workers so far, which are as they were
abbrev pub invariant-workers : goal.invariant-workers
invariant-workers g l =
    record {
      same : states_of l.workers ≡ states_of l.fn.workers;
      least : (guide : Guide) → AreWorkersGuided (task_asked l.asked) guide l.fn.workers → AreWorkersGuided (task_asked l.asked) guide l.workers × IsLeastBeside (IsOfWorkersUpTo l.i (task_asked l.asked) (states_of l.fn.workers)) l.fn.lowest l.least;
    }
