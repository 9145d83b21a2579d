use Rattle.std.proofs.Common.{◌≡◌, map, replicate, vec_len}
use Rattle.std.specs.Prelude.{vec_capacity, All}
use Rattle.outcomes.specs.Outcomes.{Task}
use Rattle.search_lists.specs.Orders.{Guide}
use Rattle.worker_core.specs.Roles.{IsGuideOf, IsGuided}
use Rattle.worker_core.specs.Workers.{state_of}
use Rattle.world_model.specs.Openings.{idle_worker}
use Rattle.hda_run.proofs.opening.idle_workers.Given as goal

-- `count` idle workers, whose lists are guided, and there is room for all
abbrev pub invariant-workers : goal.invariant-workers
invariant-workers l =
    (map (λ worker. state_of worker) l.made.items ≡ replicate l.count (idle_worker l.fn.workers))
    × (vec_len l.made ≡ l.count)
    × (vec_capacity l.made ≡ l.fn.workers)
    × ((task : Task) (guide : Guide) → IsGuideOf task guide → All (λ worker. IsGuided task guide worker.lists) l.made.items)
    × (l.credit ≡ l.fn.credit)
