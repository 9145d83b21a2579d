use Rattle.std.proofs.Common.{◌≡◌, ◌≤◌, ◌+◌, ◌*◌, length, sum_by}
use Rattle.std.specs.Vec.Iter.{into_iter_items}
use Rattle.message_ledger.specs.Spending.{spent}
use Rattle.world_model.specs.declared.limits.TheConstants.{GREATEST_GRANT}
use Rattle.thread_runs.proofs.counting.count_expanded.Given as goal

-- the tickets so far came back
abbrev pub invariant-workers : goal.invariant-workers
invariant-workers g l =
    record {
      next : (goal.iterator-workers g).can_next l.worker-iterator;
      ends : (goal.iterator-workers g).is_finite l.worker-iterator;
      count : l.gathered.tickets + length (into_iter_items l.worker-iterator) ≡ length l.fn.workers.items;
      grants : l.grants ≡ l.fn.grants;
      whole : l.gathered.amount + sum_by (λ worker. worker.allowance.left + spent worker.allowance) (into_iter_items l.worker-iterator) ≡ sum_by (λ worker. worker.allowance.left + spent worker.allowance) l.fn.workers.items;
      within : l.expanded ≤ l.gathered.amount;
      high : l.gathered.amount ≤ l.expanded + GREATEST_GRANT * l.gathered.tickets;
      sum : l.expanded + sum_by (λ worker. spent worker.allowance) (into_iter_items l.worker-iterator) ≡ sum_by (λ worker. spent worker.allowance) l.fn.workers.items;
    }
