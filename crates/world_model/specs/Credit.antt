-- Credited worlds: what the book and the workers' parts add up to.
use Rattle.std.specs.Prelude.{◌≡◌, ℕ, ◌+◌, ◌≤◌, length, Option, Some, sum_by}
use Rattle.world_model.specs.declared.limits.TheConstants.{GREATEST_GRANT}
use Rattle.world_model.specs.declared.parts.Known.{Known}
use Rattle.world_model.specs.declared.steps.Stop.TheVariants.{Quiet, Limit}
use Rattle.outcomes.specs.Outcomes.{Task}
use Rattle.world_model.specs.Costs.{limit_of, IsNotBelow}
use Rattle.world_model.specs.Workers.{WorkerState, Role, KnowsAs, IsIdle}
use Rattle.world_model.specs.Worlds.{WorldState, IsWorker, role_of}

-- the packets in all lanes
abbrev pub packet_count : WorldState → ℕ
packet_count w = sum_by (λ to_each. sum_by length to_each) w.lanes

-- what is in all purses
abbrev pub purse_total : WorldState → ℕ
purse_total w = sum_by (λ worker. worker.purse) w.workers

-- the boards that all workers have expanded
abbrev pub expansion_count : WorldState → ℕ
expansion_count w = sum_by (λ worker. worker.expansions) w.workers

-- the goal's owner has the best cost as its copy, and knows the goal at no more
pub record IsGoalOwner (task : Task) (best : Option ℕ) (worker : WorkerState) : Type 0 where
  pub copy : worker.best ≡ best
  pub knows : (cost : ℕ) → best ≡ Some cost → (known : Known) × KnowsAs worker task.goal known × (known.cost ≤ cost)

-- beside this best cost: the copy is not below it, the allowance is one grant at most, and a worker whose purse is empty is idle
pub record IsCreditedWorker (role : Role) (best : Option ℕ) (worker : WorkerState) : Type 0 where
  pub allowance : worker.allowance ≤ GREATEST_GRANT
  pub copy : IsNotBelow worker.best best
  pub goal_owner : role.owner role.task.goal ≡ role.me → IsGoalOwner role.task best worker
  pub idle : worker.purse ≡ 0 → IsIdle role.task worker (limit_of worker.best) best

-- some worker has no allowance
abbrev pub HasSpentWorker : WorldState → Type 0
HasSpentWorker w = (i : ℕ) × (worker : WorkerState) × IsWorker w i worker × (worker.allowance ≡ 0)

-- The credit is what is in all purses, and 1 for each packet in a lane. What was granted is allowance or was spent, and is within the
-- limit. Where the run stopped for the limit, all of it is granted and some worker has no allowance. Where it is quiet, no credit is
-- left.
pub record IsCredited (w : WorldState) : Type 0 where
  pub credit : w.book.credit ≡ purse_total w + packet_count w
  pub granted : w.book.granted ≡ sum_by (λ worker. worker.allowance + worker.expansions) w.workers
  pub within_limit : w.book.granted ≤ w.book.limit
  pub workers : (i : ℕ) (worker : WorkerState) → IsWorker w i worker → IsCreditedWorker (role_of w i) w.book.best worker
  pub at_limit : w.book.stop ≡ Some Limit → (w.book.granted ≡ w.book.limit) × HasSpentWorker w
  pub at_quiet : w.book.stop ≡ Some Quiet → w.book.credit ≡ 0
