-- What contracts see of a world.
use Rattle.std.specs.Prelude.{ℕ, ◌≡◌, ◌≢◌, ◌<◌, ◌≤◌, [], ◌∷◌, List, All, length, map, slice_index_or}
use Rattle.board.specs.Boards.{BoardModel}
use Rattle.owners.specs.Terms.{TermsModel}
use Rattle.search_lists.specs.Lists.{SearchListsModel}
use Rattle.worker_core.specs.Ahead.{AreFoundAhead}
use Rattle.worker_core.specs.declared.ahead.Ahead.{Ahead}
use Rattle.worker_core.specs.Roles.{IsGuided, guide_of}
use Rattle.worker_core.specs.Workers.{state_of}
use Rattle.world_model.specs.declared.limits.TheConstants.{WORKER_LIMIT}
use Rattle.world_model.specs.Credit.{IsCredited}
use Rattle.world_model.specs.Openings.{Job}
use Rattle.world_model.specs.Shapes.{IsShaped}
use Rattle.world_model.specs.Soundness.{IsSound}
use Rattle.world_model.specs.Workers.{WorkerState}
use Rattle.world_model.specs.Worlds.{WorldState}
use Rattle.hda_run.specs.declared.parts.Parts.{Parts}
use Rattle.hda_run.specs.Jobs.{JobModel, task_in}

-- the world that these parts make, where boards have these owners, by the spread and the number of workers
abbrev pub world_of : {S : Type 0} → (S → ℕ → BoardModel → ℕ) → Parts S → WorldState
world_of owner_of parts = record {
  task = task_in parts.job;
  owner = owner_of parts.owners.now (length parts.workers.items);
  workers = map (λ worker. state_of worker) parts.workers.items;
  book = parts.book;
  lanes = map (λ to_each. to_each.items) parts.lanes.items;
}

-- where one of these workers is alone, the lists know what it knows
abbrev pub KnowWhatOneKnows : List WorkerState → SearchListsModel → Type 0
KnowWhatOneKnows workers lists = (worker : WorkerState) → workers ≡ worker ∷ [] → lists.closed.known ≡ worker.known

-- the lists of each worker are guided to the goal
abbrev pub AreGuided : {S : Type 0} → Parts S → Type 0
AreGuided parts =
    All (λ worker. IsGuided (task_in parts.job) (guide_of (task_in parts.job)) worker.lists) parts.workers.items

-- what a world keeps, whatever steps are taken in it: it is shaped, sound and credited, and its workers are guided
pub record IsLawful {S : Type 0} (owner_of : S → ℕ → BoardModel → ℕ) (parts : Parts S) : Type 0 where
  pub shaped : IsShaped (world_of owner_of parts)
  pub sound : IsSound (world_of owner_of parts)
  pub credited : IsCredited (world_of owner_of parts)
  pub guided : AreGuided parts

-- the search in which the workers' moves are offered
abbrev pub terms_in : {S : Type 0} → Parts S → TermsModel S
terms_in parts = record { rule = parts.job.rule; tables = parts.job.tables; owners = parts.owners.now; workers = length parts.workers.items }

-- the parts of a world are lawful, and what was found ahead is what moves offer in its search
pub record IsWorld {S : Type 0} (owner_of : S → ℕ → BoardModel → ℕ) (parts : Parts S) (ahead : Ahead) : Type 0 where
  pub lawful : IsLawful owner_of parts
  pub found : AreFoundAhead owner_of (terms_in parts) ahead

-- something waits at f, and nothing below it
abbrev pub WaitsFrom : SearchListsModel → ℕ → Type 0
WaitsFrom lists f = (slice_index_or lists.waiting.entries f [] ≢ [])
    × ((h : ℕ) → h < f → slice_index_or lists.waiting.entries h [] ≡ [])

-- what n workers do, where boards have these owners, by the spread and the number of workers
abbrev pub job_of : {S : Type 0} → (S → ℕ → BoardModel → ℕ) → JobModel → S → ℕ → Job
job_of owner_of p owners workers =
    record { task = task_in p; limit = p.limit; count = workers; owner = owner_of owners workers }

-- there are workers, but not too many
abbrev pub IsWorkerCount : ℕ → Type 0
IsWorkerCount workers = (1 ≤ workers) × (workers ≤ WORKER_LIMIT)
