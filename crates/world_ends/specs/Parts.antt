-- What was asked of a run, and the parts of the world in which it ended.
use Rattle.std.specs.Prelude.{ℕ, ◌≡◌, List, length, map as each_of, All, Option, None, Some, slice_get}
use Rattle.std.specs.FinMap as map
use Rattle.board.specs.Boards.{BoardModel}
use Rattle.search_keys.specs.SearchKeys.{search_key}
use Rattle.outcomes.specs.Outcomes.{Task}
use Rattle.search_lists.specs.Orders.{Guide}
use Rattle.world_model.specs.declared.parts.Known.{Known}
use Rattle.world_model.specs.Workers.{WorkerState}
use Rattle.world_model.specs.Worlds.{WorldState}
use Rattle.world_model.specs.Shapes.{IsShaped}
use Rattle.world_model.specs.Soundness.{IsSound}
use Rattle.worker_core.specs.declared.worker.Worker.{Worker}
use Rattle.worker_core.specs.Workers.{state_of}
use Rattle.worker_core.specs.Roles.{task_of, IsGuided}
use Rattle.world_ends.specs.declared.asked.Asked.{Asked}
use Rattle.world_ends.specs.declared.asked.Snapshot.{Snapshot}
use Rattle.world_ends.specs.Lowest.{IsLowestInLanes}

-- the task that was asked
abbrev pub task_asked : Asked → Task
task_asked asked = task_of asked.start asked.goal asked.weights asked.bound.now

-- workers, as worlds have them
abbrev pub states_of : {C D S K G : Type 0} → List (Worker C D S K G) → List WorkerState
states_of workers = each_of state_of workers

-- by this guide the lists of each worker are in order, and what they know is boards of the task
abbrev pub AreWorkersGuided : {C D S K G : Type 0} → Task → Guide → List (Worker C D S K G) → Type 0
AreWorkersGuided task guide workers = All (λ worker. IsGuided task guide worker.lists) workers

-- A shaped and sound world that has this task, these workers, and the owners of boards among as many. Its book and its
-- lanes may be any.
pub record HasParts (task : Task) (owner_among : ℕ → BoardModel → ℕ) (states : List WorkerState) (w : WorldState)
    : Type 0 where
  pub asks : w.task ≡ task
  pub owns : (b : BoardModel) → w.owner b ≡ owner_among (length states) b
  pub works : w.workers ≡ states
  pub shaped : IsShaped w
  pub sound : IsSound w

-- the workers are those of a world in which this is asked, with their lists in order by one guide, and the tables have
-- the goal's sides
pub record AreOfWorld {C D S K G : Type 0} (asked : Asked) (owner_among : ℕ → BoardModel → ℕ)
    (workers : List (Worker C D S K G)) : Type 0 where
  pub sides : asked.bound.now.split.grid ≡ asked.goal.grid
  pub guide : Guide
  pub guided : AreWorkersGuided (task_asked asked) guide workers
  pub world : WorldState
  pub parts : HasParts (task_asked asked) owner_among (states_of workers) world

-- the world has these workers, and beside them is as the snapshot says
pub record IsSeen {C D S K G : Type 0} (asked : Asked) (owner_among : ℕ → BoardModel → ℕ)
    (workers : List (Worker C D S K G)) (snapshot : Snapshot) (w : WorldState) : Type 0 where
  pub parts : HasParts (task_asked asked) owner_among (states_of workers) w
  pub lanes : IsLowestInLanes w snapshot.lanes
  pub stop : w.book.stop ≡ snapshot.stop

-- what a worker, if there is one, knows of the board with this search key
abbrev pub known_by : Option WorkerState → ℕ → Option Known
known_by None key = None
known_by (Some worker) key = map.get worker.known key

-- what a board's owner knows of it
abbrev pub known_in : (ℕ → BoardModel → ℕ) → List WorkerState → BoardModel → Option Known
known_in owner_among states b = known_by (slice_get states (owner_among (length states) b)) (search_key b)
