-- The parts of a run, joined.
use Rattle.std.specs.Prelude.{◌≡◌, ℕ, ◌≤◌, List, ◌++◌, length, map, Some, slice_get}
use Rattle.board.specs.declared.moves.Move.{Move}
use Rattle.board.specs.Boards.{BoardModel}
use Rattle.outcomes.specs.Outcomes.{Task}
use Rattle.world_model.specs.declared.limits.TheConstants.{LANE_LIMIT}
use Rattle.world_model.specs.Books.{BookState}
use Rattle.world_model.specs.Workers.{WorkerState, Lane, Role}
use Rattle.world_model.specs.Worlds.{WorldState}
use Rattle.world_model.specs.Openings.{Job, opening}
use Rattle.world_model.specs.ThreadParts.{PartState, IsRole, Keeps}
use Rattle.world_model.specs.PartChanges.{opening_part}

-- the workers of parts
abbrev pub workers_of : List PartState → List WorkerState
workers_of parts = map (λ part. part.worker) parts

-- the lane from one worker to another, of the lanes from each worker to each, is this
abbrev pub IsAt : List (List Lane) → ℕ → ℕ → Lane → Type 0
IsAt lanes from to lane = (row : List Lane) × (slice_get lanes from ≡ Some row) × (slice_get row to ≡ Some lane)

-- a task, and who owns which board
pub record Shared : Type 0 where
  pub task : Task
  pub owner : BoardModel → ℕ

-- the role of worker i
abbrev pub role_in : Shared → ℕ → Role
role_in shared i = record { task = shared.task; owner = shared.owner; me = i }

-- The parts of all workers, one for each, and the lanes from each worker to each. Each part keeps what it keeps by itself; no lane has
-- too many packets; and what came by a lane, with what still lies in it behind that, is what was sent by it.
pub record AreParts (shared : Shared) (parts : List PartState) (lanes : List (List Lane)) : Type 0 where
  pub roles : (i : ℕ) (part : PartState) → slice_get parts i ≡ Some part → IsRole (length parts) (role_in shared i)
  pub some : 1 ≤ length parts
  pub keep : (i : ℕ) (part : PartState) → slice_get parts i ≡ Some part → Keeps (length parts) (role_in shared i) part
  pub senders : length lanes ≡ length parts
  pub receivers : (from : ℕ) (row : List Lane) → slice_get lanes from ≡ Some row → length row ≡ length parts
  pub few : (from to : ℕ) (lane : Lane) → IsAt lanes from to lane → length lane ≤ LANE_LIMIT
  pub tied : (from to : ℕ) (sender receiver : PartState) (sent received left : Lane)
      → slice_get parts from ≡ Some sender
      → slice_get parts to ≡ Some receiver
      → slice_get sender.sent to ≡ Some sent
      → slice_get receiver.received from ≡ Some received
      → IsAt lanes from to left
      → received ++ left ≡ sent

-- the world that parts make, with a book and with lanes
abbrev pub world_with : Shared → List PartState → BookState → List (List Lane) → WorldState
world_with shared parts book lanes = record { task = shared.task; owner = shared.owner; workers = workers_of parts; book = book; lanes = lanes }

-- the task of a world, and its owners
abbrev pub shared_by : WorldState → Shared
shared_by w = record { task = w.task; owner = w.owner }

-- the world is the one that these parts make, with its own book and lanes
abbrev pub IsOfParts : WorldState → List PartState → Type 0
IsOfParts w parts = AreParts (shared_by w) parts w.lanes × (w ≡ world_with (shared_by w) parts w.book w.lanes)

-- the parts with which the run of a job begins
abbrev pub opening_parts : Job → Move → List PartState
opening_parts job via = map (opening_part job.count) (opening job via).workers
