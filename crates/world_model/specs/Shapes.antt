-- What holds of each part of a world alone: its counts, its ranges and its owners.
use Rattle.std.specs.Prelude.{◌≡◌, ℕ, ◌≤◌, ◌<◌, List, length, Contains, Some, slice_get}
use Rattle.std.specs.FinMap as map
use Rattle.board.specs.declared.costs.TheConstants.{GREATEST_COST}
use Rattle.board.specs.Boards.{BoardModel, IsBoard}
use Rattle.board.specs.Weights.{AreWeights}
use Rattle.search_keys.specs.SearchKeys.{search_key}
use Rattle.outcomes.specs.Outcomes.{Task}
use Rattle.world_model.specs.declared.limits.TheConstants.{WORKER_LIMIT, PACKET_LIMIT, LANE_LIMIT}
use Rattle.world_model.specs.declared.parts.Item.{Item}
use Rattle.world_model.specs.declared.parts.Known.{Known}
use Rattle.world_model.specs.Workers.{WorkerState, Packet, Lane, Role, IsTaskBoard}
use Rattle.world_model.specs.Worlds.{WorldState, IsWorker, IsLane, role_of}

-- start and goal are boards of one shape, and each of its tiles has a weight
pub record IsTask (task : Task) : Type 0 where
  pub start : IsBoard task.start
  pub goal : IsBoard task.goal
  pub sides : task.start.grid ≡ task.goal.grid
  pub rule : AreWeights task.rule
  pub costs : task.rule.grid ≡ task.goal.grid

-- a board of the task that worker `to` owns, at a cost of at most `GREATEST_COST`
abbrev pub IsItemFor : Task → (BoardModel → ℕ) → ℕ → Item → Type 0
IsItemFor task owner to item = IsTaskBoard task item.board × (owner item.board ≡ to) × (item.cost ≤ GREATEST_COST)

-- not too many items, and all are for worker `to`
pub record IsPacketFor (task : Task) (owner : BoardModel → ℕ) (to : ℕ) (packet : Packet) : Type 0 where
  pub few : length packet ≤ PACKET_LIMIT
  pub items : (item : Item) → Contains packet item → IsItemFor task owner to item

-- one of n workers: each key that it knows is that of a board of the task that it owns, and it has a packet for each worker
pub record IsShapedWorker (n : ℕ) (role : Role) (worker : WorkerState) : Type 0 where
  pub known : (key : ℕ) (known : Known) → map.get worker.known key ≡ Some known → (b : BoardModel) × IsTaskBoard role.task b × (search_key b ≡ key) × (role.owner b ≡ role.me) × (known.cost ≤ GREATEST_COST)
  pub held : IsPacketFor role.task role.owner role.me worker.held
  pub lists : length worker.unsent ≡ n
  pub unsent : (to : ℕ) (packet : Packet) → slice_get worker.unsent to ≡ Some packet → IsPacketFor role.task role.owner to packet

-- a lane to worker `to`: not too many packets, and none is empty
pub record IsShapedLane (task : Task) (owner : BoardModel → ℕ) (to : ℕ) (lane : Lane) : Type 0 where
  pub few : length lane ≤ LANE_LIMIT
  pub packets : (packet : Packet) → Contains lane packet → (1 ≤ length packet) × IsPacketFor task owner to packet

-- There are workers, not too many, and each board has its owner among them. Each worker has a floor and a lane to each worker. Each
-- part is as it should be.
pub record IsShaped (w : WorldState) : Type 0 where
  pub task : IsTask w.task
  pub count : (1 ≤ length w.workers) × (length w.workers ≤ WORKER_LIMIT)
  pub owners : (b : BoardModel) → w.owner b < length w.workers
  pub workers : (i : ℕ) (worker : WorkerState) → IsWorker w i worker → IsShapedWorker (length w.workers) (role_of w i) worker
  pub floors : length w.book.floors ≡ length w.workers
  pub senders : length w.lanes ≡ length w.workers
  pub receivers : (from : ℕ) (from_lanes : List Lane) → slice_get w.lanes from ≡ Some from_lanes → length from_lanes ≡ length w.workers
  pub lanes : (from to : ℕ) (lane : Lane) → IsLane w from to lane → IsShapedLane w.task w.owner to lane
