-- What a thread has of a run: a worker, and what went out and came in at its ends of the lanes.
use Rattle.std.specs.Prelude.{◌≡◌, ◌⊎◌, ℕ, ◌+◌, ◌≤◌, ◌<◌, true, false, List, [], length, Contains, Some, slice_get}
use Rattle.board.specs.declared.moves.Move.{Move}
use Rattle.board.specs.Boards.{BoardModel}
use Rattle.board.specs.Moves.{Moves}
use Rattle.board.specs.Neighbours.{opposite}
use Rattle.world_model.specs.declared.limits.TheConstants.{WORKER_LIMIT, PACKET_LIMIT}
use Rattle.world_model.specs.declared.parts.Item.{Item}
use Rattle.world_model.specs.declared.parts.Known.{Known}
use Rattle.world_model.specs.Costs.{limit_of}
use Rattle.world_model.specs.Workers.{WorkerState, Packet, Lane, Role, IsTaskBoard, KnowsAs, IsIdle}
use Rattle.world_model.specs.Shapes.{IsTask, IsItemFor, IsPacketFor, IsShapedWorker}

-- A part of a run: a worker, the packets that were sent to each worker, and those that came from each, the earliest first.
pub record PartState : Type 0 where
  pub worker : WorkerState
  pub sent : List Lane
  pub received : List Lane

-- the item is in a packet of the lane at this place
abbrev pub IsAmong : List Lane → ℕ → Item → Type 0
IsAmong lanes at item = (lane : Lane) × (packet : Packet) × (slice_get lanes at ≡ Some lane) × Contains lane packet × Contains packet item

-- the part sent the item to worker `to`
abbrev pub WasSent : PartState → ℕ → Item → Type 0
WasSent part to item = IsAmong part.sent to item

-- the item came to the part, from some worker
abbrev pub HasCome : PartState → Item → Type 0
HasCome part item = (from : ℕ) × IsAmong part.received from item

-- the worker has the item unsent for worker `to`
abbrev pub HasUnsent : WorkerState → ℕ → Item → Type 0
HasUnsent worker to item = (packet : Packet) × (slice_get worker.unsent to ≡ Some packet) × Contains packet item

-- the worker knows the board at no more than this cost
abbrev pub KnowsAtMost : WorkerState → BoardModel → ℕ → Type 0
KnowsAtMost worker b cost = (known : Known) × KnowsAs worker b known × (known.cost ≤ cost)

-- an item of the board at no more than this cost is unsent for its owner, or was sent to it
abbrev pub IsPassedOn : Role → PartState → BoardModel → ℕ → Type 0
IsPassedOn role part b cost =
    (item : Item) × (HasUnsent part.worker (role.owner b) item ⊎ WasSent part (role.owner b) item) × (item.board ≡ b) × (item.cost ≤ cost)

-- the board at this cost is seen to: the worker is its owner and knows it at no more, or it is passed on
abbrev pub IsSeenTo : Role → PartState → BoardModel → ℕ → Type 0
IsSeenTo role part b cost = ((role.owner b ≡ role.me) × KnowsAtMost part.worker b cost) ⊎ IsPassedOn role part b cost

-- the worker knows the board before this one by its last move, cheaper by the move's cost at least
abbrev pub KnowsBefore : Role → WorkerState → BoardModel → ℕ → Move → Type 0
KnowsBefore role worker b cost via =
    (before : BoardModel) × (c : ℕ) × (known : Known) × IsTaskBoard role.task before × Moves role.task.rule before via b c × KnowsAs worker before known × (known.cost + c ≤ cost)

-- the board at this cost is the start at 0, or the worker knows the one before it by its last move
abbrev pub IsMade : Role → WorkerState → BoardModel → ℕ → Move → Type 0
IsMade role worker b cost via = ((b ≡ role.task.start) × (cost ≡ 0)) ⊎ KnowsBefore role worker b cost via

-- the board came at this cost by this last move, as an item
abbrev pub CameAs : PartState → BoardModel → ℕ → Move → Type 0
CameAs part b cost via = (item : Item) × HasCome part item × (item.board ≡ b) × (item.cost ≡ cost) × (item.via ≡ via)

-- the board at this cost is made so, or it came as an item
abbrev pub HasOrigin : Role → PartState → BoardModel → ℕ → Move → Type 0
HasOrigin role part b cost via = IsMade role part.worker b cost via ⊎ CameAs part b cost via

-- The move leads back to where the board came from, as an item at a cost above 0: whoever sent that knows the board before it.
abbrev pub LeadsBack : PartState → BoardModel → Known → Move → Type 0
LeadsBack part b known m = (0 < known.cost) × (m ≡ opposite known.via) × CameAs part b known.cost known.via

-- the role is that of one of n workers who share a task, and among whom each board has its owner
pub record IsRole (n : ℕ) (role : Role) : Type 0 where
  pub task : IsTask role.task
  pub few : n ≤ WORKER_LIMIT
  pub me : role.me < n
  pub owners : (b : BoardModel) → role.owner b < n

-- no packet of the lane is empty or too long, and all their items are for worker `to`
abbrev pub AreFor : Role → ℕ → Lane → Type 0
AreFor role to lane = (packet : Packet) → Contains lane packet → (1 ≤ length packet) × IsPacketFor role.task role.owner to packet

-- What one of n parts keeps by itself, whatever the others do. All that its worker knows is its own, and each item that it sends is for the
-- worker to which it goes. The start's owner knows the start at 0. Each successor of a closed board is seen to, unless its move leads back.
-- Each board that is known has its origin, and each item that goes out is made here. What is held came, and what came for this worker is
-- known, or held still. The goal is not closed. A worker with an empty purse has nothing to do. Nothing is assumed of what comes: an item
-- that is not for the worker is foreign.
pub record Keeps (n : ℕ) (role : Role) (part : PartState) : Type 0 where
  pub shaped : IsShapedWorker n role (record part.worker { held = [] })
  pub few_held : length part.worker.held ≤ PACKET_LIMIT
  pub ends : (length part.sent ≡ n) × (length part.received ≡ n)
  pub sent : (to : ℕ) (lane : Lane) → slice_get part.sent to ≡ Some lane → AreFor role to lane
  pub start : role.owner role.task.start ≡ role.me → KnowsAtMost part.worker role.task.start 0
  pub successors : (b : BoardModel) (known : Known) → IsTaskBoard role.task b → KnowsAs part.worker b known → known.expanded ≡ true → (m : Move) (b' : BoardModel) (c : ℕ) → Moves role.task.rule b m b' c → IsSeenTo role part b' (known.cost + c) ⊎ LeadsBack part b known m
  pub origins : (b : BoardModel) (known : Known) → IsTaskBoard role.task b → KnowsAs part.worker b known → HasOrigin role part b known.cost known.via
  pub made : (to : ℕ) (item : Item) → HasUnsent part.worker to item ⊎ WasSent part to item → IsMade role part.worker item.board item.cost item.via
  pub held : (item : Item) → Contains part.worker.held item → HasCome part item
  pub arrived : (item : Item) → HasCome part item → IsItemFor role.task role.owner role.me item → KnowsAtMost part.worker item.board item.cost ⊎ Contains part.worker.held item
  pub goal_kept : (known : Known) → KnowsAs part.worker role.task.goal known → known.expanded ≡ false
  pub resting : part.worker.purse ≡ 0 → IsIdle role.task part.worker (limit_of part.worker.best) part.worker.best
