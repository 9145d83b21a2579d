-- The laws of parts.
use Rattle.std.specs.Prelude.{◌≡◌, ◌≢◌, ◌⊎◌, ℕ, ◌+◌, ◌≤◌, ◌<◌, List, [], length, All, Option, Some, slice_get, slice_set}
use Rattle.board.specs.declared.moves.Move.{Move}
use Rattle.board.specs.Boards.{BoardModel}
use Rattle.world_model.specs.declared.steps.Refusal.{Refusal}
use Rattle.world_model.specs.declared.steps.Step.{Step}
use Rattle.world_model.specs.Turns.{Turn, turn}
use Rattle.world_model.specs.Costs.{limit_of}
use Rattle.world_model.specs.Books.{BookState}
use Rattle.world_model.specs.Workers.{WorkerState, Lane, Role}
use Rattle.world_model.specs.WorkerSteps.{ExpandOnwardStep, ExpandStep, SettleStep}
use Rattle.world_model.specs.Worlds.{WorldState, role_of}
use Rattle.world_model.specs.Steps.{Next, IsRun}
use Rattle.world_model.specs.Openings.{Job, IsJob, idle_worker, first_worker, opening}
use Rattle.world_model.specs.Shapes.{IsShaped}
use Rattle.world_model.specs.Soundness.{IsSound}
use Rattle.world_model.specs.Credit.{IsCredited, packet_count}
use Rattle.world_model.specs.Frontiers.{IsInFrontier, IsReached}
use Rattle.world_model.specs.Quiet.{IsQuiet}
use Rattle.world_model.specs.ThreadParts.{PartState, IsRole, Keeps}
use Rattle.world_model.specs.PartChanges.{part_with_worker, DropStep, HoldsOwnLast, Sends, Receives, IsBookStep, IsPartStep, StepsAlone, StepsAtBook, opening_part}
use Rattle.world_model.specs.JoinedParts.{Shared, role_in, AreParts, world_with, IsOfParts, opening_parts}

-- a part whose worker expands a board, by all moves or by all but the one back, keeps what it keeps
abbrev pub ExpandingIsKept : Type 0
ExpandingIsKept =
    (n : ℕ) (role : Role) (part : PartState) (answer : Option Refusal) (worker : WorkerState)
    → IsRole n role
    → Keeps n role part
    → ExpandStep role (turn part.worker answer worker) ⊎ ExpandOnwardStep role (turn part.worker answer worker)
    → Keeps n role (part_with_worker part worker)

-- so does one that settles an item which is its own
abbrev pub SettlingIsKept : Type 0
SettlingIsKept =
    (n : ℕ) (role : Role) (part : PartState) (answer : Option Refusal) (worker : WorkerState)
    → IsRole n role
    → Keeps n role part
    → HoldsOwnLast role part.worker
    → SettleStep (turn part.worker answer worker)
    → Keeps n role (part_with_worker part worker)

-- and one that drops a foreign one
abbrev pub DroppingIsKept : Type 0
DroppingIsKept =
    (n : ℕ) (role : Role) (part : PartState) (worker : WorkerState)
    → IsRole n role
    → Keeps n role part
    → DropStep role part.worker worker
    → Keeps n role (part_with_worker part worker)

-- and one that sends a packet to one of the workers
abbrev pub SendingIsKept : Type 0
SendingIsKept =
    (n to : ℕ) (role : Role) (part part' : PartState) → IsRole n role → to < n → Keeps n role part → Sends to part part' → Keeps n role part'

-- and one that takes in a packet from one of them, whatever is in it
abbrev pub ReceivingIsKept : Type 0
ReceivingIsKept =
    (n from : ℕ) (role : Role) (part part' : PartState) → IsRole n role → from < n → Keeps n role part → Receives from part part' → Keeps n role part'

-- and one with a purse that takes a step on the book, whatever the book says
abbrev pub BookStepsAreKept : Type 0
BookStepsAreKept =
    (n : ℕ) (role : Role) (part : PartState) (book book' : BookState) (answer : Option Refusal) (worker : WorkerState)
    → IsRole n role
    → Keeps n role part
    → part.worker.purse ≢ 0
    → IsBookStep role (turn (record { worker = part.worker; book = book }) answer (record { worker = worker; book = book' }))
    → Keeps n role (part_with_worker part worker)

-- so does one that takes any step of a world's part: where it steps alone its last item is its own, on the book its purse is not empty, and
-- packets go to workers and come from them
abbrev pub PartStepsAreKept : Type 0
PartStepsAreKept =
    (n : ℕ) (role : Role) (part part' : PartState)
    → IsRole n role
    → Keeps n role part
    → (StepsAlone role part part' → HoldsOwnLast role part.worker)
    → (StepsAtBook role part part' → part.worker.purse ≢ 0)
    → ((to : ℕ) → Sends to part part' → to < n)
    → ((from : ℕ) → Receives from part part' → from < n)
    → IsPartStep role part part'
    → Keeps n role part'

-- a part with which a run begins keeps that: the start's owner knows the start, and the others know nothing
abbrev pub OpeningsAreKept : Type 0
OpeningsAreKept =
    (n : ℕ) (role : Role)
    → IsRole n role
    → (role.owner role.task.start ≢ role.me → Keeps n role (opening_part n (idle_worker n)))
    × ((via : Move) → role.owner role.task.start ≡ role.me → Keeps n role (opening_part n (first_worker n role.task via)))

-- a packet that comes in has an item: the part holds something then
abbrev pub PacketsHaveItems : Type 0
PacketsHaveItems = (from : ℕ) (part part' : PartState) → Receives from part part' → part'.worker.held ≢ []

-- parts that are joined are a shaped and sound world, with any book that has a floor for each
abbrev pub JoinedPartsAreSound : Type 0
JoinedPartsAreSound =
    (shared : Shared) (parts : List PartState) (book : BookState) (lanes : List (List Lane))
    → AreParts shared parts lanes
    → length book.floors ≡ length parts
    → IsShaped (world_with shared parts book lanes) × IsSound (world_with shared parts book lanes)

-- Where all purses are empty and no packet is in a lane, nothing is under way. So the world is quiet where the frontier is not below the
-- limit, and the best cost is that at which the goal is known.
abbrev pub JoinedPartsAreQuiet : Type 0
JoinedPartsAreQuiet =
    (shared : Shared) (parts : List PartState) (book : BookState) (lanes : List (List Lane))
    → AreParts shared parts lanes
    → All (λ part. part.worker.purse ≡ 0) parts
    → packet_count (world_with shared parts book lanes) ≡ 0
    → ((b : BoardModel) (cost : ℕ) → IsInFrontier (world_with shared parts book lanes) b cost → limit_of book.best ≤ cost + shared.task.sum b)
    → IsReached (world_with shared parts book lanes) book.best
    → IsQuiet (world_with shared parts book lanes)

-- where parts are joined, the last item that a worker holds is its own, so nothing is dropped there
abbrev pub NothingHeldIsForeign : Type 0
NothingHeldIsForeign =
    (shared : Shared) (parts : List PartState) (lanes : List (List Lane)) (i : ℕ) (part : PartState)
    → AreParts shared parts lanes
    → slice_get parts i ≡ Some part
    → HoldsOwnLast (role_in shared i) part.worker

-- the world in which a job's run begins is that of its opening parts
abbrev pub OpeningsAreOfParts : Type 0
OpeningsAreOfParts = (job : Job) (via : Move) → IsJob job → IsOfParts (opening job via) (opening_parts job via)

-- A step of a world changes one part, which takes a step of its own, and the parts stay joined.
abbrev pub StepsAreOfParts : Type 0
StepsAreOfParts =
    (step : Step) (it : Turn WorldState Refusal) (parts : List PartState)
    → Next step it
    → IsShaped it.before
    → IsCredited it.before
    → IsOfParts it.before parts
    → (it.after ≡ it.before)
    ⊎ ((i : ℕ) × (part part' : PartState) × (slice_get parts i ≡ Some part) × IsPartStep (role_of it.before i) part part' × IsOfParts it.after (slice_set parts i part'))

-- So each world that a run reaches is that of some parts: what parts keep, and what ties them, is nothing that a run could break.
abbrev pub RunsAreOfParts : Type 0
RunsAreOfParts =
    (job : Job) (via : Move) (made : List (Step × Option Refusal)) (w : WorldState)
    → IsJob job
    → IsRun (opening job via) made w
    → (parts : List PartState) × IsOfParts w parts
