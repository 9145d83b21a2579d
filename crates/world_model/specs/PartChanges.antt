-- What steps make of parts.
use Rattle.std.specs.Prelude.{◌≡◌, ◌≢◌, ◌⊎◌, ℕ, ◌+◌, ◌-◌, ◌≤◌, List, [], ◌∷◌, ◌++◌, length, Option, slice_get, slice_set, unwrap_or, replicate}
use Rattle.world_model.specs.declared.limits.TheConstants.{PACKET_LIMIT}
use Rattle.world_model.specs.declared.parts.Item.{Item}
use Rattle.world_model.specs.declared.steps.HaltCause.{HaltCause}
use Rattle.world_model.specs.declared.steps.Refusal.{Refusal}
use Rattle.world_model.specs.Turns.{Turn, turn}
use Rattle.world_model.specs.Books.{BookState}
use Rattle.world_model.specs.Workers.{WorkerState, Packet, Lane, Role, packet_for}
use Rattle.world_model.specs.WorkerSteps.{ExpandStep, SettleStep}
use Rattle.world_model.specs.BookSteps.{AtBook, DrawStep, AnnounceStep, GrantStep, RestStep, HaltStep}
use Rattle.world_model.specs.Shapes.{IsItemFor}
use Rattle.world_model.specs.ThreadParts.{PartState}

-- the part with another worker
abbrev pub part_with_worker : PartState → WorkerState → PartState
part_with_worker part worker = record part { worker = worker }

-- the lanes with a packet more at the end of one
abbrev pub with_packet : List Lane → ℕ → Packet → List Lane
with_packet lanes at packet = slice_set lanes at (unwrap_or (slice_get lanes at) [] ++ packet ∷ [])

-- the last item held is foreign, and is dropped
abbrev pub DropStep : Role → WorkerState → WorkerState → Type 0
DropStep role worker worker' =
    (front : List Item) × (last : Item) × (worker.held ≡ front ++ last ∷ []) × (¬ IsItemFor role.task role.owner role.me last) × (worker' ≡ record worker { held = front })

-- the last item held is for this worker
abbrev pub HoldsOwnLast : Role → WorkerState → Type 0
HoldsOwnLast role worker = (front : List Item) (last : Item) → worker.held ≡ front ++ last ∷ [] → IsItemFor role.task role.owner role.me last

-- what is unsent for worker `to` goes to it as one packet, with 1 of the purse, in which 1 is left at least
abbrev pub Sends : ℕ → PartState → PartState → Type 0
Sends to part part' =
    (packet_for part.worker to ≢ [])
    × (2 ≤ part.worker.purse)
    × (part' ≡ record { worker = record part.worker { unsent = slice_set part.worker.unsent to []; purse = part.worker.purse - 1 }; sent = with_packet part.sent to (packet_for part.worker to); received = part.received })

-- a packet comes from worker `from`, where nothing was held: its items are held, and the purse gets its 1
abbrev pub Receives : ℕ → PartState → PartState → Type 0
Receives from part part' =
    (packet : Packet) × (part.worker.held ≡ []) × (1 ≤ length packet) × (length packet ≤ PACKET_LIMIT)
    × (part' ≡ record { worker = record part.worker { held = packet; purse = part.worker.purse + 1 }; sent = part.sent; received = with_packet part.received from packet })

-- one of the five steps on the book
abbrev pub IsBookStep : Role → Turn AtBook Refusal → Type 0
IsBookStep role it = DrawStep it ⊎ AnnounceStep role it ⊎ GrantStep role it ⊎ RestStep role it ⊎ ((cause : HaltCause) × HaltStep cause it)

-- the worker takes a step by itself
abbrev pub StepsAlone : Role → PartState → PartState → Type 0
StepsAlone role part part' =
    (answer : Option Refusal) × (worker : WorkerState)
    × (ExpandStep role (turn part.worker answer worker) ⊎ SettleStep (turn part.worker answer worker))
    × (part' ≡ part_with_worker part worker)

-- the worker takes a step on the book
abbrev pub StepsAtBook : Role → PartState → PartState → Type 0
StepsAtBook role part part' =
    (answer : Option Refusal) × (worker : WorkerState) × (book book' : BookState)
    × IsBookStep role (turn (record { worker = part.worker; book = book }) answer (record { worker = worker; book = book' }))
    × (part' ≡ part_with_worker part worker)

-- the worker takes a step by itself or on the book, or a packet goes to a worker or comes from one
abbrev pub IsPartStep : Role → PartState → PartState → Type 0
IsPartStep role part part' = StepsAlone role part part' ⊎ StepsAtBook role part part' ⊎ ((to : ℕ) × Sends to part part') ⊎ ((from : ℕ) × Receives from part part')

-- the part of one of n workers as a run begins: nothing was sent, and nothing came
abbrev pub opening_part : ℕ → WorkerState → PartState
opening_part n worker = record { worker = worker; sent = replicate n []; received = replicate n [] }
