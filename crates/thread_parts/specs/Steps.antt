-- The steps that a part takes otherwise than a worker of a world does.
use Rattle.std.specs.Prelude.{◌≡◌, ◌≢◌, ◌⊎◌, ℕ, ◌+◌, ◌^◌, ◌<◌, ◌≤◌, List, [], length, None, Some, slice_get, slice_index_or}
use Rattle.world_model.specs.PartChanges.{Sends, Receives}
use Rattle.world_model.specs.ThreadParts.{PartState}
use Rattle.world_model.specs.declared.steps.Refusal.{Refusal}
use Rattle.world_model.specs.declared.steps.Refusal.TheVariants.{NothingThere, PurseTooSmall, RingFull, StillHolding, PurseFull, RingEmpty, Stopped, PurseEmpty}
use Rattle.world_model.specs.Turns.{Turn, IsRefused, Unless}
use Rattle.world_model.specs.Workers.{WorkerState, Lane, packet_for}
use Rattle.thread_parts.specs.Rings.{Ring, room_of, MayBeFull}
use Rattle.world_model.specs.BookSteps.{AtBook}
use Rattle.world_model.specs.Books.{BookState}

-- What is unsent for worker `to` goes into the ring as one packet, with 1 of the purse. The part does not see whether the ring was full, but
-- only whether it may be.
abbrev pub SendByRing : List Ring → ℕ → Turn PartState Refusal → Type 0
SendByRing rings to it =
    Unless it (packet_for it.before.worker to ≡ []) NothingThere (
    Unless it (it.before.worker.purse < 2) PurseTooSmall (
    (MayBeFull rings it.before.sent to × IsRefused it RingFull) ⊎ ((it.answer ≡ None) × Sends to it.before it.after)))

-- The first packet comes out of the ring from worker `from`, its items are held, and the purse gets its 1. Nor is it seen whether the ring
-- was empty, but only what is left of what was seen in it.
abbrev pub DeliverByRing : List Lane → ℕ → Turn PartState Refusal → Type 0
DeliverByRing left from it =
    Unless it (it.before.worker.held ≢ []) StillHolding (
    Unless it (it.before.worker.purse + 1 ≡ 2 ^ 64) PurseFull (
    ((slice_index_or left from [] ≡ []) × IsRefused it RingEmpty) ⊎ ((it.answer ≡ None) × Receives from it.before it.after)))

-- the step on the book, where the run goes on and the purse is not empty
abbrev pub WithPurse : (Turn AtBook Refusal → Type 0) → Turn AtBook Refusal → Type 0
WithPurse Step it = Unless it (it.before.book.stop ≢ None) Stopped (Unless it (it.before.worker.purse ≡ 0) PurseEmpty (Step it))

-- why no step on the book may be taken: the run is stopped, or the purse is empty
abbrev pub IsBarred : WorkerState → BookState → Refusal → Type 0
IsBarred worker book refusal = ((book.stop ≢ None) × (refusal ≡ Stopped)) ⊎ ((¬ (book.stop ≢ None)) × (worker.purse ≡ 0) × (refusal ≡ PurseEmpty))

-- where a ring takes a packet, the part has sent it
abbrev pub SentIsSent : Type 0
SentIsSent = (rings : List Ring) (to : ℕ) (it : Turn PartState Refusal) → SendByRing rings to it → it.answer ≡ None → Sends to it.before it.after

-- and where it gives one, the part has received it
abbrev pub DeliveredIsReceived : Type 0
DeliveredIsReceived = (left : List Lane) (from : ℕ) (it : Turn PartState Refusal) → DeliverByRing left from it → it.answer ≡ None → Receives from it.before it.after

-- what a ring refuses changes nothing
abbrev pub RefusedPacketsChangeNothing : Type 0
RefusedPacketsChangeNothing = (rings : List Ring) (left : List Lane) (at : ℕ) (it : Turn PartState Refusal) (refusal : Refusal) → it.answer ≡ Some refusal → SendByRing rings at it ⊎ DeliverByRing left at it → it.after ≡ it.before

-- A packet is refused where nothing is unsent for that worker, and else where the purse is below 2. Otherwise it is sent, or the ring is
-- full. No ring is full before as many packets were sent by it as it has room for.
abbrev pub SendRefusalsAreDue : Type 0
SendRefusalsAreDue = (rings : List Ring) (to : ℕ) (it : Turn PartState Refusal) → SendByRing rings to it → (packet_for it.before.worker to ≡ [] → it.answer ≡ Some NothingThere)
    × (packet_for it.before.worker to ≢ [] → it.before.worker.purse < 2 → it.answer ≡ Some PurseTooSmall)
    × (packet_for it.before.worker to ≢ [] → 2 ≤ it.before.worker.purse → (it.answer ≡ None) ⊎ (it.answer ≡ Some RingFull))
    × ((ring : Ring) → it.answer ≡ Some RingFull → slice_get rings to ≡ Some ring → room_of ring ≤ length (slice_index_or it.before.sent to []))

-- None is taken where items are held, and else where the purse has no room for 1 more. Otherwise one is taken, or the ring is empty. No
-- ring is empty while a packet that was seen in it is left.
abbrev pub DeliverRefusalsAreDue : Type 0
DeliverRefusalsAreDue = (left : List Lane) (from : ℕ) (it : Turn PartState Refusal) → DeliverByRing left from it → (it.before.worker.held ≢ [] → it.answer ≡ Some StillHolding)
    × (it.before.worker.held ≡ [] → it.before.worker.purse + 1 ≡ 2 ^ 64 → it.answer ≡ Some PurseFull)
    × (it.before.worker.held ≡ [] → it.before.worker.purse + 1 ≢ 2 ^ 64 → (it.answer ≡ None) ⊎ (it.answer ≡ Some RingEmpty))
    × (it.answer ≡ Some RingEmpty → slice_index_or left from [] ≡ [])

-- with a purse, in a run that goes on, this step on the book is taken
abbrev pub WithAPurseItIsTheStep : (Turn AtBook Refusal → Type 0) → Type 0
WithAPurseItIsTheStep Step = (it : Turn AtBook Refusal) → it.before.book.stop ≡ None → it.before.worker.purse ≢ 0 → WithPurse Step it → Step it

-- without one, or in a run that is stopped, it is refused and changes nothing; the refusal is Stopped where the run is stopped, and else
-- PurseEmpty
abbrev pub BarredStepsChangeNothing : (Turn AtBook Refusal → Type 0) → Type 0
BarredStepsChangeNothing Step = (it : Turn AtBook Refusal) → (it.before.book.stop ≢ None) ⊎ (it.before.worker.purse ≡ 0) → WithPurse Step it → (it.answer ≢ None)
    × (it.before.book.stop ≢ None → it.answer ≡ Some Stopped)
    × (it.before.book.stop ≡ None → it.answer ≡ Some PurseEmpty)
    × (it.after ≡ it.before)
