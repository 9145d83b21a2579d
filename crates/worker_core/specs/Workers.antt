-- What contracts see of a worker.
use Rattle.std.specs.Prelude.{ℕ, ◌≡◌, ⊤, List, length, map, Result, Err}
use Rattle.arrayvec.specs.ArrayVec.{ArrayVec}
use Rattle.message_ledger.specs.Spending.{AllowanceModel, spent}
use Rattle.outcomes.specs.Outcomes.{Task}
use Rattle.search_lists.specs.Lists.{SearchListsModel}
use Rattle.search_lists.specs.Orders.{Guide}
use Rattle.world_model.specs.declared.parts.Item.{Item}
use Rattle.world_model.specs.declared.steps.Refusal.{Refusal}
use Rattle.world_model.specs.declared.steps.Refusal.TheVariants.{Memory}
use Rattle.world_model.specs.Books.{BookState}
use Rattle.world_model.specs.BookSteps.{AtBook}
use Rattle.world_model.specs.Workers.{WorkerState, Packet, Lane}
use Rattle.world_model.specs.Openings.{idle_worker}
use Rattle.world_model.specs.WorkerSteps.{AtLane}
use Rattle.worker_core.specs.Roles.{IsGuideOf, IsGuided}
use Rattle.worker_core.specs.declared.worker.Worker.{Worker}

-- the packets of lists of items
abbrev pub packets_of : List (ArrayVec Item) → List Packet
packets_of lists = map (λ list. list.items) lists

-- a worker, as worlds have it
abbrev pub state_of : {C D S K G : Type 0} → Worker C D S K G → WorkerState
state_of w = record { known = w.lists.closed.known; held = w.held.items; unsent = packets_of w.unsent.items; purse = w.purse; allowance = w.allowance.left; expansions = spent w.allowance; best = w.best }

-- One of this many workers as it begins: it knows and holds nothing, and has a purse, an allowance and lists. By each guide of a task
-- the lists are in order.
pub record BeginsWith {C D S K G : Type 0} (count share : ℕ) (grant : AllowanceModel) (given : SearchListsModel) (worker : Worker C D S K G) : Type 0 where
  pub state : state_of worker ≡ record (idle_worker count) { purse = share; allowance = grant.left; expansions = spent grant }
  pub lists : worker.lists ≡ given
  pub guided : (task : Task) (guide : Guide) → IsGuideOf task guide → IsGuided task guide worker.lists
  pub allowance : worker.allowance ≡ grant
  pub workers : length worker.unsent.items ≡ count

-- so it is where a step is refused since memory was refused
abbrev pub IfMemoryRefused : {T : Type 0} → Result T Refusal → Type 0 → Type 0
IfMemoryRefused (Err (Memory refused)) P = P
IfMemoryRefused _ P = ⊤

-- a worker, and a lane that it is lent
abbrev pub at_lane : WorkerState → Lane → AtLane
at_lane worker lane = record { worker = worker; lane = lane }

-- a worker, and the book that it is lent
abbrev pub with_book : WorkerState → BookState → AtBook
with_book worker book = record { worker = worker; book = book }
