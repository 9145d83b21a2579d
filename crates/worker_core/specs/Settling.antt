-- How a worker settles the last item that it holds.
use Rattle.std.specs.Prelude.{◌≡◌, ◌⊎◌, ◌+◌, ◌<◌, ℕ, true, false, Err, List, [], ◌∷◌, ◌++◌, None, Some}
use Rattle.std.specs.FinMap as map
use Rattle.memory.specs.declared.OutOfMemory.{OutOfMemory}
use Rattle.lower_bound.specs.Bounds.{sum_of}
use Rattle.lower_bound.specs.Tables.{parts_of}
use Rattle.open_buckets.specs.OpenLists.{places_at}
use Rattle.search_keys.specs.SearchKeys.{search_key}
use Rattle.search_lists.specs.Lists.{SearchListsModel}
use Rattle.world_model.specs.declared.parts.Item.{Item}
use Rattle.world_model.specs.declared.steps.Refusal.{Refusal}
use Rattle.world_model.specs.declared.steps.Refusal.TheVariants.{Memory}
use Rattle.world_model.specs.Knowledge.{is_news}
use Rattle.world_model.specs.Shapes.{IsItemFor}
use Rattle.world_model.specs.Turns.{Turn}
use Rattle.world_model.specs.Workers.{WorkerState, Role}
use Rattle.world_model.specs.WorkerSteps.{SettleStep}
use Rattle.world_model.specs.PartChanges.{DropStep, HoldsOwnLast}
use Rattle.worker_core.specs.Contexts.{ContextModel}
use Rattle.worker_core.specs.Workers.{IfMemoryRefused}

-- the item is the worker's own: a board with the goal's sides that it owns, at a cost of at most `GREATEST_COST`
abbrev pub IsOwn : Role → Item → Type 0
IsOwn role item = IsItemFor role.task role.owner role.me item

-- Any other is foreign: its board has other sides, another worker owns it, or its cost is above `GREATEST_COST`. No worker of a world holds
-- a foreign item. For running threads this is known only after they were joined.
abbrev pub IsForeign : Role → Item → Type 0
IsForeign role item = ¬ IsOwn role item

-- the last item held is taken out: a foreign one is dropped, and else its board is relaxed
abbrev pub SettleOrDrop : Role → Turn WorkerState Refusal → Type 0
SettleOrDrop role it = (HoldsOwnLast role it.before × SettleStep it) ⊎ ((it.answer ≡ None) × DropStep role it.before it.after)

-- what is refused changes nothing
abbrev pub RefusedSettlesChangeNothing : Type 0
RefusedSettlesChangeNothing = (role : Role) (it : Turn WorkerState Refusal) (refusal : Refusal) → SettleOrDrop role it → it.answer ≡ Some refusal → it.after ≡ it.before

-- there is a place for one board more, and for one that waits at an f
abbrev pub HasPlaceAt : ℕ → SearchListsModel → Type 0
HasPlaceAt f lists = (0 < lists.closed.room) × (0 < places_at lists.waiting f)

-- the cost of the item's board is news, and there is no place for the board at its cost plus sum
pub record LacksPlaceFor {S : Type 0} (context : ContextModel S) (item : Item) (lists : SearchListsModel) : Type 0 where
  pub news : is_news (map.get lists.closed.known (search_key item.board)) item.cost ≡ true
  pub no_place : ¬ HasPlaceAt (item.cost + sum_of (parts_of context.tables) item.board) lists

-- so it is for the last of the items that a worker holds
abbrev pub LacksPlaceForLast : {S : Type 0} → ContextModel S → List Item → SearchListsModel → Type 0
LacksPlaceForLast context held lists = (front : List Item) × (last : Item) × (held ≡ front ++ last ∷ []) × LacksPlaceFor context last lists

-- where nothing is held, no place is lacking
abbrev pub NothingHeldLacksNothing : Type 0 → Type 0
NothingHeldLacksNothing S = (context : ContextModel S) (lists : SearchListsModel) → ¬ LacksPlaceForLast context [] lists

-- where the cost of the last item held is no news, no place is lacking
abbrev pub NoNewsLacksNothing : Type 0 → Type 0
NoNewsLacksNothing S =
    (context : ContextModel S) (front : List Item) (last : Item) (lists : SearchListsModel)
    → is_news (map.get lists.closed.known (search_key last.board)) last.cost ≡ false
    → ¬ LacksPlaceForLast context (front ++ last ∷ []) lists

-- one place for the board of the last item held, and one at its cost plus sum, are enough: memory isn't refused then
abbrev pub OnePlaceIsEnough : Type 0 → Type 0
OnePlaceIsEnough S =
    (refused : OutOfMemory) (context : ContextModel S) (front : List Item) (last : Item) (lists : SearchListsModel)
    → 0 < lists.closed.room
    → 0 < places_at lists.waiting (last.cost + sum_of (parts_of context.tables) last.board)
    → ¬ IfMemoryRefused {T = ℕ} (Err (Memory refused)) (LacksPlaceForLast context (front ++ last ∷ []) lists)
