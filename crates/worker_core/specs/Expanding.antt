-- How a worker takes what the moves from a board offer, one after the other.
use Rattle.std.specs.Prelude.{⊤, ℕ, ◌≡◌, ◌≢◌, ◌⊎◌, ◌+◌, ◌<◌, ◌≤◌, List, [], ◌∷◌, length, slice_index_or, Option, Some, None, IfSome, Err, OnErr, OnOk, Result}
use Rattle.memory.specs.declared.OutOfMemory.{OutOfMemory}
use Rattle.board.specs.declared.moves.Move.{Move}
use Rattle.board.specs.declared.moves.Move.TheVariants.{U, L, R, D}
use Rattle.board.specs.Shapes.{ShapeModel}
use Rattle.search_keys.specs.SearchKeys.{HasSearchKey}
use Rattle.board.specs.Boards.{BoardModel}
use Rattle.open_buckets.specs.declared.open.TheConstants.{GREATEST_F}
use Rattle.open_buckets.specs.OpenLists.{places_at}
use Rattle.owners.specs.declared.offer.Offer.{Offer}
use Rattle.owners.specs.Offers.{AreOffered, Offers, OfEach, item_by}
use Rattle.owners.specs.Room.{goes}
use Rattle.outcomes.specs.Outcomes.{Task}
use Rattle.search_lists.specs.Lists.{HasMoreRoom, SearchListsModel}
use Rattle.search_lists.specs.Orders.{Guide}
use Rattle.successor_sums.specs.ByMoves.{OfFour, four_by, of_move}
use Rattle.successor_sums.specs.Unpacked.{but}
use Rattle.world_model.specs.declared.limits.TheConstants.{PACKET_LIMIT}
use Rattle.world_model.specs.declared.parts.Item.{Item}
use Rattle.world_model.specs.declared.parts.Known.{Known}
use Rattle.world_model.specs.Expansions.{move_back, with_successor}
use Rattle.world_model.specs.Workers.{IsNext, WorkerState, Packet, Role}
use Rattle.world_model.specs.WorkerSteps.{ExpandStep, ExpandOnwardStep}
use Rattle.world_model.specs.Turns.{Turn}
use Rattle.world_model.specs.declared.steps.Refusal.{Refusal}
use Rattle.world_model.specs.declared.steps.Refusal.TheVariants.{Memory}
use Rattle.worker_core.specs.Roles.{WereReached}
use Rattle.worker_core.specs.Workers.{IfMemoryRefused}
use Rattle.worker_core.specs.declared.expanding.Successors.{Successors}
use Rattle.worker_core.specs.declared.expanding.Successors.TheVariants.{All, Onward}

-- the worker with one successor more, where there is one
abbrev pub taken : Role → WorkerState → Option Item → WorkerState
taken role worker None = worker
taken role worker (Some item) = with_successor role worker item

-- the worker with what the four moves lead to, taken in their order
abbrev pub all_taken : Role → WorkerState → (Move → Option Item) → WorkerState
all_taken role worker items = taken role (taken role (taken role (taken role worker (items U)) (items L)) (items R)) (items D)

-- what the four moves offer, in their order
abbrev pub in_turn : Offers → List (Option Offer)
in_turn offers = offers.up ∷ offers.left ∷ offers.right ∷ offers.down ∷ []

-- the move that is left out where a board is expanded that is known so: none, or the one back
abbrev pub left_out_by : Successors → Known → Option Move
left_out_by All known = None
left_out_by Onward known = move_back known

-- the step that expands a board by all moves, or by all but the one back
abbrev pub ExpandStepFor : Successors → Role → Turn WorkerState Refusal → Type 0
ExpandStepFor All role it = ExpandStep role it
ExpandStepFor Onward role it = ExpandOnwardStep role it

-- A worker that owns all boards, and of each knows the board from which it was reached, expands by all moves where it leaves the one back
-- out.
abbrev pub OnwardStepsAloneAreWhole : Type 0
OnwardStepsAloneAreWhole =
    (role : Role) (it : Turn WorkerState Refusal)
    → role.task.rule.grid ≡ role.task.goal.grid
    → ((b : BoardModel) → role.owner b ≡ role.me)
    → WereReached role.task.rule it.before.known
    → ExpandOnwardStep role it
    → ExpandStep role it

-- how many items of what some moves offer go from worker `me` to another, `to`
abbrev pub all_go : ℕ → ℕ → List (Option Offer) → ℕ
all_go me to [] = 0
all_go me to (offer ∷ rest) = goes me to offer + all_go me to rest

-- each offer that there is has this
abbrev pub OfAll : (Offer → Type 0) → List (Option Offer) → Type 0
OfAll P [] = ⊤
OfAll P (offer ∷ rest) = IfSome offer P × OfAll P rest

-- what a worker takes offers into: its lists, and for each worker the packet under construction
pub record Stock : Type 0 where
  pub lists : SearchListsModel
  pub unsent : List Packet

abbrev pub stock : SearchListsModel → List Packet → Stock
stock lists unsent = record { lists = lists; unsent = unsent }

-- Worker `me` has what it takes to take these offers: the lists have places for as many boards, and the packets for the items. The
-- offers have keys of boards of the grid.
pub record IsReady (me : ℕ) (grid : ShapeModel) (into : Stock) (offers : List (Option Offer)) : Type 0 where
  pub there : OfAll (λ offer. offer.owner < length into.unsent) offers
  pub keys : OfAll (λ offer. (b : BoardModel) × HasSearchKey grid offer.key b) offers
  pub boards : length offers ≤ into.lists.closed.room
  pub places : OfAll (λ offer. offer.owner ≡ me → length offers ≤ places_at into.lists.waiting offer.f) offers
  pub room : (to : ℕ) → to < length into.unsent → length (slice_index_or into.unsent to []) + all_go me to offers ≤ PACKET_LIMIT

-- at what is offered, where worker `me` owns it, there are places for as many boards as there are moves
abbrev pub HasPlaces : ℕ → SearchListsModel → Offer → Type 0
HasPlaces me lists offer = offer.owner ≡ me → 4 ≤ places_at lists.waiting offer.f

-- there are places for as many boards more as there are moves, and at each offer that worker `me` owns
abbrev pub HasAllPlaces : ℕ → SearchListsModel → Offers → Type 0
HasAllPlaces me lists offers = (4 ≤ lists.closed.room) × OfEach (HasPlaces me lists) offers

-- Room is made: all that was asked for is there. It is refused only where some of it was missing, and where all was there nothing changes.
-- What is known and what waits stay.
pub record MakesRoom {A E : Type 0} (has : SearchListsModel → Type 0) (answer : Result A E) (old new : SearchListsModel) : Type 0 where
  pub ok : OnOk answer (has new)
  pub refused : OnErr answer (¬ has old)
  pub enough : has old → new ≡ old
  pub same : HasMoreRoom old new

-- there are too few places for what the moves of the board that is expanded next offer
abbrev pub LacksPlacesToExpand : Successors → Role → WorkerState → SearchListsModel → Type 0
LacksPlacesToExpand successors role worker lists =
    (b : BoardModel) × (known : Known) × IsNext role.task worker b known × (offers : Offers)
    × AreOffered role.task.sum role.owner (but (left_out_by successors known) (item_by role.task.rule b known.cost)) offers
    × (¬ HasAllPlaces role.me lists offers)

-- places for four boards more, and for four at the f of each offer, are all places
abbrev pub FourPlacesAreEnough : Type 0
FourPlacesAreEnough = (me : ℕ) (lists : SearchListsModel) (offers : Offers) → 4 ≤ lists.closed.room → OfEach (λ offer. 4 ≤ places_at lists.waiting offer.f) offers → HasAllPlaces me lists offers

-- three are too few: for boards, and at an offer that the worker owns
abbrev pub ThreePlacesAreTooFew : Type 0
ThreePlacesAreTooFew = (me : ℕ) (lists : SearchListsModel) (offers : Offers) → (lists.closed.room ≡ 3) ⊎ ((m : Move) × (offer : Offer) × (of_move offers m ≡ Some offer) × (offer.owner ≡ me) × (places_at lists.waiting offer.f ≡ 3)) → ¬ HasAllPlaces me lists offers

-- what other workers own needs no places
abbrev pub OthersNeedNoPlaces : Type 0
OthersNeedNoPlaces = (me : ℕ) (lists : SearchListsModel) (offers : Offers) → 4 ≤ lists.closed.room → OfEach (λ offer. offer.owner ≢ me) offers → HasAllPlaces me lists offers

-- where memory is refused for an expansion, a board is next, and places are lacking for what its moves offer
abbrev pub ExpansionsLackPlaces : Type 0
ExpansionsLackPlaces =
    (refused : OutOfMemory) (successors : Successors) (role : Role) (worker : WorkerState) (lists : SearchListsModel)
    → IfMemoryRefused {T = ℕ} (Err (Memory refused)) (LacksPlacesToExpand successors role worker lists)
    → (b : BoardModel) × (known : Known) × (offers : Offers) × IsNext role.task worker b known × (¬ HasAllPlaces role.me lists offers)

-- at the cost plus sum of an item, where the worker owns its board, there are places for four boards
abbrev pub HasPlacesForItem : Role → SearchListsModel → Item → Type 0
HasPlacesForItem role lists item = role.owner item.board ≡ role.me → 4 ≤ places_at lists.waiting (item.cost + role.task.sum item.board)

-- There are places for four boards more, and for four at the cost plus sum of each item of the worker's own that the moves from the next
-- board give. The move that is left out needs none.
pub record HasPlacesToExpand (successors : Successors) (role : Role) (worker : WorkerState) (lists : SearchListsModel) : Type 0 where
  pub boards : 4 ≤ lists.closed.room
  pub entries : (b : BoardModel) (known : Known) → IsNext role.task worker b known → OfFour (HasPlacesForItem role lists) (four_by (but (left_out_by successors known) (item_by role.task.rule b known.cost)))

-- these places are enough for an expansion: memory isn't refused then
abbrev pub PlacesForOwnOffersAreEnough : Type 0
PlacesForOwnOffersAreEnough =
    (refused : OutOfMemory) (successors : Successors) (role : Role) (worker : WorkerState) (lists : SearchListsModel)
    → HasPlacesToExpand successors role worker lists
    → ¬ IfMemoryRefused {T = ℕ} (Err (Memory refused)) (LacksPlacesToExpand successors role worker lists)

-- what is offered adds up by this guide
abbrev pub AddsUpBy : Guide → Offer → Type 0
AddsUpBy guide offer = (offer.f ≡ offer.cost + guide.sum offer.key) × (offer.f ≤ GREATEST_F)

-- the role of worker `me` of `workers`, where boards have these owners among each number of workers
abbrev pub role_by : Task → (ℕ → BoardModel → ℕ) → ℕ → ℕ → Role
role_by task owner_among workers me = record { task = task; owner = owner_among workers; me = me }
