-- What an expansion makes of a worker, by the offers of four moves that are taken one after the other.
use Rattle.std.proofs.Common.{◌≡◌, ◌≢◌, ℕ, ◌+◌, ◌<◌, ◌≤◌, Bool, true, false, eqb, cond, List, [], ◌∷◌, ◌++◌, length, get_or, set, Option, Some, None, refl, sym, ap, ◌∙◌, subst, ⊎_elim, arith, ◌-◌}
use Rattle.std.specs.Prelude.{IfSome, option_map, fold, filter_map}
use Rattle.std.proofs.lemmas.Bool.{cases_Bool, cases_eq, cond-true, cond-false, ne_eqb, eq-eqb}
use Rattle.std.proofs.lemmas.List.{get_or-set_same, get_or-set_other, length-append, length-set}
use Rattle.std.proofs.lemmas.Option.{unwrap_or-slice_get}
use Rattle.std.specs.FinMap as map
use Rattle.std.specs.List.{cons_option}
use Rattle.board.specs.declared.moves.Move.{Move}
use Rattle.board.specs.Shapes.{ShapeModel}
use Rattle.search_keys.specs.SearchKeys.{search_key, HasSearchKey}
use Rattle.board.specs.Boards.{BoardModel, IsBoard}
use Rattle.search_keys.proofs.SearchKeyLemmas.{one_board as same_board}
use Rattle.board.specs.declared.moves.Move.TheVariants.{U, L, R, D}
use Rattle.board.specs.declared.costs.TheConstants.{GREATEST_EXPANDED_COST}
use Rattle.board.specs.Weights.{WeightsModel}
use Rattle.board.specs.Moves.{Moves, successor}
use Rattle.board.proofs.MoveLemmas.{moved_board}
use Rattle.board.proofs.NeighbourLemmas.{successor_moves}
use Rattle.outcomes.specs.Outcomes.{Task}
use Rattle.lower_bound.specs.Tables.{BoundModel}
use Rattle.successor_sums.specs.ByMoves.{before, entries_of, of_move}
use Rattle.successor_sums.specs.Unpacked.{is_left_out, but}
use Rattle.world_model.specs.declared.parts.Item.{Item}
use Rattle.world_model.specs.declared.parts.Known.{Known}
use Rattle.world_model.specs.Knowledge.{Knowledge, is_news, relaxation_at}
use Rattle.world_model.specs.Expansions.{with_successor, with_closure, expansion}
use Rattle.world_model.specs.Workers.{WorkerState, Packet, Role, IsTaskBoard, IsOpen, IsNext}
use Rattle.world_model.proofs.ChangeLemmas.{with_insert}
use Rattle.open_buckets.specs.OpenLists.{places_at}
use Rattle.closed_table.specs.Tables.{ClosedModel, table_relaxation, table_closure, room_after}
use Rattle.search_lists.specs.declared.lists.Met.{Met}
use Rattle.search_lists.specs.Lists.{SearchListsModel, HasMoreRoom}
use Rattle.search_lists.specs.Orders.{Guide, IsInOrder, AddsUp, IsLeastOpen, NoneBelow}
use Rattle.search_lists.specs.declared.lists.Next.{Next}
use Rattle.owners.specs.declared.offer.Offer.{Offer}
use Rattle.owners.specs.Offers.{IsOfferOf, IsOffered, AreOffered, OfEach, Offers, item_by, IsWithin}
use Rattle.owners.specs.Room.{goes, HasRoom}
use Rattle.owners.proofs.OfferLemmas.{entry_is, entries_give, of_one}
use Rattle.worker_core.specs.Expanding.{IsReady, stock, OfAll, taken, AddsUpBy, all_go, all_taken, in_turn, HasAllPlaces, HasPlaces, HasPlacesForItem, HasPlacesToExpand, left_out_by}
use Rattle.worker_core.specs.declared.expanding.Successors.{Successors}
use Rattle.worker_core.specs.Roles.{IsGuided, AreTaskBoards, IsGuideOf, task_of}
use Rattle.worker_core.proofs.GuideLemmas.{none_below}

-- ---- what is left to take after one offer was taken: packets

-- one item more in the packet for one worker
abbrev pub put : List Packet → ℕ → Item → List Packet
put unsent to item = set unsent to (get_or unsent to [] ++ item ∷ [])

pub put_there : (unsent : List Packet) (to : ℕ) (item : Item) → to < length unsent → length (get_or (put unsent to item) to []) ≡ length (get_or unsent to []) + 1
put_there unsent to item within =
    ap length (get_or-set_same unsent to (get_or unsent to [] ++ item ∷ []) [] within) ∙ length-append (get_or unsent to []) (item ∷ [])

pub put_elsewhere : (unsent : List Packet) (owned to : ℕ) (item : Item) → to ≢ owned → length (get_or (put unsent owned item) to []) ≡ length (get_or unsent to [])
put_elsewhere unsent owned to item other = ap length (get_or-set_other unsent owned to (get_or unsent owned [] ++ item ∷ []) [] other)

-- another's item goes to its owner
pub goes_there : (me to : ℕ) (offer : Offer) → offer.owner ≢ me → offer.owner ≡ to → goes me to (Some offer) ≡ 1
goes_there me to offer other same =
    (λ t. cond {A = ℕ} (ne_eqb offer.owner me other t) 0 (cond {A = ℕ} (eqb (same t) to) 1 0)) ∙ is_one to
  where
    is_one : (k : ℕ) → cond {A = ℕ} (eqb k k) 1 0 ≡ 1
    is_one k = ap (λ (t : Bool). cond {A = ℕ} t 1 0) (eq-eqb k k refl)

-- ---- readiness

-- what has this has a weaker thing too
pub if_some : (P Q : Offer → Type 0) → ((offer : Offer) → P offer → Q offer) → (offer : Option Offer) → IfSome offer P → IfSome offer Q
if_some P Q weaker None is = is
if_some P Q weaker (Some offer) is = weaker offer is

pub each : (P Q : Offer → Type 0) → ((offer : Offer) → P offer → Q offer) → (offers : List (Option Offer)) → OfAll P offers → OfAll Q offers
each P Q weaker [] all = all
each P Q weaker (offer ∷ rest) all = (if_some P Q weaker offer all.0, each P Q weaker rest all.1)

-- a board that is relaxed takes one place at most
room_left : (known : Option Known) (room : ℕ) → room ≤ room_after known room + 1
room_left None room = omega arith
room_left (Some known) room = omega arith

module _ (me : ℕ) (grid : ShapeModel) (lists : SearchListsModel) (unsent : List Packet) (rest : List (Option Offer)) where
  module _ (offer : Offer) (ready : IsReady me grid (stock lists unsent) (Some offer ∷ rest)) where
    -- an own board was relaxed
    pub ready_own : (lists' : SearchListsModel) (key cost : ℕ) (via : Move) → lists'.closed ≡ table_relaxation lists.closed key cost via → ((h : ℕ) → places_at lists.waiting h ≤ places_at lists'.waiting h + 1) → IsReady me grid (stock lists' unsent) rest
    ready_own lists' key cost via relaxed places = record {
      there = ready.there.1;
      keys = ready.keys.1;
      boards =
          let few = ready.boards in
          let room : lists'.closed.room ≡ room_after (map.get lists.closed.known key) lists.closed.room = ap (λ (t : ClosedModel). t.room) relaxed in
          let left = room_left (map.get lists.closed.known key) lists.closed.room in
          omega (arith, few, room, left);
      places =
          each
          (λ some. some.owner ≡ me → length (Some offer ∷ rest) ≤ places_at lists.waiting some.f)
          (λ some. some.owner ≡ me → length rest ≤ places_at lists'.waiting some.f)
          (λ some is own. let few = is own in let fewer = places some.f in omega (arith, few, fewer))
          rest
          ready.places.1;
      room = λ to within. let fits = ready.room to within in omega (arith, fits);
    }

    -- another's item was put into its packet
    pub ready_other : offer.owner ≢ me → (item : Item) (unsent' : List Packet) → unsent' ≡ put unsent offer.owner item → IsReady me grid (stock lists unsent') rest
    ready_other other item unsent' is =
        subst (λ (xs : List Packet). IsReady me grid (stock lists xs) rest) (sym is) (record {
          there =
              each
              (λ some. some.owner < length unsent)
              (λ some. some.owner < length (put unsent offer.owner item))
              (λ some within. omega (arith, within, same))
              rest
              ready.there.1;
          keys = ready.keys.1;
          boards = let few = ready.boards in omega (arith, few);
          places =
              each
              (λ some. some.owner ≡ me → length (Some offer ∷ rest) ≤ places_at lists.waiting some.f)
              (λ some. some.owner ≡ me → length rest ≤ places_at lists.waiting some.f)
              (λ some is own. let few = is own in omega (arith, few))
              rest
              ready.places.1;
          room = λ to within.
              let fits = ready.room to (omega (arith, within, same)) in
              ⊎_elim
              (λ (there : to ≡ offer.owner).
              let one = goes_there me to offer other (sym there) in
              let more : length (get_or (put unsent offer.owner item) to []) ≡ length (get_or unsent to []) + 1 = subst (λ (k : ℕ). length (get_or (put unsent offer.owner item) k []) ≡ length (get_or unsent k []) + 1) (sym there) (put_there unsent offer.owner item ready.there.0) in
              omega (arith, fits, one, more))
              (λ (apart : to ≢ offer.owner). let as_before = put_elsewhere unsent offer.owner to item apart in omega (arith, fits, as_before))
              (cases_eq to offer.owner);
        })
      where
        same : length (put unsent offer.owner item) ≡ length unsent
        same = length-set unsent offer.owner (get_or unsent offer.owner [] ++ item ∷ [])

  -- more places are no less
  pub ready_with_room : (lists' : SearchListsModel) → lists.closed.room ≤ lists'.closed.room → ((h : ℕ) → places_at lists.waiting h ≤ places_at lists'.waiting h) → IsReady me grid (stock lists unsent) rest → IsReady me grid (stock lists' unsent) rest
  ready_with_room lists' boards places ready = record {
    there = ready.there;
    keys = ready.keys;
    boards = let few = ready.boards in omega (arith, few, boards);
    places =
        each
        (λ some. some.owner ≡ me → length rest ≤ places_at lists.waiting some.f)
        (λ some. some.owner ≡ me → length rest ≤ places_at lists'.waiting some.f)
        (λ some is own. let few = is own in let more = places some.f in omega (arith, few, more))
        rest
        ready.places;
    room = ready.room;
  }

-- ---- what becomes of the worker

module _ (role : Role) (worker : WorkerState) (sum : BoardModel → ℕ) (item : Item) (offer : Offer) (is : IsOfferOf sum role.owner item offer) where
  other_taken : (via : Move) → item.via ≡ via → (b : BoardModel) → HasSearchKey item.board.grid offer.key b → IsBoard item.board → offer.owner ≢ role.me → record worker { unsent = put worker.unsent offer.owner (record { board = b; cost = offer.cost; via = via }) } ≡ with_successor role worker item
  other_taken via last b has board other =
      let same : b ≡ item.board = same_board b item.board has.board board has.sides (has.packed ∙ is.key) in
      (λ t. record worker { unsent = put worker.unsent (is.owned t) (record { board = same t; cost = is.cost t; via = sym last t }) })
      ∙ ap (λ (p : Packet). record worker { unsent = set worker.unsent (role.owner item.board) (p ++ item ∷ []) }) (sym (unwrap_or-slice_get worker.unsent (role.owner item.board) []))
      ∙ sym (cond-false _ _ _ (ne_eqb (role.owner item.board) role.me (λ own. other (is.owned ∙ own))))

-- the same, where an offer is there
pub other_option : (role : Role) (worker : WorkerState) (sum : BoardModel → ℕ) (item : Option Item) (offer : Offer) → IsOffered sum role.owner item (Some offer) → (grid : ShapeModel) → IfSome item (λ i. IsBoard i.board × (i.board.grid ≡ grid)) → (via : Move) → IfSome item (λ i. i.via ≡ via) → (b : BoardModel) → HasSearchKey grid offer.key b → offer.owner ≢ role.me → (unsent' : List Packet) → unsent' ≡ put worker.unsent offer.owner (record { board = b; cost = offer.cost; via = via }) → record worker { unsent = unsent' } ≡ taken role worker item
other_option role worker sum None offer is grid board via last b has other unsent' at = absurd is
other_option role worker sum (Some item) offer is grid board via last b has other unsent' at =
    ap (λ (unsent : List Packet). record worker { unsent = unsent }) at
    ∙ other_taken role worker sum item offer is via last b (subst (λ (g : ShapeModel). HasSearchKey g offer.key b) (sym board.1) has) board.0 other

-- ---- what the lists are led by

abbrev got : ℕ → Knowledge → Option Known
got key m = map.get m key

module _ (task : Task) (known : Knowledge) (all : (key : ℕ) (k : Known) → map.get known key ≡ Some k → (b : BoardModel) × IsTaskBoard task b × (search_key b ≡ key)) (key : ℕ) (here : (b : BoardModel) × IsTaskBoard task b × (search_key b ≡ key)) where
  -- all known keys are those of boards, with one more
  inserted_boards : (v : Known) (q : ℕ) (k : Known) → map.get (map.insert known key v) q ≡ Some k → (b : BoardModel) × IsTaskBoard task b × (search_key b ≡ q)
  inserted_boards v q k at =
      ⊎_elim
      (λ as_before. all q k (sym as_before ∙ at))
      (λ new. (here.0, here.1, here.2 ∙ sym new.0))
      (with_insert known key q v)

  pub relaxed_boards : (cost : ℕ) (via : Move) (q : ℕ) (k : Known) → map.get (relaxation_at known key cost via) q ≡ Some k → (b : BoardModel) × IsTaskBoard task b × (search_key b ≡ q)
  relaxed_boards cost via q k at =
      ⊎_elim
      (λ (news : is_news (map.get known key) cost ≡ true). inserted_boards (record { cost = cost; expanded = false; via = via }) q k (sym (ap (got q) (cond-true _ _ _ news)) ∙ at))
      (λ (old : is_news (map.get known key) cost ≡ false). all q k (sym (ap (got q) (cond-false _ _ _ old)) ∙ at))
      (cases_Bool (is_news (map.get known key) cost))

module _ (task : Task) (guide : Guide) (lists lists' : SearchListsModel) (is : IsGuided task guide lists) where
  -- where a board was relaxed
  guided_relaxed : (key cost : ℕ) (via : Move) → (b : BoardModel) → HasSearchKey task.goal.grid key b → lists'.closed ≡ table_relaxation lists.closed key cost via → IsInOrder guide lists' → IsGuided task guide lists'
  guided_relaxed key cost via b has relaxed order = record {
    guides = is.guides;
    order = order;
    boards = subst (AreTaskBoards task) (sym relaxed) (relaxed_boards task lists.closed.known is.boards key (b, (has.board, has.sides), has.packed) cost via);
  }

  -- where an own board was met, that adds up
  pub guided_met : (offer : Offer) (via : Move) (met : Met) → met ≡ record { key = offer.key; cost = offer.cost; via = via; f = offer.f } → AddsUpBy guide offer → (b : BoardModel) → HasSearchKey task.goal.grid offer.key b → lists'.closed ≡ table_relaxation lists.closed met.key met.cost met.via → (AddsUp guide met → IsInOrder guide lists → IsInOrder guide lists') → IsGuided task guide lists'
  guided_met offer via met same adds b has relaxed order =
      let adds_up : AddsUp guide met = subst (λ (m : Met). AddsUp guide m) (sym same) (record { adds = adds.0; within = adds.1 }) in
      guided_relaxed offer.key offer.cost via b has (relaxed ∙ ap (λ (m : Met). table_relaxation lists.closed m.key m.cost m.via) same) (order adds_up is.order)

  -- where a board was closed
  pub guided_closed : (key : ℕ) → lists'.closed ≡ table_closure lists.closed key (map.get lists.closed.known key) → IsInOrder guide lists' → IsGuided task guide lists'
  guided_closed key closed order = record {
    guides = is.guides;
    order = order;
    boards = subst (AreTaskBoards task) (sym closed) (closed_boards (map.get lists.closed.known key) refl);
  }
    where
      closed_boards : (known : Option Known) → map.get lists.closed.known key ≡ known → AreTaskBoards task (table_closure lists.closed key known)
      closed_boards None at = is.boards
      closed_boards (Some known) at = inserted_boards task lists.closed.known is.boards key (is.boards key known at) (record known { expanded = true })

  -- where the known boards are the same
  pub guided_same : lists'.closed.known ≡ lists.closed.known → IsInOrder guide lists' → IsGuided task guide lists'
  guided_same known order = record {
    guides = is.guides;
    order = order;
    boards = λ key k at. is.boards key k (ap (λ m. map.get m key) (sym known) ∙ at);
  }

-- ---- what the moves offer, as entries that are taken one after the other

-- what holds of what is offered holds of each entry
pub entry_has : (P : Offer → Type 0) (offers : Offers) (i : ℕ) (entry : Move × Offer) → ((d : Move × Offer) → get_or (entries_of offers) i d ≡ entry) → i < length (entries_of offers) → OfEach P offers → P entry.1
entry_has P offers i entry is within all =
    let there = subst (λ (e : Move × Offer). of_move offers e.0 ≡ Some e.1) (is entry) (entry_is offers entry i within) in
    subst (λ (o : Option Offer). IfSome o P) there (of_one P offers entry.0 all)

-- ---- readiness

-- what entries offer
abbrev pub offered_in : List (Move × Offer) → List (Option Offer)
offered_in [] = []
offered_in (entry ∷ rest) = Some entry.1 ∷ offered_in rest

module _ (m : Move) (offer : Option Offer) (others : List (Move × Offer)) where
  before_all : (P : Offer → Type 0) → IfSome offer P → OfAll P (offered_in others) → OfAll P (offered_in (before m offer others))
  before_all P here all = all_with offer here
    where
      all_with : (o : Option Offer) → IfSome o P → OfAll P (offered_in (before m o others))
      all_with None here = all
      all_with (Some x) here = (here, all)

  before_length : length (offered_in (before m offer others)) ≤ 1 + length (offered_in others)
  before_length = at_most offer
    where
      at_most : (o : Option Offer) → length (offered_in (before m o others)) ≤ 1 + length (offered_in others)
      at_most None = omega arith
      at_most (Some x) = omega arith

  before_go : (me to : ℕ) → all_go me to (offered_in (before m offer others)) ≡ goes me to offer + all_go me to (offered_in others)
  before_go me to = as_many offer
    where
      as_many : (o : Option Offer) → all_go me to (offered_in (before m o others)) ≡ goes me to o + all_go me to (offered_in others)
      as_many None = omega arith
      as_many (Some x) = refl

module _ (offers : Offers) where
  abbrev from_right : List (Move × Offer)
  from_right = before R offers.right (before D offers.down [])

  abbrev from_left : List (Move × Offer)
  from_left = before L offers.left from_right

  -- what is offered by each move is offered by each entry
  entries_all : (P : Offer → Type 0) → OfAll P (in_turn offers) → OfAll P (offered_in (entries_of offers))
  entries_all P all =
      before_all U offers.up from_left P all.0 (
      before_all L offers.left from_right P all.1.0 (
      before_all R offers.right (before D offers.down []) P all.1.1.0 (
      before_all D offers.down [] P all.1.1.1.0 tt)))

  entries_few : length (offered_in (entries_of offers)) ≤ 4
  entries_few =
      let up = before_length U offers.up from_left in
      let left = before_length L offers.left from_right in
      let right = before_length R offers.right (before D offers.down []) in
      let down = before_length D offers.down [] in
      omega (arith, up, left, right, down)

  entries_go : (me to : ℕ) → all_go me to (offered_in (entries_of offers)) ≡ all_go me to (in_turn offers)
  entries_go me to =
      let up = before_go U offers.up from_left me to in
      let left = before_go L offers.left from_right me to in
      let right = before_go R offers.right (before D offers.down []) me to in
      let down = before_go D offers.down [] me to in
      omega (arith, up, left, right, down)

  -- what can take what all moves offer can take what the entries do
  pub ready_entries : (me : ℕ) (grid : ShapeModel) (lists : SearchListsModel) (unsent : List Packet) → IsReady me grid (stock lists unsent) (in_turn offers) → IsReady me grid (stock lists unsent) (offered_in (entries_of offers))
  ready_entries me grid lists unsent ready = record {
    there = entries_all (λ offer. offer.owner < length unsent) ready.there;
    keys = entries_all (λ offer. (b : BoardModel) × HasSearchKey grid offer.key b) ready.keys;
    boards = let few = entries_few in let places = ready.boards in omega (arith, few, places);
    places =
        entries_all (λ offer. offer.owner ≡ me → length (offered_in (entries_of offers)) ≤ places_at lists.waiting offer.f)
        (each
        (λ some. some.owner ≡ me → 4 ≤ places_at lists.waiting some.f)
        (λ some. some.owner ≡ me → length (offered_in (entries_of offers)) ≤ places_at lists.waiting some.f)
        (λ some is own. let places = is own in let few = entries_few in omega (arith, few, places))
        (in_turn offers)
        ready.places);
    room = λ to within. let fits = ready.room to within in let same = entries_go me to in omega (arith, fits, same);
  }

-- ---- one after the other

-- the worker with what the moves of entries lead to
abbrev pub entries_taken : Role → (Move → Option Item) → WorkerState → List (Move × Offer) → WorkerState
entries_taken role items worker [] = worker
entries_taken role items worker (entry ∷ rest) = entries_taken role items (taken role worker (items entry.0)) rest

module _ (role : Role) (sum : BoardModel → ℕ) (items : Move → Option Item) where
  none_taken : (worker : WorkerState) (item : Option Item) → IsOffered sum role.owner item None → taken role worker item ≡ worker
  none_taken worker None offered = refl
  none_taken worker (Some item) offered = absurd offered

  before_taken : (worker : WorkerState) (m : Move) (offer : Option Offer) (others : List (Move × Offer)) → IsOffered sum role.owner (items m) offer → entries_taken role items worker (before m offer others) ≡ entries_taken role items (taken role worker (items m)) others
  before_taken worker m None others offered = ap (λ (w : WorkerState). entries_taken role items w others) (sym (none_taken worker (items m) offered))
  before_taken worker m (Some x) others offered = refl

  -- that is the worker with what all moves lead to
  pub taken_all : (worker : WorkerState) (offers : Offers) → AreOffered sum role.owner items offers → entries_taken role items worker (entries_of offers) ≡ all_taken role worker items
  taken_all worker offers offered =
      let one = taken role worker (items U) in
      let two = taken role one (items L) in
      let three = taken role two (items R) in
      before_taken worker U offers.up (from_left offers) offered.up
      ∙ before_taken one L offers.left (from_right offers) offered.left
      ∙ before_taken two R offers.right (before D offers.down []) offered.right
      ∙ before_taken three D offers.down [] offered.down

  offered_by : (offers : Offers) (m : Move) → AreOffered sum role.owner items offers → IsOffered sum role.owner (items m) (of_move offers m)
  offered_by offers U offered = offered.up
  offered_by offers L offered = offered.left
  offered_by offers R offered = offered.right
  offered_by offers D offered = offered.down

  -- each entry is of its move's item
  pub entry_offered : (offers : Offers) (i : ℕ) (entry : Move × Offer) → ((d : Move × Offer) → get_or (entries_of offers) i d ≡ entry) → i < length (entries_of offers) → AreOffered sum role.owner items offers → IsOffered sum role.owner (items entry.0) (Some entry.1)
  entry_offered offers i entry is within offered =
      let there = subst (λ (e : Move × Offer). of_move offers e.0 ≡ Some e.1) (is entry) (entry_is offers entry i within) in
      subst (λ (o : Option Offer). IsOffered sum role.owner (items entry.0) o) there (offered_by offers entry.0 offered)

-- ---- room

pub more_room : (one two three : SearchListsModel) → HasMoreRoom one two → HasMoreRoom two three → HasMoreRoom one three
more_room one two three first second = record {
  keys = second.keys ∙ first.keys;
  known = second.known ∙ first.known;
  room = let a = first.room in let b = second.room in omega (arith, a, b);
  entries = λ h. second.entries h ∙ first.entries h;
  places = λ h. let a = first.places h in let b = second.places h in omega (arith, a, b);
}

-- the same of the first entries
abbrev pub HavePlaces : ℕ → SearchListsModel → Offers → ℕ → Type 0
HavePlaces me lists offers count = (i : ℕ) (d : Move × Offer) → i < count → HasPlaces me lists (get_or (entries_of offers) i d).1

pub places_on : (me : ℕ) (offers : Offers) (count : ℕ) (entry : Move × Offer) → ((d : Move × Offer) → get_or (entries_of offers) count d ≡ entry) → (old new : SearchListsModel) → HasMoreRoom old new → HavePlaces me old offers count → HasPlaces me new entry.1 → HavePlaces me new offers (count + 1)
places_on me offers count entry is old new more before here i d within =
    ⊎_elim
    (λ (same : i ≡ count). subst (λ (e : Move × Offer). HasPlaces me new e.1) (sym (ap (λ (k : ℕ). get_or (entries_of offers) k d) same ∙ is d)) here)
    (λ (other : i ≢ count). λ own.
    let places = before i d (omega (arith, within, other)) own in
    let no_less = more.places (get_or (entries_of offers) i d).1.f in
    omega (arith, places, no_less))
    (cases_eq i count)

-- places were made at an entry that this worker owns, and nowhere else
pub same_elsewhere : (me h : ℕ) (old new : SearchListsModel) (offer : Offer) → (offer.owner ≢ me → new ≡ old) → ((k : ℕ) → k ≢ offer.f → places_at new.waiting k ≡ places_at old.waiting k) → (offer.owner ≡ me → offer.f ≢ h) → places_at new.waiting h ≡ places_at old.waiting h
same_elsewhere me h old new offer other others apart =
    ⊎_elim
    (λ (own : offer.owner ≡ me). others h (λ is. apart own (sym is)))
    (λ (foreign : offer.owner ≢ me). ap (λ (lists : SearchListsModel). places_at lists.waiting h) (other foreign))
    (cases_eq offer.owner me)

-- where places were missing at an entry, they were wanting before
pub still_wanting : (me : ℕ) (old new : SearchListsModel) (offer : Offer) → HasMoreRoom old new → ¬ HasPlaces me new offer → ¬ HasPlaces me old offer
still_wanting me old new offer more wanting here = wanting (λ own. let places = here own in let no_less = more.places offer.f in omega (arith, places, no_less))

-- where the lists have no fewer places later, what is there already is there then
more_at : (me : ℕ) (old new : SearchListsModel) → ((h : ℕ) → places_at old.waiting h ≤ places_at new.waiting h) → (o : Option Offer) → IfSome o (HasPlaces me old) → IfSome o (HasPlaces me new)
more_at me old new more None has = tt
more_at me old new more (Some offer) has = λ own. let here = has own in let no_less = more offer.f in omega (arith, here, no_less)

-- so where there are too few later, there were too few before
pub lacking_before : (me : ℕ) (old new : SearchListsModel) (offers : Offers) → new.closed ≡ old.closed → ((h : ℕ) → places_at old.waiting h ≤ places_at new.waiting h) → ¬ HasAllPlaces me new offers → ¬ HasAllPlaces me old offers
lacking_before me old new offers closed more lacking all =
    lacking (subst (λ (t : ClosedModel). 4 ≤ t.room) (sym closed) all.0, (more_at me old new more offers.up all.1.0, more_at me old new more offers.left all.1.1, more_at me old new more offers.right all.1.2, more_at me old new more offers.down all.1.3))

-- and of all entries
pub places_for_all : (me : ℕ) (lists : SearchListsModel) (offers : Offers) (count : ℕ) → length (entries_of offers) ≤ count → HavePlaces me lists offers count → OfEach (λ offer. offer.owner ≡ me → 4 ≤ places_at lists.waiting offer.f) offers
places_for_all me lists offers count all places =
    let d : Move × Offer = (U, record { key = 0; cost = 0; f = 0; owner = 0 }) in
    entries_give offers d (HasPlaces me lists) (λ i within. places i d (omega (arith, within, all)))

-- where there are places for an item of its own, there are places for what is offered of it
places_offered : (role : Role) (lists : SearchListsModel) (item : Option Item) (offer : Option Offer) → IfSome item (HasPlacesForItem role lists) → IsOffered role.task.sum role.owner item offer → IfSome offer (HasPlaces role.me lists)
places_offered role lists None None has offered = tt
places_offered role lists None (Some offer) has offered = absurd offered
places_offered role lists (Some item) None has offered = absurd offered
places_offered role lists (Some item) (Some offer) has offered = λ own. subst (λ (f : ℕ). 4 ≤ places_at lists.waiting f) (sym offered.adds) (has (sym offered.owned ∙ own))

-- so there are all places, where there are places for each item of its own
pub own_places : (successors : Successors) (role : Role) (worker : WorkerState) (lists : SearchListsModel) (b : BoardModel) (known : Known) (offers : Offers) → HasPlacesToExpand successors role worker lists → IsNext role.task worker b known → AreOffered role.task.sum role.owner (but (left_out_by successors known) (item_by role.task.rule b known.cost)) offers → ¬ HasAllPlaces role.me lists offers → ⊥
own_places successors role worker lists b known offers has next offered lacking =
    let items : Move → Option Item = but (left_out_by successors known) (item_by role.task.rule b known.cost) in
    let places = has.entries b known next in
    lacking (
      has.boards,
      (
        places_offered role lists (items U) offers.up places.0 offered.up,
        places_offered role lists (items L) offers.left places.1 offered.left,
        places_offered role lists (items R) offers.right places.2 offered.right,
        places_offered role lists (items D) offers.down places.3 offered.down,
      ),
    )

-- ---- what an expansion makes of a worker, by the offers of four moves: one after the other

pub one_first : (role : Role) (worker : WorkerState) (item : Option Item) (rest : List Item) → fold (with_successor role) worker (cons_option item rest) ≡ fold (with_successor role) (taken role worker item) rest
one_first role worker None rest = refl
one_first role worker (Some item) rest = refl

-- four moves, where each may offer an item
four_taken : (role : Role) (worker : WorkerState) (items : Move → Option Item) → fold (with_successor role) worker (filter_map items (U ∷ L ∷ R ∷ D ∷ [])) ≡ taken role (taken role (taken role (taken role worker (items U)) (items L)) (items R)) (items D)
four_taken role worker items =
    one_first role worker (items U) _
    ∙ one_first role (taken role worker (items U)) (items L) _
    ∙ one_first role (taken role (taken role worker (items U)) (items L)) (items R) _
    ∙ one_first role (taken role (taken role (taken role worker (items U)) (items L)) (items R)) (items D) []

pub in_four : (role : Role) (worker : WorkerState) (b : BoardModel) (known : Known) → expansion role worker b known ≡ taken role (taken role (taken role (taken role (with_closure worker b known) (item_by role.task.rule b known.cost U)) (item_by role.task.rule b known.cost L)) (item_by role.task.rule b known.cost R)) (item_by role.task.rule b known.cost D)
in_four role worker b known = four_taken role (with_closure worker b known) (item_by role.task.rule b known.cost)

-- a successor of a board is a board with its sides
pub item_board : (rule : WeightsModel) (b : BoardModel) (cost : ℕ) (m : Move) (grid : ShapeModel) → IsBoard b → b.grid ≡ grid → IfSome (item_by rule b cost m) (λ item. IsBoard item.board × (item.board.grid ≡ grid))
item_board rule b cost m grid board sides = there (successor rule b m) refl
  where
    there : (o : Option (BoardModel × ℕ)) → successor rule b m ≡ o → IfSome (option_map (λ (next : BoardModel × ℕ). record { board = next.0; cost = cost + next.1; via = m }) o) (λ (item : Item). IsBoard item.board × (item.board.grid ≡ grid))
    there None is = tt
    there (Some next) is =
        let moves : Moves rule b m next.0 next.1 = (successor_moves rule b m next.0 next.1 board).0 is in
        (moved_board rule b board m next.0 next.1 moves, ap (λ (p : BoardModel). p.grid) moves.after ∙ sides)

-- what is made of each move has this, where what is made of all moves has
pub each_but : {A : Type 0} (P : A → Type 0) (left_out : Option Move) (made : Move → Option A) (m : Move) → IfSome (made m) P → IfSome (but left_out made m) P
each_but P left_out made m is =
    ⊎_elim
    (λ (out : is_left_out left_out m ≡ true). subst (λ x. IfSome x P) (sym (cond-true _ None (made m) out)) tt)
    (λ (stays : is_left_out left_out m ≡ false). subst (λ x. IfSome x P) (sym (cond-false _ _ _ stays)) is)
    (cases_Bool (is_left_out left_out m))

-- a successor of a board is a board with its sides, and what is left out is none
pub item_board_but : (rule : WeightsModel) (b : BoardModel) (cost : ℕ) (left_out : Option Move) (m : Move) (grid : ShapeModel) → IsBoard b → b.grid ≡ grid → IfSome (but left_out (item_by rule b cost) m) (λ item. IsBoard item.board × (item.board.grid ≡ grid))
item_board_but rule b cost left_out m grid board sides = each_but (λ item. IsBoard item.board × (item.board.grid ≡ grid)) left_out (item_by rule b cost) m (item_board rule b cost m grid board sides)

-- the last move to a successor is the one by which it is made
pub item_via_but : (rule : WeightsModel) (b : BoardModel) (cost : ℕ) (left_out : Option Move) (m : Move) → IfSome (but left_out (item_by rule b cost) m) (λ item. item.via ≡ m)
item_via_but rule b cost left_out m = each_but (λ (item : Item). item.via ≡ m) left_out (item_by rule b cost) m (there (successor rule b m))
  where
    there : (o : Option (BoardModel × ℕ)) → IfSome (option_map (λ (next : BoardModel × ℕ). record { board = next.0; cost = cost + next.1; via = m }) o) (λ (item : Item). item.via ≡ m)
    there None = tt
    there (Some next) = refl

-- ---- a board is closed first

closure_room : (t : ClosedModel) (key : ℕ) (known : Option Known) → (table_closure t key known).room ≡ t.room
closure_room t key None = refl
closure_room t key (Some known) = refl

pub ready_closed : (me : ℕ) (grid : ShapeModel) (lists lists' : SearchListsModel) (unsent : List Packet) (offers : List (Option Offer)) (key : ℕ) → lists'.closed ≡ table_closure lists.closed key (map.get lists.closed.known key) → ((h : ℕ) → places_at lists.waiting h ≤ places_at lists'.waiting h) → IsReady me grid (stock lists unsent) offers → IsReady me grid (stock lists' unsent) offers
ready_closed me grid lists lists' unsent offers key closed places ready =
    let room : lists'.closed.room ≡ lists.closed.room = ap (λ (t : ClosedModel). t.room) closed ∙ closure_room lists.closed key (map.get lists.closed.known key) in
    ready_with_room me grid lists unsent offers lists' (omega (arith, room)) places ready

-- what is spent of an allowance is left no longer
pub one_spent : (worker : WorkerState) (b : BoardModel) (known : Known) (granted left left' : ℕ) (lists' : SearchListsModel) (lists : SearchListsModel) (key : ℕ) → worker.known ≡ lists.closed.known → worker.allowance ≡ left → worker.expansions ≡ granted - left → left' + 1 ≡ left → left ≤ granted → search_key b ≡ key → map.get lists.closed.known (search_key b) ≡ Some known → lists'.closed ≡ table_closure lists.closed key (map.get lists.closed.known key) → record worker { known = lists'.closed.known; allowance = left'; expansions = granted - left' } ≡ with_closure worker b known
one_spent worker b known granted left left' lists' lists key knows allowed made spent few packed at closed =
    let found : map.get lists.closed.known key ≡ Some known = ap (map.get lists.closed.known) (sym packed) ∙ at in
    let now = ap (λ (t : ClosedModel). t.known) (closed ∙ ap (table_closure lists.closed key) found) in
    let fewer : left' ≡ worker.allowance - 1 = omega (arith, spent, allowed) in
    let more : granted - left' ≡ worker.expansions + 1 = omega (arith, spent, few, made) in
    λ t. record worker { known = (now ∙ (λ s. map.insert (sym knows s) (sym packed s) (record known { expanded = true }))) t; allowance = fewer t; expansions = more t }

-- ---- what is ready before

pub ready_for : (me : ℕ) (grid : ShapeModel) (cost n : ℕ) (lists : SearchListsModel) (unsent : List Packet) (offers : Offers) → HasRoom me unsent offers → OfEach (IsWithin grid cost n) offers → length unsent ≡ n → 4 ≤ lists.closed.room → OfEach (λ offer. offer.owner ≡ me → 4 ≤ places_at lists.waiting offer.f) offers → IsReady me grid (stock lists unsent) (in_turn offers)
ready_for me grid cost n lists unsent offers room within all boards places = record {
  there = (owned offers.up within.0, (owned offers.left within.1, (owned offers.right within.2, (owned offers.down within.3, tt))));
  keys = (keyed offers.up within.0, (keyed offers.left within.1, (keyed offers.right within.2, (keyed offers.down within.3, tt))));
  boards = boards;
  places = (places.0, (places.1, (places.2, (places.3, tt))));
  room = λ to lt. let fits = room to lt in omega (arith, fits);
}
  where
    owned : (offer : Option Offer) → IfSome offer (IsWithin grid cost n) → IfSome offer (λ some. some.owner < length unsent)
    owned offer is = if_some (IsWithin grid cost n) (λ some. some.owner < length unsent) (λ some in_it. subst (λ (k : ℕ). some.owner < k) (sym all) in_it.owned) offer is

    keyed : (offer : Option Offer) → IfSome offer (IsWithin grid cost n) → IfSome offer (λ some. (b : BoardModel) × HasSearchKey grid some.key b)
    keyed offer is = if_some (IsWithin grid cost n) (λ some. (b : BoardModel) × HasSearchKey grid some.key b) (λ some in_it. in_it.board) offer is

-- ---- what the lists keep of the task

module _ (task : Task) (guide : Guide) (owner : BoardModel → ℕ) (b : BoardModel) (cost n : ℕ) (grid : ShapeModel) (is : IsGuideOf task guide) (board : IsTaskBoard task b) (low : cost ≤ GREATEST_EXPANDED_COST) where
  -- what is offered adds up by the guide
  one_adds : (item : Option Item) (offer : Option Offer) → IfSome item (λ i. IsBoard i.board × (i.board.grid ≡ task.goal.grid)) → IsOffered task.sum owner item offer → IfSome offer (IsWithin grid cost n) → IfSome offer (AddsUpBy guide)
  one_adds None None boards offered within = within
  one_adds None (Some offer) boards offered within = absurd offered
  one_adds (Some item) None boards offered within = within
  one_adds (Some item) (Some offer) boards offered within =
      let sums : guide.sum offer.key ≡ task.sum item.board = ap guide.sum offered.key ∙ is.sums item.board boards in
      let adds = offered.adds in
      let paid = offered.cost in
      let high = within.low in
      (omega (arith, sums, adds, paid), omega (arith, low, high))

  pub all_add : (left_out : Option Move) (offers : Offers) → AreOffered task.sum owner (but left_out (item_by task.rule b cost)) offers → OfEach (IsWithin grid cost n) offers → OfEach (AddsUpBy guide) offers
  all_add left_out offers offered within = (
    one_adds (but left_out (item_by task.rule b cost) U) offers.up (boards U) offered.up within.0,
    one_adds (but left_out (item_by task.rule b cost) L) offers.left (boards L) offered.left within.1,
    one_adds (but left_out (item_by task.rule b cost) R) offers.right (boards R) offered.right within.2,
    one_adds (but left_out (item_by task.rule b cost) D) offers.down (boards D) offered.down within.3,
  )
    where
      boards : (m : Move) → IfSome (but left_out (item_by task.rule b cost) m) (λ i. IsBoard i.board × (i.board.grid ≡ task.goal.grid))
      boards m = item_board_but task.rule b cost left_out m task.goal.grid board.0 board.1

-- the start of a task is no matter for its guide
pub restarted : (start start' goal : BoardModel) (rule : WeightsModel) (tables : BoundModel) (guide : Guide) (lists : SearchListsModel) → IsGuided (task_of start goal rule tables) guide lists → IsGuided (task_of start' goal rule tables) guide lists
restarted start start' goal rule tables guide lists is = record {
  guides = record { ends = is.guides.ends; board = is.guides.board; sums = λ b at. is.guides.sums b at };
  order = is.order;
  boards = λ key known at. is.boards key known at;
}

-- a board that is open by its key, and least, is next
pub is_next : (task : Task) (guide : Guide) (lists : SearchListsModel) (worker : WorkerState) (same : lists.closed.known ≡ worker.known) (is : IsGuided task guide lists) (next : Next) (first : IsLeastOpen guide lists.closed next) (b : BoardModel) → HasSearchKey task.goal.grid next.key b → IsNext task worker b first.opens.0
is_next task guide lists worker same is next first b has =
    let known = first.opens.0 in
    let at = first.opens.1 in
    let opens : IsOpen task worker b known = record {
      board = (has.board, has.sides);
      knows = (λ t. map.get (sym same t) (has.packed t)) ∙ at.knows;
      unexpanded = at.unexpanded;
      no_goal = λ e. at.no_goal (sym has.packed ∙ ap search_key e ∙ sym is.guides.ends);
    } in
    let adds = first.adds in
    let cost = first.opens.2 in
    let sums : guide.sum next.key ≡ task.sum b = ap guide.sum (sym has.packed) ∙ is.guides.sums b opens.board in
    record {
      opens = opens;
      least = none_below task guide lists worker same is (known.cost + task.sum b) (subst (λ (n : ℕ). NoneBelow guide lists.closed n) (omega (arith, adds, cost, sums)) first.least);
    }
