-- What the lists of a worker say of its boards, its packets and its last item, and a call of the book that is refused.
use Rattle.std.proofs.Common.{refl, arith, ◌≡◌, ℕ, zero, suc, ◌<◌, List, [], ◌∷◌, set, get_or, length, ap, sym, ◌∙◌, Option, Some, inl, inr, ◌+◌, None, subst, ◌-◌, ◌++◌, option_to_list}
use Rattle.std.specs.Prelude.{slice_get, unwrap_or, Contains}
use Rattle.std.proofs.lemmas.List.{map-set, get_or-map, set-set, set-get_or, length-map, length-set}
use Rattle.std.specs.Ordering.{nat_cmp}
use Rattle.std.specs.FinMap as map
use Rattle.std.proofs.lemmas.List.Elements.{Contains-push}
use Rattle.std.proofs.lemmas.Option.{none-some, slice_get_within}
use Rattle.arrayvec.specs.ArrayVec.{ArrayVec}
use Rattle.memory.specs.declared.OutOfMemory.{OutOfMemory}
use Rattle.search_keys.specs.SearchKeys.{search_key, HasSearchKey}
use Rattle.board.specs.Boards.{BoardModel}
use Rattle.search_keys.proofs.SearchKeyLemmas.{key_read, one_board as same_board}
use Rattle.outcomes.specs.Outcomes.{Task}
use Rattle.world_model.specs.declared.parts.Item.{Item}
use Rattle.world_model.specs.Workers.{Packet, WorkerState, IsOpen, HasNothingBelow, IsFloor, Role}
use Rattle.world_model.specs.declared.steps.BookFault.{BookFault}
use Rattle.world_model.specs.Turns.{Turn, Unless, Becomes, turn}
use Rattle.world_model.specs.BookCalls.{Account, BookRest}
use Rattle.world_model.specs.declared.parts.Known.{Known}
use Rattle.world_model.specs.Knowledge.{Knowledge, relaxation}
use Rattle.world_model.specs.declared.steps.Refusal.{Refusal}
use Rattle.world_model.specs.declared.steps.Refusal.TheVariants.{Memory, NothingThere}
use Rattle.world_model.specs.Shapes.{IsPacketFor}
use Rattle.world_model.specs.WorkerSteps.{SettleStep}
use Rattle.world_model.specs.PartChanges.{HoldsOwnLast}
use Rattle.search_lists.specs.declared.lists.Next.{Next}
use Rattle.open_buckets.specs.OpenLists.{entries_at, places_at}
use Rattle.search_lists.specs.Lists.{SearchListsModel, empty_lists, HasMoreRoom}
use Rattle.search_lists.specs.Orders as orders
use Rattle.search_lists.specs.Orders.{Guide, IsInOrder, NoneBelow, IsLeastOpen}
use Rattle.search_lists.proofs.OrderLemmas.{empty_order}
use Rattle.worker_core.specs.Workers.{packets_of}
use Rattle.worker_core.specs.Contexts.{ContextModel, task_from}
use Rattle.worker_core.specs.Roles.{IsGuideOf, IsGuided, TasksHaveGuides}
use Rattle.worker_core.specs.Serving.{StayInOrder, StaysGuided}
use Rattle.worker_core.specs.Settling.{IsForeign, IsOwn, RefusedSettlesChangeNothing, SettleOrDrop}

-- ---- lists of items, one for each worker, seen as packets

abbrev pub Items : Type 0
Items = ArrayVec Item

-- one list is replaced
pub packet_replaced : (xs : List Items) (i : ℕ) (q : Items) (v : Packet) → q.items ≡ v → packets_of (set xs i q) ≡ set (packets_of xs) i v
packet_replaced xs i q v is = map-set (λ (a : Items). a.items) xs i q ∙ ap (λ (w : Packet). set (packets_of xs) i w) is

-- what is to be sent to a worker is what its list has
pub packet_at : (xs : List Items) (i : ℕ) (d : Packet) → unwrap_or (slice_get (packets_of xs) i) d ≡ get_or (packets_of xs) i d
packet_at [] i d = refl
packet_at (x ∷ xs) zero d = refl
packet_at (x ∷ xs) (suc i) d = packet_at xs i d

-- one list is read
pub packet_read : (xs : List Items) (i : ℕ) (q : Items) (d : Packet) → i < length xs → q ≡ get_or xs i q → get_or (packets_of xs) i d ≡ q.items
packet_read xs i q d inside is = get_or-map (λ (a : Items). a.items) xs i q d inside ∙ ap (λ (a : Items). a.items) (sym is)

-- what is to be sent to a worker, where its list was read
pub packet_for_read : (xs : List Items) (i : ℕ) (q : Items) → i < length xs → q ≡ get_or xs i q → q.items ≡ unwrap_or (slice_get (packets_of xs) i) []
packet_for_read xs i q inside is = sym (packet_at xs i [] ∙ packet_read xs i q [] inside is)

-- what was taken out is put back
pub packet_back : (packets taken : List Packet) (i : ℕ) (items : Packet) → taken ≡ set packets i [] → items ≡ get_or packets i [] → set taken i items ≡ packets
packet_back packets taken i items out is =
    (λ t. set (out t) i (is t)) ∙ (set-set packets i [] (get_or packets i []) ∙ set-get_or packets i [])

-- a list without items
pub nothing : {X : Type 0} (xs : List X) → length xs ≡ 0 → xs ≡ []
nothing [] h = refl
nothing (x ∷ xs) h = absurd (omega arith)

-- the lists are as many
pub as_many : (old new : List Items) (i : ℕ) (p : Packet) → packets_of new ≡ set (packets_of old) i p → length new ≡ length old
as_many old new i p is =
    sym (length-map new (λ (a : Items). a.items)) ∙ ap length is ∙ length-set (packets_of old) i p ∙ length-map old (λ (a : Items). a.items)

-- ---- a call of the book that is refused

-- what was refused so far has changed nothing
passed_over : {S F : Type 0} (it : Turn S F) (cause : Type 0) (refusal : F) (next : Type 0) → Unless it cause refusal next → (next → it.after ≡ it.before) → it.after ≡ it.before
passed_over it cause refusal next (inl out) rest = out.1.1
passed_over it cause refusal next (inr on) rest = rest on.1

-- a fault is no acceptance
no_change : {S F : Type 0} (x y new : S) (fault : F) → Becomes (turn x (Some fault) y) new → y ≡ x
no_change x y new fault is = let wrong = is.0 in cc

-- a rest that the book refuses leaves it as it was
pub rest_left : (i : ℕ) (floor : Option ℕ) (x y : Account) (fault : BookFault) → BookRest i floor (turn x (Some fault) y) → y ≡ x
rest_left i floor x y fault call = passed_over _ _ _ _ call (λ some. passed_over _ _ _ _ some (λ high. passed_over _ _ _ _ high (λ new. no_change x y _ fault new)))

-- ---- what the lists of a worker say of its boards: which of them are open, and the least cost plus sum of these

module _ (task : Task) (guide : Guide) (lists : SearchListsModel) (worker : WorkerState) (same : lists.closed.known ≡ worker.known) (is : IsGuided task guide lists) where
  -- an open board is open by its key, at the same cost plus sum
  pub open_key : (b : BoardModel) (known : Known) → IsOpen task worker b known → orders.IsOpenKey guide lists.closed (search_key b) known
  open_key b known at = record {
    knows = ap (λ m. map.get m (search_key b)) same ∙ at.knows;
    unexpanded = at.unexpanded;
    no_goal = λ e. at.no_goal (same_board b task.goal at.board.0 is.guides.board at.board.1 (e ∙ is.guides.ends));
  }

  pub same_sum : (b : BoardModel) (known : Known) → IsOpen task worker b known → known.cost + guide.sum (search_key b) ≡ known.cost + task.sum b
  same_sum b known at = ap (λ (n : ℕ). known.cost + n) (is.guides.sums b at.board)

  -- and the other way round
  pub open_board : (key : ℕ) (known : Known) → orders.IsOpenKey guide lists.closed key known → (b : BoardModel) × IsOpen task worker b known × (search_key b ≡ key)
  open_board key known at =
      let found = is.boards key known at.knows in (
        found.0,
        record {
          board = found.1;
          knows = ap (λ m. map.get m (search_key found.0)) (sym same) ∙ ap (map.get lists.closed.known) found.2 ∙ at.knows;
          unexpanded = at.unexpanded;
          no_goal = λ e. at.no_goal (sym found.2 ∙ ap search_key e ∙ sym is.guides.ends);
        },
        found.2,
      )

  pub none_below : (n : ℕ) → NoneBelow guide lists.closed n → HasNothingBelow task worker n
  none_below n none b known at =
      let le = none (search_key b) known (open_key b known at) in
      let e = same_sum b known at in
      omega (arith, le, e)

  pub some_below : (n : ℕ) (next : Next) → IsLeastOpen guide lists.closed next → next.f < n → ¬ HasNothingBelow task worker n
  some_below n next first lt none =
      let board = open_board next.key first.opens.0 first.opens.1 in
      let le = none board.0 first.opens.0 board.1 in
      let e = same_sum board.0 first.opens.0 board.1 in
      let key : guide.sum (search_key board.0) ≡ guide.sum next.key = ap guide.sum board.2 in
      let cost = first.opens.2 in
      let adds = first.adds in
      omega (arith, lt, le, e, key, cost, adds)

  -- an open board of this cost plus sum, by its key and by itself
  key_at : (f : ℕ) → ((b : BoardModel) × (known : Known) × IsOpen task worker b known × (known.cost + task.sum b ≡ f)) → (key : ℕ) × (known : Known) × orders.IsOpenKey guide lists.closed key known × (known.cost + guide.sum key ≡ f)
  key_at f at = (search_key at.0, at.1, open_key at.0 at.1 at.2, same_sum at.0 at.1 at.2 ∙ at.3)

  board_at : (f : ℕ) → ((key : ℕ) × (known : Known) × orders.IsOpenKey guide lists.closed key known × (known.cost + guide.sum key ≡ f)) → (b : BoardModel) × (known : Known) × IsOpen task worker b known × (known.cost + task.sum b ≡ f)
  board_at f at =
      let board = open_board at.0 at.1 at.2 in
      (board.0, at.1, board.1, sym (same_sum board.0 at.1 board.1) ∙ ap (λ (k : ℕ). at.1.cost + guide.sum k) board.2 ∙ at.3)

  pub same_floor : (floor : Option ℕ) → orders.IsFloorOfLists guide lists.closed floor → IsFloor task worker floor
  same_floor None none = λ f at. none f (key_at f at)
  same_floor (Some f) least = (board_at f least.0, λ g at. least.1 g (key_at g at))

-- ---- no board is known

abbrev no_boards : Knowledge
no_boards = map.empty

unknown : (key : ℕ) (known : Known) → map.get no_boards key ≡ Some known → ⊥
unknown key known at = let none : ◌≡◌ {A = Option Known} None (Some known) = sym (map.get-empty nat_cmp key) ∙ at in cc

-- then each guide of a task guides the lists, however much room they have
pub empty_guided : (task : Task) (guide : Guide) (lists : SearchListsModel) → IsGuideOf task guide → HasMoreRoom empty_lists lists → IsGuided task guide lists
empty_guided task guide lists leads more = record {
  guides = leads;
  order = empty_order guide lists more;
  boards = λ key known at. absurd (unknown key known (ap (λ m. map.get m key) (sym more.known) ∙ at));
}

-- new lists are empty
pub new_is_empty : (lists : SearchListsModel) → lists ≡ empty_lists → HasMoreRoom empty_lists lists
new_is_empty lists same = record {
  keys = ap (λ (l : SearchListsModel). l.closed.keys) same;
  known = ap (λ (l : SearchListsModel). l.closed.known) same;
  room = let n = ap (λ (l : SearchListsModel). l.closed.room) same in omega (arith, n);
  entries = λ h. ap (λ (l : SearchListsModel). entries_at l.waiting h) same;
  places = λ h. let n = ap (λ (l : SearchListsModel). places_at l.waiting h) same in omega (arith, n);
}

-- ---- the last item that is held

not_pushed : (front : List Item) (last : Item) → ¬ (front ++ last ∷ [] ≡ [])
not_pushed [] last e = let n = ap length e in omega arith
not_pushed (x ∷ xs) last e = let n = ap length e in omega arith

no_pushed : (ys : List Item) (x : Item) → length (ys ++ x ∷ []) ≡ 0 → ⊥
no_pushed [] x n = omega arith
no_pushed (z ∷ zs) x n = omega arith

pub same_last : (front front' : List Item) (last last' : Item) → front ++ last ∷ [] ≡ front' ++ last' ∷ [] → last ≡ last'
same_last [] [] last last' e = cc
same_last [] (y ∷ ys) last last' e = let n : 1 ≡ suc (length (ys ++ last' ∷ [])) = ap length e in absurd (no_pushed ys last' (omega arith))
same_last (x ∷ xs) [] last last' e = let n : suc (length (xs ++ last ∷ [])) ≡ 1 = ap length e in absurd (no_pushed xs last (omega arith))
same_last (x ∷ xs) (y ∷ ys) last last' e = let tail : xs ++ last ∷ [] ≡ ys ++ last' ∷ [] = cc in same_last xs ys last last' tail

-- what was read at the end, and what was taken out there
pub last_taken : (held read front : List Item) (item : Item) (popped : Option Item) → read ≡ held → Some item ≡ slice_get read (length read - 1) → popped ≡ slice_get held (length held - 1) → held ≡ front ++ option_to_list popped → held ≡ front ++ item ∷ []
last_taken held read front item popped same is taken items =
    let found : popped ≡ Some item = taken ∙ ap (λ (xs : List Item). slice_get xs (length xs - 1)) (sym same) ∙ sym is in
    items ∙ ap (λ (o : Option Item). front ++ option_to_list o) found

last_at : (held : List Item) (i : ℕ) (item : Item) → suc i ≡ length held → slice_get held i ≡ Some item → (front : List Item) × (held ≡ front ++ item ∷ [])
last_at [] i item e is = absurd (omega (arith, e))
last_at (x ∷ []) zero item e is = let same : x ≡ item = cc in ([], ap (λ (y : Item). y ∷ []) same)
last_at (x ∷ y ∷ ys) zero item e is = absurd (omega (arith, e))
last_at (x ∷ xs) (suc i) item e is = let rest = last_at xs i item (omega (arith, e)) is in (x ∷ rest.0, ap (λ (ys : List Item). x ∷ ys) rest.1)

-- what was read at the end is the last item
pub last_held : (held read : List Item) (item : Item) → read ≡ held → Some item ≡ slice_get read (length read - 1) → (front : List Item) × (held ≡ front ++ item ∷ [])
last_held held read item same is =
    let at : slice_get held (length held - 1) ≡ Some item = ap (λ (xs : List Item). slice_get xs (length xs - 1)) (sym same) ∙ sym is in
    let within = slice_get_within held (length held - 1) item at in
    last_at held (length held - 1) item (omega (arith, within)) at

-- nothing is held
pub none_settles : (role : Role) (worker after : WorkerState) → worker.held ≡ [] → after ≡ worker → SettleOrDrop role (turn worker (Some NothingThere) after)
none_settles role worker after none same =
    inl ((λ front last held. absurd (not_pushed front last (sym held ∙ none))), inl (none, (refl, same)))

module _ (role : Role) (worker : WorkerState) (front : List Item) (last : Item) (held : worker.held ≡ front ++ last ∷ []) where
  -- a foreign one is dropped
  pub drops : (after : WorkerState) → IsForeign role last → after ≡ record worker { held = front } → SettleOrDrop role (turn worker None after)
  drops after foreign is = inr (refl, (front, last, held, foreign, is))

  own_last : IsOwn role last → HoldsOwnLast role worker
  own_last own front' last' held' = subst (IsOwn role) (same_last front front' last last' (sym held ∙ held')) own

  -- the board of the worker's own one is relaxed
  pub settles : (after : WorkerState) → IsOwn role last → after ≡ record worker { held = front; known = relaxation worker.known last } → SettleOrDrop role (turn worker None after)
  settles after own is = inl (own_last own, inr ((λ none. not_pushed front last (sym held ∙ none)), (front, last, held, inl (refl, is))))

  -- or memory is refused
  pub settles_not : (after : WorkerState) (refused : OutOfMemory) → IsOwn role last → after ≡ worker → SettleOrDrop role (turn worker (Some (Memory refused)) after)
  settles_not after refused own is = inl (own_last own, inr ((λ none. not_pushed front last (sym held ∙ none)), (front, last, held, inr (refused, (refl, is)))))

-- a worker that holds none but its own drops none
pub own_settles : (role : Role) (it : Turn WorkerState Refusal) → IsPacketFor role.task role.owner role.me it.before.held → SettleOrDrop role it → SettleStep it
own_settles role it own (inl settled) = settled.1
own_settles role it own (inr dropped) =
    let front = dropped.1.0 in
    let last = dropped.1.1 in
    absurd (dropped.1.3 (own.items last (subst (λ (items : List Item). Contains items last) (sym dropped.1.2) (Contains-push front last))))

-- what is refused changes nothing
pub refused_settles : RefusedSettlesChangeNothing
refused_settles role it refusal (inl (own, inl (none, (is, same)))) answer = same
refused_settles role it refusal (inl (own, inr (some, (front, last, held, inl (accepted, after))))) answer = absurd (none-some refusal (sym accepted ∙ answer))
refused_settles role it refusal (inl (own, inr (some, (front, last, held, inr (lacking, (is, same)))))) answer = same
refused_settles role it refusal (inr (accepted, dropped)) answer = absurd (none-some refusal (sym accepted ∙ answer))

-- ---- what stays in order stays guided

pub stays_guided : {S : Type 0} (context : ContextModel S) (old new : SearchListsModel) → StayInOrder context old new → StaysGuided context old new
stays_guided context old new stay start guide is =
    record { guides = is.guides; order = stay.order start guide is.guides is.order; boards = stay.boards (task_from start context) refl is.boards }

-- ---- laws

-- a guide leads to the goal of each task
pub tasks_guided : TasksHaveGuides
tasks_guided task board = record {
  ends = refl;
  board = board;
  sums = λ b at.
      let has : HasSearchKey task.goal.grid (search_key b) b = record { board = at.0; sides = at.1; packed = refl } in
      ap task.sum (key_read (record { shape = task.goal.grid; key = search_key b }) b has);
}
