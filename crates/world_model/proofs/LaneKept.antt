-- A part keeps what it keeps from its opening on, by packets sent and taken in, and by steps on the book.
use Rattle.std.proofs.Common.{◌≡◌, ◌≢◌, ℕ, false, [], refl, sym, ap, ◌∙◌, subst, inl, ⊎_elim, arith, Option, Some, None, replicate, ◌⊎◌, ◌+◌, ◌-◌, ◌<◌, ◌≤◌, List, ◌∷◌, ◌++◌, length, inr}
use Rattle.std.specs.Ordering.{nat_cmp}
use Rattle.std.specs.FinMap as map
use Rattle.std.proofs.lemmas.Bool.{true≢false, cases_eq}
use Rattle.std.proofs.lemmas.List.{length-replicate, length-set}
use Rattle.std.proofs.lemmas.List.Elements.{All-replicate, Contains-append_left, Contains-push, Contains-push_cases}
use Rattle.std.specs.Prelude.{Contains, slice_get, slice_set, unwrap_or}
use Rattle.board.specs.declared.moves.Move.{Move}
use Rattle.board.specs.Boards.{BoardModel}
use Rattle.search_keys.specs.SearchKeys.{search_key}
use Rattle.world_model.specs.declared.parts.Item.{Item}
use Rattle.world_model.specs.declared.parts.Known.{Known}
use Rattle.world_model.specs.Knowledge.{Knowledge}
use Rattle.world_model.specs.Openings.{first_worker, idle_worker}
use Rattle.world_model.specs.Shapes.{IsPacketFor, IsShapedWorker, IsItemFor}
use Rattle.world_model.specs.Workers.{IsIdle, IsTaskBoard, KnowsAs, Role, WorkerState, Lane, Packet, packet_for}
use Rattle.world_model.specs.Costs.{limit_of}
use Rattle.world_model.proofs.ChangeLemmas.{at_replicate, none_in, none_in_empty, get_inserted, same_search_key, with_insert, get_set_same, get_set_other, at_set, some_in, get_below}
use Rattle.world_model.specs.declared.limits.TheConstants.{PACKET_LIMIT, CREDIT_DRAWN}
use Rattle.world_model.proofs.ShapeKept.{no_items, shaped_same, shaped_sent, some_unsent}
use Rattle.world_model.specs.declared.steps.HaltCause.{HaltCause}
use Rattle.world_model.specs.declared.steps.Refusal.{Refusal}
use Rattle.world_model.specs.BookSteps.{AtBook}
use Rattle.world_model.specs.Books.{BookState, grant_of}
use Rattle.world_model.specs.Turns.{turn}
use Rattle.world_model.proofs.CreditLemmas.{idle_stable}
use Rattle.world_model.proofs.StepCases.{Announces, Cases, Draws, Grants, Halts, Rests, announce_cases, draw_cases, grant_cases, halt_cases, rest_cases}
use Rattle.world_model.specs.PartChanges.{opening_part, with_packet, IsBookStep, part_with_worker}
use Rattle.world_model.specs.ThreadLaws.{OpeningsAreKept, ReceivingIsKept, SendingIsKept, BookStepsAreKept}
use Rattle.world_model.specs.ThreadParts.{HasUnsent, IsAmong, IsRole, Keeps, KnowsAtMost, WasSent, AreFor, CameAs, HasCome, HasOrigin, IsSeenTo, LeadsBack, PartState}

-- ---- a part with which a run begins keeps what each part keeps

-- lanes with nothing in them have no item
none_among : (n i : ℕ) (item : Item) → IsAmong (replicate n []) i item → ⊥
none_among n i item among = none_in_empty among.0 among.1 (at_replicate n i [] among.0 among.2) among.3

module _ (n : ℕ) (role : Role) (is : IsRole n role) where
  start_board : IsTaskBoard role.task role.task.start
  start_board = (is.task.start, is.task.sides)

  -- a worker with this table and purse, and with nothing held or unsent
  module _ (table : Knowledge) (purse : ℕ) where
    abbrev beginner : WorkerState
    beginner = record (idle_worker n) { known = table; purse = purse }

    none_unsent : (to : ℕ) (item : Item) → HasUnsent beginner to item → ⊥
    none_unsent to item has = none_in_empty has.0 item (at_replicate n to [] has.0 has.1) has.2

    -- where the table has at most the start, as its own, at 0 and not expanded
    module _ (only : (key : ℕ) (known : Known) → map.get table key ≡ Some known → (key ≡ search_key role.task.start) × (role.owner role.task.start ≡ role.me) × (known.cost ≡ 0) × (known.expanded ≡ false)) where
      beginner_shaped : IsShapedWorker n role beginner
      beginner_shaped = record {
        known = λ key known at. let h = only key known at in (role.task.start, start_board, sym h.0, h.1, omega (arith, h.2));
        held = no_items role role.me;
        lists = length-replicate n [];
        unsent = λ to packet at. subst (IsPacketFor role.task role.owner to) (sym (at_replicate n to [] packet at)) (no_items role to);
      }

      known_start : (b : BoardModel) (known : Known) → IsTaskBoard role.task b → KnowsAs beginner b known → (b ≡ role.task.start) × (known.cost ≡ 0)
      known_start b known board knows = let h = only (search_key b) known knows in (same_search_key role.task b role.task.start board start_board h.0, h.2)

      opening_keeps : (role.owner role.task.start ≡ role.me → KnowsAtMost beginner role.task.start 0) → (purse ≡ 0 → IsIdle role.task beginner (limit_of None) None) → Keeps n role (opening_part n beginner)
      opening_keeps start idle = record {
        shaped = beginner_shaped;
        few_held = omega arith;
        ends = (length-replicate n [], length-replicate n []);
        sent = λ to lane at packet has. absurd (none_in_empty lane packet (at_replicate n to [] lane at) has);
        start = start;
        successors = λ b known board knows closed m b' c moves. absurd (true≢false (sym closed ∙ (only (search_key b) known knows).3));
        origins = λ b known board knows. inl (inl (known_start b known board knows));
        made = λ to item has. absurd (⊎_elim (λ (unsent : HasUnsent beginner to item). none_unsent to item unsent) (λ (went : WasSent (opening_part n beginner) to item). none_among n to item went) has);
        held = λ item has. absurd (none_in item has);
        arrived = λ item came mine. absurd (none_among n came.0 item came.1);
        goal_kept = λ known knows. (only (search_key role.task.goal) known knows).3;
        resting = idle;
      }

  -- the start's owner
  module _ (via : Move) (own : role.owner role.task.start ≡ role.me) where
    abbrev at_start : Known
    at_start = record { cost = 0; expanded = false; via = via }

    abbrev start_table : Knowledge
    start_table = map.insert map.empty (search_key role.task.start) at_start

    first_knows : (key : ℕ) (known : Known) → map.get start_table key ≡ Some known → (key ≡ search_key role.task.start) × (role.owner role.task.start ≡ role.me) × (known.cost ≡ 0) × (known.expanded ≡ false)
    first_knows key known at =
        ⊎_elim
        (λ same. let none : ◌≡◌ {A = Option Known} None (Some known) = sym (map.get-empty nat_cmp key) ∙ sym same ∙ at in cc)
        (λ new. let e : Some known ≡ Some at_start = sym at ∙ new.1 in let e' : known ≡ at_start = cc in (new.0, own, ap (λ (k : Known). k.cost) e', ap (λ (k : Known). k.expanded) e'))
        (with_insert map.empty (search_key role.task.start) key at_start)

    first_keeps : Keeps n role (opening_part n (first_worker n role.task via))
    first_keeps = opening_keeps start_table 1 first_knows (λ mine. (at_start, get_inserted map.empty (search_key role.task.start) at_start, omega arith)) (λ empty. absurd (omega arith))

  -- and the others
  module _ (other : role.owner role.task.start ≢ role.me) where
    idle_knows : (key : ℕ) (known : Known) → map.get (idle_worker n).known key ≡ Some known → ⊥
    idle_knows key known at = let none : ◌≡◌ {A = Option Known} None (Some known) = sym (map.get-empty nat_cmp key) ∙ at in cc

    idle_rests : IsIdle role.task (idle_worker n) (limit_of None) None
    idle_rests = record {
      holds_nothing = refl;
      sends_nothing = All-replicate (λ packet. packet ≡ []) n [] refl;
      no_board = λ b known at. absurd (idle_knows (search_key b) known at.knows);
      no_better_goal = λ cost at. absurd (idle_knows (search_key role.task.goal) at.0 at.1);
    }

    idle_keeps : Keeps n role (opening_part n (idle_worker n))
    idle_keeps = opening_keeps map.empty 0 (λ key known at. absurd (idle_knows key known at)) (λ mine. absurd (other mine)) (λ empty. idle_rests)

pub openings_kept : OpeningsAreKept
openings_kept n role is = (idle_keeps n role is, first_keeps n role is)

-- ---- a part that sends a packet, or takes one in, keeps what it keeps

-- lanes with a packet more at the end of one
module _ (lanes : List Lane) (at : ℕ) (inside : at < length lanes) (packet : Packet) where
  pub before : (lane : Lane) × (slice_get lanes at ≡ Some lane)
  before = get_below lanes at inside

  pub longer : slice_get (with_packet lanes at packet) at ≡ Some (before.0 ++ packet ∷ [])
  longer = get_set_same lanes at (unwrap_or (slice_get lanes at) [] ++ packet ∷ []) before.0 before.1 ∙ ap (λ (o : Option Lane). Some (unwrap_or o [] ++ packet ∷ [])) before.1

  -- a lane is the longer one, or was there before
  pub lane_cases : (i : ℕ) (lane : Lane) → slice_get (with_packet lanes at packet) i ≡ Some lane → ((i ≡ at) × (lane ≡ before.0 ++ packet ∷ [])) ⊎ (slice_get lanes i ≡ Some lane)
  lane_cases i lane there =
      ⊎_elim
      (λ (e : i ≡ at). let same : Some lane ≡ Some (before.0 ++ packet ∷ []) = sym there ∙ ap (slice_get (with_packet lanes at packet)) e ∙ longer in inl (e, cc))
      (λ (ne : i ≢ at). inr (sym (get_set_other lanes at i _ ne) ∙ there))
      (cases_eq i at)

  -- an item is of the packet, or was there before
  among_cases : (i : ℕ) (item : Item) → IsAmong (with_packet lanes at packet) i item → IsAmong lanes i item ⊎ ((i ≡ at) × Contains packet item)
  among_cases i item among =
      ⊎_elim
      (λ (h : (i ≡ at) × (among.0 ≡ before.0 ++ packet ∷ [])).
      ⊎_elim
      (λ (old : Contains before.0 among.1). inl (before.0, among.1, ap (slice_get lanes) h.0 ∙ before.1, old, among.4))
      (λ (e : packet ≡ among.1). inr (h.0, subst (λ (p : Packet). Contains p item) (sym e) among.4))
      (Contains-push_cases before.0 packet among.1 (subst (λ (l : Lane). Contains l among.1) h.1 among.3)))
      (λ (old : slice_get lanes i ≡ Some among.0). inl (among.0, among.1, old, among.3, among.4))
      (lane_cases i among.0 among.2)

  -- what was there before still is
  among_before : (i : ℕ) (item : Item) → IsAmong lanes i item → IsAmong (with_packet lanes at packet) i item
  among_before i item among =
      ⊎_elim
      (λ (e : i ≡ at).
      let same : Some among.0 ≡ Some before.0 = sym among.2 ∙ ap (slice_get lanes) e ∙ before.1 in
      let same' : among.0 ≡ before.0 = cc in
      (before.0 ++ packet ∷ [], among.1, ap (slice_get (with_packet lanes at packet)) e ∙ longer, Contains-append_left before.0 (packet ∷ []) among.1 (subst (λ (l : Lane). Contains l among.1) same' among.3), among.4))
      (λ (ne : i ≢ at). (among.0, among.1, get_set_other lanes at i _ ne ∙ among.2, among.3, among.4))
      (cases_eq i at)

  among_new : (item : Item) → Contains packet item → IsAmong (with_packet lanes at packet) at item
  among_new item has = (before.0 ++ packet ∷ [], packet, longer, Contains-push before.0 packet, has)

  -- a packet that is for its receiver, as those before it are
  lanes_for : (role : Role) → ((i : ℕ) (lane : Lane) → slice_get lanes i ≡ Some lane → AreFor role i lane) → (1 ≤ length packet) × IsPacketFor role.task role.owner at packet → (i : ℕ) (lane : Lane) → slice_get (with_packet lanes at packet) i ≡ Some lane → AreFor role i lane
  lanes_for role each fits i lane there =
      ⊎_elim
      (λ (h : (i ≡ at) × (lane ≡ before.0 ++ packet ∷ [])). subst (λ (y : ℕ × Lane). AreFor role y.0 y.1) (λ t. (sym h.0 t, sym h.1 t)) longer_for)
      (λ (old : slice_get lanes i ≡ Some lane). each i lane old)
      (lane_cases i lane there)
    where
      longer_for : AreFor role at (before.0 ++ packet ∷ [])
      longer_for p has =
          ⊎_elim
          (λ (old : Contains before.0 p). each at before.0 before.1 p old)
          (λ (e : packet ≡ p). subst (λ (q : Packet). (1 ≤ length q) × IsPacketFor role.task role.owner at q) e fits)
          (Contains-push_cases before.0 packet p has)

-- what is unsent for worker `to` is sent
module _ (n to : ℕ) (role : Role) (part : PartState) (below : to < n) (keeps : Keeps n role part) (some : packet_for part.worker to ≢ []) (rich : 2 ≤ part.worker.purse) where
  abbrev packet : Packet
  packet = packet_for part.worker to

  abbrev sender : PartState
  sender = record { worker = record part.worker { unsent = slice_set part.worker.unsent to []; purse = part.worker.purse - 1 }; sent = with_packet part.sent to packet; received = part.received }

  unsent_there : slice_get part.worker.unsent to ≡ Some packet
  unsent_there = some_unsent (slice_get part.worker.unsent to) some

  to_inside : to < length part.sent
  to_inside = let ends = keeps.ends.0 in omega arith

  -- an item that was unsent is unsent or sent
  unsent_stays : (t : ℕ) (item : Item) → HasUnsent part.worker t item → HasUnsent sender.worker t item ⊎ WasSent sender t item
  unsent_stays t item has =
      ⊎_elim
      (λ (e : t ≡ to).
      let same : Some has.0 ≡ Some packet = sym has.1 ∙ ap (slice_get part.worker.unsent) e ∙ unsent_there in
      let same' : has.0 ≡ packet = cc in
      inr (subst (λ (k : ℕ). WasSent sender k item) (sym e) (among_new part.sent to to_inside packet item (subst (λ (p : Packet). Contains p item) same' has.2))))
      (λ (ne : t ≢ to). inl (has.0, get_set_other part.worker.unsent to t [] ne ∙ has.1, has.2))
      (cases_eq t to)

  -- so what was seen to still is
  seen_stays : (b : BoardModel) (cost : ℕ) → IsSeenTo role part b cost → IsSeenTo role sender b cost
  seen_stays b cost (inl own) = inl own
  seen_stays b cost (inr (item, inl unsent, same, low)) = inr (item, unsent_stays (role.owner b) item unsent, same, low)
  seen_stays b cost (inr (item, inr went, same, low)) = inr (item, inr (among_before part.sent to to_inside packet (role.owner b) item went), same, low)

  successor_stays : (b' : BoardModel) (cost : ℕ) (b : BoardModel) (known : Known) (m : Move) → IsSeenTo role part b' cost ⊎ LeadsBack part b known m → IsSeenTo role sender b' cost ⊎ LeadsBack sender b known m
  successor_stays b' cost b known m (inl seen) = inl (seen_stays b' cost seen)
  successor_stays b' cost b known m (inr back) = inr back

  -- and no item is new
  made_back : (t : ℕ) (item : Item) → HasUnsent sender.worker t item ⊎ WasSent sender t item → HasUnsent part.worker t item ⊎ WasSent part t item
  made_back t item (inl has) =
      ⊎_elim
      (λ (e : t ≡ to). absurd (none_in_empty has.0 item (at_set part.worker.unsent to [] packet has.0 unsent_there (ap (slice_get (slice_set part.worker.unsent to [])) (sym e) ∙ has.1)) has.2))
      (λ (ne : t ≢ to). inl (has.0, sym (get_set_other part.worker.unsent to t [] ne) ∙ has.1, has.2))
      (cases_eq t to)
  made_back t item (inr went) =
      ⊎_elim
      (λ (old : WasSent part t item). inr old)
      (λ (new : (t ≡ to) × Contains packet item). inl (packet, ap (slice_get part.worker.unsent) new.0 ∙ unsent_there, new.1))
      (among_cases part.sent to to_inside packet t item went)

  sender_keeps : Keeps n role sender
  sender_keeps = record {
    shaped = shaped_sent n role (record part.worker { held = [] }) keeps.shaped to (part.worker.purse - 1);
    few_held = keeps.few_held;
    ends = (length-set part.sent to _ ∙ keeps.ends.0, keeps.ends.1);
    sent = lanes_for part.sent to to_inside packet role keeps.sent (some_in packet some, keeps.shaped.unsent to packet unsent_there);
    start = keeps.start;
    successors = λ b known board knows closed m b' c moves. successor_stays b' (known.cost + c) b known m (keeps.successors b known board knows closed m b' c moves);
    origins = keeps.origins;
    made = λ t item has. keeps.made t item (made_back t item has);
    held = keeps.held;
    arrived = keeps.arrived;
    goal_kept = keeps.goal_kept;
    resting = λ empty. absurd (omega arith);
  }

-- a packet comes from worker `from`
module _ (n from : ℕ) (role : Role) (part : PartState) (below : from < n) (keeps : Keeps n role part) (packet : Packet) (free : part.worker.held ≡ []) (few : length packet ≤ PACKET_LIMIT) where
  abbrev receiver : PartState
  receiver = record { worker = record part.worker { held = packet; purse = part.worker.purse + 1 }; sent = part.sent; received = with_packet part.received from packet }

  from_inside : from < length part.received
  from_inside = let ends = keeps.ends.1 in omega arith

  come_stays : (item : Item) → HasCome part item → HasCome receiver item
  come_stays item has = (has.0, among_before part.received from from_inside packet has.0 item has.1)

  -- an item came before, or is of the packet
  come_cases : (item : Item) → HasCome receiver item → HasCome part item ⊎ Contains packet item
  come_cases item has =
      ⊎_elim
      (λ (old : IsAmong part.received has.0 item). inl (has.0, old))
      (λ (new : (has.0 ≡ from) × Contains packet item). inr new.1)
      (among_cases part.received from from_inside packet has.0 item has.1)

  came_stays : (b : BoardModel) (cost : ℕ) (via : Move) → CameAs part b cost via → CameAs receiver b cost via
  came_stays b cost via (item, came, board, same, last) = (item, come_stays item came, board, same, last)

  origin_stays : (b : BoardModel) (cost : ℕ) (via : Move) → HasOrigin role part b cost via → HasOrigin role receiver b cost via
  origin_stays b cost via (inl made) = inl made
  origin_stays b cost via (inr came) = inr (came_stays b cost via came)

  successor_left : (b' : BoardModel) (cost : ℕ) (b : BoardModel) (known : Known) (m : Move) → IsSeenTo role part b' cost ⊎ LeadsBack part b known m → IsSeenTo role receiver b' cost ⊎ LeadsBack receiver b known m
  successor_left b' cost b known m (inl seen) = inl seen
  successor_left b' cost b known m (inr (later, back, came)) = inr (later, back, came_stays b known.cost known.via came)

  -- one that is the worker's own is known, or held now
  arrived_known : (item : Item) → HasCome receiver item → IsItemFor role.task role.owner role.me item → KnowsAtMost part.worker item.board item.cost ⊎ Contains packet item
  arrived_known item has mine =
      ⊎_elim
      (λ (old : HasCome part item).
      ⊎_elim
      (λ (known : KnowsAtMost part.worker item.board item.cost). inl known)
      (λ (held : Contains part.worker.held item). absurd (none_in_empty part.worker.held item free held))
      (keeps.arrived item old mine))
      (λ (new : Contains packet item). inr new)
      (come_cases item has)

  receiver_keeps : Keeps n role receiver
  receiver_keeps = record {
    shaped = shaped_same n role (record part.worker { held = [] }) keeps.shaped (record part.worker { held = []; purse = part.worker.purse + 1 }) refl refl refl;
    few_held = few;
    ends = (keeps.ends.0, length-set part.received from _ ∙ keeps.ends.1);
    sent = keeps.sent;
    start = keeps.start;
    successors = λ b known board knows closed m b' c moves. successor_left b' (known.cost + c) b known m (keeps.successors b known board knows closed m b' c moves);
    origins = λ b known board knows. origin_stays b known.cost known.via (keeps.origins b known board knows);
    made = keeps.made;
    held = λ item has. (from, among_new part.received from from_inside packet item has);
    arrived = arrived_known;
    goal_kept = keeps.goal_kept;
    resting = λ empty. absurd (omega arith);
  }

pub sending_kept : SendingIsKept
sending_kept n to role part part' is below keeps (some, rich, after) = subst (Keeps n role) (sym after) (sender_keeps n to role part below keeps some rich)

pub receiving_kept : ReceivingIsKept
receiving_kept n from role part part' is below keeps (packet, free, some, few, after) = subst (Keeps n role) (sym after) (receiver_keeps n from role part below keeps packet free few)

-- ---- a part that takes a step on the book keeps what it keeps

module _ (n : ℕ) (role : Role) (part : PartState) (keeps : Keeps n role part) where
  -- another purse and allowance, and another copy of the best cost, where a worker with no purse has nothing to do
  renewed_keeps : (purse allowance : ℕ) (best : Option ℕ) → (purse ≡ 0 → IsIdle role.task part.worker (limit_of best) best) → Keeps n role (part_with_worker part (record part.worker { purse = purse; allowance = allowance; best = best }))
  renewed_keeps purse allowance best idle = record {
    shaped = shaped_same n role (record part.worker { held = [] }) keeps.shaped (record part.worker { held = []; purse = purse; allowance = allowance; best = best }) refl refl refl;
    few_held = keeps.few_held;
    ends = keeps.ends;
    sent = keeps.sent;
    start = keeps.start;
    successors = keeps.successors;
    origins = keeps.origins;
    made = keeps.made;
    held = keeps.held;
    arrived = keeps.arrived;
    goal_kept = keeps.goal_kept;
    resting = λ empty.
        let rests = idle empty in
        record {
          holds_nothing = rests.holds_nothing;
          sends_nothing = rests.sends_nothing;
          no_board = λ b known at. rests.no_board b known (record { board = at.board; knows = at.knows; unexpanded = at.unexpanded; no_goal = at.no_goal });
          no_better_goal = rests.no_better_goal;
        };
  }

  module _ (book book' : BookState) (worker : WorkerState) (some : part.worker.purse ≢ 0) where
    abbrev old : AtBook
    old = record { worker = part.worker; book = book }

    abbrev new : AtBook
    new = record { worker = worker; book = book' }

    abbrev After : WorkerState → Type 0
    After x = Keeps n role (part_with_worker part x)

    draw_keeps : Draws old new → After worker
    draw_keeps step = subst After (sym (ap (λ (x : AtBook). x.worker) step.is)) (renewed_keeps (part.worker.purse + CREDIT_DRAWN) part.worker.allowance book.best (λ empty. absurd (omega arith)))

    announce_keeps : Announces role old new → After worker
    announce_keeps step = subst After (sym (ap (λ (x : AtBook). x.worker) step.is)) (renewed_keeps part.worker.purse part.worker.allowance (Some step.cost) (λ empty. absurd (some empty)))

    grant_keeps : Grants role old new → After worker
    grant_keeps step = subst After (sym (ap (λ (x : AtBook). x.worker) step.is)) (renewed_keeps part.worker.purse (part.worker.allowance + grant_of book) book.best (λ empty. absurd (some empty)))

    rest_keeps : Rests role old new → After worker
    rest_keeps step = subst After (sym (ap (λ (x : AtBook). x.worker) step.is)) (renewed_keeps 0 part.worker.allowance book.best (λ empty. idle_stable role.task part.worker (limit_of book.best) book.best step.idle))

    halt_keeps : (cause : HaltCause) → Halts cause old new → After worker
    halt_keeps cause step = subst After (sym (ap (λ (x : AtBook). x.worker) step.is)) (renewed_keeps part.worker.purse part.worker.allowance book.best (λ empty. absurd (some empty)))

    -- a refused step leaves the worker, and what an accepted one keeps is given
    by_cases : (answer : Option Refusal) (Accepted : Type 0) → (Accepted → After worker) → Cases (turn old answer new) Accepted → After worker
    by_cases answer Accepted kept (inl out) = subst After (sym (ap (λ (x : AtBook). x.worker) out.1.1)) keeps
    by_cases answer Accepted kept (inr done) = kept done.1

    step_keeps : (answer : Option Refusal) → IsBookStep role (turn old answer new) → After worker
    step_keeps answer (inl step) = by_cases answer (Draws old new) draw_keeps (draw_cases (turn old answer new) step)
    step_keeps answer (inr (inl step)) = by_cases answer (Announces role old new) announce_keeps (announce_cases role (turn old answer new) step)
    step_keeps answer (inr (inr (inl step))) = by_cases answer (Grants role old new) grant_keeps (grant_cases role (turn old answer new) step)
    step_keeps answer (inr (inr (inr (inl step)))) = by_cases answer (Rests role old new) rest_keeps (rest_cases role (turn old answer new) step)
    step_keeps answer (inr (inr (inr (inr (cause, step))))) = by_cases answer (Halts cause old new) (halt_keeps cause) (halt_cases cause (turn old answer new) step)

pub book_steps_kept : BookStepsAreKept
book_steps_kept n role part book book' answer worker is keeps some step = step_keeps n role part keeps book book' worker some answer step
