-- What a part keeps: from its opening on, and by each step.
use Rattle.std.proofs.Common.{◌≡◌, ◌⊎◌, ℕ, zero, suc, ◌<◌, List, [], ◌∷◌, ◌++◌, length, map, get_or, set, Option, Some, sym, ap, ◌∙◌, inl, inr, arith, ◌≢◌, ◌+◌, ◌^◌, replicate, refl, subst, ◌≤◌, None, false}
use Rattle.std.specs.Prelude.{slice_get, slice_index_or, unwrap_or, OnOk, OnErr, Result, Ok, Err, if◌then◌else◌}
use Rattle.std.proofs.lemmas.List.{map-set, length-replicate, length-map}
use Rattle.std.specs.Ordering.{nat_cmp}
use Rattle.std.proofs.lemmas.Bool.Decides.{eqb_tells}
use Rattle.std.proofs.lemmas.Bool.{cases_lt}
use Rattle.board.specs.Boards.{BoardModel}
use Rattle.board.specs.declared.moves.Move.{Move}
use Rattle.search_keys.specs.SearchKeys.{search_key}
use Rattle.owners.specs.Owners.{AreWorkers}
use Rattle.outcomes.specs.Outcomes.{Task}
use Rattle.world_model.specs.declared.limits.TheConstants.{LANE_LIMIT, WORKER_LIMIT}
use Rattle.world_model.specs.Workers.{Packet, Lane, packet_for, WorkerState, Role}
use Rattle.world_model.specs.declared.steps.Refusal.{Refusal}
use Rattle.world_model.specs.Books.{BookState}
use Rattle.world_model.specs.BookSteps.{AtBook, DrawStep, RestStep}
use Rattle.world_model.specs.Turns.{turn, refusal_in, Turn}
use Rattle.world_model.specs.declared.parts.Item.{Item}
use Rattle.world_model.specs.declared.parts.Known.{Known}
use Rattle.world_model.specs.Knowledge.{Knowledge, is_news, relaxation}
use Rattle.world_model.specs.Openings.{idle_worker, first_worker}
use Rattle.world_model.specs.Shapes.{IsTask}
use Rattle.world_model.specs.PartChanges.{with_packet, Sends, Receives, part_with_worker, opening_part}
use Rattle.world_model.specs.ThreadParts.{PartState, IsRole, Keeps}
use Rattle.world_model.specs.ThreadLaws.{SettlingIsKept, DroppingIsKept, OpeningsAreKept}
use Rattle.search_lists.specs.Lists.{SearchListsModel}
use Rattle.message_ledger.specs.Spending.{AllowanceModel, spent}
use Rattle.worker_core.specs.declared.worker.Worker.{Worker}
use Rattle.worker_core.specs.Contexts.{ContextModel, role_from}
use Rattle.worker_core.specs.Ahead.{AreFoundAhead, terms_of}
use Rattle.worker_core.specs.declared.ahead.Ahead.{Ahead}
use Rattle.worker_core.specs.Expanding.{role_by}
use Rattle.worker_core.specs.Roles.{IsGuided, guide_of}
use Rattle.worker_core.specs.Serving.{Serves, StaysGuided}
use Rattle.worker_core.specs.Workers.{state_of, at_lane, with_book}
use Rattle.worker_core.specs.Settling.{SettleOrDrop}
use Rattle.thread_parts.specs.Rings.{Ring, SenderModel, ReceiverModel, TakesIn, GivesOut, Looks, MayBeFull, room_of, out_rings, sent_lanes, received_lanes, left_lanes}
use Rattle.hda_run.specs.Jobs.{JobModel, context_in, task_in}
use Rattle.thread_parts.specs.declared.part.Part.{Part}
use Rattle.thread_parts.specs.Parts.{ChangesItsWorker, HaveSameLanes, face_of, IsSoundPart, IsFaceKept, part_state, role_of_part, terms_for}
use Rattle.thread_parts.specs.Steps.{SendByRing, DeliverByRing, WithPurse, IsBarred}
use Rattle.thread_parts.specs.Parts.{fresh_allowance, begun_with}
use Rattle.std.specs.Vec.{with_item}
use Rattle.std.proofs.Math.Seq.{map-set_same}
use Rattle.std.proofs.lemmas.Option.{get_or_from_slice_get}
use Rattle.world_model.specs.declared.steps.Refusal.TheVariants.{RingFull, RingEmpty}
use Rattle.world_model.specs.WorkerSteps.{SendStep, DeliverStep}
use Rattle.worker_core.specs.Lanes.{HasSent, HasReceived, IsAtSender, IsAtReceiver}
use Rattle.std.specs.FinMap as map

-- ---- what follows from what a part keeps

module _ {S C D E K G : Type 0} (owner_of : S → ℕ → BoardModel → ℕ) (n : ℕ) (part : Part S C D E K G) (holds : IsSoundPart owner_of n part) where
  -- an end for each worker, to send by and to receive by
  pub out_count : length part.outs.items ≡ n
  out_count = sym (length-map part.outs.items (λ out. out.sent)) ∙ holds.keeps.ends.0

  pub in_count : length part.ins.items ≡ n
  in_count = sym (length-map part.ins.items (λ into. into.received)) ∙ holds.keeps.ends.1

  pub some : 0 < n
  some = let me = holds.role.me in omega (arith, me)

  pub unsent_count : length part.worker.unsent.items ≡ n
  unsent_count = sym (length-map part.worker.unsent.items (λ list. list.items)) ∙ holds.keeps.shaped.lists

  pub me_unsent : part.me < length part.worker.unsent.items
  me_unsent = let me = holds.role.me in omega (arith, me, unsent_count)

  pub some_unsent : 0 < length part.worker.unsent.items
  some_unsent = let me = holds.role.me in omega (arith, me, unsent_count)

  -- ---- what the worker's steps are lent

  module _ (count : ℕ) (all : count ≡ length part.worker.unsent.items) (context : ContextModel S) (lent : context ≡ context_in part.job.now part.me count part.owners.now) where
    pub serves : Serves context part.worker
    serves = subst (λ (x : ContextModel S). Serves x part.worker) (sym lent) (record {
      workers = sym all;
      guided = (part.job.now.start, guide_of (task_in part.job.now), holds.guided);
    })

    pub role_is : role_from owner_of part.job.now.start context ≡ role_of_part owner_of n part
    role_is = ap (role_from owner_of part.job.now.start) lent ∙ (λ t. role_by (task_in part.job.now) (owner_of part.owners.now) ((all ∙ unsent_count) t) part.me)

    pub guided_after : (worker : Worker C D E K G) → StaysGuided context part.worker.lists worker.lists → IsGuided (task_in part.job.now) (guide_of (task_in part.job.now)) worker.lists
    guided_after worker stays =
        subst (λ (x : ContextModel S). StaysGuided x part.worker.lists worker.lists) lent stays part.job.now.start (guide_of (task_in part.job.now)) holds.guided

    -- and this is the search of the part
    pub lent_terms : terms_of context ≡ terms_for n part
    lent_terms = ap terms_of lent ∙ (λ t. record { rule = part.job.now.rule; tables = part.job.now.tables; owners = part.owners.now; workers = (all ∙ unsent_count) t })

  -- a part that has another worker, which keeps what it should
  pub with_kept : (worker : Worker C D E K G) → Keeps n (role_of_part owner_of n part) (part_with_worker (part_state part) (state_of worker)) → IsGuided (task_in part.job.now) (guide_of (task_in part.job.now)) worker.lists → ChangesItsWorker owner_of n part (record part { worker = worker })
  with_kept worker keeps guided = record { rest = refl; holds = record { role = holds.role; keeps = keeps; guided = guided; found = holds.found }; kept = refl }

  -- and one that has found more ahead
  pub with_found : (worker : Worker C D E K G) (ahead : Ahead) → Keeps n (role_of_part owner_of n part) (part_with_worker (part_state part) (state_of worker)) → IsGuided (task_in part.job.now) (guide_of (task_in part.job.now)) worker.lists → AreFoundAhead owner_of (terms_for n part) ahead → ChangesItsWorker owner_of n part (record part { worker = worker; ahead = ahead })
  with_found worker ahead keeps guided found = record { rest = refl; holds = record { role = holds.role; keeps = keeps; guided = guided; found = found }; kept = refl }

  -- lists that are the same are guided too
  pub same_guided : (worker : Worker C D E K G) → worker.lists ≡ part.worker.lists → IsGuided (task_in part.job.now) (guide_of (task_in part.job.now)) worker.lists
  same_guided worker same = subst (λ (lists : SearchListsModel). IsGuided (task_in part.job.now) (guide_of (task_in part.job.now)) lists) (sym same) holds.guided

  -- a part with another worker and other ends, which keeps what it should, holds, where the worker's lists are the same
  pub holds_after : (part' : Part S C D E K G) → role_of_part owner_of n part' ≡ role_of_part owner_of n part → part'.job.now ≡ part.job.now → Keeps n (role_of_part owner_of n part) (part_state part') → part'.worker.lists ≡ part.worker.lists → AreFoundAhead owner_of (terms_for n part') part'.ahead → IsSoundPart owner_of n part'
  holds_after part' same job keeps lists found = record {
    role = subst (IsRole n) (sym same) holds.role;
    keeps = subst (λ (role : Role). Keeps n role (part_state part')) (sym same) keeps;
    guided = subst (λ (x : JobModel × SearchListsModel). IsGuided (task_in x.0) (guide_of (task_in x.0)) x.1) (λ t. (sym job t, sym lists t)) holds.guided;
    found = found;
  }

-- ---- the steps of a part, as its laws have them: the last item held

-- the part keeps what it keeps, whether the item is dropped or its board is relaxed
pub settled_kept : SettlingIsKept → DroppingIsKept → (n : ℕ) (role : Role) (part : PartState) (answer : Option Refusal) (worker : WorkerState) → IsRole n role → Keeps n role part → SettleOrDrop role (turn part.worker answer worker) → Keeps n role (part_with_worker part worker)
settled_kept settling dropping n role part answer worker is keeps (inl own) = settling n role part answer worker is keeps own.0 own.1
settled_kept settling dropping n role part answer worker is keeps (inr dropped) = dropping n role part worker is keeps dropped.1

-- ---- steps on the book

-- a step that is barred is refused
pub barred : (Step : Turn AtBook Refusal → Type 0) (worker : WorkerState) (book : BookState) (refusal : Refusal) → IsBarred worker book refusal → WithPurse Step (turn (with_book worker book) (Some refusal) (with_book worker book))
barred Step worker book refusal (inl stopped) = inl (stopped.0, (ap Some stopped.1, refl))
barred Step worker book refusal (inr empty) = inr (empty.0, inl (empty.1, (ap Some empty.2, refl)))

-- and else taken
pub unbarred : (Step : Turn AtBook Refusal → Type 0) (it : Turn AtBook Refusal) → it.before.book.stop ≡ None → it.before.worker.purse ≢ 0 → Step it → WithPurse Step it
unbarred Step it goes_on some step = inr ((λ stopped. stopped goes_on), inr (some, step))

-- to draw and to rest are refused for a stopped run and an empty purse by themselves
pub barred_draw : (worker : WorkerState) (book : BookState) (refusal : Refusal) → IsBarred worker book refusal → DrawStep (turn (with_book worker book) (Some refusal) (with_book worker book))
barred_draw worker book refusal (inl stopped) = inl (stopped.0, (ap Some stopped.1, refl))
barred_draw worker book refusal (inr empty) = inr (empty.0, inl (empty.1, (ap Some empty.2, refl)))

pub barred_rest : (role : Role) (worker : WorkerState) (book : BookState) (refusal : Refusal) → IsBarred worker book refusal → RestStep role (turn (with_book worker book) (Some refusal) (with_book worker book))
barred_rest role worker book refusal (inl stopped) = inl (stopped.0, (ap Some stopped.1, refl))
barred_rest role worker book refusal (inr empty) = inr (empty.0, inl (empty.1, (ap Some empty.2, refl)))

-- a step that changes the worker alone leaves the lanes
pub lanes_left : {S C D E K G : Type 0} (owner_of : S → ℕ → BoardModel → ℕ) (n : ℕ) (old new : Part S C D E K G) → ChangesItsWorker owner_of n old new → HaveSameLanes old new
lanes_left owner_of n old new changes = (ap (λ (it : PartState). it.sent) changes.rest, ap (λ (it : PartState). it.received) changes.rest)

-- ---- a part with which a run begins: the start's owner

abbrev unknown : Knowledge
unknown = map.empty

-- the start is all that is known after it was met
met : (task : Task) (item : Item) → item.cost ≡ 0 → item.board ≡ task.start → relaxation unknown item ≡ map.insert unknown (search_key task.start) (record { cost = 0; expanded = false; via = item.via })
met task item free board =
    ap (λ (found : Option Known). if is_news found item.cost then map.insert unknown (search_key item.board) (record { cost = item.cost; expanded = false; via = item.via }) else unknown) (map.get-empty nat_cmp (search_key item.board))
    ∙ (λ t. map.insert unknown (search_key (board t)) (record { cost = free t; expanded = false; via = item.via }))

-- a worker to which nothing was granted begins as an idle one that has a purse
pub idle_is : (n purse : ℕ) (allowance : AllowanceModel) (worker : WorkerState) → allowance ≡ fresh_allowance → worker ≡ record (idle_worker n) { purse = purse; allowance = allowance.left; expansions = spent allowance } → worker ≡ begun_with purse (idle_worker n)
idle_is n purse allowance worker fresh is = is ∙ (λ t. record (idle_worker n) { purse = purse; allowance = (fresh t).left; expansions = spent (fresh t) })

-- so it is the worker that begins
pub first_is : (n : ℕ) (task : Task) (purse : ℕ) (worker state : WorkerState) (item : Item) → item.cost ≡ 0 → item.board ≡ task.start → worker ≡ begun_with purse (idle_worker n) → state ≡ record worker { known = relaxation worker.known item } → state ≡ begun_with purse (first_worker n task item.via)
first_is n task purse worker state item free board begun is =
    is
    ∙ (λ t. record (begun t) { known = relaxation (begun t).known item })
    ∙ (λ t. begun_with purse (record (idle_worker n) { known = met task item free board t }))

-- ---- what the part keeps

-- with another purse it keeps that; only an empty purse asks for a worker at rest
pub kept_begun_with : (n : ℕ) (role : Role) (part : PartState) (purse : ℕ) → (purse ≡ 0 → part.worker.purse ≡ 0) → Keeps n role part → Keeps n role (part_with_worker part (begun_with purse part.worker))
kept_begun_with n role part purse still keeps = record {
  shaped = record { known = keeps.shaped.known; held = keeps.shaped.held; lists = keeps.shaped.lists; unsent = keeps.shaped.unsent };
  few_held = keeps.few_held;
  ends = keeps.ends;
  sent = keeps.sent;
  start = keeps.start;
  successors = keeps.successors;
  origins = keeps.origins;
  made = keeps.made;
  held = keeps.held;
  arrived = keeps.arrived;
  goal_kept = keeps.goal_kept;
  resting = λ none. (
      let idle = keeps.resting (still none) in
      record {
        holds_nothing = idle.holds_nothing;
        sends_nothing = idle.sends_nothing;
        no_board = λ b known is. idle.no_board b known (record { board = is.board; knows = is.knows; unexpanded = is.unexpanded; no_goal = is.no_goal });
        no_better_goal = idle.no_better_goal;
      });
}

-- one of some workers has a role, where the task is one
pub is_role : {S : Type 0} (owner_of : S → ℕ → BoardModel → ℕ) → AreWorkers owner_of → (owners : S) (task : Task) (n me : ℕ) → IsTask task → n ≤ WORKER_LIMIT → me < n → IsRole n (role_by task (owner_of owners) n me)
is_role owner_of are_workers owners task n me is few there =
    record { task = is; few = few; me = there; owners = λ b. are_workers owners n b (omega (arith, there)) }

-- the part with which a run begins keeps what it should: its worker is the start's owner, or another
pub begins : {S : Type 0} (owner_of : S → ℕ → BoardModel → ℕ) (owners : S) (task : Task) (n me purse : ℕ) (part : PartState) → OpeningsAreKept → IsRole n (role_by task (owner_of owners) n me)
    → part.sent ≡ replicate n []
    → part.received ≡ replicate n []
    → (owner_of owners n task.start ≡ me → 0 < purse)
    → (owner_of owners n task.start ≡ me → (via : Move) × (part.worker ≡ begun_with purse (first_worker n task via)))
    → (owner_of owners n task.start ≢ me → part.worker ≡ begun_with purse (idle_worker n))
    → Keeps n (role_by task (owner_of owners) n me) part
begins owner_of owners task n me purse part law is sent received some first idle = elim (eqb_tells (owner_of owners n task.start) me) [
  | inl own ↦ (
      let via = (first own.1).0 in
      let opened = opening_part n (first_worker n task via) in
      let role = role_by task (owner_of owners) n me in
      let same : part_with_worker opened (begun_with purse opened.worker) ≡ part = λ t. record { worker = sym (first own.1).1 t; sent = sym sent t; received = sym received t } in
      subst (Keeps n role) same (kept_begun_with n role opened purse (λ none. let rich = some own.1 in absurd (omega (arith, rich, none))) ((law n role is).1 via own.1)))
  | inr foreign ↦ (
      let opened = opening_part n (idle_worker n) in
      let role = role_by task (owner_of owners) n me in
      let same : part_with_worker opened (begun_with purse opened.worker) ≡ part = λ t. record { worker = sym (idle foreign.1) t; sent = sym sent t; received = sym received t } in
      subst (Keeps n role) same (kept_begun_with n role opened purse (λ none. refl) ((law n role is).0 foreign.1)))
]

-- and so the part holds
pub opens : {S C D E K G : Type 0} (owner_of : S → ℕ → BoardModel → ℕ) → AreWorkers owner_of → (part : Part S C D E K G) (n workers purse : ℕ) → n ≡ workers → OpeningsAreKept → IsTask (task_in part.job.now) → n ≤ WORKER_LIMIT → part.me < n
    → sent_lanes part.outs.items ≡ replicate n []
    → received_lanes part.ins.items ≡ replicate n []
    → (owner_of part.owners.now n part.job.now.start ≡ part.me → 0 < purse)
    → (owner_of part.owners.now n part.job.now.start ≡ part.me → (via : Move) × (state_of part.worker ≡ begun_with purse (first_worker n (task_in part.job.now) via)))
    → (owner_of part.owners.now n part.job.now.start ≢ part.me → state_of part.worker ≡ begun_with purse (idle_worker n))
    → IsGuided (task_in part.job.now) (guide_of (task_in part.job.now)) part.worker.lists
    → AreFoundAhead owner_of (terms_for n part) part.ahead
    → IsSoundPart owner_of workers part
opens owner_of are_workers part n workers purse count law task few there sent received some first idle guided found =
    let role = is_role owner_of are_workers part.owners.now (task_in part.job.now) n part.me task few there in
    subst (λ (k : ℕ). IsSoundPart owner_of k part) count (record {
      role = role;
      keeps = begins owner_of part.owners.now (task_in part.job.now) n part.me purse (part_state part) law role sent received some first idle;
      guided = guided;
      found = found;
    })

-- ---- What a part sees of a ring, and what a step on one end makes of a list of ends.

-- ---- what a step on one end makes of a list of ends

-- what was read at a place, seen otherwise
seen_at : {X Y : Type 0} (f : X → Y) (xs : List X) (i : ℕ) (x : X) → i < length xs → x ≡ get_or xs i x → slice_get (map f xs) i ≡ Some (f x)
seen_at f [] i x lt is = absurd (omega (arith, lt))
seen_at f (y ∷ xs) zero x lt is = ap (λ z. Some (f z)) (sym is)
seen_at f (y ∷ xs) (suc i) x lt is = seen_at f xs i x (omega (arith, lt)) is

-- one more packet is in the lane of the end
pub packet_added : {X : Type 0} (lane_of : X → Lane) (ends : List X) (at : ℕ) (end end' : X) (packet : Packet) → at < length ends → end ≡ get_or ends at end → lane_of end' ≡ lane_of end ++ packet ∷ [] → map lane_of (set ends at end') ≡ with_packet (map lane_of ends) at packet
packet_added lane_of ends at end end' packet there here more =
    map-set lane_of ends at end'
    ∙ ap (λ (lane : Lane). set (map lane_of ends) at lane) (more ∙ ap (λ (o : Option Lane). unwrap_or o [] ++ packet ∷ []) (sym (seen_at lane_of ends at end there here)))

-- what the end has not changed is as it was
pub all_same : {X Y : Type 0} (f : X → Y) (ends : List X) (at : ℕ) (end end' : X) → end ≡ get_or ends at end → f end' ≡ f end → map f (set ends at end') ≡ map f ends
all_same f ends at end end' here same = map-set_same f ends at end' end (same ∙ ap f here)

-- what an end has seen and not taken
pub left_at : (ends : List ReceiverModel) (at : ℕ) (end : ReceiverModel) → at < length ends → end ≡ get_or ends at end → slice_index_or (left_lanes ends) at [] ≡ end.left
left_at ends at end there here = get_or_from_slice_get (left_lanes ends) at end.left [] (seen_at (λ (e : ReceiverModel). e.left) ends at end there here)

-- what holds of an answer
pub answered : {T F A B : Type 0} (answer : Result T F) → OnOk answer A → OnErr answer B → A ⊎ B
answered (Ok x) ok err = inl ok
answered (Err fault) ok err = inr err

module _ {S C D E K G : Type 0} (part : Part S C D E K G) (at : ℕ) (worker : Worker C D E K G) where
  module _ (end end' : SenderModel) (here : end ≡ get_or part.outs.items at end) where
    abbrev pub with_out : Part S C D E K G
    with_out = record part { worker = worker; outs = with_item part.outs at end' }

    pub sends : at < length part.outs.items → HasSent (λ packet. TakesIn end packet end') at (state_of part.worker) (state_of worker) → Sends at (part_state part) (part_state with_out)
    sends there has = (
      has.some,
      has.funds,
      λ t. record {
        worker = has.worker t;
        sent = packet_added (λ (e : SenderModel). e.sent) part.outs.items at end end' (packet_for (state_of part.worker) at) there here (ap (λ (e : SenderModel). e.sent) has.taken) t;
        received = received_lanes part.ins.items;
      },
    )

    pub none_sent : end' ≡ end → state_of worker ≡ state_of part.worker → part_state with_out ≡ part_state part
    none_sent same left = λ t. record {
      worker = left t;
      sent = all_same (λ (e : SenderModel). e.sent) part.outs.items at end end' here (ap (λ (e : SenderModel). e.sent) same) t;
      received = received_lanes part.ins.items;
    }

    pub out_kept : end'.ring ≡ end.ring → IsFaceKept part with_out
    out_kept same = λ t. record (face_of part) { outs = all_same (λ (e : SenderModel). e.ring) part.outs.items at end end' here same t }

  module _ (end end' : ReceiverModel) (here : end ≡ get_or part.ins.items at end) where
    abbrev pub with_in : Part S C D E K G
    with_in = record part { worker = worker; ins = with_item part.ins at end' }

    pub receives : at < length part.ins.items → HasReceived (λ packet. GivesOut end packet end') (state_of part.worker) (state_of worker) → Receives at (part_state part) (part_state with_in)
    receives there has = (
      has.packet,
      has.none_held,
      has.some,
      has.few,
      λ t. record {
        worker = has.worker t;
        sent = sent_lanes part.outs.items;
        received = packet_added (λ (e : ReceiverModel). e.received) part.ins.items at end end' has.packet there here has.given.1 t;
      },
    )

    pub none_received : Looks end end' → state_of worker ≡ state_of part.worker → part_state with_in ≡ part_state part
    none_received same left = λ t. record {
      worker = left t;
      sent = sent_lanes part.outs.items;
      received = all_same (λ (e : ReceiverModel). e.received) part.ins.items at end end' here same.1 t;
    }

    pub in_kept : end'.ring ≡ end.ring → IsFaceKept part with_in
    in_kept same = λ t. record (face_of part) { ins = all_same (λ (e : ReceiverModel). e.ring) part.ins.items at end end' here same t }

-- ---- what a part sees of a ring

pushed : {X : Type 0} (xs : List X) (x : X) → length (xs ++ x ∷ []) ≡ length xs + 1
pushed [] x = refl
pushed (y ∷ xs) x = let rest = pushed xs x in omega (arith, rest)

-- a list is not longer than itself
not_longer : (lane : Lane) (packet : Packet) → ¬ (lane ≡ lane ++ packet ∷ [])
not_longer lane packet is = let n : length lane ≡ length (lane ++ packet ∷ []) = ap length is in let m = pushed lane packet in omega (arith, n, m)

-- ---- a packet is sent

abbrev pub full_lane : Lane
full_lane = replicate LANE_LIMIT []

-- an end of a ring that may be full, among the ends of a part
pub filled_at : (outs : List SenderModel) (to : ℕ) (end : SenderModel) → to < length outs → end ≡ get_or outs to end → room_of end.ring ≤ length end.sent → MayBeFull (out_rings outs) (sent_lanes outs) to
filled_at outs to end there here room =
    let sent = get_or_from_slice_get (sent_lanes outs) to end.sent [] (seen_at (λ (e : SenderModel). e.sent) outs to end there here) in
    (end.ring, seen_at (λ (e : SenderModel). e.ring) outs to end there here, subst (λ (lane : Lane). room_of end.ring ≤ length lane) (sym sent) room)

-- an end that has not changed may be that of a full lane
pub at_full : (end end' : SenderModel) → end' ≡ end → IsAtSender (λ packet. TakesIn end packet end') (room_of end.ring ≤ length end.sent) (end' ≡ end) full_lane full_lane
at_full end end' same = record {
  taken = λ packet took. absurd (not_longer end.sent packet (ap (λ (e : SenderModel). e.sent) (sym same ∙ took)));
  full = λ _. length-replicate {A = Packet} LANE_LIMIT [];
  kept = λ _. refl;
}

-- an end that has not changed, and by which fewer packets went than its ring has room for, may be that of an empty lane
at_free : (end end' : SenderModel) → length end.sent < room_of end.ring → end' ≡ end → IsAtSender (λ packet. TakesIn end packet end') (room_of end.ring ≤ length end.sent) (end' ≡ end) [] []
at_free end end' few same = record {
  taken = λ packet took. absurd (not_longer end.sent packet (ap (λ (e : SenderModel). e.sent) (sym same ∙ took)));
  full = λ many. absurd (omega (arith, few, many));
  kept = λ _. refl;
}

-- it is no full ring that refuses a packet for an empty lane
not_full : (to : ℕ) (worker worker' : WorkerState) → ¬ SendStep to (turn (at_lane worker []) (Some RingFull) (at_lane worker' []))
not_full to worker worker' (inl out) = let wrong = out.1.0 in absurd (cc)
not_full to worker worker' (inr (some, inl out)) = let wrong = out.1.0 in absurd (cc)
not_full to worker worker' (inr (some, inr (funds, inl out))) = let wrong = out.0 in absurd (cc)
not_full to worker worker' (inr (some, inr (funds, inr (room, is)))) = let wrong = is.0 in absurd (cc)

-- so as many packets were sent as the ring has room for
pub ring_filled : {T : Type 0} (answer : Result T Refusal) (to : ℕ) (end end' : SenderModel) (worker worker' : WorkerState) → OnErr answer ((end' ≡ end) × (worker' ≡ worker)) → ((before after : Lane) → IsAtSender (λ packet. TakesIn end packet end') (room_of end.ring ≤ length end.sent) (end' ≡ end) before after → SendStep to (turn (at_lane worker before) (refusal_in answer) (at_lane worker' after))) → answer ≡ Err RingFull → room_of end.ring ≤ length end.sent
ring_filled (Ok x) to end end' worker worker' same step is = absurd (cc is)
ring_filled (Err refusal) to end end' worker worker' same step is =
    let full : refusal ≡ RingFull = cc in
    elim (cases_lt (length end.sent) (room_of end.ring)) [
      | inl few ↦ absurd (not_full to worker worker' (subst (λ (r : Refusal). SendStep to (turn (at_lane worker []) (Some r) (at_lane worker' []))) full (step [] [] (at_free end end' few same.0))))
      | inr many ↦ many
    ]

refuses_to_send : (rings : List Ring) (to : ℕ) (part part' : PartState) (refusal : Refusal) → (refusal ≡ RingFull → MayBeFull rings part.sent to) → part' ≡ part → SendStep to (turn (at_lane part.worker full_lane) (Some refusal) (at_lane part'.worker full_lane)) → SendByRing rings to (turn part (Some refusal) part')
refuses_to_send rings to part part' refusal full same (inl out) = inl (out.0, (out.1.0, same))
refuses_to_send rings to part part' refusal full same (inr (some, inl out)) = inr (some, inl (out.0, (out.1.0, same)))
refuses_to_send rings to part part' refusal full same (inr (some, inr (funds, inl out))) = let is = out.1.0 in inr (some, inr (funds, inl (full cc, (is, same))))
refuses_to_send rings to part part' refusal full same (inr (some, inr (funds, inr (room, is)))) = let wrong = is.0 in absurd (cc)

pub send_by_ring : {T : Type 0} (rings : List Ring) (to : ℕ) (part part' : PartState) (answer : Result T Refusal) → (answer ≡ Err RingFull → MayBeFull rings part.sent to) → OnOk answer (Sends to part part') → OnErr answer ((part' ≡ part) × SendStep to (turn (at_lane part.worker full_lane) (refusal_in answer) (at_lane part'.worker full_lane))) → SendByRing rings to (turn part (refusal_in answer) part')
send_by_ring rings to part part' (Ok x) full sent refused = inr (sent.0, inr ((λ small. let funds = sent.1 in omega (arith, funds, small)), inr (refl, sent)))
send_by_ring rings to part part' (Err refusal) full sent refused = refuses_to_send rings to part part' refusal (λ is. full (ap Err is)) refused.0 refused.1

-- ---- a packet comes

-- an end by which nothing came may be that of an empty lane
pub at_empty : (end end' : ReceiverModel) → Looks end end' → IsAtReceiver (λ packet. GivesOut end packet end') (end.left ≡ []) (Looks end end') [] []
at_empty end end' same = record {
  given = λ packet gave. absurd (not_longer end.received packet (sym same.1 ∙ gave.1));
  empty = λ _. refl;
  kept = λ _. refl;
}

refuses_to_deliver : (left : List Lane) (from : ℕ) (part part' : PartState) (refusal : Refusal) → (refusal ≡ RingEmpty → slice_index_or left from [] ≡ []) → part' ≡ part → DeliverStep (turn (at_lane part.worker []) (Some refusal) (at_lane part'.worker [])) → DeliverByRing left from (turn part (Some refusal) part')
refuses_to_deliver left from part part' refusal empty same (inl out) = inl (out.0, (out.1.0, same))
refuses_to_deliver left from part part' refusal empty same (inr (none, inl out)) = inr (none, inl (out.0, (out.1.0, same)))
refuses_to_deliver left from part part' refusal empty same (inr (none, inr (room, inl out))) = let is = out.1.0 in inr (none, inr (room, inl (empty cc, (is, same))))
refuses_to_deliver left from part part' refusal empty same (inr (none, inr (room, inr (some, is)))) = absurd (some refl)

pub deliver_by_ring : {T : Type 0} (left : List Lane) (from : ℕ) (part part' : PartState) (answer : Result T Refusal) → (answer ≡ Err RingEmpty → slice_index_or left from [] ≡ []) → OnOk answer ((part.worker.purse + 1 ≢ 2 ^ 64) × Receives from part part') → OnErr answer ((part' ≡ part) × DeliverStep (turn (at_lane part.worker []) (refusal_in answer) (at_lane part'.worker []))) → DeliverByRing left from (turn part (refusal_in answer) part')
deliver_by_ring left from part part' (Ok x) empty received refused = inr ((λ held. held received.1.1), inr (received.0, inr (refl, received.1)))
deliver_by_ring left from part part' (Err refusal) empty received refused = refuses_to_deliver left from part part' refusal (λ is. empty (ap Err is)) refused.0 refused.1

abbrev pub lane_of_one : Lane
lane_of_one = [] ∷ []

-- an end by which nothing came, and which has seen a packet, may be that of a lane with one
at_one : (end end' : ReceiverModel) → end.left ≢ [] → Looks end end' → IsAtReceiver (λ packet. GivesOut end packet end') (end.left ≡ []) (Looks end end') lane_of_one lane_of_one
at_one end end' some same = record {
  given = λ packet gave. absurd (not_longer end.received packet (sym same.1 ∙ gave.1));
  empty = λ none. absurd (some none);
  kept = λ _. refl;
}

-- it is no empty ring for which a lane of one packet gives nothing
not_empty : (worker worker' : WorkerState) → ¬ DeliverStep (turn (at_lane worker lane_of_one) (Some RingEmpty) (at_lane worker' lane_of_one))
not_empty worker worker' (inl out) = let wrong = out.1.0 in absurd (cc)
not_empty worker worker' (inr (none, inl out)) = let wrong = out.1.0 in absurd (cc)
not_empty worker worker' (inr (none, inr (room, inl out))) = let wrong = out.0 in absurd (cc)
not_empty worker worker' (inr (none, inr (room, inr (some, is)))) = let wrong = is.3.0 in absurd (cc)

-- so the end has seen none
left_empty : (end end' : ReceiverModel) (worker worker' : WorkerState) → Looks end end' → ((before after : Lane) → IsAtReceiver (λ packet. GivesOut end packet end') (end.left ≡ []) (Looks end end') before after → DeliverStep (turn (at_lane worker before) (Some RingEmpty) (at_lane worker' after))) → end.left ≡ []
left_empty end end' worker worker' same step = by_left end.left refl
  where
    by_left : (left : Lane) → end.left ≡ left → end.left ≡ []
    by_left [] is = is
    by_left (packet ∷ rest) is = absurd (not_empty worker worker' (step lane_of_one lane_of_one (at_one end end' (λ none. absurd (cc (is, none))) same)))

pub none_seen : {T : Type 0} (answer : Result T Refusal) (end end' : ReceiverModel) (worker worker' : WorkerState) → OnErr answer (Looks end end' × (worker' ≡ worker)) → ((before after : Lane) → IsAtReceiver (λ packet. GivesOut end packet end') (end.left ≡ []) (Looks end end') before after → DeliverStep (turn (at_lane worker before) (refusal_in answer) (at_lane worker' after))) → answer ≡ Err RingEmpty → end.left ≡ []
none_seen (Ok x) end end' worker worker' same step is = absurd (cc is)
none_seen (Err refusal) end end' worker worker' same step is =
    let empty : refusal ≡ RingEmpty = cc in
    left_empty end end' worker worker' same.0 (subst (λ (r : Refusal). (before after : Lane) → IsAtReceiver (λ packet. GivesOut end packet end') (end.left ≡ []) (Looks end end') before after → DeliverStep (turn (at_lane worker before) (Some r) (at_lane worker' after))) empty step)
