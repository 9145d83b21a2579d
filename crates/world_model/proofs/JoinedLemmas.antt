-- Joined parts are a world: shaped, sound, and quiet where nothing is left to do; opening parts are that in which a run begins.
use Rattle.std.proofs.Common.{◌≡◌, ◌⊎◌, ℕ, zero, suc, ◌<◌, ◌≤◌, List, [], ◌∷◌, length, map, refl, sym, ap, ◌∙◌, subst, arith, Some, ◌+◌, true, inl, inr, ⊎_elim, ◌≢◌, ◌++◌, replicate}
use Rattle.std.specs.Prelude.{Contains, slice_get, option_map, All, slice_set}
use Rattle.std.proofs.lemmas.Option.{slice_get_within, slice_get-map, get_or_from_slice_get}
use Rattle.std.proofs.lemmas.List.{length-map, length-replicate, length-set}
use Rattle.std.proofs.lemmas.List.Elements.{Contains-append_left, Contains-append_right, Contains-append_cases}
use Rattle.std.proofs.lemmas.Bool.{cases_eq}
use Rattle.board.specs.Boards.{BoardModel}
use Rattle.board.specs.declared.moves.Move.{Move}
use Rattle.board.specs.Moves.{Moves}
use Rattle.board.specs.Neighbours.{opposite}
use Rattle.world_model.specs.declared.limits.TheConstants.{WORKER_LIMIT}
use Rattle.world_model.specs.declared.parts.Item.{Item}
use Rattle.world_model.specs.Books.{BookState}
use Rattle.world_model.specs.Shapes.{IsItemFor, IsPacketFor, IsShaped, IsShapedLane, IsShapedWorker}
use Rattle.world_model.specs.Workers.{Lane, Packet, WorkerState, IsTaskBoard, KnowsAs, Role}
use Rattle.world_model.proofs.ChangeLemmas.{get_below, known_owned, moved_task_board, at_replicate, at_set, get_replicate, get_set_other}
use Rattle.world_model.specs.declared.parts.Known.{Known}
use Rattle.world_model.specs.Soundness.{HasPredecessor, IsCovered, IsSound}
use Rattle.world_model.specs.Worlds.{IsUnderWay, Knows, WorldState}
use Rattle.world_model.specs.Quiet.{IsAtRest}
use Rattle.world_model.specs.Openings.{IsJob, Job, first_worker, idle_worker, opening}
use Rattle.world_model.specs.ThreadParts.{HasCome, IsAmong, IsRole, PartState, WasSent, HasOrigin, IsMade, IsPassedOn, IsSeenTo, KnowsAtMost, KnowsBefore, LeadsBack, Keeps}
use Rattle.world_model.specs.JoinedParts.{AreParts, IsAt, Shared, role_in, workers_of, world_with, opening_parts, shared_by}
use Rattle.world_model.specs.ThreadLaws.{JoinedPartsAreSound, JoinedPartsAreQuiet, OpeningsAreOfParts}
use Rattle.world_model.specs.PartChanges.{opening_part}
use Rattle.world_model.proofs.WorkerKept.{led_back}
use Rattle.world_model.proofs.LaneKept.{openings_kept}

-- ---- joined parts are a shaped world

-- what a mapped list has at a place is made of what the list has there
pub place_in_map : {X Y : Type 0} (f : X → Y) (xs : List X) (i : ℕ) (y : Y) → slice_get (map f xs) i ≡ Some y → (x : X) × (slice_get xs i ≡ Some x) × (f x ≡ y)
place_in_map f [] i y at = absurd cc
place_in_map f (x ∷ xs) zero y at = (x, refl, cc)
place_in_map f (x ∷ xs) (suc i) y at = place_in_map f xs i y at

-- one of the parts sent the item to worker `to`
abbrev pub IsSentTo : List PartState → ℕ → Item → Type 0
IsSentTo parts to item = (from : ℕ) × (sender : PartState) × (slice_get parts from ≡ Some sender) × WasSent sender to item

module _ (shared : Shared) (parts : List PartState) (lanes : List (List Lane)) (are : AreParts shared parts lanes) where
  -- the task, the count and the owners are those of a role
  pub first_role : IsRole (length parts) (role_in shared 0)
  first_role = let first = get_below parts 0 (omega (arith, are.some)) in are.roles 0 first.0 first.1

  -- the part of a board's owner
  pub owner_part : (b : BoardModel) → (part : PartState) × (slice_get parts (shared.owner b) ≡ Some part)
  owner_part b = get_below parts (shared.owner b) (first_role.owners b)

  -- the part of a worker
  pub part_of : (i : ℕ) (worker : WorkerState) → slice_get (workers_of parts) i ≡ Some worker → (part : PartState) × (slice_get parts i ≡ Some part) × (part.worker ≡ worker)
  part_of i worker is = place_in_map (λ (part : PartState). part.worker) parts i worker is

  -- the worker of a part
  pub worker_of : (i : ℕ) (part : PartState) → slice_get parts i ≡ Some part → slice_get (workers_of parts) i ≡ Some part.worker
  worker_of i part at = slice_get-map (λ (x : PartState). x.worker) parts i ∙ ap (option_map (λ (x : PartState). x.worker)) at

  -- at both ends of a lane there are parts
  pub ends_of : (from to : ℕ) (lane : Lane) → IsAt lanes from to lane → (from < length parts) × (to < length parts)
  ends_of from to lane at =
      let sends = slice_get_within lanes from at.0 at.1 in
      let receives = slice_get_within at.0 to lane at.2 in
      (omega (arith, sends, are.senders), omega (arith, receives, are.receivers from at.0 at.1))

  -- two parts, and the lane from one to the other
  module _ (from to : ℕ) (sender receiver : PartState) (at : slice_get parts from ≡ Some sender) (at' : slice_get parts to ≡ Some receiver) where
    -- the lane as its sender has it, as its receiver has it, and what is left in it
    pub sent_lane : (lane : Lane) × (slice_get sender.sent to ≡ Some lane)
    sent_lane = let inside = slice_get_within parts to receiver at' in get_below sender.sent to (omega (arith, inside, (are.keep from sender at).ends.0))

    pub received_lane : (lane : Lane) × (slice_get receiver.received from ≡ Some lane)
    received_lane = let inside = slice_get_within parts from sender at in get_below receiver.received from (omega (arith, inside, (are.keep to receiver at').ends.1))

    pub left_lane : (lane : Lane) × IsAt lanes from to lane
    left_lane =
        let row = get_below lanes from (omega (arith, slice_get_within parts from sender at, are.senders)) in
        let lane = get_below row.0 to (omega (arith, slice_get_within parts to receiver at', are.receivers from row.0 row.1)) in
        (lane.0, (row.0, row.1, lane.1))

    -- what came was sent
    pub came_sent : (item : Item) → IsAmong receiver.received from item → WasSent sender to item
    came_sent item has = (
      sent_lane.0,
      has.1,
      sent_lane.1,
      subst (λ (lane : Lane). Contains lane has.1) (are.tied from to sender receiver sent_lane.0 has.0 left_lane.0 at at' sent_lane.1 has.2 left_lane.1) (Contains-append_left has.0 left_lane.0 has.1 has.3),
      has.4,
    )

    -- so was what still lies in the lane
    pub left_sent : (left : Lane) (packet : Packet) → IsAt lanes from to left → Contains left packet → Contains sent_lane.0 packet
    left_sent left packet is lies = subst (λ (lane : Lane). Contains lane packet) (are.tied from to sender receiver sent_lane.0 received_lane.0 left at at' sent_lane.1 received_lane.1 is) (Contains-append_right received_lane.0 left packet lies)

    -- what was sent has come, or still lies in the lane
    pub sent_came : (sent : Lane) (packet : Packet) → slice_get sender.sent to ≡ Some sent → Contains sent packet → Contains received_lane.0 packet ⊎ Contains left_lane.0 packet
    sent_came sent packet is has = Contains-append_cases received_lane.0 left_lane.0 packet (subst (λ (lane : Lane). Contains lane packet) (sym (are.tied from to sender receiver sent received_lane.0 left_lane.0 at at' is received_lane.1 left_lane.1)) has)

  -- what came to a part was sent by one of the parts
  pub came_from : (to : ℕ) (receiver : PartState) → slice_get parts to ≡ Some receiver → (item : Item) → HasCome receiver item → IsSentTo parts to item
  came_from to receiver at item has =
      let inside = slice_get_within receiver.received has.0 has.1.0 has.1.2 in
      let sender = get_below parts has.0 (omega (arith, inside, (are.keep to receiver at).ends.1)) in
      (has.0, sender.0, sender.1, came_sent has.0 to sender.0 receiver sender.1 at item has.1)

  -- a packet in a lane was sent by the part at its one end
  pub lane_from : (from to : ℕ) (left : Lane) (packet : Packet) → IsAt lanes from to left → Contains left packet → (sender : PartState) × (sent : Lane) × (slice_get parts from ≡ Some sender) × (slice_get sender.sent to ≡ Some sent) × Contains sent packet
  lane_from from to left packet is lies =
      let ends = ends_of from to left is in
      let sender = get_below parts from ends.0 in
      let receiver = get_below parts to ends.1 in
      let sent = sent_lane from to sender.0 receiver.0 sender.1 receiver.1 in
      (sender.0, sent.0, sender.1, sent.1, left_sent from to sender.0 receiver.0 sender.1 receiver.1 left packet is lies)

  -- and what was sent to a worker is for it
  pub sent_for : (from to : ℕ) (sender : PartState) (sent : Lane) (packet : Packet) → slice_get parts from ≡ Some sender → slice_get sender.sent to ≡ Some sent → Contains sent packet → (1 ≤ length packet) × IsPacketFor shared.task shared.owner to packet
  sent_for from to sender sent packet at is has = (are.keep from sender at).sent to sent is packet has

  -- so is each item that was sent to it
  pub sent_item : (to : ℕ) (item : Item) → IsSentTo parts to item → IsItemFor shared.task shared.owner to item
  sent_item to item has = (sent_for has.0 to has.1 has.3.0 has.3.1 has.2 has.3.2 has.3.3).1.items item has.3.4

  pub part_shaped : (i : ℕ) (part : PartState) → slice_get parts i ≡ Some part → IsShapedWorker (length parts) (role_in shared i) part.worker
  part_shaped i part at =
      let keeps = are.keep i part at in
      record {
        known = keeps.shaped.known;
        held = record { few = keeps.few_held; items = λ item has. sent_item i item (came_from i part at item (keeps.held item has)) };
        lists = keeps.shaped.lists;
        unsent = keeps.shaped.unsent;
      }

  lane_shaped : (from to : ℕ) (lane : Lane) → IsAt lanes from to lane → IsShapedLane shared.task shared.owner to lane
  lane_shaped from to lane is = record {
    few = are.few from to lane is;
    packets = λ packet lies. let has = lane_from from to lane packet is lies in sent_for from to has.0 has.1 packet has.2 has.3 has.4;
  }

  count_is : length (workers_of parts) ≡ length parts
  count_is = length-map parts (λ (part : PartState). part.worker)

  pub joined_shaped : (book : BookState) → length book.floors ≡ length parts → IsShaped (world_with shared parts book lanes)
  joined_shaped book floors = record {
    task = first_role.task;
    count = subst (λ k. (1 ≤ k) × (k ≤ WORKER_LIMIT)) (sym count_is) (are.some, first_role.few);
    owners = λ b. subst (λ k. shared.owner b < k) (sym count_is) (first_role.owners b);
    workers = λ i worker is. let has = part_of i worker is in subst (λ (x : ℕ × WorkerState). IsShapedWorker x.0 (role_in shared i) x.1) (λ t. (sym count_is t, has.2 t)) (part_shaped i has.0 has.1);
    floors = floors ∙ sym count_is;
    senders = are.senders ∙ sym count_is;
    receivers = λ from row at. are.receivers from row at ∙ sym count_is;
    lanes = λ from to lane is. lane_shaped from to lane (is.from_lanes, is.of_sender, is.of_receiver);
  }

-- ---- joined parts are a sound world

-- what covers an item's board covers it at a greater cost too
covered_at : (w : WorldState) (item : Item) (b : BoardModel) (cost : ℕ) → item.board ≡ b → item.cost ≤ cost → IsCovered w item.board item.cost → IsCovered w b cost
covered_at w item b cost same le (inl has) = subst (λ (x : BoardModel). IsCovered w x cost) same (inl (has.0, has.1, omega (arith, has.2, le)))
covered_at w item b cost same le (inr has) = inr (has.0, has.1, has.2, has.3 ∙ same, omega (arith, has.4, le))

module _ (shared : Shared) (parts : List PartState) (book : BookState) (lanes : List (List Lane)) (are : AreParts shared parts lanes) where
  -- what a part's worker knows is known to the board's owner
  knows_in : (i : ℕ) (part : PartState) → slice_get parts i ≡ Some part → (b : BoardModel) (known : Known) → IsTaskBoard shared.task b → KnowsAs part.worker b known → Knows (world_with shared parts book lanes) (shared.owner b) b known
  knows_in i part at b known board knows =
      let own = known_owned (length parts) (role_in shared i) part.worker (first_role shared parts lanes are).task (part_shaped shared parts lanes are i part at) b known board knows in
      record { worker = part.worker; is = ap (slice_get (workers_of parts)) own.0 ∙ worker_of shared parts lanes are i part at; board = board; knows = knows }

  covered_in : (i : ℕ) (part : PartState) → slice_get parts i ≡ Some part → (b : BoardModel) (cost : ℕ) → IsTaskBoard shared.task b → KnowsAtMost part.worker b cost → IsCovered (world_with shared parts book lanes) b cost
  covered_in i part at b cost board has = inl (has.0, knows_in i part at b has.0 board has.1, has.2)

  -- what is made by a part, sent by one or has come to one was reached
  made_reached : (i : ℕ) (part : PartState) → slice_get parts i ≡ Some part → (b : BoardModel) (cost : ℕ) (via : Move) → IsMade (role_in shared i) part.worker b cost via → HasPredecessor (world_with shared parts book lanes) b cost via
  made_reached i part at b cost via (inl start) = inl start
  made_reached i part at b cost via (inr has) = inr (has.0, has.1, has.2, has.4, knows_in i part at has.0 has.2 has.3 has.5, has.6)

  sent_reached : (to : ℕ) (item : Item) → IsSentTo parts to item → HasPredecessor (world_with shared parts book lanes) item.board item.cost item.via
  sent_reached to item has = made_reached has.0 has.1 has.2 item.board item.cost item.via ((are.keep has.0 has.1 has.2).made to item (inr has.3))

  origin_reached : (i : ℕ) (part : PartState) → slice_get parts i ≡ Some part → (b : BoardModel) (cost : ℕ) (via : Move) → HasOrigin (role_in shared i) part b cost via → HasPredecessor (world_with shared parts book lanes) b cost via
  origin_reached i part at b cost via (inl made) = made_reached i part at b cost via made
  origin_reached i part at b cost via (inr has) = subst (λ (x : BoardModel × ℕ × Move). HasPredecessor (world_with shared parts book lanes) x.0 x.1 x.2) (λ t. (has.2 t, has.3 t, has.4 t)) (sent_reached i has.0 (came_from shared parts lanes are i part at has.0 has.1))

  item_reached : (to : ℕ) (item : Item) → IsUnderWay (world_with shared parts book lanes) to item → HasPredecessor (world_with shared parts book lanes) item.board item.cost item.via
  item_reached to item (inl has) =
      let part = part_of shared parts lanes are to has.0 has.1 in
      let held = subst (λ (x : WorkerState). Contains x.held item) (sym part.2) has.2 in
      sent_reached to item (came_from shared parts lanes are to part.0 part.1 item ((are.keep to part.0 part.1).held item held))
  item_reached to item (inr (inl has)) =
      let part = part_of shared parts lanes are has.0 has.1 has.3 in
      let unsent = ap (λ (x : WorkerState). slice_get x.unsent to) part.2 ∙ has.4 in
      made_reached has.0 part.0 part.1 item.board item.cost item.via ((are.keep has.0 part.0 part.1).made to item (inl (has.2, unsent, has.5)))
  item_reached to item (inr (inr has)) =
      let lane = has.2.is in
      let sent = lane_from shared parts lanes are has.0 to has.2.lane has.1 (lane.from_lanes, lane.of_sender, lane.of_receiver) has.2.lies in
      sent_reached to item (has.0, sent.0, sent.2, (sent.1, has.1, sent.3, sent.4, has.3))

  -- what came to the one whom it is for is known there or held by it
  arrived_covered : (i : ℕ) (part : PartState) → slice_get parts i ≡ Some part → (item : Item) → HasCome part item → IsItemFor shared.task shared.owner i item → IsCovered (world_with shared parts book lanes) item.board item.cost
  arrived_covered i part at item come is_for =
      ⊎_elim
      (λ (known : KnowsAtMost part.worker item.board item.cost). covered_in i part at item.board item.cost is_for.0 known)
      (λ (held : Contains part.worker.held item). inr (i, item, inl (part.worker, worker_of shared parts lanes are i part at, held), refl, omega arith))
      ((are.keep i part at).arrived item come is_for)

  -- what was sent to the board's owner is known there or held by it, or lies in the lane
  sent_covered : (i : ℕ) (part : PartState) → slice_get parts i ≡ Some part → (item : Item) → WasSent part (shared.owner item.board) item → IsCovered (world_with shared parts book lanes) item.board item.cost
  sent_covered i part at item has =
      let to = shared.owner item.board in
      let owner = owner_part shared parts lanes are item.board in
      let received = received_lane shared parts lanes are i to part owner.0 at owner.1 in
      let left = left_lane shared parts lanes are i to part owner.0 at owner.1 in
      ⊎_elim
      (λ (came : Contains received.0 has.1). arrived_covered to owner.0 owner.1 item (i, (received.0, has.1, received.1, came, has.4)) (sent_item shared parts lanes are to item (i, part, at, has)))
      (λ (lies : Contains left.0 has.1). inr (to, item, inr (inr (i, has.1, record { lane = left.0; is = record { from_lanes = left.1.0; of_sender = left.1.1; of_receiver = left.1.2 }; lies = lies }, has.4)), refl, omega arith))
      (sent_came shared parts lanes are i to part owner.0 at owner.1 has.0 has.1 has.2 has.3)

  -- what is seen to is covered
  passed_covered : (i : ℕ) (part : PartState) → slice_get parts i ≡ Some part → (b : BoardModel) (cost : ℕ) → IsPassedOn (role_in shared i) part b cost → IsCovered (world_with shared parts book lanes) b cost
  passed_covered i part at b cost (item, inl unsent, same, le) = inr (shared.owner b, item, inr (inl (i, part.worker, unsent.0, worker_of shared parts lanes are i part at, unsent.1, unsent.2)), same, le)
  passed_covered i part at b cost (item, inr sent, same, le) = covered_at (world_with shared parts book lanes) item b cost same le (sent_covered i part at item (subst (λ (x : BoardModel). WasSent part (shared.owner x) item) (sym same) sent))

  seen_covered : (i : ℕ) (part : PartState) → slice_get parts i ≡ Some part → (b : BoardModel) (cost : ℕ) → IsTaskBoard shared.task b → IsSeenTo (role_in shared i) part b cost → IsCovered (world_with shared parts book lanes) b cost
  seen_covered i part at b cost board (inl own) = covered_in i part at b cost board own.1
  seen_covered i part at b cost board (inr passed) = passed_covered i part at b cost passed

  -- the board before an item that was sent is known to the sender
  before_covered : (to : ℕ) (item : Item) (b' : BoardModel) (c : ℕ) → IsTaskBoard shared.task item.board → 0 < item.cost → Moves shared.task.rule item.board (opposite item.via) b' c → IsSentTo parts to item → IsCovered (world_with shared parts book lanes) b' (item.cost + c)
  before_covered to item b' c board later moves (i, part, at, sent) =
      ⊎_elim
      (λ (start : (item.board ≡ shared.task.start) × (item.cost ≡ 0)). absurd (omega (arith, later, start.1)))
      (λ (knows : KnowsBefore (role_in shared i) part.worker item.board item.cost item.via).
      let there = led_back shared.task.rule item.board item.via knows.0 knows.1 b' c knows.3.0 board.0 knows.4 moves in
      subst (λ (x : BoardModel). IsCovered (world_with shared parts book lanes) x (item.cost + c)) there
      (covered_in i part at knows.0 (item.cost + c) knows.3 (knows.2, knows.5, omega (arith, knows.6))))
      ((are.keep i part at).made to item (inr sent))

  -- so what a move leads back to is covered
  back_covered : (i : ℕ) (part : PartState) → slice_get parts i ≡ Some part → (b : BoardModel) (known : Known) (m : Move) (b' : BoardModel) (c : ℕ) → IsTaskBoard shared.task b → Moves shared.task.rule b m b' c → LeadsBack part b known m → IsCovered (world_with shared parts book lanes) b' (known.cost + c)
  back_covered i part at b known m b' c board moves (later, back, (item, come, is, cost, via)) =
      subst (λ (k : ℕ). IsCovered (world_with shared parts book lanes) b' (k + c)) cost
      (before_covered i item b' c (subst (IsTaskBoard shared.task) (sym is) board) (omega (arith, later, cost))
      (subst (λ (x : BoardModel × Move). Moves shared.task.rule x.0 x.1 b' c) (λ t. (sym is t, (back ∙ ap opposite (sym via)) t)) moves)
      (came_from shared parts lanes are i part at item come))

  -- what is known in the world is known in the part
  known_by : (i : ℕ) (b : BoardModel) (known : Known) → Knows (world_with shared parts book lanes) i b known → (part : PartState) × (slice_get parts i ≡ Some part) × KnowsAs part.worker b known
  known_by i b known knows =
      let part = part_of shared parts lanes are i knows.worker knows.is in
      (part.0, part.1, subst (λ (x : WorkerState). KnowsAs x b known) (sym part.2) knows.knows)

  start_covered : IsCovered (world_with shared parts book lanes) shared.task.start 0
  start_covered =
      let task = (first_role shared parts lanes are).task in
      let part = owner_part shared parts lanes are shared.task.start in
      covered_in (shared.owner shared.task.start) part.0 part.1 shared.task.start 0 (task.start, task.sides) ((are.keep (shared.owner shared.task.start) part.0 part.1).start refl)

  successors_covered : (i : ℕ) (b : BoardModel) (known : Known) → Knows (world_with shared parts book lanes) i b known → known.expanded ≡ true → (m : Move) (b' : BoardModel) (c : ℕ) → Moves shared.task.rule b m b' c → IsCovered (world_with shared parts book lanes) b' (known.cost + c)
  successors_covered i b known knows closed m b' c moves =
      let has = known_by i b known knows in
      ⊎_elim
      (λ (seen : IsSeenTo (role_in shared i) has.0 b' (known.cost + c)). seen_covered i has.0 has.1 b' (known.cost + c) (moved_task_board shared.task (first_role shared parts lanes are).task b knows.board m b' c moves) seen)
      (λ (back : LeadsBack has.0 b known m). back_covered i has.0 has.1 b known m b' c knows.board moves back)
      ((are.keep i has.0 has.1).successors b known knows.board has.2 closed m b' c moves)

  pub joined_sound : IsSound (world_with shared parts book lanes)
  joined_sound = record {
    start = start_covered;
    successors = successors_covered;
    reached = λ i b known knows. let has = known_by i b known knows in origin_reached i has.0 has.1 b known.cost known.via ((are.keep i has.0 has.1).origins b known knows.board has.2);
    items_reached = item_reached;
    goal_kept = λ i known knows. let has = known_by i shared.task.goal known knows in (are.keep i has.0 has.1).goal_kept known has.2;
  }

pub joined_parts_sound : JoinedPartsAreSound
joined_parts_sound shared parts book lanes are floors = (joined_shaped shared parts lanes are book floors, joined_sound shared parts book lanes are)

-- ---- joined parts are a quiet world where nothing is left to do

module _ (shared : Shared) (parts : List PartState) (lanes : List (List Lane)) (are : AreParts shared parts lanes) (empty : All (λ part. part.worker.purse ≡ 0) parts) where
  purse_empty : (i : ℕ) (part : PartState) → slice_get parts i ≡ Some part → part.worker.purse ≡ 0
  purse_empty i part at = subst (λ (x : PartState). x.worker.purse ≡ 0) (get_or_from_slice_get parts i part part at) (empty i part (slice_get_within parts i part at))

  part_at_rest : (i : ℕ) (part : PartState) → slice_get parts i ≡ Some part → IsAtRest part.worker
  part_at_rest i part at =
      let purse = purse_empty i part at in
      let idle = (are.keep i part at).resting purse in
      record { purse = purse; held = idle.holds_nothing; unsent = idle.sends_nothing }

  pub worker_at_rest : (i : ℕ) (worker : WorkerState) → slice_get (workers_of parts) i ≡ Some worker → IsAtRest worker
  worker_at_rest i worker is = let part = part_of shared parts lanes are i worker is in subst (λ (x : WorkerState). IsAtRest x) part.2 (part_at_rest i part.0 part.1)

pub joined_parts_quiet : JoinedPartsAreQuiet
joined_parts_quiet shared parts book lanes are empty none high reached = record {
  lanes = none;
  workers = worker_at_rest shared parts lanes are empty;
  frontier = high;
  best = reached;
}

-- ---- the world in which a run begins is that of its opening parts

-- the workers of opening parts are those from which the parts are made
workers_back : (n : ℕ) (workers : List WorkerState) → workers ≡ workers_of (map (opening_part n) workers)
workers_back n [] = refl
workers_back n (first ∷ rest) = ap (λ (xs : List WorkerState). first ∷ xs) (workers_back n rest)

module _ (job : Job) (via : Move) (is : IsJob job) where
  abbrev parts : List PartState
  parts = opening_parts job via

  abbrev idle : List WorkerState
  idle = replicate job.count (idle_worker job.count)

  abbrev begins : ℕ
  begins = job.owner job.task.start

  abbrev first : WorkerState
  first = first_worker job.count job.task via

  abbrev role_at : ℕ → Role
  role_at i = role_in (shared_by (opening job via)) i

  part_count : length parts ≡ job.count
  part_count = length-map (opening job via).workers (opening_part job.count) ∙ length-set idle begins first ∙ length-replicate job.count (idle_worker job.count)

  role_is : (i : ℕ) → i < job.count → IsRole job.count (role_at i)
  role_is i inside = record { task = is.task; few = is.few; me = inside; owners = is.owners }

  first_keeps : Keeps job.count (role_at begins) (opening_part job.count first)
  first_keeps = (openings_kept job.count (role_at begins) (role_is begins (is.owners job.task.start))).1 via refl

  worker_keeps : (i : ℕ) (worker : WorkerState) → i < job.count → slice_get (slice_set idle begins first) i ≡ Some worker → Keeps job.count (role_at i) (opening_part job.count worker)
  worker_keeps i worker inside at =
      ⊎_elim
      (λ (e : i ≡ begins).
      let this = at_set idle begins first (idle_worker job.count) worker (get_replicate job.count begins (idle_worker job.count) (is.owners job.task.start)) (ap (slice_get (slice_set idle begins first)) (sym e) ∙ at) in
      subst (λ (x : ℕ × WorkerState). Keeps job.count (role_at x.0) (opening_part job.count x.1)) (λ t. (sym e t, sym this t)) first_keeps)
      (λ (ne : i ≢ begins).
      let this = at_replicate job.count i (idle_worker job.count) worker (sym (get_set_other idle begins i first ne) ∙ at) in
      subst (λ (x : WorkerState). Keeps job.count (role_at i) (opening_part job.count x)) (sym this) ((openings_kept job.count (role_at i) (role_is i inside)).0 (λ same. ne (sym same))))
      (cases_eq i begins)

  place_is : (i : ℕ) (part : PartState) → slice_get parts i ≡ Some part → i < job.count
  place_is i part at = let inside = slice_get_within parts i part at in omega (arith, inside, part_count)

  part_keeps : (i : ℕ) (part : PartState) → slice_get parts i ≡ Some part → Keeps job.count (role_at i) part
  part_keeps i part at =
      let has = place_in_map (opening_part job.count) (opening job via).workers i part at in
      subst (Keeps job.count (role_at i)) has.2 (worker_keeps i has.0 (place_is i part at) has.1)

  -- nothing was sent, and nothing came
  sent_nothing : (i : ℕ) (part : PartState) → slice_get parts i ≡ Some part → (part.sent ≡ replicate job.count []) × (part.received ≡ replicate job.count [])
  sent_nothing i part at =
      let has = place_in_map (opening_part job.count) (opening job via).workers i part at in
      (sym (ap (λ (x : PartState). x.sent) has.2), sym (ap (λ (x : PartState). x.received) has.2))

  none_there : (i : ℕ) (lanes : List Lane) (lane : Lane) → lanes ≡ replicate job.count [] → slice_get lanes i ≡ Some lane → lane ≡ []
  none_there i lanes lane same at = at_replicate job.count i [] lane (ap (λ (xs : List Lane). slice_get xs i) (sym same) ∙ at)

  row_is : (from : ℕ) (row : List Lane) → slice_get (opening job via).lanes from ≡ Some row → row ≡ replicate job.count []
  row_is from row at = at_replicate job.count from (replicate job.count []) row at

  lane_is : (from to : ℕ) (lane : Lane) → IsAt (opening job via).lanes from to lane → lane ≡ []
  lane_is from to lane at = none_there to at.0 lane (row_is from at.0 at.1) at.2

  opening_are : AreParts (shared_by (opening job via)) parts (opening job via).lanes
  opening_are = record {
    roles = λ i part at. subst (λ k. IsRole k (role_at i)) (sym part_count) (role_is i (place_is i part at));
    some = subst (λ k. 1 ≤ k) (sym part_count) is.some;
    keep = λ i part at. subst (λ k. Keeps k (role_at i) part) (sym part_count) (part_keeps i part at);
    senders = length-replicate job.count (replicate job.count []) ∙ sym part_count;
    receivers = λ from row at. ap length (row_is from row at) ∙ length-replicate job.count [] ∙ sym part_count;
    few = λ from to lane at. let none = lane_is from to lane at in omega (arith, ap length none);
    tied = λ from to sender receiver sent received left at at' out came lies.
        let s = none_there to sender.sent sent (sent_nothing from sender at).0 out in
        let r = none_there from receiver.received received (sent_nothing to receiver at').1 came in
        (λ t. r t ++ lane_is from to left lies t) ∙ sym s;
  }

pub openings_of_parts : OpeningsAreOfParts
openings_of_parts job via is = (opening_are job via is, ap (λ (xs : List WorkerState). record (opening job via) { workers = xs }) (workers_back job.count (opening job via).workers))
