-- Each step, and so each run, leads from a world of joined parts to another.
use Rattle.std.proofs.Common.{◌≡◌, ◌≢◌, ◌⊎◌, ℕ, ◌<◌, ◌≤◌, List, [], ◌∷◌, ◌++◌, length, refl, sym, ap, ◌∙◌, subst, inl, inr, ⊎_elim, arith, Some, ◌+◌, ◌-◌, Option, None}
use Rattle.std.specs.Prelude.{slice_get, slice_set, Contains}
use Rattle.std.proofs.lemmas.Bool.{cases_eq, cases_lt}
use Rattle.std.proofs.lemmas.List.{append_assoc, length-map, length-set, map-set}
use Rattle.std.proofs.lemmas.Option.{slice_get_within}
use Rattle.std.specs.FinMap as finite
use Rattle.std.proofs.lemmas.List.Elements.{Contains-push}
use Rattle.search_keys.specs.SearchKeys.{search_key}
use Rattle.world_model.specs.Books.{BookState}
use Rattle.world_model.specs.Shapes.{IsShaped}
use Rattle.world_model.specs.Steps.{with_lane, IsRun, Next, OnBook, lane_ends}
use Rattle.world_model.specs.Workers.{Lane, Packet, WorkerState, IsIdle, Role, packet_for}
use Rattle.world_model.specs.Worlds.{IsLane, WorldState, role_of, IsWorker}
use Rattle.world_model.proofs.ChangeLemmas.{changed, lane_after, lane_there, at_set, get_below, get_set_other, worker_there, head_in, is_empty, none_in_empty, known_owned}
use Rattle.world_model.specs.declared.limits.TheConstants.{PACKET_LIMIT}
use Rattle.world_model.specs.declared.parts.Item.{Item}
use Rattle.world_model.specs.declared.steps.HaltCause.{HaltCause}
use Rattle.world_model.specs.declared.steps.HaltCause.TheVariants.{Start}
use Rattle.world_model.specs.declared.steps.Refusal.{Refusal}
use Rattle.world_model.specs.declared.steps.Step.{Step}
use Rattle.world_model.specs.declared.steps.Step.TheVariants.{Expand, Settle, Send, Deliver, Draw, Announce, Grant, Rest, Halt}
use Rattle.world_model.specs.BookSteps.{AnnounceStep, AtBook, DrawStep, GrantStep, HaltStep, RestStep}
use Rattle.world_model.specs.Costs.{IsNotBelow, limit_of}
use Rattle.world_model.specs.Credit.{IsCredited}
use Rattle.world_model.specs.Knowledge.{Knowledge}
use Rattle.world_model.specs.Openings.{opening}
use Rattle.world_model.specs.StepLaws.{worker_of_step}
use Rattle.world_model.specs.Turns.{Turn, turn}
use Rattle.world_model.specs.WorkerSteps.{AtLane, ExpandStep, SettleStep}
use Rattle.world_model.proofs.StepCases.{IsSame, book_steps_keep, Accepts, Cases, Delivers, Expands, LaneChange, OwnChange, SendsOnLane, Settles, next_cases}
use Rattle.world_model.proofs.RunLemmas.{openings_sound}
use Rattle.world_model.proofs.ShapeKept.{shaped_same, steps_shaped}
use Rattle.world_model.proofs.CreditLemmas.{steps_credited}
use Rattle.world_model.specs.ThreadParts.{IsRole, Keeps, PartState}
use Rattle.world_model.specs.PartChanges.{with_packet, IsBookStep, IsPartStep, Receives, Sends, StepsAlone, StepsAtBook, part_with_worker}
use Rattle.world_model.specs.JoinedParts.{IsAt, IsOfParts, shared_by, workers_of, opening_parts}
use Rattle.world_model.specs.ThreadLaws.{NothingHeldIsForeign, PartStepsAreKept, RunsAreOfParts, StepsAreOfParts}
use Rattle.world_model.proofs.JoinedLemmas.{ends_of, part_of, part_shaped, openings_of_parts}
use Rattle.world_model.proofs.LaneKept.{before, book_steps_kept, lane_cases, longer, receiving_kept, sending_kept}
use Rattle.world_model.proofs.WorkerKept.{expanding_kept, settling_kept, worker_kept}

-- ---- a step of a world that is of joined parts leads to one that is

-- what came by each lane and what still lies in it is what was sent
abbrev pub AreTied : List PartState → List (List Lane) → Type 0
AreTied parts lanes =
    (from to : ℕ) (sender receiver : PartState) (sent received left : Lane)
    → slice_get parts from ≡ Some sender
    → slice_get parts to ≡ Some receiver
    → slice_get sender.sent to ≡ Some sent
    → slice_get receiver.received from ≡ Some received
    → IsAt lanes from to left
    → received ++ left ≡ sent

-- there is one lane at a place
one_lane : (lanes : List (List Lane)) (from to : ℕ) (one other : Lane) → IsAt lanes from to one → IsAt lanes from to other → one ≡ other
one_lane lanes from to one other at at' =
    let row : Some at.0 ≡ Some at'.0 = sym at.1 ∙ at'.1 in
    let row' : at.0 ≡ at'.0 = cc in
    let same : Some one ≡ Some other = sym at.2 ∙ ap (λ (xs : List Lane). slice_get xs to) row' ∙ at'.2 in
    cc

-- the part at place i becomes another
module _ (w : WorldState) (parts : List PartState) (of : IsOfParts w parts) (i : ℕ) (part : PartState) (at : slice_get parts i ≡ Some part) (new : PartState) where
  abbrev pub after : List PartState
  after = slice_set parts i new

  count_after : length after ≡ length parts
  count_after = length-set parts i new

  workers_after : slice_set w.workers i new.worker ≡ workers_of after
  workers_after = ap (λ (x : WorldState). slice_set x.workers i new.worker) of.1 ∙ sym (map-set (λ (x : PartState). x.worker) parts i new)

  -- a part is the new one, or was there before
  pub part_after : (j : ℕ) (p : PartState) → slice_get after j ≡ Some p → ((j ≡ i) × (p ≡ new)) ⊎ ((j ≢ i) × (slice_get parts j ≡ Some p))
  part_after j p there =
      ⊎_elim
      (λ (e : j ≡ i). inl (e, at_set parts i new part p at (ap (slice_get after) (sym e) ∙ there)))
      (λ (ne : j ≢ i). inr (ne, sym (get_set_other parts i j new ne) ∙ there))
      (cases_eq j i)

  role_after : (j : ℕ) (p : PartState) → slice_get after j ≡ Some p → IsRole (length after) (role_of w j)
  role_after j p there =
      let inside = slice_get_within after j p there in
      let before = get_below parts j (omega (arith, inside, count_after)) in
      subst (λ k. IsRole k (role_of w j)) (sym count_after) (of.0.roles j before.0 before.1)

  keeps_after : Keeps (length parts) (role_of w i) new → (j : ℕ) (p : PartState) → slice_get after j ≡ Some p → Keeps (length after) (role_of w j) p
  keeps_after keeps j p there =
      ⊎_elim
      (λ (h : (j ≡ i) × (p ≡ new)). subst (λ (x : ℕ × ℕ × PartState). Keeps x.0 (role_of w x.1) x.2) (λ t. (sym count_after t, sym h.0 t, sym h.1 t)) keeps)
      (λ (h : (j ≢ i) × (slice_get parts j ≡ Some p)). subst (λ k. Keeps k (role_of w j) p) (sym count_after) (of.0.keep j p h.1))
      (part_after j p there)

  -- so the world is of the new parts, where it is shaped, and they are tied
  pub changed_of_parts : (book : BookState) (lanes : List (List Lane)) → IsShaped (changed w i new.worker book lanes) → Keeps (length parts) (role_of w i) new → AreTied after lanes → IsOfParts (changed w i new.worker book lanes) after
  changed_of_parts book lanes shaped keeps tied = (
    record {
      roles = role_after;
      some = subst (λ k. 1 ≤ k) (sym count_after) of.0.some;
      keep = keeps_after keeps;
      senders = shaped.senders ∙ count;
      receivers = λ from row there. shaped.receivers from row there ∙ count;
      few = λ from to lane there. (shaped.lanes from to lane (record { from_lanes = there.0; of_sender = there.1; of_receiver = there.2 })).few;
      tied = tied;
    },
    ap (λ (xs : List WorkerState). record w { workers = xs; book = book; lanes = lanes }) workers_after,
  )
    where
      count : length (slice_set w.workers i new.worker) ≡ length after
      count = ap length workers_after ∙ length-map after (λ (x : PartState). x.worker)

  -- a part that has sent the same was there before
  module _ (same : new.sent ≡ part.sent) where
    pub sent_before : (j : ℕ) (p : PartState) → slice_get after j ≡ Some p → (q : PartState) × (slice_get parts j ≡ Some q) × (p.sent ≡ q.sent)
    sent_before j p there =
        ⊎_elim
        (λ (h : (j ≡ i) × (p ≡ new)). (part, ap (slice_get parts) h.0 ∙ at, ap (λ (x : PartState). x.sent) h.1 ∙ same))
        (λ (h : (j ≢ i) × (slice_get parts j ≡ Some p)). (p, h.1, refl))
        (part_after j p there)

  -- and one to which the same has come
  module _ (same : new.received ≡ part.received) where
    pub received_before : (j : ℕ) (p : PartState) → slice_get after j ≡ Some p → (q : PartState) × (slice_get parts j ≡ Some q) × (p.received ≡ q.received)
    received_before j p there =
        ⊎_elim
        (λ (h : (j ≡ i) × (p ≡ new)). (part, ap (slice_get parts) h.0 ∙ at, ap (λ (x : PartState). x.received) h.1 ∙ same))
        (λ (h : (j ≢ i) × (slice_get parts j ≡ Some p)). (p, h.1, refl))
        (part_after j p there)

  -- a step without a lane
  pub tied_without_lane : new.sent ≡ part.sent → new.received ≡ part.received → AreTied after w.lanes
  tied_without_lane same same' from to sender receiver sent received left is is' out came lies =
      let s = sent_before same from sender is in
      let r = received_before same' to receiver is' in
      of.0.tied from to s.0 r.0 sent received left s.1 r.1 (ap (λ (xs : List Lane). slice_get xs to) (sym s.2) ∙ out) (ap (λ (xs : List Lane). slice_get xs from) (sym r.2) ∙ came) lies

-- what lies in a lane after a step, as that of a world
lane_of : (w : WorldState) (i : ℕ) (worker : WorkerState) (lanes : List (List Lane)) (from to : ℕ) (lane : Lane) → IsAt lanes from to lane → IsLane (changed w i worker w.book lanes) from to lane
lane_of w i worker lanes from to lane there = record { from_lanes = there.0; of_sender = there.1; of_receiver = there.2 }

-- the part at place i sends a packet to worker `end`
module _ (w : WorldState) (parts : List PartState) (of : IsOfParts w parts) (i : ℕ) (part : PartState) (at : slice_get parts i ≡ Some part) (end : ℕ) (lane : Lane) (there : IsLane w i end lane) (packet : Packet) (worker : WorkerState) where
  abbrev pub sender_after : PartState
  sender_after = record { worker = worker; sent = with_packet part.sent end packet; received = part.received }

  abbrev sent_parts : List PartState
  sent_parts = slice_set parts i sender_after

  abbrev sent_lanes : List (List Lane)
  sent_lanes = with_lane w.lanes i end (lane ++ packet ∷ [])

  out_inside : end < length part.sent
  out_inside = let ends = ends_of (shared_by w) parts w.lanes of.0 i end lane (there.from_lanes, there.of_sender, there.of_receiver) in omega (arith, ends.1, (of.0.keep i part at).ends.0)

  longer_lane : (left : Lane) → IsAt sent_lanes i end left → lane ++ packet ∷ [] ≡ left
  longer_lane left lies =
      let new = lane_there w i worker w.book i end lane there (lane ++ packet ∷ []) in
      one_lane sent_lanes i end (lane ++ packet ∷ []) left (new.from_lanes, new.of_sender, new.of_receiver) lies

  longer_sent : (p : PartState) (sent : Lane) → slice_get sent_parts i ≡ Some p → slice_get p.sent end ≡ Some sent → (before part.sent end out_inside packet).0 ++ packet ∷ [] ≡ sent
  longer_sent p sent is out =
      ⊎_elim
      (λ (h : (i ≡ i) × (p ≡ sender_after)).
      let same : Some ((before part.sent end out_inside packet).0 ++ packet ∷ []) ≡ Some sent = sym (longer part.sent end out_inside packet) ∙ ap (λ (x : PartState). slice_get x.sent end) (sym h.1) ∙ out in
      cc)
      (λ (h : (i ≢ i) × (slice_get parts i ≡ Some p)). absurd (h.0 refl))
      (part_after w parts of i part at sender_after i p is)

  -- the lane itself
  tied_sent_here : (p q : PartState) (sent received left : Lane) → slice_get sent_parts i ≡ Some p → slice_get sent_parts end ≡ Some q → slice_get p.sent end ≡ Some sent → slice_get q.received i ≡ Some received → IsAt sent_lanes i end left → received ++ left ≡ sent
  tied_sent_here p q sent received left is is' out came lies =
      let old = before part.sent end out_inside packet in
      let r = received_before w parts of i part at sender_after refl end q is' in
      let tied = of.0.tied i end part r.0 old.0 received lane at r.1 old.1 (ap (λ (xs : List Lane). slice_get xs i) (sym r.2) ∙ came) (there.from_lanes, there.of_sender, there.of_receiver) in
      ap (λ (xs : Lane). received ++ xs) (sym (longer_lane left lies)) ∙ sym (append_assoc received lane (packet ∷ [])) ∙ ap (λ (xs : Lane). xs ++ packet ∷ []) tied ∙ longer_sent p sent is out

  -- and the others
  sent_other : (from to : ℕ) (p : PartState) (sent : Lane) → ¬ ((from ≡ i) × (to ≡ end)) → slice_get sent_parts from ≡ Some p → slice_get p.sent to ≡ Some sent → (q : PartState) × (slice_get parts from ≡ Some q) × (slice_get q.sent to ≡ Some sent)
  sent_other from to p sent other is out =
      ⊎_elim
      (λ (h : (from ≡ i) × (p ≡ sender_after)).
      ⊎_elim
      (λ (new : (to ≡ end) × (sent ≡ (before part.sent end out_inside packet).0 ++ packet ∷ [])). absurd (other (h.0, new.0)))
      (λ (old : slice_get part.sent to ≡ Some sent). (part, ap (slice_get parts) h.0 ∙ at, old))
      (lane_cases part.sent end out_inside packet to sent (ap (λ (x : PartState). slice_get x.sent to) (sym h.1) ∙ out)))
      (λ (h : (from ≢ i) × (slice_get parts from ≡ Some p)). (p, h.1, out))
      (part_after w parts of i part at sender_after from p is)

  lane_other : (from to : ℕ) (left : Lane) → ¬ ((from ≡ i) × (to ≡ end)) → IsAt sent_lanes from to left → IsAt w.lanes from to left
  lane_other from to left other lies =
      ⊎_elim
      (λ (new : (from ≡ i) × (to ≡ end) × (left ≡ lane ++ packet ∷ [])). absurd (other (new.0, new.1)))
      (λ (old : IsLane w from to left). (old.from_lanes, old.of_sender, old.of_receiver))
      (lane_after w i worker w.book i end lane there (lane ++ packet ∷ []) from to left (lane_of w i worker sent_lanes from to left lies))

  tied_sent_other : (from to : ℕ) (p q : PartState) (sent received left : Lane) → ¬ ((from ≡ i) × (to ≡ end)) → slice_get sent_parts from ≡ Some p → slice_get sent_parts to ≡ Some q → slice_get p.sent to ≡ Some sent → slice_get q.received from ≡ Some received → IsAt sent_lanes from to left → received ++ left ≡ sent
  tied_sent_other from to p q sent received left other is is' out came lies =
      let s = sent_other from to p sent other is out in
      let r = received_before w parts of i part at sender_after refl to q is' in
      of.0.tied from to s.0 r.0 sent received left s.1 r.1 s.2 (ap (λ (xs : List Lane). slice_get xs from) (sym r.2) ∙ came) (lane_other from to left other lies)

  pub tied_sent : AreTied sent_parts sent_lanes
  tied_sent from to p q sent received left is is' out came lies =
      ⊎_elim
      (λ (e : from ≡ i).
      ⊎_elim
      (λ (e' : to ≡ end).
      tied_sent_here p q sent received left
      (ap (slice_get sent_parts) (sym e) ∙ is) (ap (slice_get sent_parts) (sym e') ∙ is')
      (ap (slice_get p.sent) (sym e') ∙ out) (ap (slice_get q.received) (sym e) ∙ came)
      (lies.0, ap (slice_get sent_lanes) (sym e) ∙ lies.1, ap (slice_get lies.0) (sym e') ∙ lies.2))
      (λ (ne : to ≢ end). tied_sent_other from to p q sent received left (λ same. ne same.1) is is' out came lies)
      (cases_eq to end))
      (λ (ne : from ≢ i). tied_sent_other from to p q sent received left (λ same. ne same.0) is is' out came lies)
      (cases_eq from i)

-- a packet comes to the part at place i from worker `end`
module _ (w : WorldState) (parts : List PartState) (of : IsOfParts w parts) (i : ℕ) (part : PartState) (at : slice_get parts i ≡ Some part) (end : ℕ) (packet : Packet) (rest : Lane) (there : IsLane w end i (packet ∷ rest)) (worker : WorkerState) where
  abbrev pub receiver_after : PartState
  receiver_after = record { worker = worker; sent = part.sent; received = with_packet part.received end packet }

  abbrev taken_parts : List PartState
  taken_parts = slice_set parts i receiver_after

  abbrev taken_lanes : List (List Lane)
  taken_lanes = with_lane w.lanes end i rest

  in_inside : end < length part.received
  in_inside = let ends = ends_of (shared_by w) parts w.lanes of.0 end i (packet ∷ rest) (there.from_lanes, there.of_sender, there.of_receiver) in omega (arith, ends.0, (of.0.keep i part at).ends.1)

  shorter_lane : (left : Lane) → IsAt taken_lanes end i left → rest ≡ left
  shorter_lane left lies =
      let new = lane_there w i worker w.book end i (packet ∷ rest) there rest in
      one_lane taken_lanes end i rest left (new.from_lanes, new.of_sender, new.of_receiver) lies

  longer_received : (q : PartState) (received : Lane) → slice_get taken_parts i ≡ Some q → slice_get q.received end ≡ Some received → (before part.received end in_inside packet).0 ++ packet ∷ [] ≡ received
  longer_received q received is came =
      ⊎_elim
      (λ (h : (i ≡ i) × (q ≡ receiver_after)).
      let same : Some ((before part.received end in_inside packet).0 ++ packet ∷ []) ≡ Some received = sym (longer part.received end in_inside packet) ∙ ap (λ (x : PartState). slice_get x.received end) (sym h.1) ∙ came in
      cc)
      (λ (h : (i ≢ i) × (slice_get parts i ≡ Some q)). absurd (h.0 refl))
      (part_after w parts of i part at receiver_after i q is)

  -- the lane itself
  tied_taken_here : (p q : PartState) (sent received left : Lane) → slice_get taken_parts end ≡ Some p → slice_get taken_parts i ≡ Some q → slice_get p.sent i ≡ Some sent → slice_get q.received end ≡ Some received → IsAt taken_lanes end i left → received ++ left ≡ sent
  tied_taken_here p q sent received left is is' out came lies =
      let old = before part.received end in_inside packet in
      let s = sent_before w parts of i part at receiver_after refl end p is in
      let tied = of.0.tied end i s.0 part sent old.0 (packet ∷ rest) s.1 at (ap (λ (xs : List Lane). slice_get xs i) (sym s.2) ∙ out) old.1 (there.from_lanes, there.of_sender, there.of_receiver) in
      (λ t. sym (longer_received q received is' came) t ++ sym (shorter_lane left lies) t) ∙ append_assoc old.0 (packet ∷ []) rest ∙ tied

  -- and the others
  received_other : (from to : ℕ) (q : PartState) (received : Lane) → ¬ ((from ≡ end) × (to ≡ i)) → slice_get taken_parts to ≡ Some q → slice_get q.received from ≡ Some received → (p : PartState) × (slice_get parts to ≡ Some p) × (slice_get p.received from ≡ Some received)
  received_other from to q received other is came =
      ⊎_elim
      (λ (h : (to ≡ i) × (q ≡ receiver_after)).
      ⊎_elim
      (λ (new : (from ≡ end) × (received ≡ (before part.received end in_inside packet).0 ++ packet ∷ [])). absurd (other (new.0, h.0)))
      (λ (old : slice_get part.received from ≡ Some received). (part, ap (slice_get parts) h.0 ∙ at, old))
      (lane_cases part.received end in_inside packet from received (ap (λ (x : PartState). slice_get x.received from) (sym h.1) ∙ came)))
      (λ (h : (to ≢ i) × (slice_get parts to ≡ Some q)). (q, h.1, came))
      (part_after w parts of i part at receiver_after to q is)

  lane_not_taken : (from to : ℕ) (left : Lane) → ¬ ((from ≡ end) × (to ≡ i)) → IsAt taken_lanes from to left → IsAt w.lanes from to left
  lane_not_taken from to left other lies =
      ⊎_elim
      (λ (new : (from ≡ end) × (to ≡ i) × (left ≡ rest)). absurd (other (new.0, new.1)))
      (λ (old : IsLane w from to left). (old.from_lanes, old.of_sender, old.of_receiver))
      (lane_after w i worker w.book end i (packet ∷ rest) there rest from to left (lane_of w i worker taken_lanes from to left lies))

  tied_taken_other : (from to : ℕ) (p q : PartState) (sent received left : Lane) → ¬ ((from ≡ end) × (to ≡ i)) → slice_get taken_parts from ≡ Some p → slice_get taken_parts to ≡ Some q → slice_get p.sent to ≡ Some sent → slice_get q.received from ≡ Some received → IsAt taken_lanes from to left → received ++ left ≡ sent
  tied_taken_other from to p q sent received left other is is' out came lies =
      let s = sent_before w parts of i part at receiver_after refl from p is in
      let r = received_other from to q received other is' came in
      of.0.tied from to s.0 r.0 sent received left s.1 r.1 (ap (λ (xs : List Lane). slice_get xs to) (sym s.2) ∙ out) r.2 (lane_not_taken from to left other lies)

  pub tied_taken : AreTied taken_parts taken_lanes
  tied_taken from to p q sent received left is is' out came lies =
      ⊎_elim
      (λ (e : from ≡ end).
      ⊎_elim
      (λ (e' : to ≡ i).
      tied_taken_here p q sent received left
      (ap (slice_get taken_parts) (sym e) ∙ is) (ap (slice_get taken_parts) (sym e') ∙ is')
      (ap (slice_get p.sent) (sym e') ∙ out) (ap (slice_get q.received) (sym e) ∙ came)
      (lies.0, ap (slice_get taken_lanes) (sym e) ∙ lies.1, ap (slice_get lies.0) (sym e') ∙ lies.2))
      (λ (ne : to ≢ i). tied_taken_other from to p q sent received left (λ same. ne same.1) is is' out came lies)
      (cases_eq to i))
      (λ (ne : from ≢ end). tied_taken_other from to p q sent received left (λ same. ne same.0) is is' out came lies)
      (cases_eq from end)

-- ---- each world that a run reaches is that of parts which are joined

-- what is held is for its worker, and so is the last of it
pub nothing_foreign : NothingHeldIsForeign
nothing_foreign shared parts lanes i part are at front last held =
    (part_shaped shared parts lanes are i part at).held.items last (subst (λ (xs : List Item). Contains xs last) (sym held) (Contains-push front last))

-- a part keeps what it keeps where its worker knows, holds and has unsent the same, and is idle where its purse is empty
same_kept : (n : ℕ) (role : Role) (part : PartState) (worker : WorkerState) → IsRole n role → Keeps n role part → IsSame part.worker worker → (worker.purse ≡ 0 → IsIdle role.task worker (limit_of worker.best) worker.best) → Keeps n role (part_with_worker part worker)
same_kept n role part worker is keeps same resting = worker_kept role part worker
    (record {
      lower = λ b known knows. (known, ap (λ (k : Knowledge). finite.get k (search_key b)) same.known ∙ knows, omega arith);
      unsent = λ to item has. (has.0, ap (λ (xs : List Packet). slice_get xs to) same.unsent ∙ has.1, has.2);
    })
    n is keeps
    (record {
      shaped = shaped_same n role (record part.worker { held = [] }) keeps.shaped (record worker { held = [] }) same.known refl same.unsent;
      few_held = subst (λ (xs : List Item). length xs ≤ PACKET_LIMIT) (sym same.held) keeps.few_held;
      known = λ b known board knows. inl (ap (λ (k : Knowledge). finite.get k (search_key b)) (sym same.known) ∙ knows);
      items = λ to item has. inl (has.0, ap (λ (xs : List Packet). slice_get xs to) (sym same.unsent) ∙ has.1, has.2);
      held = λ item has. subst (λ (xs : List Item). Contains xs item) same.held has;
      settled = λ item has mine. inr (subst (λ (xs : List Item). Contains xs item) (sym same.held) has);
      resting = resting;
    })

-- a worker of a shaped and credited world whose purse is empty is idle beside its own copy of the best cost
idle_alone : (w : WorldState) → IsShaped w → IsCredited w → (i : ℕ) (worker : WorkerState) → IsWorker w i worker → worker.purse ≡ 0 → IsIdle w.task worker (limit_of worker.best) worker.best
idle_alone w shaped credited i worker at none =
    let has = credited.workers i worker at in
    let idle = has.idle none in
    record {
      holds_nothing = idle.holds_nothing;
      sends_nothing = idle.sends_nothing;
      no_board = idle.no_board;
      no_better_goal = λ cost knows.
          let own = known_owned (length w.workers) (role_of w i) worker shaped.task (shaped.workers i worker at) w.task.goal knows.0 (shaped.task.goal, refl) knows.1 in
          subst (λ (best : Option ℕ). IsNotBelow (Some cost) best) (sym (has.goal_owner own.0).copy) (idle.no_better_goal cost knows);
    }

-- accepted steps, as their definitions have them
expand_step : (role : Role) (x y : WorkerState) → Expands role x y → ExpandStep role (turn x None y)
expand_step role x y step = inr (step.busy, inr (step.left, (step.board, step.known, step.next, inr (step.room, inl (refl, step.is)))))

settle_step : (x y : WorkerState) → Settles x y → SettleStep (turn x None y)
settle_step x y step = inr (λ none. none_in_empty x.held step.last none (subst (λ (xs : List Item). Contains xs step.last) (sym step.held) (Contains-push step.front step.last)), (step.front, step.last, step.held, inl (refl, step.is)))

-- the worker after a step on the book
same_worker : (role : Role) (it : Turn AtBook Refusal) → IsBookStep role it → IsSame it.before.worker it.after.worker
same_worker role it step = let same = book_steps_keep role (cause_of step) it (named step) in record { known = same.0; held = same.1; unsent = same.2 }
  where
    cause_of : IsBookStep role it → HaltCause
    cause_of (inr (inr (inr (inr (cause, halt))))) = cause
    cause_of other = Start

    named : (one : IsBookStep role it) → DrawStep it ⊎ AnnounceStep role it ⊎ GrantStep role it ⊎ RestStep role it ⊎ HaltStep (cause_of one) it
    named (inl one) = inl one
    named (inr (inl one)) = inr (inl one)
    named (inr (inr (inl one))) = inr (inr (inl one))
    named (inr (inr (inr (inl one)))) = inr (inr (inr (inl one)))
    named (inr (inr (inr (inr (cause, one))))) = inr (inr (inr (inr one)))

module _ (w : WorldState) (parts : List PartState) (of : IsOfParts w parts) where
  abbrev n : ℕ
  n = length parts

  -- part i takes a step of its own, and the parts stay joined
  abbrev StaysJoined : WorldState → ℕ → Type 0
  StaysJoined w' i = (part part' : PartState) × (slice_get parts i ≡ Some part) × IsPartStep (role_of w i) part part' × IsOfParts w' (slice_set parts i part')

  part_at : (i : ℕ) (worker : WorkerState) → IsWorker w i worker → (part : PartState) × (slice_get parts i ≡ Some part) × (part.worker ≡ worker)
  part_at i worker at = part_of (shared_by w) parts w.lanes of.0 i worker (ap (λ (x : WorldState). slice_get x.workers i) (sym of.1) ∙ at)

  -- worker i takes a step by itself
  own_step : (i : ℕ) (Change : WorkerState → WorkerState → Type 0) (w' : WorldState)
      → ((part : PartState) (new : WorkerState) → slice_get parts i ≡ Some part → Change part.worker new → Keeps n (role_of w i) (part_with_worker part new) × StepsAlone (role_of w i) part (part_with_worker part new))
      → IsShaped w'
      → OwnChange i Change w w'
      → StaysJoined w' i
  own_step i Change w' kept shaped step =
      let p = part_at i step.worker step.at in
      let part = p.0 in
      let new = part_with_worker part step.new in
      let keeps = kept part step.new p.1 (subst (λ (x : WorkerState). Change x step.new) (sym p.2) step.change) in
      let joined = changed_of_parts w parts of i part p.1 new w.book w.lanes (subst IsShaped step.is shaped) keeps.0 (tied_without_lane w parts of i part p.1 new refl refl) in
      (part, new, p.1, inl keeps.1, subst (λ (x : WorldState). IsOfParts x (slice_set parts i new)) (sym step.is) joined)

  -- worker i takes a step on the book
  book_step : (i : ℕ) (BookStep : Turn AtBook Refusal → Type 0) (answer : Option Refusal) (w' : WorldState)
      → ((at : Turn AtBook Refusal) → BookStep at → IsBookStep (role_of w i) at)
      → IsShaped w'
      → IsCredited w'
      → OnBook i BookStep (turn w answer w')
      → (w' ≡ w) ⊎ StaysJoined w' i
  book_step i BookStep answer w' one shaped credited (inl out) = inl out.1.1
  book_step i BookStep answer w' one shaped credited (inr (there, (worker, at, here, step, is))) =
      let p = part_at i worker here in
      let part = p.0 in
      let new = part_with_worker part at.worker in
      let taken = subst (λ (x : WorkerState). IsBookStep (role_of w i) (turn (record { worker = x; book = w.book }) answer at)) (sym p.2) (one (turn (record { worker = worker; book = w.book }) answer at) step) in
      let same = same_worker (role_of w i) (turn (record { worker = part.worker; book = w.book }) answer at) taken in
      let is_shaped = subst IsShaped is shaped in
      let rests = idle_alone (changed w i at.worker at.book w.lanes) is_shaped (subst IsCredited is credited) i at.worker (worker_there w i worker here at.worker at.book w.lanes) in
      let keeps = same_kept n (role_of w i) part at.worker (of.0.roles i part p.1) (of.0.keep i part p.1) same rests in
      let joined = changed_of_parts w parts of i part p.1 new at.book w.lanes is_shaped keeps (tied_without_lane w parts of i part p.1 new refl refl) in
      inr (part, new, p.1, inr (inl (answer, at.worker, w.book, at.book, taken, refl)), subst (λ (x : WorldState). IsOfParts x (slice_set parts i new)) (sym is) joined)

  -- worker i sends a packet to worker j
  send_step : (i j : ℕ) (w' : WorldState) → IsShaped w' → LaneChange i (lane_ends i j) (SendsOnLane j) w w' → StaysJoined w' i
  send_step i j w' shaped step =
      let p = part_at i step.worker step.at in
      let part = p.0 in
      let sends = subst (λ (x : WorkerState). SendsOnLane j (record { worker = x; lane = step.lane }) step.new) (sym p.2) step.change in
      let worker : WorkerState = record part.worker { unsent = slice_set part.worker.unsent j []; purse = part.worker.purse - 1 } in
      let packet = packet_for part.worker j in
      let new = sender_after w parts of i part p.1 j step.lane step.at_lane packet worker in
      let is : w' ≡ changed w i worker w.book (with_lane w.lanes i j (step.lane ++ packet ∷ [])) = step.is ∙ ap (λ (x : AtLane). changed w i x.worker w.book (with_lane w.lanes i j x.lane)) sends.is in
      let below = ends_of (shared_by w) parts w.lanes of.0 i j step.lane (step.at_lane.from_lanes, step.at_lane.of_sender, step.at_lane.of_receiver) in
      let taken : Sends j part new = (sends.some, at_least_two part.worker.purse sends.rich, refl) in
      let keeps = sending_kept n j (role_of w i) part new (of.0.roles i part p.1) below.1 (of.0.keep i part p.1) taken in
      let joined = changed_of_parts w parts of i part p.1 new w.book _ (subst IsShaped is shaped) keeps (tied_sent w parts of i part p.1 j step.lane step.at_lane packet worker) in
      (part, new, p.1, inr (inr (inl (j, taken))), subst (λ (x : WorldState). IsOfParts x (slice_set parts i new)) (sym is) joined)
    where
      at_least_two : (purse : ℕ) → ¬ (purse < 2) → 2 ≤ purse
      at_least_two purse not = ⊎_elim (λ (lt : purse < 2). absurd (not lt)) (λ (le : 2 ≤ purse). le) (cases_lt purse 2)

  -- worker i takes in a packet from worker j
  deliver_step : (i j : ℕ) (w' : WorldState) → IsShaped w → IsShaped w' → LaneChange i (lane_ends j i) Delivers w w' → StaysJoined w' i
  deliver_step i j w' old shaped step =
      let p = part_at i step.worker step.at in
      let part = p.0 in
      let takes = subst (λ (x : WorkerState). Delivers (record { worker = x; lane = step.lane }) step.new) (sym p.2) step.change in
      let worker : WorkerState = record part.worker { held = takes.packet; purse = part.worker.purse + 1 } in
      let lane = subst (λ (xs : Lane). IsLane w j i xs) takes.first step.at_lane in
      let new = receiver_after w parts of i part p.1 j takes.packet takes.rest lane worker in
      let is : w' ≡ changed w i worker w.book (with_lane w.lanes j i takes.rest) = step.is ∙ ap (λ (x : AtLane). changed w i x.worker w.book (with_lane w.lanes j i x.lane)) takes.is in
      let below = ends_of (shared_by w) parts w.lanes of.0 j i step.lane (step.at_lane.from_lanes, step.at_lane.of_sender, step.at_lane.of_receiver) in
      let fits = (old.lanes j i (takes.packet ∷ takes.rest) lane).packets takes.packet (head_in takes.packet takes.rest) in
      let taken : Receives j part new = (takes.packet, is_empty part.worker.held takes.free, fits.0, fits.1.few, refl) in
      let keeps = receiving_kept n j (role_of w i) part new (of.0.roles i part p.1) below.0 (of.0.keep i part p.1) taken in
      let joined = changed_of_parts w parts of i part p.1 new w.book _ (subst IsShaped is shaped) keeps (tied_taken w parts of i part p.1 j takes.packet takes.rest lane worker) in
      (part, new, p.1, inr (inr (inr (j, taken))), subst (λ (x : WorldState). IsOfParts x (slice_set parts i new)) (sym is) joined)

  -- worker i expands a board, or settles an item
  expands : (i : ℕ) (w' : WorldState) → IsShaped w' → OwnChange i (Expands (role_of w i)) w w' → StaysJoined w' i
  expands i w' shaped step = own_step i (Expands (role_of w i)) w' kept shaped step
    where
      kept : (part : PartState) (new : WorkerState) → slice_get parts i ≡ Some part → Expands (role_of w i) part.worker new → Keeps n (role_of w i) (part_with_worker part new) × StepsAlone (role_of w i) part (part_with_worker part new)
      kept part new at change =
          let taken = expand_step (role_of w i) part.worker new change in
          (expanding_kept n (role_of w i) part None new (of.0.roles i part at) (of.0.keep i part at) (inl taken), (None, new, inl taken, refl))

  settles : (i : ℕ) (w' : WorldState) → IsShaped w' → OwnChange i Settles w w' → StaysJoined w' i
  settles i w' shaped step = own_step i Settles w' kept shaped step
    where
      kept : (part : PartState) (new : WorkerState) → slice_get parts i ≡ Some part → Settles part.worker new → Keeps n (role_of w i) (part_with_worker part new) × StepsAlone (role_of w i) part (part_with_worker part new)
      kept part new at change =
          let taken = settle_step part.worker new change in
          (settling_kept n (role_of w i) part None new (of.0.roles i part at) (of.0.keep i part at) (nothing_foreign (shared_by w) parts w.lanes i part of.0 at) taken, (None, new, inr taken, refl))

  -- a refused step leaves the world, and an accepted one moves a part
  by_cases : (step : Step) (answer : Option Refusal) (w' : WorldState) (i : ℕ) → (Accepts step w w' → StaysJoined w' i) → Next step (turn w answer w') → (w' ≡ w) ⊎ StaysJoined w' i
  by_cases step answer w' i moved next = split (next_cases step (turn w answer w') next)
    where
      split : Cases (turn w answer w') (Accepts step w w') → (w' ≡ w) ⊎ StaysJoined w' i
      split (inl out) = inl out.1.1
      split (inr done) = inr (moved done.1)

  step_moves : (step : Step) (answer : Option Refusal) (w' : WorldState) → IsShaped w → IsShaped w' → IsCredited w' → Next step (turn w answer w') → (w' ≡ w) ⊎ StaysJoined w' (worker_of_step step)
  step_moves (Expand i) answer w' old shaped credited next = by_cases (Expand i) answer w' i (expands i w' shaped) next
  step_moves (Settle i) answer w' old shaped credited next = by_cases (Settle i) answer w' i (settles i w' shaped) next
  step_moves (Send i j) answer w' old shaped credited next = by_cases (Send i j) answer w' i (send_step i j w' shaped) next
  step_moves (Deliver i j) answer w' old shaped credited next = by_cases (Deliver i j) answer w' i (deliver_step i j w' old shaped) next
  step_moves (Draw i) answer w' old shaped credited next = book_step i DrawStep answer w' (λ at step. inl step) shaped credited next
  step_moves (Announce i) answer w' old shaped credited next = book_step i (AnnounceStep (role_of w i)) answer w' (λ at step. inr (inl step)) shaped credited next
  step_moves (Grant i) answer w' old shaped credited next = book_step i (GrantStep (role_of w i)) answer w' (λ at step. inr (inr (inl step))) shaped credited next
  step_moves (Rest i) answer w' old shaped credited next = book_step i (RestStep (role_of w i)) answer w' (λ at step. inr (inr (inr (inl step)))) shaped credited next
  step_moves (Halt i cause) answer w' old shaped credited next = book_step i (HaltStep cause) answer w' (λ at step. inr (inr (inr (inr (cause, step))))) shaped credited next

pub steps_of_parts : StepsAreOfParts
steps_of_parts step it parts next shaped credited of =
    ⊎_elim
    (λ (same : it.after ≡ it.before). inl same)
    (λ (moved : StaysJoined it.before parts of it.after (worker_of_step step)). inr (worker_of_step step, moved.0, moved.1, moved.2, moved.3, moved.4))
    (step_moves it.before parts of step it.answer it.after shaped (steps_shaped step it next shaped) (steps_credited step it next credited) next)

-- the world is that of some parts
abbrev HasParts : WorldState → Type 0
HasParts w = (parts : List PartState) × IsOfParts w parts

-- a step leads from a world of parts to one
step_has_parts : (step : Step) (it : Turn WorldState Refusal) → Next step it → IsShaped it.before → IsCredited it.before → HasParts it.before → HasParts it.after
step_has_parts step it next shaped credited has = split (steps_of_parts step it has.0 next shaped credited has.1)
  where
    split : (it.after ≡ it.before) ⊎ ((i : ℕ) × (part part' : PartState) × (slice_get has.0 i ≡ Some part) × IsPartStep (role_of it.before i) part part' × IsOfParts it.after (slice_set has.0 i part')) → HasParts it.after
    split (inl same) = subst HasParts (sym same) has
    split (inr moved) = (slice_set has.0 moved.0 moved.2, moved.5)

run_has_parts : (w : WorldState) (made : List (Step × Option Refusal)) (w' : WorldState) → IsRun w made w' → IsShaped w → IsCredited w → HasParts w → HasParts w'
run_has_parts w [] w' run shaped credited has = subst HasParts (sym run) has
run_has_parts w (first ∷ rest) w' run shaped credited has =
    let it = turn w first.1 run.0 in
    run_has_parts run.0 rest w' run.2 (steps_shaped first.0 it run.1 shaped) (steps_credited first.0 it run.1 credited) (step_has_parts first.0 it run.1 shaped credited has)

pub runs_of_parts : RunsAreOfParts
runs_of_parts job via made w is run =
    let begins = openings_sound job via is in
    run_has_parts (opening job via) made w run begins.0 begins.2 (opening_parts job via, openings_of_parts job via is)

-- ---- whatever step a part takes, it keeps what it keeps

pub part_steps_kept : PartStepsAreKept
part_steps_kept n role part part' is keeps own purse to_one from_one step = split step
  where
    alone : (it : StepsAlone role part part') → Keeps n role part'
    alone it =
        subst (λ (p : PartState). Keeps n role p) (sym it.3)
        (⊎_elim (λ (e : ExpandStep role (turn part.worker it.0 it.1)). expanding_kept n role part it.0 it.1 is keeps (inl e))
        (λ (s : SettleStep (turn part.worker it.0 it.1)). settling_kept n role part it.0 it.1 is keeps (own it) s)
        it.2)

    at_book : (it : StepsAtBook role part part') → Keeps n role part'
    at_book it = subst (λ (p : PartState). Keeps n role p) (sym it.5) (book_steps_kept n role part it.2 it.3 it.0 it.1 is keeps (purse it) it.4)

    split : IsPartStep role part part' → Keeps n role part'
    split (inl it) = alone it
    split (inr (inl it)) = at_book it
    split (inr (inr (inl sends))) = sending_kept n sends.0 role part part' is (to_one sends.0 sends.1) keeps sends.1
    split (inr (inr (inr comes))) = receiving_kept n comes.0 role part part' is (from_one comes.0 comes.1) keeps comes.1
