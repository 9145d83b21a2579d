-- The world of joined workers and of what is left in their rings, and when it is kept.
use Rattle.std.proofs.Common.{◌≡◌, ℕ, ◌+◌, ◌*◌, ◌≤◌, List, length, Vec, Some, sym, ap, ◌∙◌, subst, arith, suc, [], ◌∷◌, refl, inl, inr, ◌⊎◌, ◌<◌, ◌++◌, get_or, Option, None, append-nil, ⊎_elim, true, set}
use Rattle.std.specs.Prelude.{◌≢◌, sum_by, All, slice_get, Contains, slice_index_or, ◌↔◌, option_map}
use Rattle.std.specs.List.{range_with_len}
use Rattle.std.proofs.lemmas.Bool.{cases_lt}
use Rattle.std.proofs.lemmas.List.{length-map, append_assoc}
use Rattle.std.proofs.lemmas.List.Elements.{Contains-append_right, All-get_or, All-set}
use Rattle.std.proofs.lemmas.List.FromFn.{length-range_with_len, length-map-range_with_len, get_or-range_with_len}
use Rattle.std.proofs.lemmas.Option.{slice_get_within, get_or_from_slice_get, slice_get-get_or, none-some}
use Rattle.std.specs.declared.alloc.Global.{Global}
use Rattle.std.proofs.lemmas.List.Sums.{sum_by-cons}
use Rattle.std.proofs.Math.Seq.{map-set_same}
use Rattle.std.proofs.lemmas.Bool.Decides.{eqb_tells}
use Rattle.board.specs.Shapes.{ShapeModel}
use Rattle.board.specs.Boards.{BoardModel}
use Rattle.outcomes.specs.Outcomes.{Task}
use Rattle.world_model.specs.declared.parts.Item.{Item}
use Rattle.world_model.specs.Shapes.{IsShaped}
use Rattle.world_model.specs.Workers.{WorkerState, Lane, Packet, IsTaskBoard, IsFloor, HasNothingBelow}
use Rattle.world_model.specs.Worlds.{WorldState, IsUnderWay, LiesIn, IsLane, HasInLaneTo, IsWorker, Knows}
use Rattle.world_model.proofs.ChangeLemmas.{part_le, sum_plus, none_in_empty, get_below, at_in, place_of, head_in, all_from_places, knows_owned}
use Rattle.world_model.specs.declared.limits.TheConstants.{GREATEST_GRANT, LANE_LIMIT}
use Rattle.world_model.specs.declared.steps.Stop.TheVariants.{Limit, Memory, Quiet, Start}
use Rattle.world_model.specs.Books.{BookState}
use Rattle.world_model.specs.declared.parts.Known.{Known}
use Rattle.world_model.specs.declared.steps.Stop.{Stop}
use Rattle.world_model.specs.Costs.{limit_of}
use Rattle.world_model.specs.Frontiers.{IsInFrontier, IsReached}
use Rattle.world_model.specs.Quiet.{IsQuiet, IsKept, IsKeptAt, HasBegun}
use Rattle.world_model.proofs.OutcomeLemmas.{least_unique}
use Rattle.world_model.specs.ThreadParts.{PartState, IsRole, Keeps}
use Rattle.world_model.specs.JoinedParts.{AreParts, IsAt, Shared, role_in, world_with}
use Rattle.world_model.specs.ThreadLaws.{JoinedPartsAreSound}
use Rattle.world_model.proofs.JoinedLemmas.{worker_at_rest}
use Rattle.search_lists.specs.Orders.{Guide}
use Rattle.worker_core.specs.declared.worker.Worker.{Worker}
use Rattle.worker_core.specs.Roles.{guide_of, task_of, IsGuided}
use Rattle.worker_core.specs.Workers.{state_of}
use Rattle.world_ends.specs.Lowest.{IsLeastBeside, IsLowestInLanes, AreItemsOn}
use Rattle.world_ends.proofs.PartLemmas.{beside_none, beside_both, beside_same, beside_nothing, least_same, worker_at, worker_from, knows_of, known_from, reached_is}
use Rattle.world_ends.specs.Parts.{AreWorkersGuided, HasParts, states_of, known_in}
use Rattle.world_ends.specs.Readings.{WorldsAnswer}
use Rattle.thread_parts.specs.Rings.{ReceiverModel, left_lanes, left_rows, lane_at, Ring, SenderModel, in_rings, sent_lanes, received_lanes, rings_of_ins, sent_rows, received_rows}
use Rattle.thread_parts.proofs.GridLemmas.{get_end, get_before, length_end}
use Rattle.hda_run.specs.Lanes.{IsOfOne}
use Rattle.hda_run.specs.Jobs.{JobModel, task_in}
use Rattle.thread_runs.specs.Lanes.{lanes_from, by_sender, AreOfWidth, IsLeftInRows, IsTied}
use Rattle.thread_runs.specs.declared.apart.Joined.{Joined}
use Rattle.thread_runs.specs.Worlds.{IsWorldOf, AreAtRest, AreTakenApart, parts_in, parts_with, shared_of_job}
use Rattle.thread_runs.proofs.TakenLemmas.{map_at, mapped_at, part_at, part_count, part_workers, some_is}
use Rattle.board.specs.Weights.{WeightsModel}
use Rattle.board.specs.Rows.{IsLowerBound}
use Rattle.outcomes.specs.declared.outcome.Want.TheVariants.{Stated}
use Rattle.lower_bound.specs.Tables.{BoundModel}
use Rattle.world_model.proofs.KeptLemmas.{kept_quiet as kept_is_quiet}
use Rattle.world_model.specs.Credit.{expansion_count}
use Rattle.world_model.specs.Openings.{Job}
use Rattle.hda_run.specs.Worlds.{job_of}
use Rattle.thread_runs.specs.Threads.{IsJoined}
use Rattle.thread_runs.specs.JoinedLaws.{BoardsHaveOwners, JoinedWorldsAnswer, JoinedLimitsAreKept, LimitsAreSpent, GrantsAreCounted, BooksSayWhatIsFound, FindingsSpendTheirGrants, NoListStopsThreads, QuietHasNoCredit, QuietIsStill}

-- ---- what is left in rings, and the lanes of the world that it makes: the least of one after the other

pub none_least : {A : Type 0} (IsOf : A → ℕ → Type 0) (x : Option ℕ) → IsLeastBeside (IsOfOne IsOf []) x x
none_least IsOf x = beside_same (λ f. ⊥) (IsOfOne IsOf []) (λ n p. absurd p) (λ n p. absurd (cc (p.2))) x x (beside_none x)

-- one more
pub one_least : {A : Type 0} (IsOf : A → ℕ → Type 0) (done : List A) (here : A) (x y z : Option ℕ) → IsLeastBeside (IsOfOne IsOf done) x y → IsLeastBeside (IsOf here) y z → IsLeastBeside (IsOfOne IsOf (done ++ here ∷ [])) x z
one_least {A} IsOf done here x y z before more =
    beside_same (λ f. IsOfOne IsOf done f ⊎ IsOf here f) (IsOfOne IsOf (done ++ here ∷ []))
    (λ n p. ⊎_elim
    (λ (q : IsOfOne IsOf done n). (q.0, q.1, get_before done here q.0 (slice_get_within done q.0 q.1 q.2) ∙ q.2, q.3))
    (λ (q : IsOf here n). (length done, here, get_end done here (length done) refl, q)) p)
    (λ n p. ⊎_elim
    (λ (lt : p.0 < length done). inl (p.0, p.1, sym (get_before done here p.0 lt) ∙ p.2, p.3))
    (λ (le : length done ≤ p.0).
    let low = slice_get_within (done ++ here ∷ []) p.0 p.1 p.2 in
    let e : length done ≡ p.0 = omega (arith, low, le, length_end done here) in
    let both : ◌≡◌ {A = Option A} (Some p.1) (Some here) = sym p.2 ∙ get_end done here p.0 e in
    inr (subst (λ (a : A). IsOf a n) (search both) p.3)) (cases_lt p.0 (length done)))
    x z (beside_both (IsOfOne IsOf done) (IsOf here) x y z before more)

-- the least beside those that are done, where these come next
pub record IsLeastSoFar {A : Type 0} (IsOf : A → ℕ → Type 0) (all next : List A) (x y : Option ℕ) : Type 0 where
  pub done : List A
  pub is : done ++ next ≡ all
  pub least : IsLeastBeside (IsOfOne IsOf done) x y

module _ {A : Type 0} (IsOf : A → ℕ → Type 0) (all : List A) (x : Option ℕ) where
  pub so_far_none : (next : List A) → next ≡ all → IsLeastSoFar IsOf all next x x
  so_far_none next is = record { done = []; is = is; least = none_least IsOf x }

  pub so_far_more : (here : A) (before next : List A) (y z : Option ℕ) → before ≡ here ∷ next → IsLeastSoFar IsOf all before x y → IsLeastBeside (IsOf here) y z → IsLeastSoFar IsOf all next x z
  so_far_more here before next y z first so more = record {
    done = so.done ++ here ∷ [];
    is = append_assoc so.done (here ∷ []) next ∙ (ap (λ (r : List A). so.done ++ r) (sym first) ∙ so.is);
    least = one_least IsOf so.done here x y z so.least more;
  }

  pub so_far_all : (next : List A) (y : Option ℕ) → next ≡ [] → IsLeastSoFar IsOf all next x y → IsLeastBeside (IsOfOne IsOf all) x y
  so_far_all next y none so =
      let e : so.done ≡ all = sym (append-nil so.done) ∙ (ap (λ (r : List A). so.done ++ r) (sym none) ∙ so.is) in
      subst (λ (xs : List A). IsLeastBeside (IsOfOne IsOf xs) x y) e so.least

  -- what comes next is one of all
  pub so_far_next : (here : A) (before next : List A) (y : Option ℕ) → before ≡ here ∷ next → IsLeastSoFar IsOf all before x y → Contains all here
  so_far_next here before next y first so =
      subst (λ (xs : List A). Contains xs here) (ap (λ (r : List A). so.done ++ r) (sym first) ∙ so.is) (Contains-append_right so.done (here ∷ next) here (head_in here next))

-- ---- lanes by their senders

number_at : (n i k : ℕ) → slice_get (range_with_len 0 n) i ≡ Some k → (i < n) × (k ≡ i)
number_at n i k at =
    let low = slice_get_within (range_with_len 0 n) i k at in
    let lt : i < n = omega (arith, low, length-range_with_len 0 n) in
    let e = get_or_from_slice_get (range_with_len 0 n) i k 0 at in
    let e' = get_or-range_with_len 0 n i 0 lt in
    (lt, omega (arith, e, e'))

at_number : (n i : ℕ) → i < n → slice_get (range_with_len 0 n) i ≡ Some i
at_number n i lt =
    let e : get_or (range_with_len 0 n) i 0 ≡ i = let e' = get_or-range_with_len 0 n i 0 lt in omega (arith, e') in
    slice_get-get_or (range_with_len 0 n) i 0 (omega (arith, lt, length-range_with_len 0 n)) ∙ ap (λ (k : ℕ). Some k) e

pub sender_at : (n from : ℕ) (rows : List (List Lane)) → from < n → slice_get (by_sender n rows) from ≡ Some (lanes_from from rows)
sender_at n from rows lt = map_at (λ (k : ℕ). lanes_from k rows) (range_with_len 0 n) from from (at_number n from lt)

pub sender_from : (n from : ℕ) (rows : List (List Lane)) (lanes : List Lane) → slice_get (by_sender n rows) from ≡ Some lanes → (from < n) × (lanes ≡ lanes_from from rows)
sender_from n from rows lanes at =
    let has = mapped_at (λ (k : ℕ). lanes_from k rows) (range_with_len 0 n) from lanes at in
    let is = number_at n from has.0 has.1 in
    (is.0, sym has.2 ∙ ap (λ (k : ℕ). lanes_from k rows) is.1)

pub sender_count : (n : ℕ) (rows : List (List Lane)) → length (by_sender n rows) ≡ n
sender_count n rows = length-map-range_with_len (λ (k : ℕ). lanes_from k rows) 0 n

pub receiver_count : (from : ℕ) (rows : List (List Lane)) → length (lanes_from from rows) ≡ length rows
receiver_count from rows = length-map rows (λ (row : List Lane). slice_index_or row from [])

-- the lane from one worker to another, among the lanes to each
pub lane_from : (from to : ℕ) (rows : List (List Lane)) (lane : Lane) → slice_get (lanes_from from rows) to ≡ Some lane → lane ≡ lane_at rows to from
lane_from from to rows lane at =
    let has = mapped_at (λ (row : List Lane). slice_index_or row from []) rows to lane at in
    sym has.2 ∙ ap (λ (row : List Lane). slice_index_or row from []) (sym (get_or_from_slice_get rows to has.0 [] has.1))

-- ---- the items that are left

module _ (w : WorldState) (n : ℕ) (ins : List (Vec ReceiverModel Global)) (lanes : w.lanes ≡ by_sender n (left_rows ins)) (widths : AreOfWidth n ins) where
  -- an end in a row is at the end of a lane
  pub is_lane : (to from : ℕ) (row : Vec ReceiverModel Global) (it : ReceiverModel) → slice_get ins to ≡ Some row → slice_get row.items from ≡ Some it → IsLane w from to it.left
  is_lane to from row it at_row at =
      let lt : from < n = omega (arith, slice_get_within row.items from it at, widths to row at_row) in
      let here : slice_get (left_rows ins) to ≡ Some (left_lanes row.items) = map_at (λ (v : Vec ReceiverModel Global). left_lanes v.items) ins to row at_row in
      let lane : slice_get (left_lanes row.items) from ≡ Some it.left = map_at (λ (e : ReceiverModel). e.left) row.items from it at in
      record {
        from_lanes = lanes_from from (left_rows ins);
        of_sender = ap (λ (l : List (List Lane)). slice_get l from) lanes ∙ sender_at n from (left_rows ins) lt;
        of_receiver = map_at (λ (r : List Lane). slice_index_or r from []) (left_rows ins) to (left_lanes row.items) here ∙ ap (λ (l : Lane). Some l) (get_or_from_slice_get (left_lanes row.items) from it.left [] lane);
      }

  -- and a lane has such an end
  pub lane_end : (to from : ℕ) (lane : Lane) → IsLane w from to lane → (row : Vec ReceiverModel Global) × (it : ReceiverModel) × (slice_get ins to ≡ Some row) × (slice_get row.items from ≡ Some it) × (it.left ≡ lane)
  lane_end to from lane is =
      let sender = sender_from n from (left_rows ins) is.from_lanes (sym (ap (λ (l : List (List Lane)). slice_get l from) lanes) ∙ is.of_sender) in
      let receiver : slice_get (lanes_from from (left_rows ins)) to ≡ Some lane = subst (λ (l : List Lane). slice_get l to ≡ Some lane) sender.1 is.of_receiver in
      let has = mapped_at (λ (r : List Lane). slice_index_or r from []) (left_rows ins) to lane receiver in
      let row = mapped_at (λ (v : Vec ReceiverModel Global). left_lanes v.items) ins to has.0 has.1 in
      let lt : from < length row.0.items = omega (arith, sender.0, widths to row.0 row.1) in
      let it = get_below row.0.items from lt in
      let left : slice_get (left_lanes row.0.items) from ≡ Some it.0.left = map_at (λ (e : ReceiverModel). e.left) row.0.items from it.0 it.1 in
      (row.0, it.0, row.1, it.1, sym (get_or_from_slice_get (left_lanes row.0.items) from it.0.left [] left) ∙ (ap (λ (r : List Lane). slice_index_or r from []) row.2 ∙ has.2))

  -- the items that are left are of the world's boards
  pub items_left : (grid : ShapeModel) → IsShaped w → grid ≡ w.task.goal.grid
      → (row : Vec ReceiverModel Global) (it : ReceiverModel) (packet : Packet) → Contains ins row → Contains row.items it → Contains it.left packet → AreItemsOn grid packet
  items_left grid shaped sides row it packet has_row has_end has_packet =
      let to = place_of ins row has_row in
      let from = place_of row.items it has_end in
      let are = (shaped.lanes from.0 to.0 it.left (is_lane to.0 from.0 row it to.1 from.1)).packets packet has_packet in
      λ item has. let good = are.1.items item has in (good.0.1 ∙ sym sides, good.2)

  -- the least cost plus sum of what is left is that of the world's lanes
  pub lowest_left : (sum : BoardModel → ℕ) (lowest : Option ℕ) → sum ≡ w.task.sum → IsLeastBeside (IsLeftInRows sum ins) None lowest → IsLowestInLanes w lowest
  lowest_left sum lowest sums least =
      least_same (IsLeftInRows sum ins) (λ f. (to : ℕ) × (item : Item) × HasInLaneTo w to item × (f ≡ item.cost + w.task.sum item.board))
      (λ f p.
      let row = p.1 in let inner = p.3 in
      let it = inner.1 in let most = inner.3 in
      let packet = most.1 in let of_item = most.3 in
      let lies : LiesIn w inner.0 p.0 packet = record { lane = it.left; is = is_lane p.0 inner.0 row it p.2 inner.2; lies = at_in it.left most.0 packet most.2 } in
      (p.0, of_item.0, (inner.0, packet, lies, of_item.1), subst (λ (s : BoardModel → ℕ). f ≡ of_item.0.cost + s of_item.0.board) sums of_item.2))
      (λ f p.
      let item = p.1 in let lying = p.2 in
      let lies = lying.2 in
      let has = lane_end p.0 lying.0 lies.lane lies.is in
      let place = place_of has.1.left lying.1 (subst (λ (l : Lane). Contains l lying.1) (sym has.4) lies.lies) in
      (p.0, has.0, has.2, (lying.0, has.1, has.3, (place.0, lying.1, place.1, (item, lying.3, subst (λ (s : BoardModel → ℕ). f ≡ item.cost + s item.board) (sym sums) p.3)))))
      lowest (beside_nothing (IsLeftInRows sum ins) lowest least)

-- ---- joined workers, and what is left in their rings, are the world of parts

none_summed : {X : Type 0} (f : X → ℕ) (xs : List X) → ((i : ℕ) (x : X) → slice_get xs i ≡ Some x → f x ≡ 0) → sum_by f xs ≡ 0
none_summed f [] each = refl
none_summed f (x ∷ xs) each =
    let first : f x ≡ 0 = each 0 x refl in
    let rest : sum_by f xs ≡ 0 = none_summed f xs (λ i y at. each (suc i) y at) in
    omega (arith, sum_by-cons f x xs, first, rest)

-- Parts were taken apart, and then both ends of each ring were looked at, by which what was sent and received did not change, nor the
-- states of the workers.
module _ {S C D E K G : Type 0} (owner_of : S → ℕ → BoardModel → ℕ) (p : JobModel) (owners : S) (n : ℕ) (old new : Joined C D E K G) (apart : AreTakenApart owner_of p owners n old)
    (states : states_of new.workers.items ≡ states_of old.workers.items) (guided : AreWorkersGuided (task_in p) (guide_of (task_in p)) new.workers.items)
    (sent : sent_rows new.outs.items ≡ sent_rows old.outs.items) (received : received_rows new.ins.items ≡ received_rows old.ins.items) (rings : rings_of_ins new.ins.items ≡ rings_of_ins old.ins.items)
    (tied : (i j : ℕ) → i < n → j < n → IsTied (lane_at (sent_rows new.outs.items) i j) (lane_at (received_rows new.ins.items) j i) (lane_at (left_rows new.ins.items) j i)) where
  abbrev shared : Shared
  shared = shared_of_job owner_of p owners n

  abbrev parts : List PartState
  parts = parts_in new

  abbrev left : List (List Lane)
  left = left_rows new.ins.items

  abbrev lanes : List (List Lane)
  lanes = by_sender n left

  same_parts : parts ≡ parts_in old
  same_parts = λ t. parts_with (states t) (sent t) (received t)

  state_count : length (states_of new.workers.items) ≡ n
  state_count = ap (λ (ws : List WorkerState). length ws) states ∙ (length-map old.workers.items (λ (w : Worker C D E K G). state_of w) ∙ apart.workers)

  worker_count : length new.workers.items ≡ n
  worker_count = sym (length-map new.workers.items (λ (w : Worker C D E K G). state_of w)) ∙ state_count

  sent_count : length (sent_rows new.outs.items) ≡ length (states_of new.workers.items)
  sent_count = ap (λ (rs : List (List Lane)). length rs) sent ∙ (length-map old.outs.items (λ (v : Vec SenderModel Global). sent_lanes v.items) ∙ (apart.outs ∙ sym state_count))

  received_count : length (received_rows new.ins.items) ≡ length (states_of new.workers.items)
  received_count = ap (λ (rs : List (List Lane)). length rs) received ∙ (length-map old.ins.items (λ (v : Vec ReceiverModel Global). received_lanes v.items) ∙ (apart.ins ∙ sym state_count))

  ins_count : length left ≡ n
  ins_count =
      length-map new.ins.items (λ (v : Vec ReceiverModel Global). left_lanes v.items)
      ∙ (sym (length-map new.ins.items (λ (v : Vec ReceiverModel Global). received_lanes v.items)) ∙ (received_count ∙ state_count))

  count : length parts ≡ n
  count = part_count (states_of new.workers.items) (sent_rows new.outs.items) (received_rows new.ins.items) sent_count received_count ∙ state_count

  -- what a part is made of
  at_part : (i : ℕ) (it : PartState) → slice_get parts i ≡ Some it → (slice_get (states_of new.workers.items) i ≡ Some it.worker) × (slice_get (sent_rows new.outs.items) i ≡ Some it.sent) × (slice_get (received_rows new.ins.items) i ≡ Some it.received)
  at_part i it at = part_at (states_of new.workers.items) (sent_rows new.outs.items) (received_rows new.ins.items) i it at

  was_part : (i : ℕ) (it : PartState) → slice_get parts i ≡ Some it → slice_get (parts_in old) i ≡ Some it
  was_part i it at = ap (λ (ps : List PartState). slice_get ps i) (sym same_parts) ∙ at

  role_at : (i : ℕ) (it : PartState) → slice_get parts i ≡ Some it → IsRole (length parts) (role_in shared i)
  role_at i it at = subst (λ (k : ℕ). IsRole k (role_in shared i)) (sym count) (apart.roles i it (was_part i it at))

  keep_at : (i : ℕ) (it : PartState) → slice_get parts i ≡ Some it → Keeps (length parts) (role_in shared i) it
  keep_at i it at = subst (λ (k : ℕ). Keeps k (role_in shared i) it) (sym count) (apart.keep i it (was_part i it at))

  -- the lane from one worker to another is what is left in their ring
  lane_is : (from to : ℕ) (lane : Lane) → IsAt lanes from to lane → (from < n) × (to < n) × (lane ≡ lane_at left to from)
  lane_is from to lane is =
      let sender = sender_from n from left is.0 is.1 in
      let receiver : slice_get (lanes_from from left) to ≡ Some lane = subst (λ (l : List Lane). slice_get l to ≡ Some lane) sender.1 is.2 in
      (sender.0, omega (arith, slice_get_within (lanes_from from left) to lane receiver, receiver_count from left, ins_count), lane_from from to left lane receiver)

  few : (from to : ℕ) (lane : Lane) → IsAt lanes from to lane → length lane ≤ LANE_LIMIT
  few from to lane is = let here = lane_is from to lane is in subst (λ (l : Lane). length l ≤ LANE_LIMIT) (sym here.2) (tied from to here.0 here.1).1

  receivers : (from : ℕ) (row : List Lane) → slice_get lanes from ≡ Some row → length row ≡ length parts
  receivers from row at =
      let sender = sender_from n from left row at in
      ap (λ (l : List Lane). length l) sender.1 ∙ (receiver_count from left ∙ (ins_count ∙ sym count))

  -- the lane at a place, by what is there
  lane_there : (rows : List (List Lane)) (i j : ℕ) (row : List Lane) (lane : Lane) → slice_get rows i ≡ Some row → slice_get row j ≡ Some lane → lane_at rows i j ≡ lane
  lane_there rows i j row lane at_row at = ap (λ (r : List Lane). slice_index_or r j []) (get_or_from_slice_get rows i row [] at_row) ∙ get_or_from_slice_get row j lane [] at

  tied_at : (from to : ℕ) (sender receiver : PartState) (out came rest : Lane) → slice_get parts from ≡ Some sender → slice_get parts to ≡ Some receiver → slice_get sender.sent to ≡ Some out → slice_get receiver.received from ≡ Some came → IsAt lanes from to rest → came ++ rest ≡ out
  tied_at from to sender receiver out came rest at at' is is' lies =
      let here = lane_is from to rest lies in
      let a = lane_there (sent_rows new.outs.items) from to sender.sent out (at_part from sender at).1 is in
      let b = lane_there (received_rows new.ins.items) to from receiver.received came (at_part to receiver at').2 is' in
      (λ t. sym b t ++ here.2 t) ∙ ((tied from to here.0 here.1).0 ∙ a)

  module _ (some : 0 < n) where
    are : AreParts shared parts lanes
    are = record {
      roles = role_at;
      some = omega (arith, some, count);
      keep = keep_at;
      senders = sender_count n left ∙ sym count;
      receivers = receivers;
      few = few;
      tied = tied_at;
    }

    widths : AreOfWidth n new.ins.items
    widths to row at =
        let here : slice_get (rings_of_ins new.ins.items) to ≡ Some (in_rings row.items) = map_at (λ (v : Vec ReceiverModel Global). in_rings v.items) new.ins.items to row at in
        let there : slice_index_or (rings_of_ins old.ins.items) to [] ≡ in_rings row.items = ap (λ (rs : List (List Ring)). slice_index_or rs to []) (sym rings) ∙ get_or_from_slice_get (rings_of_ins new.ins.items) to (in_rings row.items) [] here in
        let low = slice_get_within new.ins.items to row at in
        let lt : to < n = omega (arith, low, ins_count, length-map new.ins.items (λ (v : Vec ReceiverModel Global). left_lanes v.items)) in
        sym (length-map row.items (λ (e : ReceiverModel). e.ring)) ∙ (ap (λ (rs : List Ring). length rs) (sym there) ∙ apart.paired.rows_in to lt)

    module _ (book : BookState) (floors : length book.floors ≡ n) (bound : All (λ worker. worker.purse ≤ book.credit) (states_of new.workers.items))
        (credit : book.stop ≡ Some Quiet → book.credit ≡ 0) (none : book.stop ≡ Some Quiet → (i j : ℕ) → i < n → j < n → lane_at left j i ≡ []) where
      abbrev world : WorldState
      world = world_with shared parts book lanes

      no_purse : book.stop ≡ Some Quiet → All (λ it. it.worker.purse ≡ 0) parts
      no_purse quiet =
          all_from_places (λ (it : PartState). it.worker.purse ≡ 0) parts
          (λ i it at.
          let here = (at_part i it at).0 in
          let low = All-get_or (λ (w : WorkerState). w.purse ≤ book.credit) (states_of new.workers.items) i it.worker (slice_get_within (states_of new.workers.items) i it.worker here) bound in
          let le : it.worker.purse ≤ book.credit = subst (λ (w : WorkerState). w.purse ≤ book.credit) (get_or_from_slice_get (states_of new.workers.items) i it.worker it.worker here) low in
          omega (arith, le, credit quiet))

      no_packet : book.stop ≡ Some Quiet → sum_by (λ to_each. sum_by length to_each) lanes ≡ 0
      no_packet quiet =
          none_summed (λ (to_each : List Lane). sum_by length to_each) lanes
          (λ from row at. none_summed (λ (lane : Lane). length lane) row
          (λ to lane at'. let here = lane_is from to lane (row, at, at') in ap (λ (l : Lane). length l) (here.2 ∙ none quiet from to here.0 here.1)))

      pub joined_world : JoinedPartsAreSound → IsWorldOf owner_of p owners n book new.workers.items new.ins.items world
      joined_world law =
          let both = law shared parts book lanes are (floors ∙ sym count) in
          record {
            count = worker_count;
            parts = record {
              asks = refl;
              owns = λ b. ap (λ (k : ℕ). owner_of owners k b) (sym state_count);
              works = part_workers (states_of new.workers.items) (sent_rows new.outs.items) (received_rows new.ins.items) sent_count received_count;
              shaped = both.0;
              sound = both.1;
            };
            guided = guided;
            book_is = refl;
            widths = widths;
            lanes = refl;
            at_quiet = λ quiet. record { lanes = no_packet quiet; workers = worker_at_rest shared parts lanes are (no_purse quiet) };
          }

-- ---- when a world of joined workers is kept

-- a worker of the same state, whose lists are guided, in the place of another
module _ {C D E K G : Type 0} (xs : List (Worker C D E K G)) (i : ℕ) (d new : Worker C D E K G) where
  pub states_kept : (states : List WorkerState) → states_of xs ≡ states → state_of new ≡ state_of (get_or xs i d) → states_of (set xs i new) ≡ states
  states_kept states same kept = map-set_same state_of xs i new d kept ∙ same

  pub guided_kept : (task : Task) (guide : Guide) → i < length xs → (IsGuided task guide (get_or xs i d).lists → IsGuided task guide new.lists) → AreWorkersGuided task guide xs → AreWorkersGuided task guide (set xs i new)
  guided_kept task guide within kept all = All-set (λ (worker : Worker C D E K G). IsGuided task guide worker.lists) xs i new (kept (all i d within)) all

-- one worker more has nothing below the limit
pub high_more : (task : Task) (limit : ℕ) (states : List WorkerState) (i : ℕ) (here : WorkerState) → slice_get states i ≡ Some here → HasNothingBelow task here limit
    → ((k : ℕ) (worker : WorkerState) → k < i → slice_get states k ≡ Some worker → HasNothingBelow task worker limit)
    → (k : ℕ) (worker : WorkerState) → k < i + 1 → slice_get states k ≡ Some worker → HasNothingBelow task worker limit
high_more task limit states i here at high before k worker low is = elim (eqb_tells k i) [
  | inl p ↦ subst (λ (x : WorkerState). HasNothingBelow task x limit) (some_is here worker (sym at ∙ (ap (slice_get states) (sym p.1) ∙ is))) high
  | inr p ↦ before k worker (omega (arith, low, p.1)) is
]

-- all have nothing below it
pub high_all : (task : Task) (limit : ℕ) (states : List WorkerState) (n : ℕ) → length states ≤ n → ((k : ℕ) (worker : WorkerState) → k < n → slice_get states k ≡ Some worker → HasNothingBelow task worker limit) → All (λ worker. HasNothingBelow task worker limit) states
high_all task limit states n ended each = all_from_places (λ (worker : WorkerState). HasNothingBelow task worker limit) states (λ k worker at. each k worker (let low = slice_get_within states k worker at in omega (arith, low, ended)) at)

-- what holds of all workers holds of each
pub high_at : (task : Task) (limit : ℕ) (states : List WorkerState) (i : ℕ) (here : WorkerState) → slice_get states i ≡ Some here → All (λ worker. HasNothingBelow task worker limit) states → HasNothingBelow task here limit
high_at task limit states i here at all =
    subst (λ (worker : WorkerState). HasNothingBelow task worker limit) (get_or_from_slice_get states i here here at)
    (All-get_or (λ (worker : WorkerState). HasNothingBelow task worker limit) states i here (slice_get_within states i here at) all)

-- where its open list has no floor, a worker has nothing below any limit
pub no_floor : (task : Task) (worker : WorkerState) (floor : Option ℕ) (limit : ℕ) → IsFloor task worker floor → floor ≡ None → HasNothingBelow task worker limit
no_floor task worker None limit none is = λ b known at. absurd (none (known.cost + task.sum b) (b, known, at, refl))
no_floor task worker (Some least) limit floor is = absurd (none-some least (sym is))

-- by the floor of its open list a worker has nothing below a limit exactly where the floor is not below it
pub floor_high : (task : Task) (worker : WorkerState) (floor : Option ℕ) (limit least : ℕ) → IsFloor task worker floor → floor ≡ Some least → (limit ≤ least) ↔ HasNothingBelow task worker limit
floor_high task worker None limit least none is = absurd (none-some least is)
floor_high task worker (Some floor) limit least least_is is =
    let same = some_is floor least is in (
      (λ le b known at. let le' = least_is.1 (known.cost + task.sum b) (b, known, at, refl) in omega (arith, le, le', same)),
      (λ high. let has = least_is.0 in let le = high has.0 has.1 has.2 in let at = has.3 in omega (arith, le, at, same)),
    )

module _ (w : WorldState) (rest : AreAtRest w) where
  none_lies : (from to : ℕ) (packet : List Item) → LiesIn w from to packet → ⊥
  none_lies from to packet lies =
      let row = part_le (λ (r : List Lane). sum_by length r) w.lanes from lies.is.from_lanes lies.is.of_sender in
      let lane = part_le (λ (l : List (List Item)). length l) lies.is.from_lanes to lies.lane lies.is.of_receiver in
      let z = rest.lanes in
      omega (arith, row, lane, z, lies.lies.1)

  emptied : (xs : List (List Item)) (to : ℕ) (packet : List Item) → All (λ p. p ≡ []) xs → slice_get xs to ≡ Some packet → packet ≡ []
  emptied xs to packet all at = subst (λ (p : List Item). p ≡ []) (get_or_from_slice_get xs to packet packet at) (all to packet (slice_get_within xs to packet at))

  -- nothing is under way where all is at rest
  pub none_under_way : (to : ℕ) (item : Item) → IsUnderWay w to item → ⊥
  none_under_way to item (inl has) = none_in_empty has.0.held item (rest.workers to has.0 has.1).held has.2
  none_under_way to item (inr (inl has)) = none_in_empty has.2 item (emptied has.1.unsent to has.2 (rest.workers has.0 has.1 has.3).unsent has.4) has.5
  none_under_way to item (inr (inr has)) = none_lies has.0 to has.1 has.2

module _ (task : Task) (owner_among : ℕ → BoardModel → ℕ) (states : List WorkerState) (w : WorldState) (parts : HasParts task owner_among states w) where
  goal_board : IsTaskBoard task task.goal
  goal_board = subst (λ (t : Task). IsTaskBoard t t.goal) parts.asks (parts.shaped.task.goal, refl)

  start_board : IsTaskBoard task task.start
  start_board = subst (λ (t : Task). IsTaskBoard t t.start) parts.asks (parts.shaped.task.start, parts.shaped.task.sides)

  high_frontier : AreAtRest w → (limit : ℕ) → All (λ worker. HasNothingBelow task worker limit) states → (b : BoardModel) (cost : ℕ) → IsInFrontier w b cost → limit ≤ cost + w.task.sum b
  high_frontier rest limit high b cost (inl has) =
      let knows = has.2 in
      let at = worker_from task owner_among states w parts has.0 knows.worker knows.is in
      let here : HasNothingBelow task knows.worker limit = high_at task limit states has.0 knows.worker at high in
      let there : HasNothingBelow w.task knows.worker limit = subst (λ (t : Task). HasNothingBelow t knows.worker limit) (sym parts.asks) here in
      let le = there b has.1 (record { board = knows.board; knows = knows.knows; unexpanded = has.3; no_goal = has.4 }) in
      omega (arith, le, has.5)
  high_frontier rest limit high b cost (inr has) = absurd (none_under_way w rest has.0 has.1 has.2)

  -- it is quiet where all is at rest, the frontier is not below the limit, and the best cost is that at which the goal is known
  quiet_is : AreAtRest w → All (λ worker. HasNothingBelow task worker (limit_of w.book.best)) states → option_map (λ known. known.cost) (known_in owner_among states task.goal) ≡ w.book.best → IsQuiet w
  quiet_is rest high reached = record {
    lanes = rest.lanes;
    workers = rest.workers;
    frontier = high_frontier rest (limit_of w.book.best) high;
    best = subst (λ (o : Option ℕ). IsReached w o) reached (reached_is task owner_among states w parts (known_in owner_among states task.goal) goal_board refl);
  }

  -- where it is quiet, no worker has anything below the limit
  all_high : IsQuiet w → All (λ worker. HasNothingBelow task worker (limit_of w.book.best)) states
  all_high quiet =
      all_from_places (λ (worker : WorkerState). HasNothingBelow task worker (limit_of w.book.best)) states
      (λ i worker at. subst (λ (t : Task). HasNothingBelow t worker (limit_of w.book.best)) parts.asks (high_here i worker (worker_at task owner_among states w parts i worker at)))
    where
      high_here : (i : ℕ) (worker : WorkerState) → IsWorker w i worker → HasNothingBelow w.task worker (limit_of w.book.best)
      high_here i worker is b known at =
          quiet.frontier b known.cost (inl (i, known, record { worker = worker; is = is; board = at.board; knows = at.knows }, at.unexpanded, at.no_goal, refl))

  -- and the best cost is that at which the goal is known
  best_known : IsQuiet w → option_map (λ known. known.cost) (known_in owner_among states task.goal) ≡ w.book.best
  best_known quiet = least_unique _ _ w.book.best (reached_is task owner_among states w parts (known_in owner_among states task.goal) goal_board refl) quiet.best

  -- the start is expanded at its owner
  abbrev pub HasExpanded : Type 0
  HasExpanded = (known : Known) × (known_in owner_among states task.start ≡ Some known) × (known.expanded ≡ true)

  -- it has begun exactly where the start is expanded at its owner
  has_begun : HasExpanded → HasBegun w
  has_begun has = (
    w.owner task.start,
    has.0,
    subst (λ (b : BoardModel). Knows w (w.owner task.start) b has.0) (ap (λ (t : Task). t.start) (sym parts.asks)) (knows_of task owner_among states w parts task.start has.0 start_board has.1),
    has.2,
  )

  is_expanded : HasBegun w → HasExpanded
  is_expanded has =
      let known = has.1 in
      let own : w.owner w.task.start ≡ has.0 = (knows_owned w parts.shaped has.0 w.task.start known has.2).0 in
      let there : Knows w (w.owner w.task.start) w.task.start known = subst (λ (i : ℕ). Knows w i w.task.start known) (sym own) has.2 in
      let here : Knows w (w.owner task.start) task.start known = subst (λ (t : Task). Knows w (w.owner t.start) t.start known) parts.asks there in
      (known, known_from task owner_among states w parts task.start known here, has.3)

  -- by what it stopped, it is kept exactly where it is so at that
  pub kept_at : (stop : Option Stop) → w.book.stop ≡ stop → IsKeptAt w stop ↔ IsKept w
  kept_at stop is = ((λ kept. subst (λ (o : Option Stop). IsKeptAt w o) (sym is) kept), (λ kept. subst (λ (o : Option Stop). IsKeptAt w o) is kept))

  -- stopped by Quiet it is kept exactly where the best cost is that at which the goal is known, and no worker has anything below the limit
  pub kept_quiet : w.book.stop ≡ Some Quiet → AreAtRest w → (best : Option ℕ) → best ≡ w.book.best
      → ((option_map (λ known. known.cost) (known_in owner_among states task.goal) ≡ best) × All (λ worker. HasNothingBelow task worker (limit_of best)) states) ↔ IsKept w
  kept_quiet stop rest best is =
      subst (λ (o : Option ℕ). ((option_map (λ known. known.cost) (known_in owner_among states task.goal) ≡ o) × All (λ worker. HasNothingBelow task worker (limit_of o)) states) ↔ IsKept w) (sym is)
      ((λ both. (kept_at (Some Quiet) stop).0 (quiet_is rest both.1 both.0)), (λ kept. let quiet = (kept_at (Some Quiet) stop).1 kept in (best_known quiet, all_high quiet)))

  -- halted for the limit it is kept exactly where the start is expanded, or the limit is no more than one grant for each worker
  pub kept_limit : w.book.stop ≡ Some Limit → (count limit : ℕ) → length states ≡ count → w.book.limit ≡ limit → (GREATEST_GRANT * count < limit → HasExpanded) ↔ IsKept w
  kept_limit stop count limit is same =
      let workers : length w.workers ≡ count = ap (λ (ws : List WorkerState). length ws) parts.works ∙ is in
      subst (λ (k : ℕ). (GREATEST_GRANT * k < limit → HasExpanded) ↔ IsKept w) workers
      (subst (λ (k : ℕ). (GREATEST_GRANT * length w.workers < k → HasExpanded) ↔ IsKept w) same
      ((λ spent. (kept_at (Some Limit) stop).0 (λ low. has_begun (spent low))), (λ kept low. is_expanded ((kept_at (Some Limit) stop).1 kept low))))

-- ---- What joined worlds are, and the outcome of joined workers.

-- ---- the outcome of joined workers

-- one task of the same four
pub same_task : (p : JobModel) (start goal : BoardModel) (rule : WeightsModel) (tables : BoundModel) → start ≡ p.start → goal ≡ p.goal → rule ≡ p.rule → tables ≡ p.tables → task_of start goal rule tables ≡ task_in p
same_task p start goal rule tables e f g h = λ i. task_of (e i) (f i) (g i) (h i)

-- the world with the same book and workers
pub world_at : {S C D E K G : Type 0} (owner_of : S → ℕ → BoardModel → ℕ) (p : JobModel) (owners : S) (n : ℕ) (book book' : BookState) (workers workers' : List (Worker C D E K G)) (ins : List (Vec ReceiverModel Global)) (w : WorldState) → book ≡ book' → workers ≡ workers'
    → IsWorldOf owner_of p owners n book workers ins w → IsWorldOf owner_of p owners n book' workers' ins w
world_at {S} {C} {D} {E} {K} {G} owner_of p owners n book book' workers workers' ins w a b is = subst (λ (x : BookState × List (Worker C D E K G)). IsWorldOf owner_of p owners n x.0 x.1 ins w) (λ t. (a t, b t)) is

module _ {S C D E K G : Type 0} (owner_of : S → ℕ → BoardModel → ℕ) (p : JobModel) (owners : S) (n : ℕ) (book : BookState) where
  -- the world of workers of the same states, whose lists are guided
  pub world_same : (workers workers' : List (Worker C D E K G)) (ins : List (Vec ReceiverModel Global)) (w : WorldState) → states_of workers' ≡ states_of workers → AreWorkersGuided (task_in p) (guide_of (task_in p)) workers'
      → IsWorldOf owner_of p owners n book workers ins w → IsWorldOf owner_of p owners n book workers' ins w
  world_same workers workers' ins w same guided is = record {
    count =
        let e = ap (λ (ws : List WorkerState). length ws) same in
        omega (arith, e, is.count, length-map workers (λ (x : Worker C D E K G). state_of x), length-map workers' (λ (x : Worker C D E K G). state_of x));
    parts = subst (λ (states : List WorkerState). HasParts (task_in p) (owner_of owners) states w) (sym same) is.parts;
    guided = guided;
    book_is = is.book_is;
    widths = is.widths;
    lanes = is.lanes;
    at_quiet = is.at_quiet;
  }

  -- the world is that of threads that were joined, where the workers' expansions add up
  pub joined_is : (workers : List (Worker C D E K G)) (ins : List (Vec ReceiverModel Global)) (w : WorldState) (expanded : ℕ) → IsWorldOf owner_of p owners n book workers ins w
      → book.limit ≡ p.limit
      → expanded ≡ sum_by (λ worker. worker.expansions) (states_of workers)
      → book.granted ≡ sum_by (λ worker. worker.allowance + worker.expansions) (states_of workers)
      → expanded ≤ book.granted
      → book.granted ≤ expanded + GREATEST_GRANT * n
      → book.granted ≤ book.limit
      → (book.stop ≡ Some Limit → book.granted ≡ book.limit)
      → book.stop ≢ Some (Memory Stated)
      → IsJoined (job_of owner_of p owners n) w
  joined_is workers ins w expanded is limit sum whole within high capped at_limit no_list =
      let states : length (states_of workers) ≡ n = length-map workers (λ (x : Worker C D E K G). state_of x) ∙ is.count in
      let total : expanded ≡ sum_by (λ worker. worker.expansions) w.workers = sum ∙ ap (λ (ws : List WorkerState). sum_by (λ worker. worker.expansions) ws) (sym is.parts.works) in
      let book_granted : w.book.granted ≡ book.granted = ap (λ (b : BookState). b.granted) is.book_is in
      let book_limit : w.book.limit ≡ p.limit = ap (λ (b : BookState). b.limit) is.book_is ∙ limit in
      record {
        task = is.parts.asks;
        owners = λ b. is.parts.owns b ∙ ap (λ (k : ℕ). owner_of owners k b) states;
        count = ap (λ (ws : List WorkerState). length ws) is.parts.works ∙ states;
        limit = book_limit;
        shaped = is.parts.shaped;
        sound = is.parts.sound;
        at_quiet = λ quiet. is.at_quiet (sym (ap (λ (b : BookState). b.stop) is.book_is) ∙ quiet);
        granted = book_granted ∙ (whole ∙ ap (λ (ws : List WorkerState). sum_by (λ worker. worker.allowance + worker.expansions) ws) (sym is.parts.works));
        spent = omega (arith, total, high, book_granted);
        within_limit = omega (arith, total, within, capped, limit);
        at_limit = λ stopped.
            let all = at_limit (sym (ap (λ (b : BookState). b.stop) is.book_is) ∙ stopped) in
            (ap (λ (b : BookState). b.granted) is.book_is ∙ (all ∙ limit), omega (arith, total, high, all, limit));
        no_list = λ stopped. no_list (sym (ap (λ (b : BookState). b.stop) is.book_is) ∙ stopped);
      }

-- ---- what joined worlds are

pub have_owners : BoardsHaveOwners
have_owners job w b joined = (joined.owners b, joined.shaped.owners b, joined.count)

pub limits_kept : JoinedLimitsAreKept
limits_kept job w joined = let l = joined.limit in let within = joined.within_limit in omega (arith, l, within)

pub limits_spent : LimitsAreSpent
limits_spent job w joined stopped =
    let at = joined.at_limit stopped in
    let l = joined.limit in
    let granted = at.0 in
    let spent = at.1 in
    let n = joined.count in
    (omega (arith, granted, l), omega (arith, spent, l, n))

pub grants_counted : GrantsAreCounted
grants_counted job w joined =
    let whole = joined.granted in
    let parts = sum_plus (λ (x : WorkerState). x.allowance) (λ (x : WorkerState). x.expansions) w.workers in
    let spent = joined.spent in
    let n = joined.count in
    (omega (arith, whole, parts), omega (arith, whole, parts, spent, n))

-- no more is expanded than was granted
within_grants : (job : Job) (w : WorldState) → IsJoined job w → expansion_count w ≤ w.book.granted
within_grants job w joined = let whole = (grants_counted job w joined).0 in omega (arith, whole)

module _ {S X : Type 0} (gives : WorldState → X → Type 0) (owner_of : S → ℕ → BoardModel → ℕ) where
  pub books_say : BooksSayWhatIsFound gives owner_of
  books_say p owners n book None (w, joined, is, dropped) =
      (λ stopped. refl, λ want stopped. absurd (dropped (subst (IsKeptAt w) (sym (ap (λ (b : BookState). b.stop) is ∙ stopped)) tt)))
  books_say p owners n book (Some it) (w, joined, is, (kept, given)) = (
    λ stopped. ⊎_elim
        (λ (e : book.stop ≡ None). absurd (subst (IsKeptAt w) (ap (λ (b : BookState). b.stop) is ∙ e) kept))
        (λ (e : book.stop ≡ Some Start). absurd (subst (IsKeptAt w) (ap (λ (b : BookState). b.stop) is ∙ e) kept)) stopped,
    λ want stopped none. none-some it (sym none),
  )

  pub grants_spent : FindingsSpendTheirGrants gives owner_of
  grants_spent p owners n book it (w, joined, is, (kept, given)) =
      let granted : w.book.granted ≡ book.granted = ap (λ (b : BookState). b.granted) is in
      let low = within_grants (job_of owner_of p owners n) w joined in
      let high = joined.spent in
      (w, joined, is, kept, given, joined.count, omega (arith, granted, low), omega (arith, granted, high))

no_total : (workers : List WorkerState) → ((i : ℕ) (worker : WorkerState) → slice_get workers i ≡ Some worker → worker.purse ≡ 0) → sum_by (λ worker. worker.purse) workers ≡ 0
no_total [] none = refl
no_total (worker ∷ workers) none =
    let here : worker.purse ≡ 0 = none 0 worker refl in
    let rest : sum_by (λ (it : WorkerState). it.purse) workers ≡ 0 = no_total workers (λ i it at. none (suc i) it at) in
    let sum : sum_by (λ (it : WorkerState). it.purse) (worker ∷ workers) ≡ worker.purse + sum_by (λ (it : WorkerState). it.purse) workers = sum_by-cons (λ (it : WorkerState). it.purse) worker workers in
    sum ∙ omega (arith, here, rest)

pub no_credit : QuietHasNoCredit
no_credit job w joined quiet =
    let rest = joined.at_quiet quiet in
    let none = no_total w.workers (λ i worker is. (rest.workers i worker is).purse) in
    let lanes = rest.lanes in
    omega (arith, none, lanes)

pub still : QuietIsStill
still job w joined quiet to item under_way = none_under_way w (joined.at_quiet quiet) to item under_way

pub joined_answers : {X : Type 0} (gives : WorldState → X → Type 0) (answers : Task → X → Type 0) → WorldsAnswer gives answers → JoinedWorldsAnswer gives answers
joined_answers gives answers worlds job w answer joined kept bound given =
    let below : IsLowerBound w.task.rule w.task.sum w.task.goal = subst (λ (t : Task). IsLowerBound t.rule t.sum t.goal) (sym joined.task) bound in
    subst (λ (t : Task). answers t answer) joined.task (worlds w answer joined.shaped joined.sound (kept_is_quiet w kept) below given)

pub no_list_stops : NoListStopsThreads
no_list_stops job w joined = joined.no_list
