-- The least number of several, one after the other; and the items in the lanes of a world.
use Rattle.std.proofs.Common.{◌≡◌, ◌⊎◌, ℕ, ◌+◌, ◌<◌, ◌≤◌, List, length, Option, Some, None, refl, sym, ap, ◌∙◌, subst, inl, inr, ⊎_elim, arith}
use Rattle.std.specs.Prelude.{Contains, Vec, map, option_map, slice_get}
use Rattle.std.specs.declared.alloc.Global.{Global}
use Rattle.std.proofs.lemmas.Bool.{cases_lt}
use Rattle.std.proofs.lemmas.Option.{none-some, slice_get_within, slice_get_read, slice_get-map, get_or_from_slice_get}
use Rattle.std.proofs.lemmas.List.{length-map}
use Rattle.std.proofs.lemmas.List.Elements.{Contains-get_or}
use Rattle.board.specs.Weights.{WeightsModel}
use Rattle.board.specs.Shapes.{ShapeModel}
use Rattle.board.specs.Boards.{BoardModel}
use Rattle.lower_bound.specs.Tables.{BoundModel}
use Rattle.outcomes.specs.Outcomes.{Task}
use Rattle.world_model.specs.declared.parts.Item.{Item}
use Rattle.world_model.specs.Shapes.{IsShaped}
use Rattle.world_model.specs.Workers.{Packet, Lane}
use Rattle.world_model.specs.Worlds.{WorldState, IsLane, LiesIn, HasInLaneTo}
use Rattle.worker_core.specs.Roles.{task_of}
use Rattle.worker_core.specs.Workers.{state_of}
use Rattle.world_ends.specs.Lowest.{IsLeastBeside, IsLowestInLanes, AreItemsOn}
use Rattle.world_ends.specs.Parts.{HasParts, states_of}
use Rattle.world_ends.proofs.PartLemmas.{beside_none, beside_both, beside_same, beside_nothing, least_same}
use Rattle.hda_run.specs.Lanes.{IsOfOne, IsInLanes}
use Rattle.hda_run.specs.Jobs.{JobModel, task_in}
use Rattle.hda_run.specs.Worlds.{world_of, IsLawful}
use Rattle.hda_run.specs.declared.parts.Parts.{Parts}
use Rattle.hda_run.proofs.PartsLemmas.{W}

-- a number of one of the first k
abbrev pub IsOfFirst : {A : Type 0} → ℕ → (A → ℕ → Type 0) → List A → ℕ → Type 0
IsOfFirst {A} k IsOf xs f = (i : ℕ) × (x : A) × (i < k) × (slice_get xs i ≡ Some x) × IsOf x f

pub none_first : {A : Type 0} (IsOf : A → ℕ → Type 0) (xs : List A) (x : Option ℕ) → IsLeastBeside (IsOfFirst 0 IsOf xs) x x
none_first IsOf xs x = beside_same (λ f. ⊥) (IsOfFirst 0 IsOf xs) (λ n p. absurd p) (λ n p. let low = p.2 in omega (arith, low)) x x (beside_none x)

pub one_more : {A : Type 0} (IsOf : A → ℕ → Type 0) (xs : List A) (k : ℕ) (here : A) (x y z : Option ℕ) → slice_get xs k ≡ Some here → IsLeastBeside (IsOfFirst k IsOf xs) x y → IsLeastBeside (IsOf here) y z → IsLeastBeside (IsOfFirst (k + 1) IsOf xs) x z
one_more {A} IsOf xs k here x y z at before more =
    beside_same (λ f. IsOfFirst k IsOf xs f ⊎ IsOf here f) (IsOfFirst (k + 1) IsOf xs)
    (λ n p. ⊎_elim (λ (q : IsOfFirst k IsOf xs n). let low = q.2 in (q.0, q.1, omega (arith, low), q.3, q.4)) (λ (q : IsOf here n). (k, here, omega arith, at, q)) p)
    (λ n p. ⊎_elim (λ (lt : p.0 < k). inl (p.0, p.1, lt, p.3, p.4)) (λ (le : k ≤ p.0).
    let low = p.2 in
    let e : p.0 ≡ k = omega (arith, low, le) in
    let both : Some p.1 ≡ Some here = sym (subst (λ (i : ℕ). slice_get xs i ≡ Some p.1) e p.3) ∙ at in
    inr (subst (λ (a : A). IsOf a n) (search both) p.4)) (cases_lt p.0 k))
    x z (beside_both (IsOfFirst k IsOf xs) (IsOf here) x y z before more)

pub all_first : {A : Type 0} (IsOf : A → ℕ → Type 0) (xs : List A) (x y : Option ℕ) → IsLeastBeside (IsOfFirst (length xs) IsOf xs) x y → IsLeastBeside (IsOfOne IsOf xs) x y
all_first IsOf xs x y = beside_same (IsOfFirst (length xs) IsOf xs) (IsOfOne IsOf xs) (λ n p. (p.0, p.1, p.3, p.4)) (λ n p. (p.0, p.1, slice_get_within xs p.0 p.1 p.2, p.2, p.3)) x y

-- what is at a place is one of the list
pub one_of : {A : Type 0} (xs : List A) (i : ℕ) (x : A) → slice_get xs i ≡ Some x → Contains xs x
one_of xs i x at = subst (Contains xs) (get_or_from_slice_get xs i x x at) (Contains-get_or xs i x (slice_get_within xs i x at))

-- what a mapped list has at a place is made of what the list has there
of_some : {A B : Type 0} (f : A → B) (o : Option A) (y : B) → option_map f o ≡ Some y → (x : A) × (o ≡ Some x) × (f x ≡ y)
of_some f None y e = absurd (none-some y e)
of_some f (Some x) y e = (x, refl, search e)

pub mapped_at : {A B : Type 0} (f : A → B) (xs : List A) (i : ℕ) (y : B) → slice_get (map f xs) i ≡ Some y → (x : A) × (slice_get xs i ≡ Some x) × (f x ≡ y)
mapped_at f xs i y e = of_some f (slice_get xs i) y (sym (slice_get-map f xs i) ∙ e)

pub map_at : {A B : Type 0} (f : A → B) (xs : List A) (i : ℕ) (x : A) → slice_get xs i ≡ Some x → slice_get (map f xs) i ≡ Some (f x)
map_at f xs i x at = slice_get-map f xs i ∙ ap (option_map f) at

-- the lanes of each worker, as worlds have them
abbrev pub lanes_in : List (Vec Lane Global) → List (List Lane)
lanes_in rows = map (λ (to_each : Vec Lane Global). to_each.items) rows

-- one of a list is at some place
pub place_of : {A : Type 0} (xs : List A) (x : A) → Contains xs x → (i : ℕ) × (slice_get xs i ≡ Some x)
place_of xs x has = (has.0, slice_get_read xs (length xs) has.0 x refl has.1 (sym has.2))

-- the items in the lanes of a shaped world are of its boards
pub items_in_lanes : (w : WorldState) (rows : List (Vec Lane Global)) (grid : ShapeModel) → IsShaped w → lanes_in rows ≡ w.lanes → grid ≡ w.task.goal.grid
    → (to_each : Vec Lane Global) (lane : Lane) (packet : Packet) → Contains rows to_each → Contains to_each.items lane → Contains lane packet → AreItemsOn grid packet
items_in_lanes w rows grid shaped same sides to_each lane packet has_row has_lane has_packet =
    let row = place_of rows to_each has_row in
    let place = place_of to_each.items lane has_lane in
    let sender : slice_get w.lanes row.0 ≡ Some to_each.items = subst (λ (lanes : List (List Lane)). slice_get lanes row.0 ≡ Some to_each.items) same (map_at (λ (v : Vec Lane Global). v.items) rows row.0 to_each row.1) in
    let is : IsLane w row.0 place.0 lane = record { from_lanes = to_each.items; of_sender = sender; of_receiver = place.1 } in
    let are = (shaped.lanes row.0 place.0 lane is).packets packet has_packet in
    λ item has. let good = are.1.items item has in (good.0.1 ∙ sym sides, good.2)

-- the least cost plus sum of what lies in a world's lanes
pub lowest_is : (w : WorldState) (rows : List (Vec Lane Global)) (sum : BoardModel → ℕ) (lowest : Option ℕ) → lanes_in rows ≡ w.lanes → sum ≡ w.task.sum
    → IsLeastBeside (IsOfOne (λ (to_each : Vec Lane Global). IsInLanes sum to_each.items) rows) None lowest → IsLowestInLanes w lowest
lowest_is w rows sum lowest same sums least =
    least_same (IsOfOne (λ (to_each : Vec Lane Global). IsInLanes sum to_each.items) rows) (λ f. (to : ℕ) × (item : Item) × HasInLaneTo w to item × (f ≡ item.cost + w.task.sum item.board))
    (λ f p.
    let from = p.0 in let to_each = p.1 in let inner = p.3 in
    let to = inner.0 in let lane = inner.1 in let most = inner.3 in
    let packet = most.1 in let of_item = most.3 in
    let sender : slice_get w.lanes from ≡ Some to_each.items = subst (λ (lanes : List (List Lane)). slice_get lanes from ≡ Some to_each.items) same (map_at (λ (v : Vec Lane Global). v.items) rows from to_each p.2) in
    let lies : LiesIn w from to packet = record { lane = lane; is = record { from_lanes = to_each.items; of_sender = sender; of_receiver = inner.2 }; lies = one_of lane most.0 packet most.2 } in
    (to, of_item.0, (from, packet, lies, of_item.1), subst (λ (s : BoardModel → ℕ). f ≡ of_item.0.cost + s of_item.0.board) sums of_item.2))
    (λ f p.
    let item = p.1 in let lying = p.2 in
    let lies = lying.2 in
    let row = mapped_at (λ (v : Vec Lane Global). v.items) rows lying.0 lies.is.from_lanes (subst (λ (lanes : List (List Lane)). slice_get lanes lying.0 ≡ Some lies.is.from_lanes) (sym same) lies.is.of_sender) in
    let place = place_of lies.lane lying.1 lies.lies in
    (lying.0, row.0, row.1, (p.0, lies.lane, subst (λ (lanes : List Lane). slice_get lanes p.0 ≡ Some lies.lane) (sym row.2) lies.is.of_receiver, (place.0, lying.1, place.1, (item, lying.3, subst (λ (s : BoardModel → ℕ). f ≡ item.cost + s item.board) (sym sums) p.3)))))
    lowest (beside_nothing (IsOfOne (λ (to_each : Vec Lane Global). IsInLanes sum to_each.items) rows) lowest least)

-- one task of the same four
pub same_task : (p : JobModel) (start goal : BoardModel) (rule : WeightsModel) (tables : BoundModel) → start ≡ p.start → goal ≡ p.goal → rule ≡ p.rule → tables ≡ p.tables → task_of start goal rule tables ≡ task_in p
same_task p start goal rule tables e f g h = λ i. task_of (e i) (f i) (g i) (h i)

-- so the world of the parts is one in which it is asked
pub has_parts : {S : Type 0} (owner_of : S → ℕ → BoardModel → ℕ) (parts : Parts S) (task : Task) (workers : List W) → task ≡ task_in parts.job → workers ≡ parts.workers.items → IsLawful owner_of parts → HasParts task (owner_of parts.owners.now) (states_of workers) (world_of owner_of parts)
has_parts owner_of parts task workers same are lawful = record {
  asks = sym same;
  owns = λ b. ap (λ (n : ℕ). owner_of parts.owners.now n b) (ap (λ (ws : List W). length ws) (sym are) ∙ sym (length-map workers (λ (worker : W). state_of worker)));
  works = ap (λ (ws : List W). states_of ws) (sym are);
  shaped = lawful.shaped;
  sound = lawful.sound;
}
