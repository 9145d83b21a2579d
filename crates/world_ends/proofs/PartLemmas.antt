-- What the parts of a world say of it: least numbers, put together, and plans that are followed back.
use Rattle.std.proofs.Common.{◌≡◌, ◌≢◌, ℕ, List, Option, Some, None, refl, sym, ap, ◌∙◌, subst, ◌⊎◌, ◌≤◌, ◌<◌, inl, inr, arith, suc, ◌+◌, [], ◌∷◌, ◌++◌, length, take, ⊎_elim, get_or, true, false}
use Rattle.std.specs.Prelude.{max, option_map, Vec, min, Contains, slice_get, unwrap_or, not, ◌↔◌}
use Rattle.std.proofs.lemmas.Bool.{cases_lt, true≢false, not-false}
use Rattle.std.proofs.lemmas.Option.{none-some, slice_get_within, get_or_from_slice_get, slice_get-get_or, unwrap_or-slice_get, slice_get-map}
use Rattle.std.proofs.lemmas.List.Elements.{Contains-append_left, Contains-push, Contains-push_cases}
use Rattle.std.proofs.Math.Seq.{take-suc}
use Rattle.board.specs.Boards.{BoardModel, IsBoard}
use Rattle.board.specs.Classes.{SameClass}
use Rattle.board.specs.Shapes.{ShapeModel}
use Rattle.board.specs.Moves.{Moves}
use Rattle.board.specs.declared.moves.Move.{Move}
use Rattle.board.specs.Neighbours.{opposite}
use Rattle.board.specs.Equality.{position_eq, position_eq-laws, positions_Decide}
use Rattle.board.specs.Weights.{WeightsModel}
use Rattle.board.proofs.MoveLemmas.{taken_back}
use Rattle.search_keys.specs.SearchKeys.{search_key}
use Rattle.outcomes.specs.Outcomes.{Task}
use Rattle.world_model.specs.declared.parts.Item.{Item}
use Rattle.world_model.specs.Costs.{lesser, IsLeastWith}
use Rattle.world_model.specs.Workers.{WorkerState, IsTaskBoard, Packet}
use Rattle.world_model.specs.declared.parts.Known.{Known}
use Rattle.world_model.specs.Frontiers.{IsReached, IsInFrontier, IsLowest}
use Rattle.world_model.specs.Worlds.{WorldState, Knows, IsWorker, IsUnderWay, HasInLaneTo}
use Rattle.world_model.specs.Outcomes.{End, IsBoundOf, IsFollowedBack, IsByLastMoves, IsGiven, IsGivenAt, IsStoppedAt, cause_of, cause_at, AreRowsFor}
use Rattle.worker_core.specs.declared.worker.Worker.{Worker}
use Rattle.worker_core.specs.Workers.{state_of}
use Rattle.world_ends.specs.Lowest.{IsLeastBeside, IsOfWorkers, IsLowestInLanes, IsOfItem, IsOfUnsent, IsOfOpen, IsOfWorker, HasItemsOn}
use Rattle.world_ends.specs.Parts.{HasParts, known_in, states_of, known_by}
use Rattle.world_ends.specs.Plans.{IsTraced, IsPredecessor}
use Rattle.std.specs.declared.alloc.Global.{Global}
use Rattle.memory.specs.declared.OutOfMemory.{OutOfMemory}
use Rattle.board.specs.Plans.{Leads}
use Rattle.board.specs.declared.costs.TheConstants.{GREATEST_COST}
use Rattle.outcomes.specs.declared.outcome.Cause.{Cause}
use Rattle.outcomes.specs.declared.outcome.Why.TheVariants.{Exhausted}
use Rattle.outcomes.specs.declared.outcome.Outcome.{Outcome}
use Rattle.outcomes.specs.declared.outcome.Ending.{Ending}
use Rattle.outcomes.specs.declared.outcome.Ending.TheVariants.{Optimal, Unsolvable, Bounded}
use Rattle.outcomes.specs.declared.outcome.Cause.TheVariants.{Memory}
use Rattle.outcomes.specs.declared.outcome.Want.TheVariants.{Refused}
use Rattle.world_model.specs.declared.steps.Stop.{Stop}
use Rattle.world_model.specs.Laws.{OutcomesAnswer}
use Rattle.world_model.specs.Shapes.{IsShaped}
use Rattle.world_model.proofs.ChangeLemmas.{knows_owned, plan_short}
use Rattle.world_model.specs.KeptLaws.{KnowsGoal}
use Rattle.world_model.proofs.KeptLemmas.{bounds_given, goal_there, stopped_for_memory}
use Rattle.world_model.proofs.OutcomeLemmas.{bounds_true}
use Rattle.world_ends.specs.Endings.{EndsWhole, HasPlanAbove, EndsIn, IsProvedPlan, end_at}
use Rattle.world_ends.specs.Readings.{BoundsAreOfWorlds, HasBoundOf, IsForParity}
use Rattle.outcomes.specs.Endings.{without_rows}
use Rattle.world_ends.specs.Laws.{EndingsLackRowsAlone, WantedRowsLeaveABound, BoundsLackRowsAlone, WantedRowsLeaveTheBound, EndsAreBounds, MemoryEndsAreWanted, UnsolvableEndsAreGiven, WorldsHaveParts, RowsMakeAnAnswer, RowsMakeABoundAnswer, ReadBoundsAreOfWorlds, EndingsAnswer}
use Rattle.outcomes.specs.declared.outcome.Outcome.TheVariants as outcome

-- ---- least numbers, put together

-- what holds of the same numbers is least at the same
pub least_same : (P Q : ℕ → Type 0) → ((n : ℕ) → P n → Q n) → ((n : ℕ) → Q n → P n) → (o : Option ℕ) → IsLeastWith P o → IsLeastWith Q o
least_same P Q there back None none = λ n q. none n (back n q)
least_same P Q there back (Some k) is = (there k is.0, λ m q. is.1 m (back m q))

number_of : (k m : ℕ) → ◌≡◌ {A = Option ℕ} (Some k) (Some m) → k ≡ m
number_of k m e = cc

-- a number is the least beside nothing
pub beside_none : (x : Option ℕ) → IsLeastBeside (λ f. ⊥) x x
beside_none None = λ n h. ⊎_elim (λ e. none-some n e) (λ x. x) h
beside_none (Some k) = (inl refl, λ m h. ⊎_elim (λ e. let same = number_of k m e in omega arith) (λ x. absurd x) h)

-- the lesser of a least number and another
pub lesser_beside : (P : ℕ → Type 0) (x y : Option ℕ) → IsLeastWith P x → IsLeastBeside P y (lesser x y)
lesser_beside P None None none = λ n h. ⊎_elim (λ e. none-some n e) (λ p. none n p) h
lesser_beside P None (Some b) none = (inl refl, λ m h. ⊎_elim (λ e. let same = number_of b m e in omega arith) (λ p. absurd (none m p)) h)
lesser_beside P (Some a) None is = (inr is.0, λ m h. ⊎_elim (λ e. absurd (none-some m e)) (λ p. is.1 m p) h)
lesser_beside P (Some a) (Some b) is =
    ⊎_elim
    (λ (lt : a < b).
    let e : a ≡ min a b = omega arith in
    (inr (subst P e is.0), λ m h. ⊎_elim (λ e'. let same = number_of b m e' in omega arith) (λ p. let le = is.1 m p in omega arith) h))
    (λ (le : b ≤ a).
    let e : b ≡ min a b = omega arith in
    (inl (ap (λ (n : ℕ). Some n) e), λ m h. ⊎_elim (λ e'. let same = number_of b m e' in omega arith) (λ p. let le' = is.1 m p in omega arith) h))
    (cases_lt a b)

-- what is least beside a least number
pub beside_least : (A Q : ℕ → Type 0) (y z : Option ℕ) → IsLeastWith A y → IsLeastBeside Q y z → IsLeastWith (λ f. A f ⊎ Q f) z
beside_least A Q None None first second = λ n h. ⊎_elim (λ a. first n a) (λ q. second n (inr q)) h
beside_least A Q None (Some m) first second =
    (⊎_elim (λ e. absurd (none-some m e)) (λ q. inr q) second.0, λ f h. ⊎_elim (λ a. absurd (first f a)) (λ q. second.1 f (inr q)) h)
beside_least A Q (Some k) None first second = absurd (second k (inl refl))
beside_least A Q (Some k) (Some m) first second = (
  ⊎_elim (λ (e : ◌≡◌ {A = Option ℕ} (Some k) (Some m)). inl (subst A (number_of k m e) first.0)) (λ q. inr q) second.0,
  λ f h. ⊎_elim (λ a. let le = first.1 f a in let le' = second.1 k (inl refl) in omega arith) (λ q. second.1 f (inr q)) h,
)

-- one after the other
pub beside_both : (P Q : ℕ → Type 0) (x y z : Option ℕ) → IsLeastBeside P x y → IsLeastBeside Q y z → IsLeastBeside (λ f. P f ⊎ Q f) x z
beside_both P Q x y z first second =
    least_same (λ f. ((x ≡ Some f) ⊎ P f) ⊎ Q f) (λ f. (x ≡ Some f) ⊎ (P f ⊎ Q f))
    (λ n h. ⊎_elim (λ (p : (x ≡ Some n) ⊎ P n). ⊎_elim (λ e. inl e) (λ q. inr (inl q)) p) (λ q. inr (inr q)) h)
    (λ n h. ⊎_elim (λ e. inl (inl e)) (λ (p : P n ⊎ Q n). ⊎_elim (λ q. inl (inr q)) (λ q. inr q) p) h)
    z (beside_least (λ f. (x ≡ Some f) ⊎ P f) Q y z first second)

-- what is least beside nothing is least
pub beside_nothing : (P : ℕ → Type 0) (x : Option ℕ) → IsLeastBeside P None x → IsLeastWith P x
beside_nothing P x is = least_same (λ f. (None ≡ Some f) ⊎ P f) P (λ n h. ⊎_elim (λ e. absurd (none-some n e)) (λ p. p) h) (λ n p. inr p) x is

-- the same beside the same
pub beside_same : (P Q : ℕ → Type 0) → ((n : ℕ) → P n → Q n) → ((n : ℕ) → Q n → P n) → (x y : Option ℕ) → IsLeastBeside P x y → IsLeastBeside Q x y
beside_same P Q there back x y is =
    least_same (λ f. (x ≡ Some f) ⊎ P f) (λ f. (x ≡ Some f) ⊎ Q f)
    (λ n h. ⊎_elim (λ e. inl e) (λ p. inr (there n p)) h)
    (λ n h. ⊎_elim (λ e. inl e) (λ q. inr (back n q)) h)
    y is

-- what is read at a place
pub packet_at : (packets : List Packet) (to : ℕ) (packet : Packet) → to < length packets → packet ≡ unwrap_or (slice_get packets to) [] → slice_get packets to ≡ Some packet
packet_at packets to packet within is = slice_get-get_or packets to [] within ∙ ap (λ (p : Packet). Some p) (sym (unwrap_or-slice_get packets to []) ∙ sym is)

-- one item more
pub item_more : (sum : BoardModel → ℕ) (items : List Item) (i : ℕ) (item : Item) (f : ℕ) (x y : Option ℕ) → i < length items → slice_get items i ≡ Some item → f ≡ item.cost + sum item.board → IsLeastBeside (IsOfItem sum (take i items)) x y → IsLeastBeside (IsOfItem sum (take (i + 1) items)) x (lesser (Some f) y)
item_more sum items i item f x y within at adds is =
    let step : i + 1 ≡ suc i = omega arith in
    let more : take (i + 1) items ≡ take i items ++ item ∷ [] = ap (λ (k : ℕ). take k items) step ∙ take-suc items i item within ∙ ap (λ (it : Item). take i items ++ it ∷ []) (get_or_from_slice_get items i item item at) in
    let one : IsLeastBeside (λ n. f ≡ n) y (lesser (Some f) y) = lesser_beside (λ n. f ≡ n) (Some f) y (refl, λ m e. omega (arith, e)) in
    let both = beside_both (IsOfItem sum (take i items)) (λ n. f ≡ n) x y (lesser (Some f) y) is one in
    subst (λ (its : List Item). IsLeastBeside (IsOfItem sum its) x (lesser (Some f) y)) (sym more)
    (beside_same (λ n. IsOfItem sum (take i items) n ⊎ (f ≡ n)) (IsOfItem sum (take i items ++ item ∷ []))
    (λ n h. ⊎_elim
    (λ (old : IsOfItem sum (take i items) n). (old.0, Contains-append_left (take i items) (item ∷ []) old.0 old.1, old.2))
    (λ (e : f ≡ n). (item, Contains-push (take i items) item, sym e ∙ adds))
    h)
    (λ n h. ⊎_elim
    (λ (old : Contains (take i items) h.0). inl (h.0, old, h.2))
    (λ (new : item ≡ h.0). inr (adds ∙ ap (λ (it : Item). it.cost + sum it.board) new ∙ sym h.2))
    (Contains-push_cases (take i items) item h.0 h.1))
    x (lesser (Some f) y) both)

-- an unsent item for one of the first workers
abbrev pub IsOfUnsentUpTo : ℕ → (BoardModel → ℕ) → WorkerState → ℕ → Type 0
IsOfUnsentUpTo k sum worker f = (to : ℕ) × (packet : Packet) × (to < k) × (slice_get worker.unsent to ≡ Some packet) × IsOfItem sum packet f

pub no_packet : (sum : BoardModel → ℕ) (worker : WorkerState) (x : Option ℕ) → IsLeastBeside (IsOfUnsentUpTo 0 sum worker) x x
no_packet sum worker x = beside_same (λ f. ⊥) (IsOfUnsentUpTo 0 sum worker) (λ n h. absurd h) (λ n h. omega (arith, h.2)) x x (beside_none x)

-- one packet more
pub packet_more : (sum : BoardModel → ℕ) (worker : WorkerState) (k : ℕ) (packet : Packet) (x y z : Option ℕ) → slice_get worker.unsent k ≡ Some packet → IsLeastBeside (IsOfUnsentUpTo k sum worker) x y → IsLeastBeside (IsOfItem sum packet) y z → IsLeastBeside (IsOfUnsentUpTo (k + 1) sum worker) x z
packet_more sum worker k packet x y z at first second =
    beside_same (λ f. IsOfUnsentUpTo k sum worker f ⊎ IsOfItem sum packet f) (IsOfUnsentUpTo (k + 1) sum worker)
    (λ n h. ⊎_elim
    (λ (old : IsOfUnsentUpTo k sum worker n). (old.0, old.1, omega (arith, old.2), old.3, old.4))
    (λ (new : IsOfItem sum packet n). (k, packet, omega arith, at, new))
    h)
    (λ n h. ⊎_elim
    (λ (lt : h.0 < k). inl (h.0, h.1, lt, h.3, h.4))
    (λ (ge : k ≤ h.0).
    let e : h.0 ≡ k = omega (arith, ge, h.2) in
    let same : ◌≡◌ {A = Option Packet} (Some h.1) (Some packet) = sym h.3 ∙ ap (slice_get worker.unsent) e ∙ at in
    inr (subst (λ (p : Packet). IsOfItem sum p n) (cc) h.4))
    (cases_lt h.0 k))
    x z (beside_both (IsOfUnsentUpTo k sum worker) (IsOfItem sum packet) x y z first second)

pub all_packets : (sum : BoardModel → ℕ) (worker : WorkerState) (x y : Option ℕ) → IsLeastBeside (IsOfUnsentUpTo (length worker.unsent) sum worker) x y → IsLeastBeside (IsOfUnsent sum worker) x y
all_packets sum worker x y is =
    beside_same (IsOfUnsentUpTo (length worker.unsent) sum worker) (IsOfUnsent sum worker)
    (λ n h. (h.0, h.1, h.3, h.4))
    (λ n h. (h.0, h.1, slice_get_within worker.unsent h.0 h.1 h.2, h.2, h.3))
    x y is

-- the three parts of a worker
pub worker_is : (task : Task) (worker : WorkerState) (floor lowest least last : Option ℕ) → IsLeastWith (IsOfOpen task worker) floor → IsLeastBeside (IsOfItem task.sum worker.held) (lesser floor lowest) least → IsLeastBeside (IsOfUnsent task.sum worker) least last → IsLeastBeside (IsOfWorker task worker) lowest last
worker_is task worker floor lowest least last floored held unsent =
    let first = lesser_beside (IsOfOpen task worker) floor lowest floored in
    let second = beside_both (IsOfOpen task worker) (IsOfItem task.sum worker.held) lowest (lesser floor lowest) least first held in
    let third = beside_both (λ f. IsOfOpen task worker f ⊎ IsOfItem task.sum worker.held f) (IsOfUnsent task.sum worker) lowest least last second unsent in
    beside_same (λ f. (IsOfOpen task worker f ⊎ IsOfItem task.sum worker.held f) ⊎ IsOfUnsent task.sum worker f) (IsOfWorker task worker)
    (λ n h. ⊎_elim (λ (p : IsOfOpen task worker n ⊎ IsOfItem task.sum worker.held n). ⊎_elim (λ e. inl e) (λ q. inr (inl q)) p) (λ q. inr (inr q)) h)
    (λ n h. ⊎_elim (λ e. inl (inl e)) (λ (p : IsOfItem task.sum worker.held n ⊎ IsOfUnsent task.sum worker n). ⊎_elim (λ q. inl (inr q)) (λ q. inr q) p) h)
    lowest last third

-- one of the first workers
abbrev pub IsOfWorkersUpTo : ℕ → Task → List WorkerState → ℕ → Type 0
IsOfWorkersUpTo k task states f = (i : ℕ) × (worker : WorkerState) × (i < k) × (slice_get states i ≡ Some worker) × IsOfWorker task worker f

pub no_worker : (task : Task) (states : List WorkerState) (x : Option ℕ) → IsLeastBeside (IsOfWorkersUpTo 0 task states) x x
no_worker task states x = beside_same (λ f. ⊥) (IsOfWorkersUpTo 0 task states) (λ n h. absurd h) (λ n h. omega (arith, h.2)) x x (beside_none x)

-- one worker more
pub worker_more : (task : Task) (states : List WorkerState) (k : ℕ) (worker : WorkerState) (x y z : Option ℕ) → slice_get states k ≡ Some worker → IsLeastBeside (IsOfWorkersUpTo k task states) x y → IsLeastBeside (IsOfWorker task worker) y z → IsLeastBeside (IsOfWorkersUpTo (k + 1) task states) x z
worker_more task states k worker x y z at first second =
    beside_same (λ f. IsOfWorkersUpTo k task states f ⊎ IsOfWorker task worker f) (IsOfWorkersUpTo (k + 1) task states)
    (λ n h. ⊎_elim
    (λ (old : IsOfWorkersUpTo k task states n). (old.0, old.1, omega (arith, old.2), old.3, old.4))
    (λ (new : IsOfWorker task worker n). (k, worker, omega arith, at, new))
    h)
    (λ n h. ⊎_elim
    (λ (lt : h.0 < k). inl (h.0, h.1, lt, h.3, h.4))
    (λ (ge : k ≤ h.0).
    let e : h.0 ≡ k = omega (arith, ge, h.2) in
    let same : ◌≡◌ {A = Option WorkerState} (Some h.1) (Some worker) = sym h.3 ∙ ap (slice_get states) e ∙ at in
    inr (subst (λ (p : WorkerState). IsOfWorker task p n) (cc) h.4))
    (cases_lt h.0 k))
    x z (beside_both (IsOfWorkersUpTo k task states) (IsOfWorker task worker) x y z first second)

pub all_workers : (task : Task) (states : List WorkerState) (x y : Option ℕ) → IsLeastBeside (IsOfWorkersUpTo (length states) task states) x y → IsLeastBeside (IsOfWorkers task states) x y
all_workers task states x y is =
    beside_same (IsOfWorkersUpTo (length states) task states) (IsOfWorkers task states)
    (λ n h. (h.0, h.1, h.3, h.4))
    (λ n h. (h.0, h.1, slice_get_within states h.0 h.1 h.2, h.2, h.3))
    x y is

-- ---- what the parts of a world say of the world

-- a worker's state among those of all
pub state_at : {C D S K G : Type 0} (workers : List (Worker C D S K G)) (states : List WorkerState) (i : ℕ) (d : Worker C D S K G) → states_of workers ≡ states → i < length workers → slice_get states i ≡ Some (state_of (get_or workers i d))
state_at workers states i d same within =
    ap (λ (ws : List WorkerState). slice_get ws i) (sym same) ∙ slice_get-map state_of workers i ∙ ap (option_map state_of) (slice_get-get_or workers i d within)

module _ (task : Task) (owner_among : ℕ → BoardModel → ℕ) (states : List WorkerState) (w : WorldState) (parts : HasParts task owner_among states w) where
  -- worker i is that of the parts
  pub worker_at : (i : ℕ) (worker : WorkerState) → slice_get states i ≡ Some worker → IsWorker w i worker
  worker_at i worker at = ap (λ (ws : List WorkerState). slice_get ws i) parts.works ∙ at

  pub worker_from : (i : ℕ) (worker : WorkerState) → IsWorker w i worker → slice_get states i ≡ Some worker
  worker_from i worker is = ap (λ (ws : List WorkerState). slice_get ws i) (sym parts.works) ∙ is

  pub task_board : (b : BoardModel) → IsTaskBoard task b → IsTaskBoard w.task b
  task_board b is = subst (λ (t : Task). IsTaskBoard t b) (sym parts.asks) is

  pub some_workers : 0 < length states
  some_workers = let e = ap length parts.works in omega (arith, e, parts.shaped.count.0)

  -- what the owner knows
  pub known_at_owner : (b : BoardModel) (known : Known) (o : Option WorkerState) → slice_get states (owner_among (length states) b) ≡ o → IsTaskBoard task b → known_by o (search_key b) ≡ Some known → Knows w (w.owner b) b known
  known_at_owner b known None at is found = absurd (none-some known found)
  known_at_owner b known (Some worker) at is found = record {
    worker = worker;
    is = ap (slice_get w.workers) (parts.owns b) ∙ worker_at (owner_among (length states) b) worker at;
    board = task_board b is;
    knows = found;
  }

  pub knows_of : (b : BoardModel) (known : Known) → IsTaskBoard task b → known_in owner_among states b ≡ Some known → Knows w (w.owner b) b known
  knows_of b known is found = known_at_owner b known (slice_get states (owner_among (length states) b)) refl is found

  pub known_from : (b : BoardModel) (known : Known) → Knows w (w.owner b) b known → known_in owner_among states b ≡ Some known
  known_from b known knows =
      let at : slice_get states (owner_among (length states) b) ≡ Some knows.worker = ap (slice_get states) (sym (parts.owns b)) ∙ worker_from (w.owner b) knows.worker knows.is in
      ap (λ (o : Option WorkerState). known_by o (search_key b)) at ∙ knows.knows

  -- a board that isn't the start has its predecessor
  pub before_is : (b : BoardModel) (known : Known) → IsTaskBoard task b → known_in owner_among states b ≡ Some known → b ≢ task.start → (before : BoardModel) × (c : ℕ) × (there : Known) × IsPredecessor task owner_among states b known before c there
  before_is b known is found other =
      ⊎_elim
      (λ (first : (b ≡ w.task.start) × (known.cost ≡ 0)). absurd (other (first.0 ∙ ap (λ (t : Task). t.start) parts.asks)))
      (λ (has : (before : BoardModel) × (c : ℕ) × (there : Known) × Moves w.task.rule before known.via b c × Knows w (w.owner before) before there × (there.cost + c ≤ known.cost)). (
        has.0,
        has.1,
        has.2,
        record {
          board = subst (λ (t : Task). IsTaskBoard t has.0) parts.asks has.4.board;
          moves = subst (λ (t : Task). Moves t.rule has.0 known.via b has.1) parts.asks has.3;
          known = known_from has.0 has.2 has.4;
          cheaper = has.5;
        },
      ))
      (parts.sound.reached (w.owner b) b known (knows_of b known is found))

  -- what is known of the goal
  pub reached_is : (o : Option Known) → IsTaskBoard task task.goal → known_in owner_among states task.goal ≡ o → IsReached w (option_map (λ known. known.cost) o)
  reached_is None is none =
      λ n h. none-some h.0 (sym none ∙ subst (λ (t : Task). known_in owner_among states t.goal ≡ Some h.0) parts.asks (known_from w.task.goal h.0 h.1))
  reached_is (Some known) is some = (
    (known, subst (λ (b : BoardModel). Knows w (w.owner b) b known) (ap (λ (t : Task). t.goal) (sym parts.asks)) (knows_of task.goal known is some), refl),
    λ m h.
        let same : ◌≡◌ {A = Option Known} (Some known) (Some h.0) = sym some ∙ subst (λ (t : Task). known_in owner_among states t.goal ≡ Some h.0) parts.asks (known_from w.task.goal h.0 h.1) in
        let e : known ≡ h.0 = cc in
        let cost = ap (λ (k : Known). k.cost) e in
        omega (arith, cost, h.2),
  )

  -- the items of each worker are of boards of the task
  pub items_are : (grid : ShapeModel) → grid ≡ task.goal.grid → (i : ℕ) (worker : WorkerState) → slice_get states i ≡ Some worker → HasItemsOn grid worker
  items_are grid sides i worker at =
      let shaped = parts.shaped.workers i worker (worker_at i worker at) in
      let goal : w.task.goal.grid ≡ grid = ap (λ (t : Task). t.goal.grid) parts.asks ∙ sym sides in
      record {
        held = λ item has. let is = shaped.held.items item has in (is.0.1 ∙ goal, is.2);
        unsent = λ to packet sent item has. let is = (shaped.unsent to packet sent).items item has in (is.0.1 ∙ goal, is.2);
      }

-- the cost plus sum of a board in the frontier
abbrev pub IsOfFrontier : WorldState → ℕ → Type 0
IsOfFrontier w f = (b : BoardModel) × (cost : ℕ) × IsInFrontier w b cost × (f ≡ cost + w.task.sum b)

-- that of an item in a lane
abbrev pub IsOfLanes : WorldState → ℕ → Type 0
IsOfLanes w f = (to : ℕ) × (item : Item) × HasInLaneTo w to item × (f ≡ item.cost + w.task.sum item.board)

module _ (w : WorldState) where
  item_there : (n to : ℕ) (item : Item) → IsUnderWay w to item → n ≡ item.cost + w.task.sum item.board → IsOfFrontier w n
  item_there n to item under adds = (item.board, item.cost, inr (to, item, under, refl, refl), adds)

  worker_there : (n i : ℕ) (worker : WorkerState) → IsWorker w i worker → IsOfWorker w.task worker n → IsOfFrontier w n
  worker_there n i worker is (inl has) =
      (has.0, has.1.cost, inl (i, has.1, record { worker = worker; is = is; board = has.2.board; knows = has.2.knows }, has.2.unexpanded, has.2.no_goal, refl), sym has.3)
  worker_there n i worker is (inr (inl has)) = item_there n i has.0 (inl (worker, is, has.1)) has.2
  worker_there n i worker is (inr (inr has)) =
      let item = has.3 in
      item_there n has.0 item.0 (inr (inl (i, worker, has.1, is, has.2, item.1))) item.2

  frontier_there : (n : ℕ) → IsOfLanes w n ⊎ IsOfWorkers w.task w.workers n → IsOfFrontier w n
  frontier_there n (inl has) = item_there n has.0 has.1 (inr (inr has.2)) has.3
  frontier_there n (inr has) = worker_there n has.0 has.1 has.2 has.3

  item_back : (n to : ℕ) (item : Item) → IsUnderWay w to item → n ≡ item.cost + w.task.sum item.board → IsOfLanes w n ⊎ IsOfWorkers w.task w.workers n
  item_back n to item (inl holds) adds = inr (to, holds.0, holds.1, inr (inl (item, holds.2, adds)))
  item_back n to item (inr (inl sends)) adds = inr (sends.0, sends.1, sends.3, inr (inr (to, sends.2, sends.4, (item, sends.5, adds))))
  item_back n to item (inr (inr lies)) adds = inl (to, item, lies, adds)

  frontier_back : (n : ℕ) → IsOfFrontier w n → IsOfLanes w n ⊎ IsOfWorkers w.task w.workers n
  frontier_back n (b, cost, inl open_at, adds) =
      let knows = open_at.2 in
      inr (
        open_at.0,
        knows.worker,
        knows.is,
        inl (b, open_at.1, record { board = knows.board; knows = knows.knows; unexpanded = open_at.3; no_goal = open_at.4 }, ap (λ (c : ℕ). c + w.task.sum b) open_at.5 ∙ sym adds),
      )
  frontier_back n (b, cost, inr under, adds) =
      item_back n under.0 under.1 under.2 (adds ∙ ap (λ (x : BoardModel). cost + w.task.sum x) (sym under.3) ∙ ap (λ (c : ℕ). c + w.task.sum under.1.board) (sym under.4))

-- the frontier of a world is that of its workers and its lanes
pub lowest_is : (task : Task) (owner_among : ℕ → BoardModel → ℕ) (states : List WorkerState) (w : WorldState) → HasParts task owner_among states w → (lanes lowest : Option ℕ) → IsLowestInLanes w lanes → IsLeastBeside (IsOfWorkers task states) lanes lowest → IsLowest w lowest
lowest_is task owner_among states w parts lanes lowest laned least =
    let first = subst (λ (t : Task). IsLeastBeside (IsOfWorkers t states) lanes lowest) (sym parts.asks) least in
    let second = subst (λ (ws : List WorkerState). IsLeastBeside (IsOfWorkers w.task ws) lanes lowest) (sym parts.works) first in
    least_same (λ f. IsOfLanes w f ⊎ IsOfWorkers w.task w.workers f) (IsOfFrontier w) (frontier_there w) (frontier_back w) lowest
    (beside_least (IsOfLanes w) (IsOfWorkers w.task w.workers) lanes lowest laned second)

-- ---- plans that are followed back

-- boards differ where `position_eq` says that they do
pub differs : (a b : BoardModel) → true ≡ not (position_eq a b) → a ≢ b
differs a b e same = true≢false (e ∙ ap not (subst (λ (x : BoardModel). position_eq a x ≡ true) same (position_eq-laws.refl a)))

-- and are the same where it says that they are
pub same_as : (a b : BoardModel) → false ≡ not (position_eq a b) → a ≡ b
same_as a b e = (positions_Decide a b).0 (not-false (position_eq a b) (sym e))

-- a step back by the last move comes to the board before
pub stepped_back : (rule : WeightsModel) (b : BoardModel) (via back : Move) (answer : Option (BoardModel × ℕ)) (before : BoardModel) (c : ℕ) → back ≡ opposite via → ((b' : BoardModel) (cost : ℕ) → (answer ≡ Some (b', cost)) ↔ Moves rule b back b' cost) → IsBoard before → Moves rule before via b c → answer ≡ Some (before, c)
stepped_back rule b via back answer before c undone moves board moved = (moves before c).1 (subst (λ (m : Move). Moves rule b m before c) (sym undone) (taken_back rule before via b c board moved))

pub some_is : (answer : Option (BoardModel × ℕ)) (found moved : BoardModel × ℕ) → answer ≡ Some found → answer ≡ Some moved → found ≡ moved
some_is answer found moved is is' = ap (λ (o : Option (BoardModel × ℕ)). unwrap_or o found) (sym is ∙ is')

-- what is found of that board, where this is known of the moved one
pub found_before : (at : BoardModel → Option Known) (answer : Option Known) (found moved : BoardModel × ℕ) (known : Known) → answer ≡ at found.0 → found ≡ moved → at moved.0 ≡ Some known → answer ≡ Some known
found_before at answer found moved known is same knows = is ∙ ap (λ (p : BoardModel × ℕ). at p.0) same ∙ knows

-- and by what the answer has
pub known_by_answer : (answer before : Option Known) (known : Known) → answer ≡ before → answer ≡ Some known → before ≡ Some known
known_by_answer answer before known is some = sym is ∙ some

-- last moves lead on from the board before
pub traced_more : (task : Task) (owner_among : ℕ → BoardModel → ℕ) (states : List WorkerState) (before b : BoardModel) (c : ℕ) (here : Known) (plan : List Move) → IsTaskBoard task b → known_in owner_among states b ≡ Some here → Moves task.rule before here.via b c → ((w : WorldState) → HasParts task owner_among states w → IsByLastMoves w b plan task.goal) → (w : WorldState) → HasParts task owner_among states w → IsByLastMoves w before (here.via ∷ plan) task.goal
traced_more task owner_among states before b c here plan board found moves traced w parts =
    (b, c, here, subst (λ (t : Task). Moves t.rule before here.via b c) (sym parts.asks) moves, knows_of task owner_among states w parts b here board found, refl, traced w parts)

-- ---- What the parts of a world give, and the laws of endings.

-- ---- what the parts of a world give

-- the cost of what is known
abbrev pub cost_in : Option Known → Option ℕ
cost_in known = option_map (λ (k : Known). k.cost) known

module _ (task : Task) (owner_among : ℕ → BoardModel → ℕ) (states : List WorkerState) (w : WorldState) (parts : HasParts task owner_among states w) (lanes lowest : Option ℕ) (laned : IsLowestInLanes w lanes) (least : IsLeastBeside (IsOfWorkers task states) lanes lowest) (known : Option Known) (found : known_in owner_among states task.goal ≡ known) where
  abbrev at : End
  at = record { world = w; lowest = lowest; reached = cost_in known }

  goal_board : IsTaskBoard task task.goal
  goal_board = subst (λ (t : Task). IsTaskBoard t t.goal) parts.asks (parts.shaped.task.goal, refl)

  -- what is given at this end
  given : (result : Outcome) → IsGivenAt at result → IsGiven w result
  given result is =
      (lowest, cost_in known, lowest_is task owner_among states w parts lanes lowest laned least, reached_is task owner_among states w parts known goal_board found, is)

  -- the world stops early at this end
  stopped_at : (bound : ℕ) (best : Option (ℕ × Vec Move Global)) (cause : Cause) → IsStoppedAt at bound best cause → EndsWhole w (Bounded bound best cause)
  stopped_at bound best cause is =
      (lowest, cost_in known, lowest_is task owner_among states w parts lanes lowest laned least, reached_is task owner_among states w parts known goal_board found, is)

  bound_is : (n bound : ℕ) → lesser lowest (cost_in known) ≡ Some n → bound ≡ max (task.sum task.start) n → IsBoundOf at bound
  bound_is n bound is most = (n, is, most ∙ ap (λ (t : Task). max (t.sum t.start) n) (sym parts.asks))

  cause_is : (stop : Option Stop) (cause : Cause) → w.book.stop ≡ stop → cause ≡ cause_of stop → cause ≡ cause_at at
  cause_is stop cause stopped is = is ∙ ap cause_of (sym stopped)

  -- the frontier is empty and the goal is unknown
  pub no_plan : lesser lowest (cost_in known) ≡ None → EndsWhole w (Unsolvable Exhausted)
  no_plan none = given (outcome.Unsolvable Exhausted) (none, refl)

  -- the goal is unknown
  pub no_goal : (n bound : ℕ) (stop : Option Stop) (cause : Cause) → lesser lowest (cost_in known) ≡ Some n → bound ≡ max (task.sum task.start) n → w.book.stop ≡ stop → cause ≡ cause_of stop → known ≡ None → EndsWhole w (Bounded bound None cause)
  no_goal n bound stop cause is most stopped caused none =
      stopped_at bound None cause (bound_is n bound is most, ap cost_in none, cause_is stop cause stopped caused)

  -- the goal is known, so there is a plan
  pub no_memory : (n bound : ℕ) (there : Known) → lesser lowest (cost_in known) ≡ Some n → bound ≡ max (task.sum task.start) n → known ≡ Some there → HasPlanAbove w bound
  no_memory n bound there is most some =
      (lowest, cost_in known, lowest_is task owner_among states w parts lanes lowest laned least, reached_is task owner_among states w parts known goal_board found, bound_is n bound is most, λ none. none-some there.cost (sym none ∙ ap cost_in some))

  followed : (there : Known) (cost : ℕ) (plan : List Move) → known ≡ Some there → IsTraced task owner_among states there.cost cost plan → IsFollowedBack at cost plan
  followed there cost plan some traced = record {
    goal = there.cost;
    is = ap cost_in some;
    traced = subst (λ (t : Task). IsByLastMoves w t.start plan t.goal) (sym parts.asks) (traced.traced w parts);
    leads = subst (λ (t : Task). Leads t.rule t.start plan t.goal cost) (sym parts.asks) traced.leads;
    within = traced.within;
  }

  -- the plan costs more than the bound
  pub plan_above : (n bound : ℕ) (stop : Option Stop) (cause : Cause) (there : Known) (best : ℕ × Vec Move Global) → lesser lowest (cost_in known) ≡ Some n → bound ≡ max (task.sum task.start) n → w.book.stop ≡ stop → cause ≡ cause_of stop → known ≡ Some there → IsTraced task owner_among states there.cost best.0 best.1.items → best.0 ≢ bound → EndsWhole w (Bounded bound (Some best) cause)
  plan_above n bound stop cause there best is most stopped caused some traced other =
      stopped_at bound (Some best) cause (bound_is n bound is most, followed there best.0 best.1.items some traced, other, cause_is stop cause stopped caused)

  -- the plan costs the bound
  pub plan_least : (n bound : ℕ) (there : Known) (best : ℕ × Vec Move Global) → lesser lowest (cost_in known) ≡ Some n → bound ≡ max (task.sum task.start) n → known ≡ Some there → IsTraced task owner_among states there.cost best.0 best.1.items → best.0 ≡ bound → EndsWhole w (Optimal best.0 best.1)
  plan_least n bound there best is most some traced same = record {
    lowest = lowest;
    reached = cost_in known;
    of_frontier = lowest_is task owner_among states w parts lanes lowest laned least;
    of_goal = reached_is task owner_among states w parts known goal_board found;
    bound = bound_is n best.0 is (same ∙ most);
    followed = followed there best.0 best.1.items some traced;
  }

-- ---- the laws of endings

pub rows_alone : EndingsLackRowsAlone
rows_alone w cost plan rows are = (
  λ ends. (ends.lowest, ends.reached, ends.of_frontier, ends.of_goal, (ends.bound, ends.followed, are)),
  λ given. record { lowest = given.0; reached = given.1; of_frontier = given.2; of_goal = given.3; bound = given.4.0; followed = given.4.1 },
)

pub bound_left : WantedRowsLeaveABound
bound_left w cost plan refused ends =
    (ends.lowest, ends.reached, ends.of_frontier, ends.of_goal, ((ends.bound, refl, (refused, refl)), inl (λ none. none-some ends.followed.goal (sym none ∙ ends.followed.is))))

-- where the goal is known it has a cost
has_cost : (w : WorldState) (reached : Option ℕ) → IsReached w reached → KnowsGoal w → reached ≢ None
has_cost w None is knows none = is knows.0.cost (knows.0, knows.1, refl)
has_cost w (Some cost) is knows none = none-some cost (sym none)

-- with the rows that are due a world gives the bound with which it stopped
pub bound_rows : (w : WorldState) (bound : ℕ) (best : Option (ℕ × Vec Move Global)) (cause : Cause) (rows : Vec (BoardModel × ℕ) Global) → AreRowsFor w bound rows.items → EndsWhole w (Bounded bound best cause) → IsGiven w (outcome.Bounded bound best cause (Some rows))
bound_rows w bound best cause rows are (lowest, reached, low, at, stopped) = (lowest, reached, low, at, (stopped, are))

-- where memory is refused for the plan, it gives the bound alone
pub plan_lacking : (w : WorldState) (bound : ℕ) (refused : OutOfMemory) → HasPlanAbove w bound → IsGiven w (outcome.Bounded bound None (Memory (Refused refused)) None)
plan_lacking w bound refused (lowest, reached, low, at, is, some) = (lowest, reached, low, at, ((is, refl, (refused, refl)), inl some))

pub bounds_alone : BoundsLackRowsAlone
bounds_alone w bound best cause rows are = (to, back)
  where
    to : EndsIn w (Bounded bound best cause) → IsGiven w (outcome.Bounded bound best cause (Some rows)) ⊎ (IsGiven w (outcome.Bounded bound best cause None) × KnowsGoal w)
    to (inl whole) = inl (bound_rows w bound best cause rows are whole)
    to (inr ((lowest, reached, low, at, is, some), none, lacks)) = inr ((lowest, reached, low, at, ((is, none, lacks), inl some)), goal_there w reached at some)

    back : IsGiven w (outcome.Bounded bound best cause (Some rows)) ⊎ (IsGiven w (outcome.Bounded bound best cause None) × KnowsGoal w) → EndsIn w (Bounded bound best cause)
    back (inl given) = inl (given.0, given.1, given.2, given.3, given.4.0)
    back (inr (given, knows)) = inr ((given.0, given.1, given.2, given.3, given.4.0.0, has_cost w given.1 given.3 knows), given.4.0.1, given.4.0.2)

bound_at : (end : End) (bound : ℕ) (best : Option (ℕ × Vec Move Global)) (cause : Cause) → IsStoppedAt end bound best cause → IsBoundOf end bound
bound_at end bound None cause stopped = stopped.0
bound_at end bound (Some best) cause stopped = stopped.0

-- where memory is refused for rows that a bound needs, the bound is given alone
pub rows_lacking : (w : WorldState) (bound : ℕ) (best : Option (ℕ × Vec Move Global)) (cause : Cause) (refused : OutOfMemory) → w.task.sum w.task.start < bound → EndsWhole w (Bounded bound best cause) → IsGiven w (outcome.Bounded bound None (Memory (Refused refused)) None)
rows_lacking w bound best cause refused above (lowest, reached, low, at, stopped) = (lowest, reached, low, at, ((bound_at (end_at w lowest reached) bound best cause stopped, refl, (refused, refl)), inr above))

pub bound_kept : WantedRowsLeaveTheBound
bound_kept w bound best cause refused above (inl whole) = rows_lacking w bound best cause refused above whole
bound_kept w bound best cause refused above (inr lacks) = plan_lacking w bound refused lacks.0

pub ends_bounded : EndsAreBounds
ends_bounded w bound best cause (inl (lowest, reached, low, at, stopped)) = (lowest, reached, low, at, inl stopped)
ends_bounded w bound best cause (inr ((lowest, reached, low, at, is, some), none, lacks)) = (lowest, reached, low, at, inr (is, none, lacks))

pub memory_ends : MemoryEndsAreWanted
memory_ends w bound best want (inl (lowest, reached, low, at, stopped)) = inl (stopped_for_memory w lowest reached bound best want stopped)
memory_ends w bound best want (inr ((lowest, reached, low, at, is, some), none, lacks)) = inr (none, (lacks.0, same lacks.1), goal_there w reached at some)
  where
    same : ◌≡◌ {A = Cause} (Memory want) (Memory (Refused lacks.0)) → want ≡ Refused lacks.0
    same e = cc

-- where there is no plan, an ending is what the world gives
pub unsolvable_ends : UnsolvableEndsAreGiven
unsolvable_ends w why = ((λ x. x), (λ x. x))

-- an answer for parity answers no task whose start is of the goal's class
pub other_class : {X : Type 0} (answers : Task → X → Type 0) (parity : X) → IsForParity answers parity → (task : Task) → answers task parity → ¬ SameClass task.start task.goal
other_class answers parity is task says = ((is task).0 says).1

-- a bound that an answer names is one of its world
pub read_bounds : {X : Type 0} (gives : WorldState → X → Type 0) (end : X → Ending) → BoundsAreOfWorlds gives end → ReadBoundsAreOfWorlds gives end
read_bounds gives end of_worlds w answer bound best cause given same = subst (HasBoundOf w) same (of_worlds w answer given)

-- a world has its own parts
pub worlds_parts : WorldsHaveParts
worlds_parts w owner_among shaped sound owns = record { asks = refl; owns = owns; works = refl; shaped = shaped; sound = sound }

-- so it is of an ending that names one, and of an outcome without its rows
pub ends_bounds : BoundsAreOfWorlds EndsIn (λ ending. ending)
ends_bounds w (Optimal cost plan) ends = tt
ends_bounds w (Unsolvable why) ends = tt
ends_bounds w (Bounded bound best cause) ends = ends_bounded w bound best cause ends

pub given_bounds : BoundsAreOfWorlds IsGiven without_rows
given_bounds w (outcome.Optimal cost plan rows) given = tt
given_bounds w (outcome.Unsolvable why) given = tt
given_bounds w (outcome.Bounded bound best cause rows) given = bounds_given w bound best cause rows given

-- a plan that is followed back costs no more than the goal is known at
plan_low : (w : WorldState) (cost : ℕ) (plan : Vec Move Global) → IsShaped w → IsProvedPlan w cost plan.items → cost ≤ GREATEST_COST
plan_low w cost plan shaped ends =
    let at = subst (IsReached w) ends.followed.is ends.of_goal in
    let low = (knows_owned w shaped (w.owner w.task.goal) w.task.goal at.0.0 at.0.1).1 in
    omega (arith, at.0.2, ends.followed.within)

pub ends_answer : OutcomesAnswer → EndingsAnswer
ends_answer answers w (Optimal cost plan) shaped sound quiet lower ends =
    let low = plan_low w cost plan shaped ends in
    let short = plan_short w.task shaped.task w.task.start (shaped.task.start, shaped.task.sides) plan.items w.task.goal cost ends.followed.leads in
    let refused : OutOfMemory = record { seal = tt } in
    let bound = (bounds_true w cost None (Memory (Refused refused)) shaped sound quiet lower (bounds_given w cost None (Memory (Refused refused)) None (bound_left w cost plan refused ends))) in
    (ends.followed.leads, record { reached = (plan.items, ends.followed.leads); none_below = bound.0.0 }, bound.1, low, omega (arith, low, short))
ends_answer answers w (Unsolvable why) shaped sound quiet lower given = answers w (outcome.Unsolvable why) shaped sound quiet lower given
ends_answer answers w (Bounded bound best cause) shaped sound quiet lower given = bounds_true w bound best cause shaped sound quiet lower (ends_bounded w bound best cause given)

pub rows_make : RowsMakeAnAnswer
rows_make task cost plan rows proved = (
  λ ends. (ends.0, ends.1, proved, ends.3, ends.4),
  λ answers. (answers.0, answers.1, (rows.items, proved), answers.3, answers.4),
)

pub rows_make_bound : RowsMakeABoundAnswer
rows_make_bound task bound best cause rows proved = (
  λ ends. (ends.0, proved),
  λ answers. (answers.0, (rows.items, proved)),
)
