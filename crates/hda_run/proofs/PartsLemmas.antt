-- The parts of a world: what they are in an opening, and what changes in a step.
use Rattle.std.proofs.Common.{◌≡◌, ℕ, zero, suc, ⊎_elim, ◌+◌, ◌<◌, ◌≤◌, List, [], ◌∷◌, length, map, get_or, set, refl, sym, ap, ◌∙◌, subst, inr, arith, Option, Some, ◌≢◌, ◌⊎◌, inl, ◌++◌, replicate, false}
use Rattle.std.specs.Prelude.{take, drop, Bool, IsTrue, ◌↔◌, slice_get, All, Vec, slice_set, unwrap_or, if◌then◌else◌}
use Rattle.std.specs.FinMap as fin
use Rattle.std.specs.Vec.{with_item, vec_len}
use Rattle.std.specs.declared.alloc.Global.{Global}
use Rattle.std.proofs.Math.Seq.{take-append_seam}
use Rattle.std.proofs.lemmas.Bool.{cases_lt, true≢false}
use Rattle.std.proofs.lemmas.List.{map-set, length-map, length-set, map-append, length-replicate, replicate-append-replicate}
use Rattle.std.proofs.lemmas.List.Elements.{All-set, All-append}
use Rattle.std.specs.Ordering.{nat_cmp}
use Rattle.search_keys.specs.SearchKeys.{search_key}
use Rattle.board.specs.Boards.{BoardModel}
use Rattle.board.specs.declared.moves.Move.{Move}
use Rattle.owners.specs.Owners.{AreWorkers}
use Rattle.outcomes.specs.Outcomes.{Task}
use Rattle.world_model.specs.declared.steps.Refusal.{Refusal}
use Rattle.world_model.specs.declared.steps.Step.{Step}
use Rattle.world_model.specs.Books.{BookState}
use Rattle.world_model.specs.BookSteps.{AtBook}
use Rattle.world_model.specs.Credit.{IsCredited}
use Rattle.world_model.specs.Shapes.{IsShaped, IsTask}
use Rattle.world_model.specs.Soundness.{IsSound}
use Rattle.world_ends.specs.Parts.{states_of}
use Rattle.world_model.specs.Steps.{ByWorker, OnBook, with_worker, OnLane, lane_ends, with_lane, Next}
use Rattle.world_model.specs.Turns.{Turn, turn}
use Rattle.world_model.specs.Workers.{WorkerState, Lane}
use Rattle.world_model.specs.Worlds.{IsWorker, Knows, role_of, IsLane}
use Rattle.world_model.proofs.ChangeLemmas.{part_le}
use Rattle.world_model.proofs.CreditLemmas.{funds}
use Rattle.world_model.specs.WorkerSteps.{AtLane, ExpandStep}
use Rattle.world_model.specs.declared.parts.Item.{Item}
use Rattle.world_model.specs.declared.parts.Known.{Known}
use Rattle.world_model.specs.Knowledge.{Knowledge, is_news, relaxation}
use Rattle.world_model.specs.Laws.{OpeningsAreSound}
use Rattle.world_model.specs.Openings.{Job, IsJob, idle_worker, first_worker, opening}
use Rattle.search_lists.specs.Lists.{SearchListsModel}
use Rattle.message_ledger.specs.declared.plain.Plain.{Plain}
use Rattle.message_ledger.specs.Spending.{AllowanceModel, spent}
use Rattle.worker_core.specs.declared.worker.Worker.{Worker}
use Rattle.worker_core.specs.declared.expanding.Successors.{Successors}
use Rattle.worker_core.specs.declared.expanding.Successors.TheVariants.{All as Whole, Onward}
use Rattle.worker_core.specs.Contexts.{ContextModel, role_from}
use Rattle.worker_core.specs.Expanding.{ExpandStepFor, OnwardStepsAloneAreWhole, role_by}
use Rattle.worker_core.specs.Roles.{IsGuided, WereReached, guide_of}
use Rattle.worker_core.specs.Serving.{Serves, StaysGuided}
use Rattle.worker_core.specs.Workers.{state_of, with_book, at_lane}
use Rattle.hda_run.specs.declared.parts.Parts.{Parts}
use Rattle.hda_run.specs.Kinds.{Lacks}
use Rattle.hda_run.specs.Jobs.{context_in, task_in, JobModel}
use Rattle.hda_run.specs.Worlds.{world_of, AreGuided, job_of, IsLawful, IsWorkerCount, terms_in}
use Rattle.owners.specs.Terms.{TermsModel}
use Rattle.worker_core.specs.Ahead.{AreFoundAhead, terms_of}
use Rattle.worker_core.specs.declared.ahead.Ahead.{Ahead}
use Rattle.world_model.proofs.RunLemmas.{steps_alike}

-- ---- what the parts of a world are, and what the world is after one of them has changed

-- a worker that counts by whole numbers
abbrev pub W : Type 0
W = Worker Plain ℕ ℕ ℕ ℕ

-- workers in the place of as many in a list, where they have the same states
pub states_in_place : (old : Vec W Global) (new : List W) → states_of new ≡ states_of old.items → states_of (take old.len (new ++ drop (length new) old.items)) ≡ states_of old.items
states_in_place old new same =
    let size : length new ≡ length old.items = sym (length-map new (λ w. state_of w)) ∙ ap length same ∙ length-map old.items (λ w. state_of w) in
    ap (λ (k : ℕ). states_of (take k (new ++ drop (length new) old.items))) (old.ok.0 ∙ sym size) ∙ ap (λ (ws : List W). states_of ws) (take-append_seam new (drop (length new) old.items)) ∙ same

-- a place below the length that the code reads is one in the list
pub inside : {X : Type 0} (v : Vec X Global) (n i : ℕ) → n ≡ vec_len v → i < n → i < length v.items
inside v n i is lt = omega (arith, is, lt, v.ok.0)

-- what is not beyond the end is below it
pub below : {X : Type 0} (v : Vec X Global) (n i : ℕ) → n ≡ vec_len v → ¬ (n ≤ i) → i < length v.items
below v n i is inner = ⊎_elim (λ (lt : i < n). inside v n i is lt) (λ (le : n ≤ i). absurd (inner le)) (cases_lt i n)

-- the workers of a step that was looked at are there
pub none_lacks : (n : ℕ) (step step' : Step) (lacks : Bool) → (IsTrue lacks ↔ Lacks n step) → lacks ≡ false → step ≡ step' → ¬ Lacks n step'
none_lacks n step step' lacks both out is lack =
    let yes : IsTrue lacks = both.1 (subst (Lacks n) (sym is) lack) in absurd (true≢false (sym yes ∙ out))

-- what was read at a place, seen otherwise
pub seen_at : {X Y : Type 0} (f : X → Y) (xs : List X) (i : ℕ) (x : X) → i < length xs → x ≡ get_or xs i x → slice_get (map f xs) i ≡ Some (f x)
seen_at f [] i x lt is = absurd (omega (arith, lt))
seen_at f (y ∷ xs) zero x lt is = ap (λ z. Some (f z)) (sym is)
seen_at f (y ∷ xs) (suc i) x lt is = seen_at f xs i x (omega (arith, lt)) is

module _ {S : Type 0} (owner_of : S → ℕ → BoardModel → ℕ) (parts : Parts S) where
  -- as many states as workers
  pub state_count : length (world_of owner_of parts).workers ≡ length parts.workers.items
  state_count = length-map parts.workers.items (λ (w : W). state_of w)

module _ {S : Type 0} (owner_of : S → ℕ → BoardModel → ℕ) (parts : Parts S) (me : ℕ) (worker : W) (within : me < length parts.workers.items) (at : worker ≡ get_or parts.workers.items me worker) where
  pub is_worker : IsWorker (world_of owner_of parts) me (state_of worker)
  is_worker = seen_at (λ (w : W). state_of w) parts.workers.items me worker within at

  not_past : ¬ (length (world_of owner_of parts).workers ≤ me)
  not_past past = let n = state_count owner_of parts in omega (arith, past, n, within)

  -- the world after another worker, and another book, has taken the place
  pub changed : (worker' : W) (book' : BookState) → world_of owner_of (record parts { workers = with_item parts.workers me worker'; book = book' }) ≡ record (with_worker (world_of owner_of parts) me (state_of worker')) { book = book' }
  changed worker' book' = λ t. record (world_of owner_of parts) {
    owner = owner_of parts.owners.now (length-set parts.workers.items me worker' t);
    workers = map-set (λ (w : W). state_of w) parts.workers.items me worker' t;
    book = book';
  }

  pub by_worker : (OwnStep : Turn WorkerState Refusal → Type 0) (answer : Option Refusal) (worker' : W) → OwnStep (turn (state_of worker) answer (state_of worker')) → ByWorker me OwnStep (turn (world_of owner_of parts) answer (world_of owner_of (record parts { workers = with_item parts.workers me worker' })))
  by_worker OwnStep answer worker' own = inr (not_past, (state_of worker, state_of worker', is_worker, own, changed worker' parts.book))

  pub on_book : (BookStep : Turn AtBook Refusal → Type 0) (answer : Option Refusal) (worker' : W) (book' : BookState) → BookStep (turn (with_book (state_of worker) parts.book) answer (with_book (state_of worker') book')) → OnBook me BookStep (turn (world_of owner_of parts) answer (world_of owner_of (record parts { workers = with_item parts.workers me worker'; book = book' })))
  on_book BookStep answer worker' book' own = inr (not_past, (state_of worker, with_book (state_of worker') book', is_worker, own, changed worker' book'))

  -- ---- guided lists

  abbrev Leads : SearchListsModel → Type 0
  Leads lists = IsGuided (task_in parts.job) (guide_of (task_in parts.job)) lists

  pub is_guided : AreGuided parts → Leads worker.lists
  is_guided all = subst (λ (w : W). Leads w.lists) (sym at) (all me worker within)

  pub set_guided : (worker' : W) → (Leads worker.lists → Leads worker'.lists) → AreGuided parts → All (λ (w : W). Leads w.lists) (set parts.workers.items me worker')
  set_guided worker' stays all = All-set (λ (w : W). Leads w.lists) parts.workers.items me worker' (stays (is_guided all)) all

  pub same_guided : (worker' : W) → worker'.lists ≡ worker.lists → AreGuided parts → All (λ (w : W). Leads w.lists) (set parts.workers.items me worker')
  same_guided worker' same all = set_guided worker' (λ is. subst Leads (sym same) is) all

  -- ---- what a world's laws give a worker

  pub unsent_count : IsShaped (world_of owner_of parts) → length worker.unsent.items ≡ length parts.workers.items
  unsent_count shaped =
      sym (length-map worker.unsent.items (λ list. list.items)) ∙ (shaped.workers me (state_of worker) is_worker).lists ∙ state_count owner_of parts

  pub some_unsent : IsShaped (world_of owner_of parts) → 0 < length worker.unsent.items
  some_unsent shaped = let n = unsent_count shaped in omega (arith, n, within)

  pub me_unsent : IsShaped (world_of owner_of parts) → me < length worker.unsent.items
  me_unsent shaped = let n = unsent_count shaped in omega (arith, n, within)

  pub purse_funded : IsCredited (world_of owner_of parts) → worker.purse ≤ parts.book.credit
  purse_funded credited = funds (world_of owner_of parts) credited me (state_of worker) is_worker

  pub grants_counted : IsCredited (world_of owner_of parts) → worker.allowance.granted ≤ parts.book.granted
  grants_counted credited =
      let all = credited.granted in
      let mine = part_le (λ (x : WorkerState). x.allowance + x.expansions) (world_of owner_of parts).workers me (state_of worker) is_worker in
      omega (arith, all, mine)

  pub floor_there : IsShaped (world_of owner_of parts) → me < length parts.book.floors
  floor_there shaped = let n = shaped.floors ∙ state_count owner_of parts in omega (arith, n, within)

  -- the only worker owns each board
  owned_alone : IsShaped (world_of owner_of parts) → length parts.workers.items ≡ 1 → (b : BoardModel) → (world_of owner_of parts).owner b ≡ me
  owned_alone shaped alone b =
      let owned = shaped.owners b in
      let count = state_count owner_of parts in
      omega (arith, owned, count, alone, within)

  -- and knows the board before each that it knows at a cost above 0
  were_reached : IsShaped (world_of owner_of parts) → IsSound (world_of owner_of parts) → length parts.workers.items ≡ 1 → WereReached parts.job.rule worker.lists.closed.known
  were_reached shaped sound alone b known board sides knows later =
      let here : Knows (world_of owner_of parts) me b known = record { worker = state_of worker; is = is_worker; board = (board, sides ∙ shaped.task.costs); knows = knows } in
      ⊎_elim
      (λ start. let none = start.1 in absurd (omega (arith, none, later)))
      (λ some.
      let before = some.0 in
      let is : Some some.4.worker ≡ Some (state_of worker) = sym some.4.is ∙ ap (λ (k : ℕ). slice_get (world_of owner_of parts).workers k) (owned_alone shaped alone before) ∙ is_worker in
      let it : some.4.worker ≡ state_of worker = cc in (
        before,
        some.1,
        some.2,
        some.4.board.0,
        some.3,
        ap (λ (w : WorkerState). fin.get w.known (search_key before)) (sym it) ∙ some.4.knows,
        some.5,
      ))
      (sound.reached me b known here)

  -- so it expands by all moves where it leaves the one back out
  pub whole_step : IsShaped (world_of owner_of parts) → IsSound (world_of owner_of parts) → OnwardStepsAloneAreWhole → (successors : Successors) → (successors ≡ Onward → length parts.workers.items ≡ 1) → (answer : Option Refusal) (after : WorkerState) → ExpandStepFor successors (role_of (world_of owner_of parts) me) (turn (state_of worker) answer after) → ExpandStep (role_of (world_of owner_of parts) me) (turn (state_of worker) answer after)
  whole_step shaped sound law Whole alone answer after step = step
  whole_step shaped sound law Onward alone answer after step =
      law (role_of (world_of owner_of parts) me) (turn (state_of worker) answer after) shaped.task.costs (owned_alone shaped (alone refl)) (were_reached shaped sound (alone refl)) step

  pub owner_is : IsShaped (world_of owner_of parts) → (b : BoardModel) → (world_of owner_of parts).owner b ≡ owner_of parts.owners.now (length worker.unsent.items) b
  owner_is shaped b = ap (λ (k : ℕ). owner_of parts.owners.now k b) (sym (unsent_count shaped))

  -- ---- what the worker's steps are lent

  module _ (count : ℕ) (all : count ≡ length parts.workers.items) (context : ContextModel S) (lent : context ≡ context_in parts.job me count parts.owners.now) where
    pub serves : IsShaped (world_of owner_of parts) → AreGuided parts → Serves context worker
    serves shaped guided =
        subst (λ (x : ContextModel S). Serves x worker) (sym lent) (record {
          workers = unsent_count shaped ∙ sym all;
          guided = (parts.job.start, guide_of (task_in parts.job), is_guided guided);
        })

    pub role_is : role_from owner_of parts.job.start context ≡ role_of (world_of owner_of parts) me
    role_is = ap (role_from owner_of parts.job.start) lent ∙ (λ t. role_by (task_in parts.job) (owner_of parts.owners.now) (all t) me)

    pub guided_after : (worker' : W) → StaysGuided context worker.lists worker'.lists → AreGuided parts → All (λ (w : W). Leads w.lists) (set parts.workers.items me worker')
    guided_after worker' stays all_guided =
        set_guided worker' (subst (λ (x : ContextModel S). StaysGuided x worker.lists worker'.lists) lent stays parts.job.start (guide_of (task_in parts.job))) all_guided

    -- what a step was lent is of the parts' search
    pub lent_terms : terms_of context ≡ terms_in parts
    lent_terms = ap terms_of lent ∙ (λ t. record { rule = parts.job.rule; tables = parts.job.tables; owners = parts.owners.now; workers = all t })

-- what was found in the search of some parts is found in that of the parts after a step
pub found_after : {S : Type 0} (owner_of : S → ℕ → BoardModel → ℕ) (old new : Parts S) (step : Step) (answer : Option Refusal) → Next step (turn (world_of owner_of old) answer (world_of owner_of new)) → new.job ≡ old.job → new.owners.now ≡ old.owners.now → (ahead : Ahead) → AreFoundAhead owner_of (terms_in old) ahead → AreFoundAhead owner_of (terms_in new) ahead
found_after {S} owner_of old new step answer next job owners ahead found =
    let alike = steps_alike step (turn (world_of owner_of old) answer (world_of owner_of new)) next in
    let count : length old.workers.items ≡ length new.workers.items = sym (state_count owner_of old) ∙ sym alike.2 ∙ state_count owner_of new in
    subst (λ (terms : TermsModel S). AreFoundAhead owner_of terms ahead) (λ t. record { rule = (sym job t).rule; tables = (sym job t).tables; owners = sym owners t; workers = count t }) found

-- ---- a world where a worker and a lane have changed

-- the lanes of one worker
abbrev pub Row : Type 0
Row = Vec Lane Global

-- what was read at a place is there
there : {X : Type 0} (xs : List X) (i : ℕ) (x : X) → i < length xs → x ≡ get_or xs i x → slice_get xs i ≡ Some x
there [] i x lt is = absurd (omega (arith, lt))
there (y ∷ xs) zero x lt is = ap Some (sym is)
there (y ∷ xs) (suc i) x lt is = there xs i x (omega (arith, lt)) is

module _ {S : Type 0} (owner_of : S → ℕ → BoardModel → ℕ) (parts : Parts S) where
  -- as many rows of lanes as workers
  pub row_count : IsShaped (world_of owner_of parts) → length parts.lanes.items ≡ length parts.workers.items
  row_count shaped = sym (length-map parts.lanes.items (λ (row : Row). row.items)) ∙ shaped.senders ∙ state_count owner_of parts

  -- they are two
  pub are_two : (from to : ℕ) → from ≢ to → from < length parts.workers.items → to < length parts.workers.items → ¬ ((from ≡ to) ⊎ (length (world_of owner_of parts).workers ≤ from) ⊎ (length (world_of owner_of parts).workers ≤ to))
  are_two from to other low high (inl same) = other same
  are_two from to other low high (inr (inl past)) = let n = state_count owner_of parts in omega (arith, past, n, low)
  are_two from to other low high (inr (inr past)) = let n = state_count owner_of parts in omega (arith, past, n, high)

module _ {S : Type 0} (owner_of : S → ℕ → BoardModel → ℕ) (parts : Parts S) (from to : ℕ) (row : Row) (row_in : from < length parts.lanes.items) (row_at : row ≡ get_or parts.lanes.items from row) where
  of_sender : slice_get (world_of owner_of parts).lanes from ≡ Some row.items
  of_sender = seen_at (λ (r : Row). r.items) parts.lanes.items from row row_in row_at

  -- as many lanes in a row as workers
  pub lane_count : IsShaped (world_of owner_of parts) → length row.items ≡ length parts.workers.items
  lane_count shaped = shaped.receivers from row.items of_sender ∙ state_count owner_of parts

  -- what was read is the lane
  pub is_lane : (lane : Lane) → to < length row.items → lane ≡ get_or row.items to lane → IsLane (world_of owner_of parts) from to lane
  is_lane lane lane_in lane_at = record { from_lanes = row.items; of_sender = of_sender; of_receiver = there row.items to lane lane_in lane_at }

  module _ (lane : Lane) (lane_in : to < length row.items) (lane_at : lane ≡ get_or row.items to lane) (me : ℕ) (worker : W) (within : me < length parts.workers.items) (at : worker ≡ get_or parts.workers.items me worker) where
    lanes_are : (lane' : Lane) → (world_of owner_of (record parts { lanes = with_item parts.lanes from (with_item row to lane') })).lanes ≡ with_lane (world_of owner_of parts).lanes from to lane'
    lanes_are lane' =
        let lanes = (world_of owner_of parts).lanes in
        map-set (λ (r : Row). r.items) parts.lanes.items from (with_item row to lane')
        ∙ ap (λ (found : Option (List Lane)). slice_set lanes from (slice_set (unwrap_or found []) to lane')) (sym of_sender)

    lane_changed : (worker' : W) (lane' : Lane) → world_of owner_of (record parts { workers = with_item parts.workers me worker'; lanes = with_item parts.lanes from (with_item row to lane') }) ≡ record (with_worker (world_of owner_of parts) me (state_of worker')) { lanes = with_lane (world_of owner_of parts).lanes from to lane' }
    lane_changed worker' lane' = λ t. record (world_of owner_of parts) {
      owner = owner_of parts.owners.now (length-set parts.workers.items me worker' t);
      workers = map-set (λ (w : W). state_of w) parts.workers.items me worker' t;
      lanes = lanes_are lane' t;
    }

    pub on_lane : ¬ ((from ≡ to) ⊎ (length (world_of owner_of parts).workers ≤ from) ⊎ (length (world_of owner_of parts).workers ≤ to)) → (LaneStep : Turn AtLane Refusal → Type 0) (answer : Option Refusal) (worker' : W) (lane' : Lane) → LaneStep (turn (at_lane (state_of worker) lane) answer (at_lane (state_of worker') lane')) → OnLane me (lane_ends from to) LaneStep (turn (world_of owner_of parts) answer (world_of owner_of (record parts { workers = with_item parts.workers me worker'; lanes = with_item parts.lanes from (with_item row to lane') })))
    on_lane two LaneStep answer worker' lane' own =
        inr (two, (state_of worker, lane, at_lane (state_of worker') lane', is_worker owner_of parts me worker within at, is_lane lane lane_in lane_at, own, lane_changed worker' lane'))

-- ---- the workers of an opening world

-- a worker to which nothing was granted yet, and what it has in its purse
pub begins : (n purse amount : ℕ) (allowance : AllowanceModel) (state : WorkerState) → purse ≡ amount → allowance ≡ record { granted = 0; left = 0 } → state ≡ record (idle_worker n) { purse = purse; allowance = allowance.left; expansions = spent allowance } → state ≡ record (idle_worker n) { purse = amount }
begins n purse amount allowance state has none is =
    is ∙ (λ t. record (idle_worker n) { purse = has t; allowance = (none t).left; expansions = spent (none t) })

-- one worker more
pub one_more : (n : ℕ) (xs ys : List W) (k : ℕ) (x : W) → map (λ (w : W). state_of w) xs ≡ replicate k (idle_worker n) → ys ≡ xs ++ x ∷ [] → state_of x ≡ idle_worker n → map (λ (w : W). state_of w) ys ≡ replicate (k + 1) (idle_worker n)
one_more n xs ys k x before is idle =
    ap (λ (zs : List W). map (λ (w : W). state_of w) zs) is
    ∙ map-append (λ (w : W). state_of w) xs (x ∷ [])
    ∙ (λ t. before t ++ idle t ∷ [])
    ∙ replicate-append-replicate k 1 (idle_worker n)

-- what all have, and one more, all of these have
pub all_more : (P : W → Type 0) (xs ys : List W) (x : W) → All P xs → P x → ys ≡ xs ++ x ∷ [] → All P ys
all_more P xs ys x all one is = subst (All P) (sym is) (All-append P xs (x ∷ []) all (single one))
  where
    single : P x → All P (x ∷ [])
    single has zero d within = has
    single has (suc k) d within = absurd (omega (arith, within))

abbrev unknown : Knowledge
unknown = fin.empty

-- the start is all that is known after it was met
met : (task : Task) (item : Item) → item.cost ≡ 0 → item.board ≡ task.start → relaxation unknown item ≡ fin.insert unknown (search_key task.start) (record { cost = 0; expanded = false; via = item.via })
met task item free board =
    ap (λ (found : Option Known). if is_news found item.cost then fin.insert unknown (search_key item.board) (record { cost = item.cost; expanded = false; via = item.via }) else unknown) (fin.get-empty nat_cmp (search_key item.board))
    ∙ (λ t. fin.insert unknown (search_key (board t)) (record { cost = free t; expanded = false; via = item.via }))

-- so it is the worker that begins
pub first_is : (n : ℕ) (task : Task) (worker state : WorkerState) (item : Item) → item.cost ≡ 0 → item.board ≡ task.start → worker ≡ record (idle_worker n) { purse = 1 } → state ≡ record worker { known = relaxation worker.known item } → state ≡ first_worker n task item.via
first_is n task worker state item free board begun is =
    is
    ∙ (λ t. record (begun t) { known = relaxation (begun t).known item })
    ∙ (λ t. record (idle_worker n) { purse = 1; known = met task item free board t })

-- ---- the opening world

-- as many as were made
pub made_count : (n : ℕ) (all : List W) → map (λ (w : W). state_of w) all ≡ replicate n (idle_worker n) → length all ≡ n
made_count n all states = sym (length-map all (λ (w : W). state_of w)) ∙ ap length states ∙ length-replicate n (idle_worker n)

pub opens : {S : Type 0} (owner_of : S → ℕ → BoardModel → ℕ) (parts : Parts S) (n : ℕ) (state : WorkerState) (owner : ℕ) (via : Move) → map (λ (w : W). state_of w) parts.workers.items ≡ slice_set (replicate n (idle_worker n)) owner state → state ≡ first_worker n (task_in parts.job) via → owner ≡ owner_of parts.owners.now n parts.job.start → parts.book ≡ (opening (job_of owner_of parts.job parts.owners.now n) via).book → map (λ (row : Row). row.items) parts.lanes.items ≡ replicate n (replicate n []) → world_of owner_of parts ≡ opening (job_of owner_of parts.job parts.owners.now n) via
opens owner_of parts n state owner via states first_state owner_is book_is lanes_are =
    let all = parts.workers.items in
    let count : length all ≡ n = sym (length-map all (λ (w : W). state_of w)) ∙ ap length states ∙ length-set (replicate n (idle_worker n)) owner state ∙ length-replicate n (idle_worker n) in
    let workers : map (λ (w : W). state_of w) all ≡ (opening (job_of owner_of parts.job parts.owners.now n) via).workers =
    states ∙ (λ t. slice_set (replicate n (idle_worker n)) (owner_is t) (first_state t)) in
    λ t. record {
      task = task_in parts.job;
      owner = owner_of parts.owners.now (count t);
      workers = workers t;
      book = book_is t;
      lanes = lanes_are t;
    }

-- parts that make an opening world are lawful
pub lawful_opening : {S : Type 0} (owner_of : S → ℕ → BoardModel → ℕ) (parts : Parts S) (job : Job) (via : Move) → OpeningsAreSound → IsJob job → world_of owner_of parts ≡ opening job via → AreGuided parts → IsLawful owner_of parts
lawful_opening owner_of parts job via law is same guided =
    let facts = law job via is in
    let back = sym same in
    record {
      shaped = subst IsShaped back facts.0;
      sound = subst IsSound back facts.1;
      credited = subst IsCredited back facts.2;
      guided = guided;
    }

-- n workers, some but not too many, have a job where the task is one
pub is_job : {S : Type 0} (owner_of : S → ℕ → BoardModel → ℕ) → AreWorkers owner_of → (owners : S) (p : JobModel) (n : ℕ) → IsTask (task_in p) → IsWorkerCount n → IsJob (job_of owner_of p owners n)
is_job owner_of are_workers owners p n task count = record { task = task; some = count.0; few = count.1; owners = λ b. are_workers owners n b count.0 }
