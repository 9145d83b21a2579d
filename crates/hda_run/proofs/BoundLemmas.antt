-- What one worker that is alone tells of costs: a number that no plan undercuts.
use Rattle.std.proofs.Common.{◌≡◌, ℕ, zero, suc, ◌+◌, ◌<◌, ◌≤◌, List, [], ◌∷◌, length, get_or, refl, sym, ap, ◌∙◌, subst, inl, inr, arith, Option, Some, None}
use Rattle.std.specs.Prelude.{All, sum_by, slice_get, slice_index_or, IfSome, IfNone}
use Rattle.std.specs.FinMap as fin
use Rattle.std.proofs.lemmas.Option.{none-some, slice_get_within}
use Rattle.search_keys.specs.SearchKeys.{search_key}
use Rattle.board.specs.Plans.{NothingBelow}
use Rattle.board.specs.Boards.{BoardModel}
use Rattle.board.specs.Rows.{IsLowerBound}
use Rattle.search_lists.specs.Lists.{SearchListsModel}
use Rattle.search_lists.specs.Orders.{Guide, IsInOrder, NoneBelow}
use Rattle.world_model.specs.declared.parts.Item.{Item}
use Rattle.world_model.specs.declared.parts.Known.{Known}
use Rattle.world_model.specs.Frontiers.{IsInFrontier}
use Rattle.world_model.specs.Soundness.{IsSound}
use Rattle.world_model.specs.Workers.{WorkerState, Packet, Lane, IsOpen, HasNothingBelow}
use Rattle.world_model.specs.Worlds.{WorldState, IsUnderWay, IsWorker, Knows, LiesIn}
use Rattle.world_model.proofs.ChangeLemmas.{none_in_empty, part_le}
use Rattle.world_model.proofs.OutcomeLemmas.{frontier_bounds}
use Rattle.worker_core.specs.Roles.{guide_of}
use Rattle.worker_core.specs.Workers.{state_of}
use Rattle.worker_core.proofs.GuideLemmas.{none_below, open_key}
use Rattle.hda_run.specs.declared.parts.Parts.{Parts}
use Rattle.hda_run.specs.Jobs.{task_in}
use Rattle.hda_run.specs.Rounds.{IsLone, IsBoundSoFar, IsWithoutBound}
use Rattle.hda_run.specs.Worlds.{world_of, AreGuided, WaitsFrom}
use Rattle.hda_run.proofs.AloneLemmas.{same}
use Rattle.hda_run.proofs.PartsLemmas.{W, is_worker, is_guided, state_count}

-- the lists have no entry
abbrev pub NothingWaitsIn : SearchListsModel → Type 0
NothingWaitsIn lists = (f : ℕ) → slice_index_or lists.waiting.entries f [] ≡ []

module _ (w : WorldState) (lone : IsLone w) where
  at_zero : (i : ℕ) (x : WorkerState) → IsWorker w i x → i ≡ 0
  at_zero i x at =
      let n = ap (λ (xs : List WorkerState). length xs) lone.is in
      let lt = slice_get_within w.workers i x at in
      omega (arith, n, lt)

  is_one : (i : ℕ) (x : WorkerState) → IsWorker w i x → lone.worker ≡ x
  is_one i x at = same w lone x (subst (λ (j : ℕ). IsWorker w j x) (at_zero i x at) at)

  -- ---- nothing is under way, so the frontier is what the worker has open

  none_lies : (from to : ℕ) (packet : Packet) → LiesIn w from to packet → ⊥
  none_lies from to packet lies =
      let row = part_le (λ (r : List Lane). sum_by length r) w.lanes from lies.is.from_lanes lies.is.of_sender in
      let lane = part_le (λ (l : Lane). length l) lies.is.from_lanes to lies.lane lies.is.of_receiver in
      let none = lone.no_packet in
      omega (arith, row, lane, none, lies.lies.1)

  emptied : (to : ℕ) (packet : Packet) → slice_get ([] ∷ []) to ≡ Some packet → packet ≡ []
  emptied zero packet at = let e : Some [] ≡ Some packet = at in sym (search e)
  emptied (suc k) packet at = let lt = slice_get_within ([] ∷ []) (suc k) packet at in absurd (omega (arith, lt))

  none_under_way : (to : ℕ) (item : Item) → IsUnderWay w to item → ⊥
  none_under_way to item (inl has) = none_in_empty has.0.held item (subst (λ (x : WorkerState). x.held ≡ []) (is_one to has.0 has.1) lone.holds_nothing) has.2
  none_under_way to item (inr (inl has)) =
      let unsent : has.1.unsent ≡ [] ∷ [] = subst (λ (x : WorkerState). x.unsent ≡ [] ∷ []) (is_one has.0 has.1 has.3) lone.sends_nothing in
      none_in_empty has.2 item (emptied to has.2 (subst (λ (u : List Packet). slice_get u to ≡ Some has.2) unsent has.4)) has.5
  none_under_way to item (inr (inr has)) = none_lies has.0 to has.1 has.2

  open_at : (b : BoardModel) (cost : ℕ) → IsInFrontier w b cost → (known : Known) × IsOpen w.task lone.worker b known × (known.cost ≡ cost)
  open_at b cost (inl has) = (
    has.1,
    subst (λ (x : WorkerState). IsOpen w.task x b has.1) (sym (is_one has.0 has.2.worker has.2.is))
        (record { board = has.2.board; knows = has.2.knows; unexpanded = has.3; no_goal = has.4 }),
    has.5,
  )
  open_at b cost (inr has) = absurd (none_under_way has.0 has.1 has.2)

  -- where the worker doesn't know the goal, no plan undercuts what none of its open boards is below
  none_undercuts : (n : ℕ) → IsSound w → IsLowerBound w.task.rule w.task.sum w.task.goal → HasNothingBelow w.task lone.worker n → fin.get lone.worker.known (search_key w.task.goal) ≡ None → NothingBelow w.task.rule w.task.start w.task.goal n
  none_undercuts n sound lower none unknown = frontier_bounds w lone.shaped sound lower n low far
    where
      low : (b : BoardModel) (cost : ℕ) → IsInFrontier w b cost → n ≤ cost + w.task.sum b
      low b cost here =
          let at = open_at b cost here in
          let le = none b at.0 at.1 in
          let e = at.2 in
          omega (arith, le, e)

      far : (known : Known) → Knows w (w.owner w.task.goal) w.task.goal known → n ≤ known.cost
      far known knows =
          let there = subst (λ (x : WorkerState). fin.get x.known (search_key w.task.goal) ≡ Some known) (sym (is_one (w.owner w.task.goal) knows.worker knows.is)) knows.knows in
          absurd (none-some known (sym unknown ∙ there))

module _ {S : Type 0} (owner_of : S → ℕ → BoardModel → ℕ) (parts : Parts S) (lone : IsLone (world_of owner_of parts)) where
  -- there is a worker
  pub some_worker : 0 < length parts.workers.items
  some_worker =
      let n = ap (λ (xs : List WorkerState). length xs) lone.is in
      let m = state_count owner_of parts in
      omega (arith, n, m)

  module _ (worker : W) (at : worker ≡ get_or parts.workers.items 0 worker) where
    there : IsWorker (world_of owner_of parts) 0 (state_of worker)
    there = is_worker owner_of parts 0 worker some_worker at

    alone : lone.worker ≡ state_of worker
    alone = same (world_of owner_of parts) lone (state_of worker) there

    -- what the worker's lists say of the goal, by its key
    pub looked_up : (lists : SearchListsModel) (key : ℕ) (got : Option Known) → lists ≡ worker.lists → key ≡ search_key parts.job.goal → got ≡ fin.get lists.closed.known key → fin.get worker.lists.closed.known (search_key parts.job.goal) ≡ got
    looked_up lists key got same_lists same_key read = (λ t. fin.get (sym same_lists t).closed.known (sym same_key t)) ∙ sym read

    -- what no open board is below, by the worker's lists
    pub bound_by_lists : IsSound (world_of owner_of parts) → AreGuided parts → IsLowerBound parts.job.rule (task_in parts.job).sum parts.job.goal → fin.get worker.lists.closed.known (search_key parts.job.goal) ≡ None → (lists : SearchListsModel) → lists ≡ worker.lists → (least : Option ℕ) → IfSome least (λ n. (guide : Guide) → IsInOrder guide lists → NoneBelow guide lists.closed n) → IfSome least (NothingBelow parts.job.rule parts.job.start parts.job.goal)
    bound_by_lists sound guided lower unknown lists same_lists None none = none
    bound_by_lists sound guided lower unknown lists same_lists (Some n) none =
        let task = task_in parts.job in
        let is = is_guided owner_of parts 0 worker some_worker at guided in
        let here : NoneBelow (guide_of task) worker.lists.closed n = subst (λ (l : SearchListsModel). (guide : Guide) → IsInOrder guide l → NoneBelow guide l.closed n) same_lists none (guide_of task) is.order in
        let low = none_below task (guide_of task) worker.lists (state_of worker) refl is n here in
        none_undercuts (world_of owner_of parts) lone n sound lower (subst (λ (x : WorkerState). HasNothingBelow task x n) (sym alone) low)
        (subst (λ (x : WorkerState). fin.get x.known (search_key task.goal) ≡ None) (sym alone) unknown)

    -- and where nothing waits
    pub nothing_waits : AreGuided parts → (lists : SearchListsModel) → lists ≡ worker.lists → (least : Option ℕ) → (least ≡ None → NothingWaitsIn lists) → IfNone least (IsWithoutBound (world_of owner_of parts))
    nothing_waits guided lists same_lists (Some n) lowest = _
    nothing_waits guided lists same_lists None lowest = inr empty
      where
        empty : (b : BoardModel) (cost : ℕ) → ¬ IsInFrontier (world_of owner_of parts) b cost
        empty b cost here =
            let task = task_in parts.job in
            let is = is_guided owner_of parts 0 worker some_worker at guided in
            let has = open_at (world_of owner_of parts) lone b cost here in
            let opens = subst (λ (x : WorkerState). IsOpen task x b has.0) alone has.1 in
            let waits = is.order.waits (search_key b) has.0 (open_key task (guide_of task) worker.lists (state_of worker) refl is b has.0 opens) in
            let none = subst NothingWaitsIn same_lists (lowest refl) in
            none_in_empty _ _ (none _) waits.2

    -- and where the goal is known
    pub goal_known : (known : Known) → fin.get worker.lists.closed.known (search_key parts.job.goal) ≡ Some known → IsWithoutBound (world_of owner_of parts)
    goal_known known knows = inl (known, record { worker = state_of worker; is = there; board = (lone.shaped.task.goal, refl); knows = knows })

-- ---- at which f the one worker's boards wait

one_waits : (w worker : W) → worker ≡ w → (lists : SearchListsModel) → lists ≡ worker.lists → (f : ℕ) → WaitsFrom lists f → (k : ℕ) (d : W) → k < 1 → WaitsFrom (get_or (w ∷ []) k d).lists f
one_waits w worker is lists kept f waits zero d first = subst (λ (l : SearchListsModel). WaitsFrom l f) (kept ∙ ap (λ (x : W). x.lists) is) waits
one_waits w worker is lists kept f waits (suc k) d first = absurd (omega (arith, first))

waits_alone : (workers : List W) (worker : W) → length workers ≡ 1 → worker ≡ get_or workers 0 worker → (lists : SearchListsModel) → lists ≡ worker.lists → (f : ℕ) → WaitsFrom lists f → All (λ (w : W). WaitsFrom w.lists f) workers
waits_alone [] worker one is lists kept f waits = absurd (omega (arith, one))
waits_alone (w ∷ []) worker one is lists kept f waits = one_waits w worker is lists kept f waits
waits_alone (w ∷ x ∷ rest) worker one is lists kept f waits = absurd (omega (arith, one))

pub least_told : {S : Type 0} (owner_of : S → ℕ → BoardModel → ℕ) (parts : Parts S) → IsLone (world_of owner_of parts) → (worker : W) → worker ≡ get_or parts.workers.items 0 worker → (lists : SearchListsModel) → lists ≡ worker.lists → (least : Option ℕ) → ((f : ℕ) → least ≡ Some f → WaitsFrom lists f) → IfSome least (λ f. All (λ (w : W). WaitsFrom w.lists f) parts.workers.items)
least_told owner_of parts lone worker is lists kept None waits = tt
least_told owner_of parts lone worker is lists kept (Some f) waits =
    let one = sym (state_count owner_of parts) ∙ ap (λ (xs : List WorkerState). length xs) lone.is in
    waits_alone parts.workers.items worker one is lists kept f (waits f refl)

-- the bound is what the three lemmas above say of it
pub is_bound : {S : Type 0} (owner_of : S → ℕ → BoardModel → ℕ) (parts : Parts S) (least : Option ℕ) → IfSome least (NothingBelow parts.job.rule parts.job.start parts.job.goal) → IfNone least (IsWithoutBound (world_of owner_of parts)) → IfSome least (λ f. All (λ (w : W). WaitsFrom w.lists f) parts.workers.items) → IsBoundSoFar owner_of parts least
is_bound owner_of parts None below none waits = none
is_bound owner_of parts (Some f) below none waits = (below, waits)

pub goal_is_known : (w : WorldState) (b : BoardModel) (cost : ℕ) → IsWithoutBound w → IsInFrontier w b cost → (known : Known) × Knows w 0 w.task.goal known
goal_is_known w b cost (inl knows) opens = knows
goal_is_known w b cost (inr none) opens = absurd (none b cost opens)
