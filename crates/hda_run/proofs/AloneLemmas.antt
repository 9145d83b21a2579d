-- Runs by one worker that is alone: what its steps answer and leave, and how the run stops.
use Rattle.std.proofs.Common.{◌≡◌, ℕ, suc, ◌+◌, ◌<◌, List, [], ◌∷◌, ◌++◌, length, map, take, get_or, sym, ap, ◌∙◌, Option, arith, ◌≢◌, ◌⊎◌, zero, ◌-◌, ◌≤◌, refl, subst, inl, inr, Some, None, replicate, ⊎_elim}
use Rattle.std.proofs.lemmas.List.{map-append, append_assoc}
use Rattle.std.proofs.Math.Seq.{take-suc}
use Rattle.std.specs.Prelude.{Any, fold, slice_get, slice_set, sum_by, min, All, ◌==◌, if◌then◌else◌}
use Rattle.std.specs.FinMap as fin
use Rattle.std.proofs.lemmas.List.Elements.{All-append}
use Rattle.memory.specs.declared.OutOfMemory.{OutOfMemory}
use Rattle.board.specs.Boards.{BoardModel}
use Rattle.board.specs.declared.moves.Move.{Move}
use Rattle.search_keys.specs.SearchKeys.{search_key}
use Rattle.outcomes.specs.Outcomes.{Task}
use Rattle.outcomes.specs.declared.outcome.Want.TheVariants.{Refused}
use Rattle.world_model.specs.declared.steps.Refusal.{Refusal}
use Rattle.world_model.specs.declared.steps.Step.{Step}
use Rattle.world_model.specs.StepLaws.{RunsAreOfSteps, RunsAreJoined}
use Rattle.world_model.specs.Steps.{IsRun, Next}
use Rattle.world_model.specs.Turns.{turn}
use Rattle.world_model.specs.Worlds.{WorldState, IsWorker, role_of}
use Rattle.world_model.specs.declared.limits.TheConstants.{PACKET_LIMIT, GREATEST_GRANT}
use Rattle.world_model.specs.declared.parts.Item.{Item}
use Rattle.world_model.specs.declared.parts.Known.{Known}
use Rattle.world_model.specs.declared.steps.Refusal.TheVariants.{NothingBelowLimit, NoAllowance, Memory, AllowanceLeft, NoRoom}
use Rattle.world_model.specs.declared.steps.Step.TheVariants.{Expand, Announce, Grant, Rest, Halt}
use Rattle.world_model.specs.BookSteps.{AtBook, MayGoOn}
use Rattle.world_model.specs.Books.{BookState, grant_of, stop_of}
use Rattle.world_model.specs.Costs.{limit_of, IsNotBelow}
use Rattle.world_model.specs.Credit.{IsCredited, packet_count, purse_total, expansion_count}
use Rattle.world_model.specs.Expansions.{expansion, successor_items, with_closure, with_successor}
use Rattle.world_model.specs.Knowledge.{Knowledge, relaxation}
use Rattle.world_model.specs.Shapes.{IsShaped}
use Rattle.world_model.specs.Workers.{WorkerState, Packet, Role, HasNothingBelow, KnowsGoalAt, IsIdle}
use Rattle.world_model.specs.WorkerSteps.{IsOverfull}
use Rattle.world_model.proofs.ChangeLemmas.{changed}
use Rattle.world_model.proofs.RunLemmas.{expansions_limited, refusals_change_nothing, openings_sound, one_spends_it, runs_spend}
use Rattle.world_model.proofs.StepCases.{Cases, OwnChange, BookChange, Expands, Announces, next_cases}
use Rattle.world_model.proofs.CreditLemmas.{steps_credited, limit_falls, lower_best, not_below_itself, not_below_stable}
use Rattle.world_model.proofs.ShapeKept.{steps_shaped}
use Rattle.world_model.specs.declared.steps.HaltCause.{HaltCause}
use Rattle.world_model.specs.declared.steps.HaltCause.TheVariants as causes
use Rattle.world_model.specs.declared.steps.Stop.TheVariants as stops
use Rattle.world_model.specs.Openings.{Job, IsJob, opening, first_worker, idle_worker}
use Rattle.world_model.proofs.RestLemmas.{runs_joined}
use Rattle.hda_run.specs.Rounds.{IsLone, RefusesStep, work_left, Reaches, Stops}
use Rattle.hda_run.specs.Alone.{HaltsNowhere, IsHalt, AreLast, IsRunAlone}

-- ---- runs, one step longer

-- a step with its answer
abbrev pub Made : Type 0
Made = Step × Option Refusal

-- the first steps of a list, with answers, lead from one world to another
abbrev pub Leads : List Step → ℕ → WorldState → WorldState → Type 0
Leads steps k w w' = (made : List Made) × (map (λ (m : Made). m.0) made ≡ take k steps) × IsRun w made w'

-- and one more
pub one_more : RunsAreOfSteps → RunsAreJoined → (steps : List Step) (k : ℕ) (d : Step) (w middle w' : WorldState) (answer : Option Refusal) → k < length steps → Leads steps k w middle → Next (get_or steps k d) (turn middle answer w') → Leads steps (k + 1) w w'
one_more single joined steps k d w middle w' answer within so_far next =
    let step = get_or steps k d in
    let more : List Made = (step, answer) ∷ [] in
    let up : suc k ≡ k + 1 = omega arith in (
      so_far.0 ++ more,
      map-append (λ (m : Made). m.0) so_far.0 more ∙ ap (λ (xs : List Step). xs ++ step ∷ []) so_far.1 ∙ sym (take-suc steps k d within) ∙ ap (λ (j : ℕ). take j steps) up,
      (joined w w' so_far.0 more).1 (middle, so_far.2, (single middle w' step answer).1 next),
    )

-- ---- what the steps of one worker that is alone answer, and leave

-- the role of one worker, who owns all boards
abbrev pub lone_role : Task → Role
lone_role task = record { task = task; owner = λ b. 0; me = 0 }

-- successors change what it knows alone
pub known_only : (task : Task) (items : List Item) (x : WorkerState) → (known : Knowledge) × (fold (with_successor (lone_role task)) x items ≡ record x { known = known })
known_only task [] x = (x.known, refl)
known_only task (item ∷ items) x = known_only task items (record x { known = relaxation x.known item })

-- an expansion leaves less to do
less_left : (limit limit' granted granted' e e' : ℕ) → limit' ≡ limit → granted' ≡ granted → e' ≡ e + 1 → e' ≤ limit' → (limit' - granted') + (limit' - e') < (limit - granted) + (limit - e)
less_left limit limit' granted granted' e e' same same' more within = omega (arith, same, same', more, within)

-- and so does a grant
less_to_grant : (limit limit' granted granted' e e' : ℕ) → limit' ≡ limit → granted' ≡ granted + min GREATEST_GRANT (limit - granted) → granted ≢ limit → granted ≤ limit → e' ≡ e → (limit' - granted') + (limit' - e') < (limit - granted) + (limit - e)
less_to_grant limit limit' granted granted' e e' same more some within same' = omega (arith, same, more, some, within, same')

-- a packet without items is not too full
none_full : ¬ Any (λ (packet : Packet). PACKET_LIMIT < length packet) ([] ∷ [])
none_full (zero, packet, within, is, full) = let n = ap (λ (p : Packet). length p) is in omega (arith, n, full)
none_full (suc k, packet, within, is, full) = omega (arith, within)

-- why one worker can't expand a board
abbrev pub IsWhy : Refusal → Type 0
IsWhy refusal = (refusal ≡ NothingBelowLimit) ⊎ (refusal ≡ NoAllowance) ⊎ ((refused : OutOfMemory) × (refusal ≡ Memory refused))

module _ (w : WorldState) (lone : IsLone w) where
  count : length w.workers ≡ 1
  count = ap (λ (xs : List WorkerState). length xs) lone.is

  pub not_past : ¬ (length w.workers ≤ 0)
  not_past past = let n = count in omega (arith, past, n)

  pub zero_owner : (b : BoardModel) → w.owner b ≡ 0
  zero_owner b = let lt = lone.shaped.owners b in let n = count in omega (arith, lt, n)

  role : role_of w 0 ≡ lone_role w.task
  role = λ t. record { task = w.task; owner = λ b. zero_owner b t; me = 0 }

  pub same : (x : WorkerState) → IsWorker w 0 x → lone.worker ≡ x
  same x at = let both : Some lone.worker ≡ Some x = sym (ap (λ (xs : List WorkerState). slice_get xs 0) lone.is) ∙ at in search both

  count_is : expansion_count w ≡ lone.worker.expansions
  count_is = ap (λ (xs : List WorkerState). sum_by (λ (x : WorkerState). x.expansions) xs) lone.is ∙ omega arith

  pub purse_is : purse_total w ≡ 1
  purse_is = ap (λ (xs : List WorkerState). sum_by (λ (x : WorkerState). x.purse) xs) lone.is ∙ (let one = lone.purse in omega (arith, one))

  pub best_is : lone.worker.best ≡ w.book.best
  best_is = (((lone.credited.workers 0 lone.worker (ap (λ (xs : List WorkerState). slice_get xs 0) lone.is)).goal_owner) (zero_owner w.task.goal)).copy

  count_after : (w' : WorldState) (x' : WorkerState) (book' : BookState) → w' ≡ changed w 0 x' book' w.lanes → expansion_count w' ≡ x'.expansions
  count_after w' x' book' is =
      ap (λ (v : WorldState). expansion_count v) is ∙ ap (λ (xs : List WorkerState). sum_by (λ (x : WorkerState). x.expansions) (slice_set xs 0 x')) lone.is ∙ omega arith

  after : (w' : WorldState) (x' : WorkerState) (book' : BookState) → w' ≡ changed w 0 x' book' w.lanes → x'.held ≡ [] → x'.unsent ≡ [] ∷ [] → x'.purse ≡ 1 → book'.stop ≡ None → IsShaped w' → IsCredited w' → IsLone w'
  after w' x' book' is held unsent purse stop shaped credited = record {
    worker = x';
    is = ap (λ (v : WorldState). v.workers) is ∙ ap (λ (xs : List WorkerState). slice_set xs 0 x') lone.is;
    holds_nothing = held;
    sends_nothing = unsent;
    purse = purse;
    no_packet = ap (λ (v : WorldState). packet_count v) is ∙ lone.no_packet;
    goes_on = ap (λ (v : WorldState). v.book.stop) is ∙ stop;
    shaped = shaped;
    credited = credited;
  }

  -- ---- it expands a board

  grown : (x x' : WorkerState) (b : BoardModel) (known : Known) → x' ≡ expansion (role_of w 0) x b known → (k : Knowledge) × (x' ≡ record x { known = k; allowance = x.allowance - 1; expansions = x.expansions + 1 })
  grown x x' b known is =
      let only = known_only w.task (successor_items w.task.rule b known.cost) (with_closure x b known) in
      (only.0, is ∙ ap (λ (r : Role). expansion r x b known) role ∙ only.1)

  pub expands : (w' : WorldState) → Next (Expand 0) (turn w None w') → IsLone w' × (work_left w' < work_left w)
  expands w' next = split (next_cases (Expand 0) (turn w None w') next)
    where
      split : Cases (turn {S = WorldState} {F = Refusal} w None w') (OwnChange 0 (Expands (role_of w 0)) w w') → IsLone w' × (work_left w' < work_left w)
      split (inl out) = let e : ◌≡◌ {A = Option Refusal} None (Some out.0) = out.1.0 in absurd (cc)
      split (inr done) =
          let step = done.1 in
          let x = step.worker in
          let e = same x step.at in
          let big = grown x step.new step.change.board step.change.known step.change.is in
          let new : WorkerState = record x { known = big.0; allowance = x.allowance - 1; expansions = x.expansions + 1 } in
          let is : w' ≡ changed w 0 new w.book w.lanes = step.is ∙ ap (λ (n : WorkerState). changed w 0 n w.book w.lanes) big.1 in
          let shaped = steps_shaped (Expand 0) (turn w None w') next lone.shaped in
          let credited = steps_credited (Expand 0) (turn w None w') next lone.credited in
          let held : x.held ≡ [] = subst (λ (y : WorkerState). y.held ≡ []) e lone.holds_nothing in
          let unsent : x.unsent ≡ [] ∷ [] = subst (λ (y : WorkerState). y.unsent ≡ [] ∷ []) e lone.sends_nothing in
          let purse : x.purse ≡ 1 = subst (λ (y : WorkerState). y.purse ≡ 1) e lone.purse in
          let before : expansion_count w ≡ x.expansions = count_is ∙ ap (λ (y : WorkerState). y.expansions) e in
          let now : expansion_count w' ≡ x.expansions + 1 = count_after w' new w.book is in (
            after w' new w.book is held unsent purse lone.goes_on shaped credited,
            less_left w.book.limit w'.book.limit w.book.granted w'.book.granted (expansion_count w) (expansion_count w')
                (ap (λ (v : WorldState). v.book.limit) is) (ap (λ (v : WorldState). v.book.granted) is) (now ∙ ap (λ (n : ℕ). n + 1) (sym before)) (expansions_limited w' credited),
          )

  room : (x : WorkerState) → IsWorker w 0 x → (b : BoardModel) (known : Known) → ¬ IsOverfull (expansion (role_of w 0) x b known)
  room x at b known full =
      let big = grown x (expansion (role_of w 0) x b known) b known refl in
      let unsent : (expansion (role_of w 0) x b known).unsent ≡ [] ∷ [] = ap (λ (y : WorkerState). y.unsent) big.1 ∙ subst (λ (y : WorkerState). y.unsent ≡ [] ∷ []) (same x at) lone.sends_nothing in
      none_full (subst (λ (u : List Packet). Any (λ (packet : Packet). PACKET_LIMIT < length packet) u) unsent full)

  why : (refusal : Refusal) (w' : WorldState) → Next (Expand 0) (turn w (Some refusal) w') → IsWhy refusal
  why refusal w' (inl (past, out)) = absurd (not_past past)
  why refusal w' (inr (there, (x, x', at, inl (nothing, out), is))) = let e : Some refusal ≡ Some NothingBelowLimit = out.0 in inl (search e)
  why refusal w' (inr (there, (x, x', at, inr (busy, inl (none, out)), is))) = let e : Some refusal ≡ Some NoAllowance = out.0 in inr (inl (search e))
  why refusal w' (inr (there, (x, x', at, inr (busy, inr (left, (b, known, next, inl (full, out)))), is))) = absurd (room x at b known full)
  why refusal w' (inr (there, (x, x', at, inr (busy, inr (left, (b, known, next, inr (fits, inl out)))), is))) = let e : ◌≡◌ {A = Option Refusal} (Some refusal) None = out.0 in absurd (cc)
  why refusal w' (inr (there, (x, x', at, inr (busy, inr (left, (b, known, next, inr (fits, inr (refused, out))))), is))) = let e : Some refusal ≡ Some (Memory refused) = out.0 in inr (inr (refused, search e))

  pub expand_refused : (refusal : Refusal) (w' : WorldState) → Next (Expand 0) (turn w (Some refusal) w') → (w' ≡ w) × IsWhy refusal × RefusesStep w (Expand 0) refusal
  expand_refused refusal w' next =
      let left = refusals_change_nothing (Expand 0) w refusal w' next in
      (left, why refusal w' next, subst (λ (v : WorldState). Next (Expand 0) (turn w (Some refusal) v)) left next)

  -- ---- it is granted expansions

  -- it has no allowance, though there is a board below the limit
  pub record IsSpent : Type 0 where
    pub busy : ¬ HasNothingBelow w.task lone.worker (limit_of w.book.best)
    pub none : lone.worker.allowance ≡ 0

  pub spent : RefusesStep w (Expand 0) NoAllowance → IsSpent
  spent (inl (past, out)) = absurd (not_past past)
  spent (inr (there, (x, x', at, inl (nothing, out), is))) = let e : ◌≡◌ {A = Option Refusal} (Some NoAllowance) (Some NothingBelowLimit) = out.0 in absurd (cc)
  spent (inr (there, (x, x', at, inr (busy, inl (none, out)), is))) =
      let e = sym (same x at) in
      record {
        busy = subst (λ (best : Option ℕ). ¬ HasNothingBelow w.task lone.worker (limit_of best)) best_is (subst (λ (y : WorkerState). ¬ HasNothingBelow w.task y (limit_of y.best)) e busy);
        none = subst (λ (y : WorkerState). y.allowance ≡ 0) e none;
      }
  spent (inr (there, (x, x', at, inr (busy, inr (left, (b, known, next, inl (full, out)))), is))) = absurd (room x at b known full)
  spent (inr (there, (x, x', at, inr (busy, inr (left, (b, known, next, inr (fits, inl out)))), is))) = let e : ◌≡◌ {A = Option Refusal} (Some NoAllowance) None = out.0 in absurd (cc)
  spent (inr (there, (x, x', at, inr (busy, inr (left, (b, known, next, inr (fits, inr (refused, out))))), is))) = let e : ◌≡◌ {A = Option Refusal} (Some NoAllowance) (Some (Memory refused)) = out.0 in absurd (cc)

  all_granted : IsSpent → (refusal : Refusal) (w' : WorldState) → Next (Grant 0) (turn w (Some refusal) w') → refusal ≡ NoAllowance
  all_granted is refusal w' (inl (past, out)) = absurd (not_past past)
  all_granted is refusal w' (inr (there, (x, new, at, inl (stopped, out), eq))) = absurd (stopped lone.goes_on)
  all_granted is refusal w' (inr (there, (x, new, at, inr (runs, inl (nothing, out)), eq))) = absurd (is.busy (subst (λ (y : WorkerState). HasNothingBelow w.task y (limit_of w.book.best)) (sym (same x at)) nothing))
  all_granted is refusal w' (inr (there, (x, new, at, inr (runs, inr (busy, inl (left, out))), eq))) = absurd (left (subst (λ (y : WorkerState). y.allowance ≡ 0) (same x at) is.none))
  all_granted is refusal w' (inr (there, (x, new, at, inr (runs, inr (busy, inr (none, inl (all, out)))), eq))) = let e : Some refusal ≡ Some NoAllowance = out.0 in search e
  all_granted is refusal w' (inr (there, (x, new, at, inr (runs, inr (busy, inr (none, inr (more, out)))), eq))) = let e : ◌≡◌ {A = Option Refusal} (Some refusal) None = out.0 in absurd (cc)

  pub grant_refused : RefusesStep w (Expand 0) NoAllowance → (refusal : Refusal) (w' : WorldState) → Next (Grant 0) (turn w (Some refusal) w') → (w' ≡ w) × RefusesStep w (Grant 0) NoAllowance
  grant_refused stuck refusal w' next =
      let left = refusals_change_nothing (Grant 0) w refusal w' next in
      let why = all_granted (spent stuck) refusal w' next in (
        left,
        subst (λ (r : Refusal). Next (Grant 0) (turn w (Some r) w)) why (subst (λ (v : WorldState). Next (Grant 0) (turn w (Some refusal) v)) left next),
      )

  pub grants : (w' : WorldState) → Next (Grant 0) (turn w None w') → IsLone w' × (work_left w' < work_left w)
  grants w' next = split next
    where
      split : Next (Grant 0) (turn w None w') → IsLone w' × (work_left w' < work_left w)
      split (inl (past, out)) = absurd (not_past past)
      split (inr (there, (x, new, at, inl (stopped, out), eq))) = absurd (stopped lone.goes_on)
      split (inr (there, (x, new, at, inr (runs, inl (nothing, out)), eq))) = let e : ◌≡◌ {A = Option Refusal} None (Some NothingBelowLimit) = out.0 in absurd (cc)
      split (inr (there, (x, new, at, inr (runs, inr (busy, inl (left, out))), eq))) = let e : ◌≡◌ {A = Option Refusal} None (Some AllowanceLeft) = out.0 in absurd (cc)
      split (inr (there, (x, new, at, inr (runs, inr (busy, inr (none, inl (all, out)))), eq))) = let e : ◌≡◌ {A = Option Refusal} None (Some NoAllowance) = out.0 in absurd (cc)
      split (inr (there, (x, new, at, inr (runs, inr (busy, inr (none, inr (more, out)))), eq))) =
          let e = same x at in
          let x' : WorkerState = record x { allowance = x.allowance + grant_of w.book; best = w.book.best } in
          let book' : BookState = record w.book { granted = w.book.granted + grant_of w.book } in
          let is : w' ≡ changed w 0 x' book' w.lanes = eq ∙ ap (λ (at : AtBook). changed w 0 at.worker at.book w.lanes) out.1 in
          let shaped = steps_shaped (Grant 0) (turn w None w') next lone.shaped in
          let credited = steps_credited (Grant 0) (turn w None w') next lone.credited in
          let held : x.held ≡ [] = subst (λ (y : WorkerState). y.held ≡ []) e lone.holds_nothing in
          let unsent : x.unsent ≡ [] ∷ [] = subst (λ (y : WorkerState). y.unsent ≡ [] ∷ []) e lone.sends_nothing in
          let purse : x.purse ≡ 1 = subst (λ (y : WorkerState). y.purse ≡ 1) e lone.purse in
          let before : expansion_count w ≡ x.expansions = count_is ∙ ap (λ (y : WorkerState). y.expansions) e in
          let now : expansion_count w' ≡ x.expansions = count_after w' x' book' is in (
            after w' x' book' is held unsent purse lone.goes_on shaped credited,
            less_to_grant w.book.limit w'.book.limit w.book.granted w'.book.granted (expansion_count w) (expansion_count w')
                (ap (λ (v : WorldState). v.book.limit) is) (ap (λ (v : WorldState). v.book.granted) is) more lone.credited.within_limit (now ∙ sym before),
          )

  -- ---- it announces the goal's cost

  announced : (w' : WorldState) (x : WorkerState) (at : IsWorker w 0 x) (best : Option ℕ) → Next (Announce 0) (turn w None w') → w' ≡ changed w 0 (record x { best = best }) (record w.book { best = best }) w.lanes → IsLone w' × (work_left w' ≡ work_left w)
  announced w' x at best next is =
      let e = same x at in
      let x' : WorkerState = record x { best = best } in
      let book' : BookState = record w.book { best = best } in
      let shaped = steps_shaped (Announce 0) (turn w None w') next lone.shaped in
      let credited = steps_credited (Announce 0) (turn w None w') next lone.credited in
      let held : x.held ≡ [] = subst (λ (y : WorkerState). y.held ≡ []) e lone.holds_nothing in
      let unsent : x.unsent ≡ [] ∷ [] = subst (λ (y : WorkerState). y.unsent ≡ [] ∷ []) e lone.sends_nothing in
      let purse : x.purse ≡ 1 = subst (λ (y : WorkerState). y.purse ≡ 1) e lone.purse in
      let count : expansion_count w' ≡ expansion_count w = count_after w' x' book' is ∙ ap (λ (y : WorkerState). y.expansions) (sym e) ∙ sym count_is in (
        after w' x' book' is held unsent purse lone.goes_on shaped credited,
        (λ t. ((ap (λ (v : WorldState). v.book.limit) is) t - (ap (λ (v : WorldState). v.book.granted) is) t) + ((ap (λ (v : WorldState). v.book.limit) is) t - count t)),
      )

  pub announces : (answer : Option Refusal) (w' : WorldState) → Next (Announce 0) (turn w answer w') → IsLone w' × (work_left w' ≡ work_left w)
  announces answer w' next = split (next_cases (Announce 0) (turn w answer w') next)
    where
      split : Cases (turn {S = WorldState} {F = Refusal} w answer w') (BookChange 0 (Announces (role_of w 0)) w w') → IsLone w' × (work_left w' ≡ work_left w)
      split (inl out) = let left : w' ≡ w = out.1.1 in (subst IsLone (sym left) lone, ap work_left left)
      split (inr done) =
          let step = done.1 in
          let is : w' ≡ changed w 0 (record step.worker { best = Some step.change.cost }) (record w.book { best = Some step.change.cost }) w.lanes = step.is ∙ ap (λ (at : AtBook). changed w 0 at.worker at.book w.lanes) step.change.is in
          announced w' step.worker step.at (Some step.change.cost) (subst (λ (a : Option Refusal). Next (Announce 0) (turn w a w')) done.0 next) is

-- ---- how a run by one worker that is alone stops: steps in a row

no_halt : (step : Step) (answer : Option Refusal) → ¬ IsHalt step → HaltsNowhere ((step, answer) ∷ [])
no_halt step answer harmless zero d within = harmless
no_halt step answer harmless (suc k) d within = omega (arith, within)

none_halt : HaltsNowhere []
none_halt k d within = absurd (omega (arith, within))

pub stays : (w w' : WorldState) → w' ≡ w → IsLone w' → Reaches w w'
stays w w' e lone = record { made = []; run = e; goes_on = none_halt; lone = lone }

pub takes : (step : Step) (answer : Option Refusal) (w w' : WorldState) → ¬ IsHalt step → Next step (turn w answer w') → IsLone w' → Reaches w w'
takes step answer w w' harmless next lone = record { made = (step, answer) ∷ []; run = (w', next, refl); goes_on = no_halt step answer harmless; lone = lone }

pub reaches_on : (a b c : WorldState) → Reaches a b → Reaches b c → Reaches a c
reaches_on a b c one two = record {
  made = one.made ++ two.made;
  run = (runs_joined a c one.made two.made).1 (b, one.run, two.run);
  goes_on = All-append (λ (made : Made). ¬ IsHalt made.0) one.made two.made one.goes_on two.goes_on;
  lone = two.lone;
}

-- ---- a refused expansion

-- where it is not for the allowance, nor for memory, no board is below the limit
pub quiet_only : (refusal : Refusal) → IsWhy refusal → ¬ (refusal ≡ NoAllowance) → ((refused : OutOfMemory) → ¬ (refusal ≡ Memory refused)) → refusal ≡ NothingBelowLimit
quiet_only refusal (inl quiet) allowed fits = quiet
quiet_only refusal (inr (inl spent)) allowed fits = absurd (allowed spent)
quiet_only refusal (inr (inr (refused, is))) allowed fits = absurd (fits refused is)

-- what a refused expansion leaves
pub record IsRefusedAlone (w w' : WorldState) (refusal : Refusal) : Type 0 where
  pub lone : IsLone w'
  pub refuses : RefusesStep w' (Expand 0) refusal
  pub why : IsWhy refusal
  pub same : w' ≡ w

pub refused_alone : (w : WorldState) → IsLone w → (refusal : Refusal) (w' : WorldState) → Next (Expand 0) (turn w (Some refusal) w') → IsRefusedAlone w w' refusal
refused_alone w lone refusal w' next =
    let all = expand_refused w lone refusal w' next in
    let back = sym all.0 in
    record { lone = subst IsLone back lone; refuses = subst (λ (v : WorldState). RefusesStep v (Expand 0) refusal) back all.2; why = all.1; same = all.0 }

-- and what a grant leaves that is refused after it
pub record IsSpentAlone (w w' : WorldState) : Type 0 where
  pub lone : IsLone w'
  pub refuses : RefusesStep w' (Grant 0) NoAllowance
  pub same : w' ≡ w

pub spent_alone : (w : WorldState) → IsLone w → RefusesStep w (Expand 0) NoAllowance → (refusal : Refusal) (w' : WorldState) → Next (Grant 0) (turn w (Some refusal) w') → IsSpentAlone w w'
spent_alone w lone stuck refusal w' next =
    let all = grant_refused w lone stuck refusal w' next in
    let back = sym all.0 in
    record { lone = subst IsLone back lone; refuses = subst (λ (v : WorldState). RefusesStep v (Grant 0) NoAllowance) back all.1; same = all.0 }

-- ---- the worker rests

-- nothing is to do for the worker
abbrev pub IsDone : WorldState → Type 0
IsDone w = (x : WorkerState) → IsWorker w 0 x → IsIdle w.task x (limit_of w.book.best) w.book.best

module _ (w : WorldState) (lone : IsLone w) where
  nothing_below : RefusesStep w (Expand 0) NothingBelowLimit → HasNothingBelow w.task lone.worker (limit_of w.book.best)
  nothing_below (inl (past, out)) = absurd (not_past w lone past)
  nothing_below (inr (there, (x, x', at, inl (nothing, out), is))) =
      subst (λ (best : Option ℕ). HasNothingBelow w.task lone.worker (limit_of best)) (best_is w lone) (subst (λ (y : WorkerState). HasNothingBelow w.task y (limit_of y.best)) (sym (same w lone x at)) nothing)
  nothing_below (inr (there, (x, x', at, inr (busy, inl (none, out)), is))) = let e : ◌≡◌ {A = Option Refusal} (Some NothingBelowLimit) (Some NoAllowance) = out.0 in absurd (cc)
  nothing_below (inr (there, (x, x', at, inr (busy, inr (left, (b, known, next, inl (full, out)))), is))) = let e : ◌≡◌ {A = Option Refusal} (Some NothingBelowLimit) (Some NoRoom) = out.0 in absurd (cc)
  nothing_below (inr (there, (x, x', at, inr (busy, inr (left, (b, known, next, inr (fits, inl out)))), is))) = let e : ◌≡◌ {A = Option Refusal} (Some NothingBelowLimit) None = out.0 in absurd (cc)
  nothing_below (inr (there, (x, x', at, inr (busy, inr (left, (b, known, next, inr (fits, inr (refused, out))))), is))) = let e : ◌≡◌ {A = Option Refusal} (Some NothingBelowLimit) (Some (Memory refused)) = out.0 in absurd (cc)

  idle : (x : WorkerState) (best best' : Option ℕ) → lone.worker ≡ x → IsNotBelow w.book.best best' → HasNothingBelow w.task lone.worker (limit_of w.book.best) → ((cost : ℕ) → KnowsGoalAt w.task x cost → IsNotBelow (Some cost) best') → IsIdle w.task (record x { best = best }) (limit_of best') best'
  idle x best best' e falls nothing better = record {
    holds_nothing = subst (λ (y : WorkerState). y.held ≡ []) e lone.holds_nothing;
    sends_nothing = subst (λ (u : List Packet). All (λ packet. packet ≡ []) u) (sym (subst (λ (y : WorkerState). y.unsent ≡ [] ∷ []) e lone.sends_nothing)) none_there;
    no_board = λ b known at.
        let le = subst (λ (y : WorkerState). HasNothingBelow w.task y (limit_of w.book.best)) e nothing b known (record { board = at.board; knows = at.knows; unexpanded = at.unexpanded; no_goal = at.no_goal }) in
        let le' = limit_falls w.book.best best' falls in
        omega (arith, le, le');
    no_better_goal = λ cost knows. better cost knows;
  }
    where
      none_there : All (λ (packet : Packet). packet ≡ []) ([] ∷ [])
      none_there zero d within = refl
      none_there (suc k) d within = absurd (omega (arith, within))

  done : RefusesStep w (Expand 0) NothingBelowLimit → (answer : Option Refusal) (w' : WorldState) → Next (Announce 0) (turn w answer w') → IsDone w'
  done stuck answer w' (inl (past, out)) = absurd (not_past w lone past)
  done stuck answer w' (inr (there, (x, new, at, inl (stopped, out), eq))) = absurd (stopped lone.goes_on)
  done stuck answer w' (inr (there, (x, new, at, inr (runs, inl (nothing, out)), eq))) =
      let e = same w lone x at in
      let is : w' ≡ changed w 0 x w.book w.lanes = eq ∙ ap (λ (at : AtBook). changed w 0 at.worker at.book w.lanes) out.1 in
      let better : (cost : ℕ) → KnowsGoalAt w.task x cost → IsNotBelow (Some cost) w.book.best = λ cost knows. not_below_stable (Some cost) w.book.best (λ lower. nothing cost (record { own = zero_owner w lone w.task.goal; knows = knows; lower = lower })) in
      subst IsDone (sym is) (λ y there_y. subst (λ (z : WorkerState). IsIdle w.task z (limit_of w.book.best) w.book.best) (put x y there_y) (idle x x.best w.book.best e (not_below_itself w.book.best) (nothing_below stuck) better))
    where
      put : (x y : WorkerState) → slice_get (slice_set w.workers 0 x) 0 ≡ Some y → x ≡ y
      put x y h = let both : Some x ≡ Some y = sym (ap (λ (xs : List WorkerState). slice_get (slice_set xs 0 x) 0) lone.is) ∙ h in search both
  done stuck answer w' (inr (there, (x, new, at, inr (runs, inr (some, (cost, may, out))), eq))) =
      let e = same w lone x at in
      let x' : WorkerState = record x { best = Some cost } in
      let book' : BookState = record w.book { best = Some cost } in
      let is : w' ≡ changed w 0 x' book' w.lanes = eq ∙ ap (λ (at : AtBook). changed w 0 at.worker at.book w.lanes) out.1 in
      let known_once : (k k' : Known) → fin.get x.known (search_key w.task.goal) ≡ Some k → fin.get x.known (search_key w.task.goal) ≡ Some k' → k ≡ k' = λ k k' h h'. let both : Some k ≡ Some k' = sym h ∙ h' in search both in
      let better : (c : ℕ) → KnowsGoalAt w.task x c → IsNotBelow (Some c) (Some cost) = λ c knows.
      let one : knows.0.cost ≡ may.knows.0.cost = ap (λ (k : Known). k.cost) (known_once knows.0 may.knows.0 knows.1 may.knows.1) in
      let here = knows.2 in
      let there = may.knows.2 in
      omega (arith, one, here, there) in
      subst IsDone (sym is) (λ y there_y. subst (λ (z : WorkerState). IsIdle w.task z (limit_of (Some cost)) (Some cost)) (put x' y there_y) (idle x (Some cost) (Some cost) e (lower_best cost w.book.best may.lower) (nothing_below stuck) better))
    where
      put : (x y : WorkerState) → slice_get (slice_set w.workers 0 x) 0 ≡ Some y → x ≡ y
      put x y h = let both : Some x ≡ Some y = sym (ap (λ (xs : List WorkerState). slice_get (slice_set xs 0 x) 0) lone.is) ∙ h in search both

  rests : IsDone w → (answer : Option Refusal) (w' : WorldState) → Next (Rest 0) (turn w answer w') → (answer ≡ None) × (w'.book.stop ≡ Some stops.Quiet)
  rests is answer w' (inl (past, out)) = absurd (not_past w lone past)
  rests is answer w' (inr (there, (x, new, at, inl (stopped, out), eq))) = absurd (stopped lone.goes_on)
  rests is answer w' (inr (there, (x, new, at, inr (runs, inl (empty, out)), eq))) =
      let one = subst (λ (y : WorkerState). y.purse ≡ 1) (same w lone x at) lone.purse in absurd (omega (arith, one, empty))
  rests is answer w' (inr (there, (x, new, at, inr (runs, inr (rich, inl (busy, out))), eq))) = absurd (busy (is x at))
  rests is answer w' (inr (there, (x, new, at, inr (runs, inr (rich, inr (quiet, (floor, is_floor, out)))), eq))) =
      let one = subst (λ (y : WorkerState). y.purse ≡ 1) (same w lone x at) lone.purse in
      let credit = lone.credited.credit in
      let purse = purse_is w lone in
      let none = lone.no_packet in
      let left : w.book.credit - x.purse ≡ 0 = omega (arith, one, credit, purse, none) in (
        out.0,
        ap (λ (v : WorldState). v.book.stop) eq ∙ ap (λ (at : AtBook). at.book.stop) out.1 ∙ ap (λ (n : ℕ). if n == 0 then Some stops.Quiet else w.book.stop) left,
      )

  -- ---- the worker halts the run

  halts : (cause : HaltCause) → ((x : WorkerState) → IsWorker w 0 x → ¬ MayGoOn (record { worker = x; book = w.book }) cause) → (answer : Option Refusal) (w' : WorldState) → Next (Halt 0 cause) (turn w answer w') → (answer ≡ None) × (w'.book.stop ≡ Some (stop_of cause))
  halts cause over answer w' (inl (past, out)) = absurd (not_past w lone past)
  halts cause over answer w' (inr (there, (x, new, at, inl (stopped, out), eq))) = absurd (stopped lone.goes_on)
  halts cause over answer w' (inr (there, (x, new, at, inr (runs, inl (may, out)), eq))) = absurd (over x at may)
  halts cause over answer w' (inr (there, (x, new, at, inr (runs, inr (may, out)), eq))) = (out.0, ap (λ (v : WorldState). v.book.stop) eq ∙ ap (λ (at : AtBook). at.book.stop) out.1)

  limit_over : RefusesStep w (Grant 0) NoAllowance → (x : WorkerState) → IsWorker w 0 x → ¬ MayGoOn (record { worker = x; book = w.book }) causes.Limit
  limit_over (inl (past, out)) x at may = not_past w lone past
  limit_over (inr (there, (y, new, here, inl (stopped, out), eq))) x at may = stopped lone.goes_on
  limit_over (inr (there, (y, new, here, inr (runs, inl (nothing, out)), eq))) x at may = let e : ◌≡◌ {A = Option Refusal} (Some NoAllowance) (Some NothingBelowLimit) = out.0 in absurd (cc)
  limit_over (inr (there, (y, new, here, inr (runs, inr (busy, inl (left, out))), eq))) x at may = let e : ◌≡◌ {A = Option Refusal} (Some NoAllowance) (Some AllowanceLeft) = out.0 in absurd (cc)
  limit_over (inr (there, (y, new, here, inr (runs, inr (busy, inr (none, inl (all, out)))), eq))) x at may =
      let e : y.allowance ≡ x.allowance = ap (λ (z : WorkerState). z.allowance) (sym (same w lone y here) ∙ same w lone x at) in
      ⊎_elim (λ (some : 0 < x.allowance). none (λ z. omega (arith, some, e, z))) (λ (more : w.book.granted < w.book.limit). omega (arith, more, all)) may
  limit_over (inr (there, (y, new, here, inr (runs, inr (busy, inr (none, inr (more, out)))), eq))) x at may = let e : ◌≡◌ {A = Option Refusal} (Some NoAllowance) None = out.0 in absurd (cc)

  pub stops_for_limit : RefusesStep w (Grant 0) NoAllowance → (answer : Option Refusal) (w' : WorldState) → Next (Halt 0 causes.Limit) (turn w answer w') → Stops w w'
  stops_for_limit stuck answer w' halt =
      let over = halts causes.Limit (limit_over stuck) answer w' halt in
      record {
        first = [];
        last = (Grant 0, Some NoAllowance) ∷ (Halt 0 causes.Limit, None) ∷ [];
        run = (w, stuck, (w', subst (λ (a : Option Refusal). Next (Halt 0 causes.Limit) (turn w a w')) over.0 halt, refl));
        goes_on = none_halt;
        ends = subst (AreLast ((Grant 0, Some NoAllowance) ∷ (Halt 0 causes.Limit, None) ∷ [])) (sym over.1) refl;
      }

  pub stops_for_memory : (refused : OutOfMemory) → RefusesStep w (Expand 0) (Memory refused) → (answer : Option Refusal) (w' : WorldState) → Next (Halt 0 (causes.Memory (Refused refused))) (turn w answer w') → Stops w w'
  stops_for_memory refused stuck answer w' halt =
      let cause = causes.Memory (Refused refused) in
      let last : List Made = (Expand 0, Some (Memory refused)) ∷ (Halt 0 cause, None) ∷ [] in
      let over = halts cause (λ x at may. may) answer w' halt in
      record {
        first = [];
        last = last;
        run = (w, stuck, (w', subst (λ (a : Option Refusal). Next (Halt 0 cause) (turn w a w')) over.0 halt, refl));
        goes_on = none_halt;
        ends = subst (AreLast last) (sym over.1) (refused, refl, refl);
      }

-- the worker rests after it has announced what it knows
pub stops_resting : (w middle w' : WorldState) → IsLone w → RefusesStep w (Expand 0) NothingBelowLimit → (answer other : Option Refusal) → Next (Announce 0) (turn w answer middle) → Next (Rest 0) (turn middle other w') → Stops w w'
stops_resting w middle w' lone stuck answer other announce rest =
    let over = rests middle (announces w lone answer middle announce).0 (done w lone stuck answer middle announce) other w' rest in
    record {
      first = (Announce 0, answer) ∷ [];
      last = (Rest 0, None) ∷ [];
      run = (middle, announce, (w', subst (λ (a : Option Refusal). Next (Rest 0) (turn middle a w')) over.0 rest, refl));
      goes_on = no_halt (Announce 0) answer (λ h. h);
      ends = subst (AreLast ((Rest 0, None) ∷ [])) (sym over.1) refl;
    }

-- ---- from the opening world

pub opening_lone : (job : Job) (via : Move) → job.count ≡ 1 → IsJob job → IsLone (opening job via)
opening_lone job via one is =
    let sound = openings_sound job via is in
    let owner : job.owner job.task.start ≡ 0 = let lt = is.owners job.task.start in omega (arith, lt, one) in
    record {
      worker = first_worker job.count job.task via;
      is = λ t. slice_set (replicate (one t) (idle_worker job.count)) (owner t) (first_worker job.count job.task via);
      holds_nothing = refl;
      sends_nothing = ap (λ (n : ℕ). replicate {A = Packet} n []) one;
      purse = refl;
      no_packet = ap (λ (n : ℕ). sum_by (λ (to_each : List (List Packet)). sum_by (λ (lane : List Packet). length lane) to_each) (replicate n (replicate n []))) one;
      goes_on = refl;
      shaped = sound.0;
      credited = sound.2;
    }

pub opened_lone : (job : Job) (via : Move) (w : WorldState) → w ≡ opening job via → job.count ≡ 1 → IsJob job → IsLone w
opened_lone job via w opened one is = subst IsLone (sym opened) (opening_lone job via one is)

-- the whole run
pub alone : (job : Job) (via : Move) (middle w : WorldState) → job.count ≡ 1 → IsJob job → Reaches (opening job via) middle → Stops middle w → IsRunAlone job w
alone job via middle w one is reaches stops =
    let first = reaches.made ++ stops.first in
    let joined : IsRun (opening job via) (reaches.made ++ (stops.first ++ stops.last)) w = (runs_joined (opening job via) w reaches.made (stops.first ++ stops.last)).1 (middle, reaches.run, stops.run) in
    let run : IsRun (opening job via) (first ++ stops.last) w = subst (λ (made : List Made). IsRun (opening job via) made w) (sym (append_assoc reaches.made stops.first stops.last)) joined in
    record {
      via = via;
      first = first;
      last = stops.last;
      run = run;
      goes_on = All-append (λ (made : Made). ¬ IsHalt made.0) reaches.made stops.first reaches.goes_on stops.goes_on;
      ends = stops.ends;
      within_limit = (runs_spend job via (first ++ stops.last) w is run).0;
      spent = λ stop. one_spends_it job via (first ++ stops.last) w is run one stop;
    }

pub alone_from : (job : Job) (via : Move) (w middle w' : WorldState) → w ≡ opening job via → job.count ≡ 1 → IsJob job → Reaches w middle → Stops middle w' → IsRunAlone job w'
alone_from job via w middle w' opened one is reaches stops = alone job via middle w' one is (subst (λ (v : WorldState). Reaches v middle) opened reaches) stops
