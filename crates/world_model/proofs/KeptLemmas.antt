-- Worlds that runs reach are kept, and what quiet and kept worlds give.
use Rattle.std.proofs.Common.{◌≡◌, ◌≢◌, ◌⊎◌, ℕ, ◌+◌, ◌<◌, ◌≤◌, List, [], length, refl, sym, ap, ◌∙◌, subst, inl, inr, arith, Option, Some, None, eqb, ◌*◌, true, false, ◌∷◌, ⊎_elim}
use Rattle.std.specs.Prelude.{All, slice_get, sum_by, Vec, Contains, fold, min}
use Rattle.std.specs.declared.alloc.Global.{Global}
use Rattle.std.proofs.lemmas.List.Sums.{sum_by-le}
use Rattle.std.proofs.lemmas.Option.{slice_get_within, get_or_from_slice_get}
use Rattle.std.specs.FinMap as map
use Rattle.std.proofs.lemmas.Bool.{cases_lt, cases_Bool, cond-true, cond-false, ltb-true}
use Rattle.std.proofs.lemmas.List.Elements.{Contains-push}
use Rattle.memory.specs.declared.OutOfMemory.{OutOfMemory}
use Rattle.board.specs.declared.moves.Move.{Move}
use Rattle.board.specs.Boards.{BoardModel}
use Rattle.search_keys.specs.SearchKeys.{search_key}
use Rattle.outcomes.specs.declared.outcome.Cause.{Cause}
use Rattle.outcomes.specs.declared.outcome.Cause.TheVariants.{Limit as ForLimit, Memory as ForMemory, Start as ForStart, Cost as ForCost, Cut as ForCut}
use Rattle.outcomes.specs.declared.outcome.Want.{Want}
use Rattle.outcomes.specs.declared.outcome.Want.TheVariants.{Refused}
use Rattle.outcomes.specs.declared.outcome.Why.{Why}
use Rattle.outcomes.specs.declared.outcome.Why.TheVariants.{Exhausted}
use Rattle.outcomes.specs.declared.outcome.Outcome.{Outcome}
use Rattle.outcomes.specs.declared.outcome.Outcome.TheVariants.{Optimal, Unsolvable, Bounded}
use Rattle.world_model.specs.declared.parts.Item.{Item}
use Rattle.world_model.specs.declared.steps.Stop.{Stop}
use Rattle.world_model.specs.declared.steps.Stop.TheVariants.{Quiet, Limit, Memory, Start}
use Rattle.world_model.specs.Costs.{IsLeastWith, lesser}
use Rattle.world_model.specs.Frontiers.{IsInFrontier, IsLowest, IsReached}
use Rattle.world_model.specs.KeptLaws.{BoundRowsProve, BoundsAreGiven, CausesAreTheStops, KeptWorldsAreNeverCut, KeptWorldsAreQuiet, KeptWorldsHaveBegun, KnowsGoal, LimitBoundsAreSpent, MemoryBoundsAreWanted, QuietWorldsAreAtRest, RowsAreLeftOutForMemory, RunsStayWithinLimits, UnknownGoalsWantNoMemory, IsWithinReach, PlansAreWithinReach, BoundsAreHigh, FirstMovesAreKnown, PlansCostNoMore}
use Rattle.world_model.specs.Outcomes.{AreRowsFor, AsksForMemory, IsAloneAt, IsBounded, IsBoundOf, IsFollowedBack, IsGiven, IsStoppedAt, cause_of}
use Rattle.world_model.specs.Quiet.{IsKeptAt, IsQuiet, HasBegun, IsKept}
use Rattle.world_model.specs.Workers.{Lane, WorkerState, KnowsAs, Packet, Role, packet_for}
use Rattle.world_model.specs.Worlds.{IsUnderWay, Knows, LiesIn, WorldState, IsWorker, role_of}
use Rattle.world_model.specs.declared.limits.TheConstants.{GREATEST_GRANT}
use Rattle.world_model.specs.declared.parts.Known.{Known}
use Rattle.world_model.specs.declared.steps.Refusal.{Refusal}
use Rattle.world_model.specs.declared.steps.Step.{Step}
use Rattle.world_model.specs.declared.steps.Step.TheVariants.{Expand, Settle, Send, Deliver, Draw, Announce, Grant, Rest, Halt}
use Rattle.world_model.specs.BookSteps.{AtBook}
use Rattle.world_model.specs.Books.{BookState}
use Rattle.world_model.specs.Credit.{IsCredited, expansion_count}
use Rattle.world_model.specs.Expansions.{expansion, successor_items, with_closure, with_successor}
use Rattle.world_model.specs.Knowledge.{Knowledge, is_news, relaxation}
use Rattle.world_model.specs.Openings.{IsJob, Job, opening}
use Rattle.world_model.specs.Shapes.{IsShaped}
use Rattle.world_model.specs.Soundness.{IsSound}
use Rattle.world_model.specs.Steps.{IsRun, Next, with_lane}
use Rattle.world_model.specs.Turns.{Turn, turn}
use Rattle.world_model.specs.WorkerSteps.{AtLane}
use Rattle.world_model.proofs.ChangeLemmas.{all_from_places, none_in_empty, part_le, head_in, sum_set, knows_owned, offer_owned, entry, get_inserted, same_known, with_insert, changed, worker_there, worker_before}
use Rattle.world_model.proofs.OutcomeLemmas.{bound_rows, end_at}
use Rattle.world_model.proofs.RunLemmas.{runs_sound, quiet_bounds, limit_spent, quiet_true, known_is, first_at_0, none_bound, sum_first, opening_shaped, opening_sound}
use Rattle.world_model.proofs.StepCases.{Cases, BookChange, Accepts, next_cases, IsKeptByBook, draw_same, announce_same, grant_same, rest_same, halt_same}
use Rattle.world_model.proofs.ShapeKept.{some_unsent, steps_shaped}
use Rattle.world_model.proofs.StepsSound.{steps_sound, bound_back}
use Rattle.world_model.proofs.SoundLemmas.{knows_before}

-- ---- what quiet and kept worlds give, and the causes of bounds

module _ (w : WorldState) (quiet : IsQuiet w) where
  none_lies : (from to : ℕ) (packet : List Item) → LiesIn w from to packet → ⊥
  none_lies from to packet lies =
      let row = part_le (λ (r : List Lane). sum_by length r) w.lanes from lies.is.from_lanes lies.is.of_sender in
      let lane = part_le (λ (l : List (List Item)). length l) lies.is.from_lanes to lies.lane lies.is.of_receiver in
      let z = quiet.lanes in
      omega (arith, lies.lies.1)

  emptied : (xs : List (List Item)) (to : ℕ) (packet : List Item) → All (λ p. p ≡ []) xs → slice_get xs to ≡ Some packet → packet ≡ []
  emptied xs to packet all at = subst (λ (p : List Item). p ≡ []) (get_or_from_slice_get xs to packet packet at) (all to packet (slice_get_within xs to packet at))

  none_way : (to : ℕ) (item : Item) → ¬ IsUnderWay w to item
  none_way to item (inl has) = none_in_empty has.0.held item (quiet.workers to has.0 has.1).held has.2
  none_way to item (inr (inl has)) = none_in_empty has.2 item (emptied has.1.unsent to has.2 (quiet.workers has.0 has.1 has.3).unsent has.4) has.5
  none_way to item (inr (inr has)) = none_lies has.0 to has.1 has.2

no_purses : (xs : List WorkerState) → ((i : ℕ) (x : WorkerState) → slice_get xs i ≡ Some x → x.purse ≡ 0) → sum_by (λ (x : WorkerState). x.purse) xs ≡ 0
no_purses xs each = let le = sum_by-le (λ (x : WorkerState). x.purse) 0 xs (all_from_places (λ x. x.purse ≤ 0) xs (λ i x at. let none = each i x at in omega arith)) in omega arith

pub quiet_at_rest : QuietWorldsAreAtRest
quiet_at_rest w quiet = (none_way w quiet, (let purses = no_purses w.workers (λ i x at. (quiet.workers i x at).purse) in let lanes = quiet.lanes in omega arith))

-- which stop a cause tells of
limit_only : (stop : Option Stop) → cause_of stop ≡ ForLimit → stop ≡ Some Limit
limit_only (Some Limit) is = refl
limit_only (Some (Memory want)) is = absurd (cc)
limit_only (Some Start) is = absurd (cc)
limit_only (Some Quiet) is = absurd (cc)
limit_only None is = absurd (cc)

start_only : (stop : Option Stop) → cause_of stop ≡ ForStart → stop ≡ Some Start
start_only (Some Limit) is = absurd (cc)
start_only (Some (Memory want)) is = absurd (cc)
start_only (Some Start) is = refl
start_only (Some Quiet) is = absurd (cc)
start_only None is = absurd (cc)

cost_only : (stop : Option Stop) → cause_of stop ≡ ForCost → stop ≡ Some Quiet
cost_only (Some Limit) is = absurd (cc)
cost_only (Some (Memory want)) is = absurd (cc)
cost_only (Some Start) is = absurd (cc)
cost_only (Some Quiet) is = refl
cost_only None is = absurd (cc)

cut_only : (stop : Option Stop) → cause_of stop ≡ ForCut → stop ≡ None
cut_only (Some Limit) is = absurd (cc)
cut_only (Some (Memory want)) is = absurd (cc)
cut_only (Some Start) is = absurd (cc)
cut_only (Some Quiet) is = absurd (cc)
cut_only None is = refl

memory_only : (want : Want) (stop : Option Stop) → cause_of stop ≡ ForMemory want → stop ≡ Some (Memory want)
memory_only want (Some Limit) is = absurd (cc)
memory_only want (Some (Memory other)) is = let e : other ≡ want = cc in ap (λ (x : Want). Some (Memory x)) e
memory_only want (Some Start) is = absurd (cc)
memory_only want (Some Quiet) is = absurd (cc)
memory_only want None is = absurd (cc)

-- the cause is that of the stop, or memory was refused
abbrev IsCaused : WorldState → Option (ℕ × Vec Move Global) → Cause → Type 0
IsCaused w best cause = (cause ≡ cause_of w.book.stop) ⊎ ((best ≡ None) × ((refused : OutOfMemory) × (cause ≡ ForMemory (Refused refused))))

caused : (w : WorldState) (lowest reached : Option ℕ) (bound : ℕ) (best : Option (ℕ × Vec Move Global)) (cause : Cause) → IsStoppedAt (end_at w lowest reached) bound best cause ⊎ IsAloneAt (end_at w lowest reached) bound best cause → IsCaused w best cause
caused w lowest reached bound None cause (inl stopped) = inl stopped.2
caused w lowest reached bound (Some best) cause (inl stopped) = inl stopped.3
caused w lowest reached bound best cause (inr alone) = inr (alone.1, alone.2)

pub causes_stop : CausesAreTheStops
causes_stop w bound best cause given = (λ is. limit_at is by, λ is. start_at is by, λ is. cost_at is by, λ is. cut_at is by)
  where
    by : IsCaused w best cause
    by = caused w given.0 given.1 bound best cause given.4

    limit_at : cause ≡ ForLimit → IsCaused w best cause → w.book.stop ≡ Some Limit
    limit_at is (inl by) = limit_only w.book.stop (sym by ∙ is)
    limit_at is (inr lacks) = absurd (let e : ForLimit ≡ ForMemory (Refused lacks.1.0) = sym is ∙ lacks.1.1 in cc)

    start_at : cause ≡ ForStart → IsCaused w best cause → w.book.stop ≡ Some Start
    start_at is (inl by) = start_only w.book.stop (sym by ∙ is)
    start_at is (inr lacks) = absurd (let e : ForStart ≡ ForMemory (Refused lacks.1.0) = sym is ∙ lacks.1.1 in cc)

    cost_at : cause ≡ ForCost → IsCaused w best cause → w.book.stop ≡ Some Quiet
    cost_at is (inl why) = cost_only w.book.stop (sym why ∙ is)
    cost_at is (inr lacks) = absurd (let e : ForCost ≡ ForMemory (Refused lacks.1.0) = sym is ∙ lacks.1.1 in cc)

    cut_at : cause ≡ ForCut → IsCaused w best cause → w.book.stop ≡ None
    cut_at is (inl why) = cut_only w.book.stop (sym why ∙ is)
    cut_at is (inr lacks) = absurd (let e : ForCut ≡ ForMemory (Refused lacks.1.0) = sym is ∙ lacks.1.1 in cc)

pub limit_bounds : LimitBoundsAreSpent
limit_bounds w bound best credited given = limit_spent w credited ((causes_stop w bound best ForLimit given).0 refl)

-- where a goal has a cost, it is known
pub goal_there : (w : WorldState) (reached : Option ℕ) → IsReached w reached → reached ≢ None → KnowsGoal w
goal_there w None is some = absurd (some refl)
goal_there w (Some cost) is some = (is.0.0, is.0.1)

-- a bound is for memory where the run was halted so; or memory was refused, and there is no plan
pub memory_bounded : (w : WorldState) (bound : ℕ) (best : Option (ℕ × Vec Move Global)) (want : Want) → IsBounded w bound best (ForMemory want) → (w.book.stop ≡ Some (Memory want)) ⊎ ((best ≡ None) × ((refused : OutOfMemory) × (want ≡ Refused refused)))
memory_bounded w bound best want given = split (caused w given.0 given.1 bound best (ForMemory want) given.4)
  where
    split : IsCaused w best (ForMemory want) → (w.book.stop ≡ Some (Memory want)) ⊎ ((best ≡ None) × ((refused : OutOfMemory) × (want ≡ Refused refused)))
    split (inl by) = inl (memory_only want w.book.stop (sym by))
    split (inr lacks) = let e : want ≡ Refused lacks.1.0 = cc (lacks.1.1) in inr (lacks.0, (lacks.1.0, e))

-- a bound is asked memory for
asked : (w : WorldState) (lowest reached : Option ℕ) (bound : ℕ) → IsReached w reached → AsksForMemory (end_at w lowest reached) bound → KnowsGoal w ⊎ (w.task.sum w.task.start < bound)
asked w lowest reached bound is (inl some) = inl (goal_there w reached is some)
asked w lowest reached bound is (inr above) = inr above

pub bounds_given : BoundsAreGiven
bounds_given w bound best cause (Some rows) given = (given.0, given.1, given.2, given.3, inl given.4.0)
bounds_given w bound best cause None given = (given.0, given.1, given.2, given.3, inr given.4.0)

pub rows_left : RowsAreLeftOutForMemory
rows_left w bound best cause given = let alone = given.4.0 in (alone.1, alone.2, asked w given.0 given.1 bound given.3 given.4.1)

-- a run that stopped early for memory was halted so
pub stopped_for_memory : (w : WorldState) (lowest reached : Option ℕ) (bound : ℕ) (best : Option (ℕ × Vec Move Global)) (want : Want) → IsStoppedAt (end_at w lowest reached) bound best (ForMemory want) → w.book.stop ≡ Some (Memory want)
stopped_for_memory w lowest reached bound None want stopped = memory_only want w.book.stop (sym stopped.2)
stopped_for_memory w lowest reached bound (Some best) want stopped = memory_only want w.book.stop (sym stopped.3)

pub memory_bounds : MemoryBoundsAreWanted
memory_bounds w bound best want (Some rows) given = inl (stopped_for_memory w given.0 given.1 bound best want given.4.0)
memory_bounds w bound best want None given =
    let left = rows_left w bound best (ForMemory want) given in
    let e : want ≡ Refused left.1.0 = cc (left.1.1) in
    inr (left.0, refl, (left.1.0, e), left.2)

-- where nothing is in the frontier there is no lowest
no_lowest : (w : WorldState) (lowest : Option ℕ) → ((b : BoardModel) (cost : ℕ) → ¬ IsInFrontier w b cost) → IsLowest w lowest → lowest ≡ None
no_lowest w None empty least = refl
no_lowest w (Some f) empty least = absurd (empty least.0.0 least.0.1 least.0.2)

not_reached : (w : WorldState) (reached : Option ℕ) → ¬ KnowsGoal w → IsReached w reached → reached ≡ None
not_reached w None unknown is = refl
not_reached w (Some cost) unknown is = absurd (unknown (goal_there w (Some cost) is (λ e. cc)))

-- where the frontier is empty and the goal is unknown there is no bound
no_bound : (w : WorldState) (lowest reached : Option ℕ) (bound : ℕ) → lowest ≡ None → reached ≡ None → IsBoundOf (end_at w lowest reached) bound → ⊥
no_bound w None None bound low at is = let e : ◌≡◌ {A = Option ℕ} None (Some is.0) = is.1 in cc
no_bound w (Some f) reached bound low at is = cc
no_bound w lowest (Some c) bound low at is = cc

module _ (w : WorldState) (unknown : ¬ KnowsGoal w) where
  exhausted : ((b : BoardModel) (cost : ℕ) → ¬ IsInFrontier w b cost) → (outcome : Outcome) → IsGiven w outcome → outcome ≡ Unsolvable Exhausted
  exhausted empty (Optimal cost plan rows) given = absurd (no_bound w given.0 given.1 cost (no_lowest w given.0 empty given.2) (not_reached w given.1 unknown given.3) given.4.0)
  exhausted empty (Unsolvable why) given = ap (λ (y : Why). Unsolvable y) given.4.1
  exhausted empty (Bounded bound None cause (Some rows)) given = absurd (no_bound w given.0 given.1 bound (no_lowest w given.0 empty given.2) (not_reached w given.1 unknown given.3) given.4.0.0)
  exhausted empty (Bounded bound (Some best) cause (Some rows)) given = absurd (no_bound w given.0 given.1 bound (no_lowest w given.0 empty given.2) (not_reached w given.1 unknown given.3) given.4.0.0)
  exhausted empty (Bounded bound best cause None) given = absurd (no_bound w given.0 given.1 bound (no_lowest w given.0 empty given.2) (not_reached w given.1 unknown given.3) given.4.0.0)

  -- the rows of the start's sum are none
  none_for_sum : (rows : Vec (BoardModel × ℕ) Global) → AreRowsFor w (w.task.sum w.task.start) rows.items → rows.items ≡ []
  none_for_sum rows (inl few) = few.1
  none_for_sum rows (inr many) = absurd (omega (arith, many.0))

  with_rows : (best : Option (ℕ × Vec Move Global)) (cause : Cause) (rows : Option (Vec (BoardModel × ℕ) Global)) → IsGiven w (Bounded (w.task.sum w.task.start) best cause rows) → (listed : Vec (BoardModel × ℕ) Global) × (rows ≡ Some listed) × (listed.items ≡ [])
  with_rows best cause (Some rows) given = (rows, refl, none_for_sum rows given.4.1)
  with_rows best cause None given = absurd (none_asked (asked w given.0 given.1 (w.task.sum w.task.start) given.3 given.4.1))
    where
      none_asked : KnowsGoal w ⊎ (w.task.sum w.task.start < w.task.sum w.task.start) → ⊥
      none_asked (inl known) = unknown known
      none_asked (inr above) = omega arith

pub unknown_goals : UnknownGoalsWantNoMemory
unknown_goals w unknown = (λ outcome empty given. exhausted w unknown empty outcome given, with_rows w unknown)

pub bound_rows_prove : BoundRowsProve
bound_rows_prove w bound best cause rows shaped sound lower given = (bound_rows w bound best cause rows shaped sound lower given).proves

-- kept worlds
not_cut : (cause : Cause) (best : Option (ℕ × Vec Move Global)) → (cause ≡ ForCost) ⊎ ((best ≡ None) × ((refused : OutOfMemory) × (cause ≡ ForMemory (Refused refused)))) → (cause ≢ ForCut) × (cause ≢ ForStart)
not_cut cause best (inl cost) = (λ e. let e' : ForCost ≡ ForCut = sym cost ∙ e in cc, λ e. let e' : ForCost ≡ ForStart = sym cost ∙ e in cc)
not_cut cause best (inr memory) = (λ e. let e' : ForMemory (Refused memory.1.0) ≡ ForCut = sym memory.1.1 ∙ e in cc, λ e. let e' : ForMemory (Refused memory.1.0) ≡ ForStart = sym memory.1.1 ∙ e in cc)

plain : (cause other : Cause) → cause ≡ other → other ≢ ForCut → other ≢ ForStart → (cause ≢ ForCut) × (cause ≢ ForStart)
plain cause other is cut start = (λ e. cut (sym is ∙ e), λ e. start (sym is ∙ e))

lacking : (cause : Cause) (refused : OutOfMemory) → cause ≡ ForMemory (Refused refused) → (cause ≢ ForCut) × (cause ≢ ForStart)
lacking cause refused is = plain cause (ForMemory (Refused refused)) is (λ e. cc) (λ e. cc)

pub kept_never_cut : KeptWorldsAreNeverCut
kept_never_cut w bound best cause shaped sound kept lower given = at w.book.stop refl kept
  where
    by_stop : (stop : Option Stop) → w.book.stop ≡ stop → (other : Cause) → cause_of stop ≡ other → other ≢ ForCut → other ≢ ForStart → IsCaused w best cause → (cause ≢ ForCut) × (cause ≢ ForStart)
    by_stop stop is other same cut start (inl by) = plain cause other (by ∙ ap cause_of is ∙ same) cut start
    by_stop stop is other same cut start (inr lacks) = lacking cause lacks.1.0 lacks.1.1

    at : (stop : Option Stop) → w.book.stop ≡ stop → IsKeptAt w stop → (cause ≢ ForCut) × (cause ≢ ForStart)
    at None is kept = absurd kept
    at (Some Quiet) is kept = not_cut cause best (quiet_bounds w bound best cause shaped sound kept lower is given)
    at (Some Limit) is kept = by_stop (Some Limit) is ForLimit refl (λ e. cc) (λ e. cc) (caused w given.0 given.1 bound best cause given.4)
    at (Some (Memory want)) is kept = by_stop (Some (Memory want)) is (ForMemory want) refl (λ e. cc) (λ e. cc) (caused w given.0 given.1 bound best cause given.4)
    at (Some Start) is kept = absurd kept

pub kept_quiet : KeptWorldsAreQuiet
kept_quiet w kept stop = subst (IsKeptAt w) stop kept

pub kept_begun : KeptWorldsHaveBegun
kept_begun w kept stop more = (subst (IsKeptAt w) stop kept) more

pub runs_within : RunsStayWithinLimits
runs_within job via made w is run =
    let h = runs_sound job via made w is run in
    let shaped = h.0 in (
      λ from to lane at. let l = shaped.lanes from to lane at in (l.few, λ packet has. let p = l.packets packet has in (p.0, p.1.few)),
      λ i worker at. let x = shaped.workers i worker at in (x.held.few, λ to packet there. (x.unsent to packet there).few),
      λ i b known knows. let own = knows_owned w shaped i b known knows in (own.0, own.1, λ goal. h.1.goal_kept i known (subst (λ (p : BoardModel). Knows w i p known) goal knows)),
      offer_owned w shaped,
    )

within_reach : (w : WorldState) (lowest reached : Option ℕ) (cost : ℕ) (plan : Vec Move Global) → IsReached w reached → IsFollowedBack (end_at w lowest reached) cost plan.items → IsWithinReach w cost plan
within_reach w lowest reached cost plan at followed =
    let there : IsReached w (Some followed.goal) = subst (IsReached w) followed.is at in
    (followed.leads, followed.traced, (there.0.0, there.0.1, omega (arith, followed.within, there.0.2)))

-- a plan beside a bound is such a one
beside : (w : WorldState) (bound : ℕ) (best : ℕ × Vec Move Global) (cause : Cause) (lowest reached : Option ℕ) → IsReached w reached → IsStoppedAt (end_at w lowest reached) bound (Some best) cause ⊎ IsAloneAt (end_at w lowest reached) bound (Some best) cause → IsWithinReach w best.0 best.1
beside w bound best cause lowest reached at (inl stopped) = within_reach w lowest reached best.0 best.1 at stopped.1
beside w bound best cause lowest reached at (inr alone) = absurd (let e : ◌≡◌ {A = Option (ℕ × Vec Move Global)} (Some best) None = alone.1 in cc)

pub plans_within : PlansAreWithinReach
plans_within = (
  λ w cost plan rows given. within_reach w given.0 given.1 cost plan given.3 given.4.1,
  λ w bound best cause given. beside w bound best cause given.0 given.1 given.3 given.4,
)

pub plans_cost : PlansCostNoMore
plans_cost w cost plan within = within.2

pub first_moves : FirstMovesAreKnown
first_moves = (λ w b q by. by, λ w b q m plan by. by)

-- the smaller of two least numbers is at least what both are
lesser_high : (P Q : ℕ → Type 0) (x y : Option ℕ) (m n : ℕ) → lesser x y ≡ Some m → IsLeastWith P x → IsLeastWith Q y → ((k : ℕ) → P k → n ≤ k) → ((k : ℕ) → Q k → n ≤ k) → n ≤ m
lesser_high P Q None None m n is p q above above' = absurd (let e : ◌≡◌ {A = Option ℕ} None (Some m) = is in cc)
lesser_high P Q None (Some b) m n is p q above above' = let e : b ≡ m = cc in let le = above' b q.0 in omega arith
lesser_high P Q (Some a) None m n is p q above above' = let e : a ≡ m = cc in let le = above a p.0 in omega arith
lesser_high P Q (Some a) (Some b) m n is p q above above' = let e : min a b ≡ m = cc in let le = above a p.0 in let le' = above' b q.0 in omega arith

-- and it is one of the two
lesser_one : (P Q : ℕ → Type 0) (x y : Option ℕ) (m : ℕ) → lesser x y ≡ Some m → IsLeastWith P x → IsLeastWith Q y → P m ⊎ Q m
lesser_one P Q None None m is p q = absurd (let e : ◌≡◌ {A = Option ℕ} None (Some m) = is in cc)
lesser_one P Q None (Some b) m is p q = let e : b ≡ m = cc in inr (subst Q e q.0)
lesser_one P Q (Some a) None m is p q = let e : a ≡ m = cc in inl (subst P e p.0)
lesser_one P Q (Some a) (Some b) m is p q =
    let e : min a b ≡ m = cc in
    ⊎_elim
    (λ (lt : a < b). let e' : a ≡ m = omega (arith, e, lt) in inl (subst P e' p.0))
    (λ (ge : b ≤ a). let e' : b ≡ m = omega (arith, e, ge) in inr (subst Q e' q.0))
    (cases_lt a b)

module _ (w : WorldState) (lowest reached : Option ℕ) (is_lowest : IsLowest w lowest) (is_reached : IsReached w reached) where
  abbrev IsAtFrontier : ℕ → Type 0
  IsAtFrontier f = (b : BoardModel) × (cost : ℕ) × IsInFrontier w b cost × (f ≡ cost + w.task.sum b)

  abbrev IsKnownGoal : ℕ → Type 0
  IsKnownGoal cost = (known : Known) × Knows w (w.owner w.task.goal) w.task.goal known × (known.cost ≡ cost)

  bound_one : (bound : ℕ) → IsBoundOf (end_at w lowest reached) bound → (bound ≡ w.task.sum w.task.start) ⊎ IsAtFrontier bound ⊎ IsKnownGoal bound
  bound_one bound is =
      let e = is.2 in
      ⊎_elim
      (λ (lt : w.task.sum w.task.start < is.0). let same : is.0 ≡ bound = omega (arith, e, lt) in inr (subst (λ n. IsAtFrontier n ⊎ IsKnownGoal n) same (lesser_one IsAtFrontier IsKnownGoal lowest reached is.0 is.1 is_lowest is_reached)))
      (λ (ge : is.0 ≤ w.task.sum w.task.start). let same : bound ≡ w.task.sum w.task.start = omega (arith, e, ge) in inl same)
      (cases_lt (w.task.sum w.task.start) is.0)

  bound_high : (bound : ℕ) → IsBoundOf (end_at w lowest reached) bound → (w.task.sum w.task.start ≤ bound) × ((n : ℕ) → ((b : BoardModel) (cost : ℕ) → IsInFrontier w b cost → n ≤ cost + w.task.sum b) → ((known : Known) → Knows w (w.owner w.task.goal) w.task.goal known → n ≤ known.cost) → n ≤ bound)
  bound_high bound is = (
    let e = is.2 in omega arith,
    λ n frontier goal.
        let le : n ≤ is.0 =
        lesser_high IsAtFrontier IsKnownGoal lowest reached is.0 n is.1 is_lowest is_reached (λ k h. let le' = frontier h.0 h.1 h.2 in omega (arith, h.3)) (λ k h. let le' = goal h.0 h.1 in omega (arith, h.2)) in
        let e = is.2 in omega arith,
  )

  bound_in : (bound : ℕ) (best : Option (ℕ × Vec Move Global)) (cause : Cause) → IsStoppedAt (end_at w lowest reached) bound best cause ⊎ IsAloneAt (end_at w lowest reached) bound best cause → IsBoundOf (end_at w lowest reached) bound
  bound_in bound None cause (inl stopped) = stopped.0
  bound_in bound (Some best) cause (inl stopped) = stopped.0
  bound_in bound best cause (inr alone) = alone.0

pub bounds_high : BoundsAreHigh
bounds_high w bound best cause given =
    let is = bound_in w given.0 given.1 given.2 given.3 bound best cause given.4 in
    let high = bound_high w given.0 given.1 given.2 given.3 bound is in
    (high.0, high.1, bound_one w given.0 given.1 given.2 given.3 bound is)

-- ---- in a run nothing has happened yet, or the start is expanded; so a world that it reaches is kept

-- a relaxation leaves what is known at 0
relax_zero : (known : Knowledge) (item : Item) (key : ℕ) (old : Known) → map.get known key ≡ Some old → old.cost ≡ 0 → map.get (relaxation known item) key ≡ Some old
relax_zero known item key old at zero =
    ⊎_elim
    (λ (news : is_news (map.get known (search_key item.board)) item.cost ≡ true).
    ap (λ (k : Knowledge). map.get k key) (cond-true _ _ _ news)
    ∙ ⊎_elim (λ same. same ∙ at)
    (λ new. let there : is_news (Some old) item.cost ≡ true = sym (ap (λ (o : Option Known). is_news o item.cost) (ap (map.get known) (sym new.0) ∙ at)) ∙ news in let lt = ltb-true item.cost old.cost there in absurd (omega arith))
    (with_insert known (search_key item.board) key (entry item)))
    (λ (old_news : is_news (map.get known (search_key item.board)) item.cost ≡ false). ap (λ (k : Knowledge). map.get k key) (cond-false _ _ _ old_news) ∙ at)
    (cases_Bool (is_news (map.get known (search_key item.board)) item.cost))

-- and so does an expansion's fold
fold_zero : (role : Role) (items : List Item) (x : WorkerState) (key : ℕ) (old : Known) → map.get x.known key ≡ Some old → old.cost ≡ 0 → map.get (fold (with_successor role) x items).known key ≡ Some old
fold_zero role [] x key old at zero = at
fold_zero role (item ∷ items) x key old at zero =
    fold_zero role items (with_successor role x item) key old
    (⊎_elim
    (λ (mine : eqb (role.owner item.board) role.me ≡ true). ap (λ (y : WorkerState). map.get y.known key) (cond-true _ _ _ mine) ∙ relax_zero x.known item key old at zero)
    (λ (other : eqb (role.owner item.board) role.me ≡ false). ap (λ (y : WorkerState). map.get y.known key) (cond-false _ _ _ other) ∙ at)
    (cases_Bool (eqb (role.owner item.board) role.me)))
    zero

-- the worker has expanded the start at 0
abbrev HasStart : WorldState → WorkerState → Type 0
HasStart w worker = (known : Known) × KnowsAs worker w.task.start known × (known.expanded ≡ true) × (known.cost ≡ 0)

-- nothing has happened to the boards yet
pub record IsFresh (w : WorldState) : Type 0 where
  pub known : (i : ℕ) (b : BoardModel) (known : Known) → Knows w i b known → (b ≡ w.task.start) × (known.cost ≡ 0)
  pub none : (to : ℕ) (item : Item) → ¬ IsUnderWay w to item
  pub unexpanded : expansion_count w ≡ 0

-- or some worker has expanded the start
abbrev pub IsBegun : WorldState → Type 0
IsBegun w = (i : ℕ) × (worker : WorkerState) × IsWorker w i worker × HasStart w worker

abbrev pub HasBegunOrNot : WorldState → Type 0
HasBegunOrNot w = IsFresh w ⊎ IsBegun w

-- a step that leaves each worker what it knows at 0 leaves the world begun
begun_by : (w : WorldState) (i : ℕ) (worker : WorkerState) → IsWorker w i worker → (new : WorkerState) (book : BookState) (lanes : List (List Lane)) → (HasStart w worker → HasStart w new) → IsBegun w → IsBegun (changed w i new book lanes)
begun_by w i worker is new book lanes keeps begun =
    ⊎_elim
    (λ (h : (begun.0 ≡ i) × (begun.1 ≡ worker) × IsWorker (changed w i new book lanes) begun.0 new). (begun.0, new, h.2, keeps (subst (HasStart w) h.1 begun.3)))
    (λ (h : (begun.0 ≢ i) × IsWorker (changed w i new book lanes) begun.0 begun.1). (begun.0, begun.1, h.1, begun.3))
    (worker_before w i worker is new book lanes begun.0 begun.1 begun.2)

-- an expansion keeps the start expanded
expand_keeps : (w : WorldState) (i : ℕ) (worker : WorkerState) (b : BoardModel) (known : Known) → KnowsAs worker b known → HasStart w worker → HasStart w (expansion (role_of w i) worker b known)
expand_keeps w i worker b known knows has =
    ⊎_elim
    (λ same. (has.0, fold_zero (role_of w i) (successor_items w.task.rule b known.cost) (with_closure worker b known) (search_key w.task.start) has.0 (same ∙ has.1) has.3, has.2, has.3))
    (λ new.
    let e = same_known worker.known (search_key w.task.start) has.0 known has.1 (ap (map.get worker.known) new.0 ∙ knows) in
    let zero : known.cost ≡ 0 = sym (ap (λ (k : Known). k.cost) e) ∙ has.3 in
    (record known { expanded = true }, fold_zero (role_of w i) (successor_items w.task.rule b known.cost) (with_closure worker b known) (search_key w.task.start) (record known { expanded = true }) new.1 zero, refl, zero))
    (with_insert worker.known (search_key b) (search_key w.task.start) (record known { expanded = true }))

-- the expansion of the start
expand_begins : (w : WorldState) (i : ℕ) (worker : WorkerState) (known : Known) → known.cost ≡ 0 → HasStart w (expansion (role_of w i) worker w.task.start known)
expand_begins w i worker known zero = (
  record known { expanded = true },
  fold_zero (role_of w i) (successor_items w.task.rule w.task.start known.cost) (with_closure worker w.task.start known) (search_key w.task.start) (record known { expanded = true }) (get_inserted worker.known (search_key w.task.start) (record known { expanded = true })) zero,
  refl,
  zero,
)

same_start : (w : WorldState) (worker new : WorkerState) → new.known ≡ worker.known → HasStart w worker → HasStart w new
same_start w worker new same has = (has.0, ap (λ (k : Knowledge). map.get k (search_key w.task.start)) same ∙ has.1, has.2, has.3)

first_of : (packet : Packet) → ¬ (packet ≡ []) → (item : Item) × Contains packet item
first_of [] some = absurd (some refl)
first_of (item ∷ rest) some = (item, head_in item rest)

not_empty : (packet : Packet) → 1 ≤ length packet → ¬ (packet ≡ [])
not_empty packet some none = let n = ap length none in omega arith

on_book : (w w' : WorldState) (i : ℕ) (Change : AtBook → AtBook → Type 0) → ((x y : AtBook) → Change x y → IsKeptByBook x y) → IsSound w → HasBegunOrNot w → BookChange i Change w w' → HasBegunOrNot w'
on_book w w' i Change keeps sound before step = subst HasBegunOrNot (sym step.is) (at before)
  where
    kept : IsKeptByBook (record { worker = step.worker; book = w.book }) step.new
    kept = keeps (record { worker = step.worker; book = w.book }) step.new step.change

    at : HasBegunOrNot w → HasBegunOrNot (changed w i step.new.worker step.new.book w.lanes)
    at (inl fresh) = inl (record {
      known = λ j b known knows. fresh.known j b known (knows_before w i step.worker step.at step.new.worker step.new.book w.lanes kept.worker.known j b known knows);
      none = λ to item way. fresh.none to item (bound_back w sound i step.worker step.at step.new.worker kept.worker step.new.book to item way);
      unexpanded = let e = sum_set (λ (x : WorkerState). x.expansions) w.workers i step.worker step.new.worker step.at in let same = kept.expansions in let zero = fresh.unexpanded in omega arith;
    })
    at (inr begun) = inr (begun_by w i step.worker step.at step.new.worker step.new.book w.lanes (same_start w step.worker step.new.worker kept.worker.known) begun)

accepts_begun : (step : Step) (w w' : WorldState) → IsShaped w → IsSound w → HasBegunOrNot w → Accepts step w w' → HasBegunOrNot w'
accepts_begun (Expand i) w w' shaped sound (inl fresh) step =
    let knows : Knows w i step.change.board step.change.known = record { worker = step.worker; is = step.at; board = step.change.next.opens.board; knows = step.change.next.opens.knows } in
    let only = fresh.known i step.change.board step.change.known knows in
    let begins : HasStart w step.new = subst (HasStart w) (sym (step.change.is ∙ ap (λ (b : BoardModel). expansion (role_of w i) step.worker b step.change.known) only.0)) (expand_begins w i step.worker step.change.known only.1) in
    subst HasBegunOrNot (sym step.is) (inr (i, step.new, worker_there w i step.worker step.at step.new w.book w.lanes, begins))
accepts_begun (Expand i) w w' shaped sound (inr begun) step =
    subst HasBegunOrNot (sym step.is)
    (inr (begun_by w i step.worker step.at step.new w.book w.lanes (λ has. subst (HasStart w) (sym step.change.is) (expand_keeps w i step.worker step.change.board step.change.known step.change.next.opens.knows has)) begun))
accepts_begun (Settle i) w w' shaped sound (inl fresh) step =
    absurd (fresh.none i step.change.last (inl (step.worker, step.at, subst (λ (xs : List Item). Contains xs step.change.last) (sym step.change.held) (Contains-push step.change.front step.change.last))))
accepts_begun (Settle i) w w' shaped sound (inr begun) step =
    subst HasBegunOrNot (sym step.is)
    (inr (begun_by w i step.worker step.at step.new w.book w.lanes
    (λ has. subst (HasStart w) (sym step.change.is) (has.0, relax_zero step.worker.known step.change.last (search_key w.task.start) has.0 has.1 has.3, has.2, has.3))
    begun))
accepts_begun (Send i j) w w' shaped sound (inl fresh) step =
    let item = first_of (packet_for step.worker j) step.change.some in
    absurd (fresh.none j item.0 (inr (inl (i, step.worker, packet_for step.worker j, step.at, some_unsent (slice_get step.worker.unsent j) step.change.some, item.1))))
accepts_begun (Send i j) w w' shaped sound (inr begun) step =
    subst HasBegunOrNot (sym step.is)
    (inr (begun_by w i step.worker step.at step.new.worker w.book (with_lane w.lanes i j step.new.lane) (same_start w step.worker step.new.worker (ap (λ (x : AtLane). x.worker.known) step.change.is)) begun))
accepts_begun (Deliver i j) w w' shaped sound (inl fresh) step =
    let inside = subst (λ (l : Lane). Contains l step.change.packet) (sym step.change.first) (head_in step.change.packet step.change.rest) in
    let some = ((shaped.lanes j i step.lane step.at_lane).packets step.change.packet inside).0 in
    let item = first_of step.change.packet (not_empty step.change.packet some) in
    absurd (fresh.none i item.0 (inr (inr (j, step.change.packet, record { lane = step.lane; is = step.at_lane; lies = inside }, item.1))))
accepts_begun (Deliver i j) w w' shaped sound (inr begun) step =
    subst HasBegunOrNot (sym step.is)
    (inr (begun_by w i step.worker step.at step.new.worker w.book (with_lane w.lanes j i step.new.lane) (same_start w step.worker step.new.worker (ap (λ (x : AtLane). x.worker.known) step.change.is)) begun))
accepts_begun (Draw i) w w' shaped sound before step = on_book w w' i _ draw_same sound before step
accepts_begun (Announce i) w w' shaped sound before step = on_book w w' i _ (announce_same (role_of w i)) sound before step
accepts_begun (Grant i) w w' shaped sound before step = on_book w w' i _ (grant_same (role_of w i)) sound before step
accepts_begun (Rest i) w w' shaped sound before step = on_book w w' i _ (rest_same (role_of w i)) sound before step
accepts_begun (Halt i cause) w w' shaped sound before step = on_book w w' i _ (halt_same cause) sound before step

steps_begun : (step : Step) (it : Turn WorldState Refusal) → Next step it → IsShaped it.before → IsSound it.before → HasBegunOrNot it.before → HasBegunOrNot it.after
steps_begun step it next shaped sound before = split (next_cases step it next)
  where
    split : Cases it (Accepts step it.before it.after) → HasBegunOrNot it.after
    split (inl out) = subst HasBegunOrNot (sym out.1.1) before
    split (inr done) = accepts_begun step it.before it.after shaped sound before done.1

run_begun : (w : WorldState) (made : List (Step × Option Refusal)) (w' : WorldState) → IsRun w made w' → IsShaped w → IsSound w → HasBegunOrNot w → HasBegunOrNot w'
run_begun w [] w' run shaped sound before = subst HasBegunOrNot (sym run) before
run_begun w (first ∷ rest) w' run shaped sound before =
    let it = turn w first.1 run.0 in
    run_begun run.0 rest w' run.2 (steps_shaped first.0 it run.1 shaped) (steps_sound first.0 it run.1 shaped sound) (steps_begun first.0 it run.1 shaped sound before)

module _ (job : Job) (via : Move) (made : List (Step × Option Refusal)) (w : WorldState) (is : IsJob job) (run : IsRun (opening job via) made w) where
  fresh : IsFresh (opening job via)
  fresh = record {
    known = λ i b known knows. let h = known_is job via is i b known knows in (h.0, ap (λ (k : Known). k.cost) h.1 ∙ first_at_0 job via is);
    none = none_bound job via is;
    unexpanded = sum_first job via is (λ x. x.expansions) refl;
  }

  begun : HasBegunOrNot w
  begun = run_begun (opening job via) made w run (opening_shaped job via is) (opening_sound job via is) (inl fresh)

  spent_begins : IsShaped w → IsCredited w → w.book.stop ≡ Some Limit → GREATEST_GRANT * length w.workers < w.book.limit → HasBegunOrNot w → HasBegun w
  spent_begins shaped credited stop more (inl none) = let h = (limit_spent w credited stop).1 in let zero = none.unexpanded in let some = shaped.count.0 in absurd (omega arith)
  spent_begins shaped credited stop more (inr has) = (has.0, has.3.0, record { worker = has.1; is = has.2; board = (shaped.task.start, shaped.task.sides); knows = has.3.1 }, has.3.2)

  kept_at : (stop : Option Stop) → w.book.stop ≡ stop → w.book.stop ≢ None → w.book.stop ≢ Some Start → IsKeptAt w stop
  kept_at None at ended begins = absurd (ended at)
  kept_at (Some Quiet) at ended begins = let good = runs_sound job via made w is run in quiet_true w good.0 good.2 at
  kept_at (Some Limit) at ended begins = λ more. let good = runs_sound job via made w is run in spent_begins good.0 good.2 at more begun
  kept_at (Some (Memory want)) at ended begins = tt
  kept_at (Some Start) at ended begins = absurd (begins at)

  pub runs_kept : w.book.stop ≢ None → w.book.stop ≢ Some Start → IsKept w
  runs_kept ended begins = kept_at w.book.stop refl ended begins
