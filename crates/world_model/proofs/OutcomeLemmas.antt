-- What a sound world says of plans, and the outcome that it gives.
use Rattle.std.proofs.Common.{◌≡◌, ◌≢◌, ◌⊎◌, ℕ, ◌+◌, ◌<◌, ◌≤◌, true, false, List, [], ◌∷◌, refl, sym, subst, inl, inr, ⊎_elim, arith, zero, suc, ◌++◌, length, get_or, ap, ◌∙◌, Option, Some, None, ◌^◌}
use Rattle.std.proofs.lemmas.Bool.{cases_lt, cases_Bool, cases_eq}
use Rattle.std.specs.Prelude.{min, Contains, AllPairs, Vec, max}
use Rattle.std.specs.declared.alloc.Global.{Global}
use Rattle.std.proofs.lemmas.List.Elements.{Contains-get_or, Contains-append_left, Contains-push, Contains-push_cases}
use Rattle.std.specs.FinMap as map
use Rattle.std.proofs.lemmas.List.Quantifiers.{all_pairs_push}
use Rattle.board.specs.declared.moves.Move.{Move}
use Rattle.board.specs.Boards.{BoardModel, IsBoard}
use Rattle.board.specs.Plans.{Leads, NothingBelow}
use Rattle.board.specs.Rows.{IsLowerBound, HasRow, Proves}
use Rattle.board.specs.Moves.{Moves}
use Rattle.board.proofs.PlanLemmas.{one_more}
use Rattle.board.specs.Keys.{key_of}
use Rattle.board.specs.declared.costs.TheConstants.{GREATEST_COST, GREATEST_EXPANDED_COST}
use Rattle.board.specs.Shapes.{cell_count}
use Rattle.board.proofs.KeyLemmas.{key_of-lt}
use Rattle.search_keys.specs.SearchKeys.{search_key}
use Rattle.outcomes.specs.Outcomes.{Answers, AllowsCause, AllowsWhy, AreRowsOf, HasProof, IsAboveSums, IsBestPlan, IsTrueBound, best_of}
use Rattle.outcomes.specs.declared.outcome.Cause.{Cause}
use Rattle.outcomes.specs.declared.outcome.Outcome.{Outcome}
use Rattle.outcomes.specs.declared.outcome.Outcome.TheVariants.{Optimal, Unsolvable, Bounded}
use Rattle.outcomes.specs.declared.outcome.Why.TheVariants.{Exhausted}
use Rattle.world_model.specs.declared.parts.Item.{Item}
use Rattle.world_model.specs.declared.parts.Known.{Known}
use Rattle.world_model.specs.Frontiers.{IsInFrontier, IsLowest, IsReached}
use Rattle.world_model.specs.Shapes.{IsShaped}
use Rattle.world_model.specs.Soundness.{IsCovered, IsSound, HasPredecessor, IsLedTo}
use Rattle.world_model.specs.Worlds.{IsUnderWay, Knows, WorldState}
use Rattle.world_model.specs.KeptLaws.{LastMovesLeadBack, WorldsGiveOutcomes}
use Rattle.world_model.specs.Outcomes.{IsByLastMoves, AreRowsBelow, AreRowsFor, End, IsAloneAt, IsBoundOf, IsFollowedBack, IsGiven, IsGivenAt, IsKnownBelow, IsStoppedAt, cause_of, cause_at}
use Rattle.world_model.specs.declared.steps.Stop.{Stop}
use Rattle.world_model.specs.declared.steps.Stop.TheVariants.{Quiet, Limit, Memory, Start}
use Rattle.world_model.specs.Costs.{IsLeastWith, lesser, limit_of}
use Rattle.world_model.specs.Laws.{BoundsAreTrue, OutcomesAnswer, PlansLeadThere}
use Rattle.world_model.specs.Quiet.{IsQuiet, QuietIsTrueIn}
use Rattle.world_model.specs.Workers.{WorkerState}
use Rattle.world_model.proofs.ChangeLemmas.{offer_owned, knows_owned, move_low, plan_short, none_in, same_key, same_known}
use Rattle.world_model.proofs.RowLists.{rows_exist}

-- ---- what a sound world says of plans

-- n is no more than each cost plus sum of the frontier
abbrev pub BelowFrontier : WorldState → ℕ → Type 0
BelowFrontier w n = (b : BoardModel) (cost : ℕ) → IsInFrontier w b cost → n ≤ cost + w.task.sum b

-- n is no more than the goal's cost, where its owner knows it
abbrev pub BelowReached : WorldState → ℕ → Type 0
BelowReached w n = (known : Known) → Knows w (w.owner w.task.goal) w.task.goal known → n ≤ known.cost

-- an offer that covers a board is in the frontier
pub offer_low : (w : WorldState) (n : ℕ) → BelowFrontier w n → (b : BoardModel) (cost : ℕ) → ((to : ℕ) × (offer : Item) × IsUnderWay w to offer × (offer.board ≡ b) × (offer.cost ≤ cost)) → n ≤ cost + w.task.sum b
offer_low w n low b cost has =
    let here = low b has.1.cost (inr (has.0, has.1, has.2, has.3, refl)) in
    let below = has.4 in
    omega arith

module _ (w : WorldState) (shaped : IsShaped w) (sound : IsSound w) (bound : IsLowerBound w.task.rule w.task.sum w.task.goal) (n : ℕ) (low : BelowFrontier w n) (reached : BelowReached w n) where
  offered : (b : BoardModel) (cost : ℕ) → ((to : ℕ) × (offer : Item) × IsUnderWay w to offer × (offer.board ≡ b) × (offer.cost ≤ cost)) → (plan : List Move) (j : ℕ) → Leads w.task.rule b plan w.task.goal j → n ≤ cost + j
  offered b cost has plan j leads =
      let here = offer_low w n low b cost has in
      let board : IsBoard b = subst IsBoard has.3 (offer_owned w shaped has.0 has.1 has.2).0.0 in
      let sum = bound b board plan j leads in
      omega arith

  -- from a board that is covered at a cost, each plan adds up to n at least
  from_covered : (b : BoardModel) (cost : ℕ) → IsCovered w b cost → (plan : List Move) (j : ℕ) → Leads w.task.rule b plan w.task.goal j → n ≤ cost + j
  from_covered b cost (inr has) [] j leads = offered b cost has [] j leads
  from_covered b cost (inr has) (m ∷ plan) j leads = offered b cost has (m ∷ plan) j leads
  from_covered b cost (inl has) [] j leads =
      let known = reached has.0 (subst (λ x. Knows w (w.owner x) x has.0) (sym leads.0) has.1) in
      let below = has.2 in
      omega arith
  from_covered b cost (inl has) (m ∷ plan) j leads =
      ⊎_elim
      (λ (open_board : has.0.expanded ≡ false).
      ⊎_elim
      (λ (lt : cost + j < n).
      let other : b ≢ w.task.goal = λ same. let known = reached has.0 (subst (λ x. Knows w (w.owner x) x has.0) same has.1) in omega (arith, has.2) in
      let here = low b has.0.cost (inl (w.owner b, has.0, has.1, open_board, other, refl)) in
      let sum = bound b has.1.board.0 (m ∷ plan) j leads in
      omega (arith, has.2))
      (λ (le : n ≤ cost + j). le)
      (cases_lt (cost + j) n))
      (λ (closed : has.0.expanded ≡ true).
      let next = sound.successors (w.owner b) b has.0 has.1 closed m leads.0 leads.1 leads.3 in
      let rest = from_covered leads.0 (has.0.cost + leads.1) next plan leads.2 leads.4 in
      omega (arith, has.2, leads.5))
      (turned (cases_Bool has.0.expanded))
    where
      turned : (has.0.expanded ≡ true) ⊎ (has.0.expanded ≡ false) → (has.0.expanded ≡ false) ⊎ (has.0.expanded ≡ true)
      turned (inl e) = inr e
      turned (inr e) = inl e

  pub frontier_bounds : NothingBelow w.task.rule w.task.start w.task.goal n
  frontier_bounds plan j leads = let h = from_covered w.task.start 0 sound.start plan j leads in omega arith

-- ---- a plan leads to each board that a sound world knows, or has under way, at no more than the cost that it has there

module _ (w : WorldState) (shaped : IsShaped w) (sound : IsSound w) where
  reached_from : (b : BoardModel) (cost : ℕ) (via : Move) (m : ℕ) → cost < suc m → ((i : ℕ) (x : BoardModel) (k : Known) → Knows w i x k → k.cost < m → IsLedTo w x k.cost) → HasPredecessor w b cost via → IsLedTo w b cost
  reached_from b cost via m low earlier (inl start) = ([], 0, (start.0, refl), omega arith)
  reached_from b cost via m low earlier (inr has) =
      let some = move_low w.task shaped.task has.0 has.4.board via b has.1 has.3 in
      let plan = earlier (w.owner has.0) has.0 has.2 has.4 (omega (arith, has.5)) in
      (plan.0 ++ via ∷ [], plan.1 + has.1, one_more w.task.rule w.task.start plan.0 has.0 plan.1 via b has.1 plan.2 has.3, omega (arith, plan.3, has.5))

  known_below : (m i : ℕ) (b : BoardModel) (known : Known) → Knows w i b known → known.cost < m → IsLedTo w b known.cost
  known_below zero i b known knows low = absurd (omega arith)
  known_below (suc m) i b known knows low = reached_from b known.cost known.via m low (λ j x k at lt. known_below m j x k at lt) (sound.reached i b known knows)

  pub known_reached : (i : ℕ) (b : BoardModel) (known : Known) → Knows w i b known → IsLedTo w b known.cost
  known_reached i b known knows = known_below (suc known.cost) i b known knows (omega arith)

  pub items_reached : (to : ℕ) (item : Item) → IsUnderWay w to item → IsLedTo w item.board item.cost
  items_reached to item way = reached_from item.board item.cost item.via item.cost (omega arith) (λ j x k at lt. known_reached j x k at) (sound.items_reached to item way)

pub plans_lead : PlansLeadThere
plans_lead w b cost led = led

-- a plan by last moves, with one more
longer : (w : WorldState) (plan : List Move) (a x b : BoardModel) (c : ℕ) (known : Known) → IsByLastMoves w a plan x → Moves w.task.rule x known.via b c → Knows w (w.owner b) b known → IsByLastMoves w a (plan ++ known.via ∷ []) b
longer w [] a x b c known by moves knows = (b, c, known, subst (λ (p : BoardModel). Moves w.task.rule p known.via b c) (sym by) moves, knows, refl, refl)
longer w (m ∷ plan) a x b c known (next, d, k, first, there, via, rest) moves knows = (next, d, k, first, there, via, longer w plan next x b c known rest moves knows)

module _ (w : WorldState) (shaped : IsShaped w) (sound : IsSound w) where
  -- a plan of last moves leads to the board, at no more than this cost
  abbrev IsLedByLastMoves : BoardModel → ℕ → Type 0
  IsLedByLastMoves b cost = (plan : List Move) × (k : ℕ) × Leads w.task.rule w.task.start plan b k × (k ≤ cost) × IsByLastMoves w w.task.start plan b

  back_from : (b : BoardModel) (known : Known) (m i : ℕ) → Knows w i b known → known.cost < suc m → ((j : ℕ) (x : BoardModel) (k : Known) → Knows w j x k → k.cost < m → IsLedByLastMoves x k.cost) → HasPredecessor w b known.cost known.via → IsLedByLastMoves b known.cost
  back_from b known m i knows low earlier (inl start) = ([], 0, (start.0, refl), omega arith, sym start.0)
  back_from b known m i knows low earlier (inr has) =
      let some = move_low w.task shaped.task has.0 has.4.board known.via b has.1 has.3 in
      let own = (knows_owned w shaped i b known knows).0 in
      let plan = earlier (w.owner has.0) has.0 has.2 has.4 (omega (arith, has.5)) in (
        plan.0 ++ known.via ∷ [],
        plan.1 + has.1,
        one_more w.task.rule w.task.start plan.0 has.0 plan.1 known.via b has.1 plan.2 has.3,
        omega (arith, plan.3, has.5),
        longer w plan.0 w.task.start has.0 b has.1 known plan.4 has.3 (subst (λ j. Knows w j b known) (sym own) knows),
      )

  back_below : (m i : ℕ) (b : BoardModel) (known : Known) → Knows w i b known → known.cost < m → IsLedByLastMoves b known.cost
  back_below zero i b known knows low = absurd (omega arith)
  back_below (suc m) i b known knows low = back_from b known m i knows low (λ j x k at lt. back_below m j x k at lt) (sound.reached i b known knows)

pub leads_back : LastMovesLeadBack
leads_back w shaped sound i b known knows = back_below w shaped sound (suc known.cost) i b known knows (omega arith)

-- ---- the outcome that a sound world gives answers its task

abbrev pub end_at : WorldState → Option ℕ → Option ℕ → End
end_at w lowest reached = record { world = w; lowest = lowest; reached = reached }

-- the smaller of two least numbers is below whatever either is least of
lesser_first : (P : ℕ → Type 0) (x y : Option ℕ) (n : ℕ) → lesser x y ≡ Some n → IsLeastWith P x → (m : ℕ) → P m → n ≤ m
lesser_first P None y n is least m h = absurd (least m h)
lesser_first P (Some a) None n is least m h = let e : a ≡ n = cc in let le = least.1 m h in omega arith
lesser_first P (Some a) (Some b) n is least m h = let e : min a b ≡ n = cc in let le = least.1 m h in omega arith

lesser_second : (P : ℕ → Type 0) (x y : Option ℕ) (n : ℕ) → lesser x y ≡ Some n → IsLeastWith P y → (m : ℕ) → P m → n ≤ m
lesser_second P x None n is least m h = absurd (least m h)
lesser_second P None (Some b) n is least m h = let e : b ≡ n = cc in let le = least.1 m h in omega arith
lesser_second P (Some a) (Some b) n is least m h = let e : min a b ≡ n = cc in let le = least.1 m h in omega arith

lesser_none_first : (x y : Option ℕ) → lesser x y ≡ None → x ≡ None
lesser_none_first None y is = refl
lesser_none_first (Some a) None is = cc
lesser_none_first (Some a) (Some b) is = cc

lesser_none_second : (x y : Option ℕ) → lesser x y ≡ None → y ≡ None
lesser_none_second None y is = is
lesser_none_second (Some a) None is = cc
lesser_none_second (Some a) (Some b) is = cc

module _ (w : WorldState) (shaped : IsShaped w) (sound : IsSound w) (bound : IsLowerBound w.task.rule w.task.sum w.task.goal) (lowest reached : Option ℕ) (is_lowest : IsLowest w lowest) (is_reached : IsReached w reached) where
  below_frontier : (n : ℕ) → lesser lowest reached ≡ Some n → BelowFrontier w n
  below_frontier n is b cost here = lesser_first (λ f. (x : BoardModel) × (c : ℕ) × IsInFrontier w x c × (f ≡ c + w.task.sum x)) lowest reached n is is_lowest (cost + w.task.sum b) (b, cost, here, refl)

  below_reached : (n : ℕ) → lesser lowest reached ≡ Some n → BelowReached w n
  below_reached n is known knows = lesser_second (λ cost. (k : Known) × Knows w (w.owner w.task.goal) w.task.goal k × (k.cost ≡ cost)) lowest reached n is is_reached known.cost (known, knows, refl)

  -- the bound of a world is one
  bounds : (n : ℕ) → IsBoundOf (end_at w lowest reached) n → NothingBelow w.task.rule w.task.start w.task.goal n
  bounds n is plan j leads =
      let first = frontier_bounds w shaped sound bound is.0 (below_frontier is.0 is.1) (below_reached is.0 is.1) plan j leads in
      let second = bound w.task.start shaped.task.start plan j leads in
      let e = is.2 in
      omega arith

  -- where nothing is left and the goal is unknown no plan leads there
  no_plan : lesser lowest reached ≡ None → (plan : List Move) (k : ℕ) → Leads w.task.rule w.task.start plan w.task.goal k → ⊥
  no_plan none plan k leads =
      let no_lowest = subst (IsLeastWith (λ f. (x : BoardModel) × (c : ℕ) × IsInFrontier w x c × (f ≡ c + w.task.sum x))) (lesser_none_first lowest reached none) is_lowest in
      let no_reached = subst (IsLeastWith (λ cost. (known : Known) × Knows w (w.owner w.task.goal) w.task.goal known × (known.cost ≡ cost))) (lesser_none_second lowest reached none) is_reached in
      let h = frontier_bounds w shaped sound bound (suc k) (λ b cost here. absurd (no_lowest (cost + w.task.sum b) (b, cost, here, refl))) (λ known knows. absurd (no_reached known.cost (known, knows, refl))) plan k leads in
      omega arith

  -- the bound above the start's sum is the smaller of the lowest and the goal's cost
  above_start : (k : ℕ) → (is : IsBoundOf (end_at w lowest reached) k) → w.task.sum w.task.start < k → k ≡ is.0
  above_start k is above = let e = is.2 in omega arith

  -- a board that has a row is expanded
  row_expanded : (k : ℕ) (rows : List (BoardModel × ℕ)) → IsBoundOf (end_at w lowest reached) k → w.task.sum w.task.start < k → (i : ℕ) (r : BoardModel) (known : Known) → Knows w i r known → known.cost + w.task.sum r < k → (r ≢ w.task.goal) × (known.expanded ≡ true)
  row_expanded k rows is above i r known knows low =
      let n : k ≡ is.0 = above_start k is above in
      let other : r ≢ w.task.goal = λ same.
      let at : i ≡ w.owner w.task.goal = sym (knows_owned w shaped i r known knows).0 ∙ ap w.owner same in
      let le = below_reached is.0 is.1 known (subst (λ x. Knows w x w.task.goal known) at (subst (λ x. Knows w i x known) same knows)) in
      omega arith in
      (other, ⊎_elim (λ (e : known.expanded ≡ true). e) (λ (e : known.expanded ≡ false). absurd (let le = below_frontier is.0 is.1 r known.cost (inl (i, known, knows, e, other, refl)) in omega arith)) (cases_Bool known.expanded))

  -- a board that is covered has a row, or its sum reaches the cost
  covered_row : (k : ℕ) (rows : List (BoardModel × ℕ)) → IsBoundOf (end_at w lowest reached) k → w.task.sum w.task.start < k → AreRowsBelow w k rows → (b : BoardModel) (cost : ℕ) → IsCovered w b cost → (k ≤ w.task.sum b + cost) ⊎ HasRow rows b cost
  covered_row k rows is above many b cost (inl has) =
      ⊎_elim
      (λ (lt : has.0.cost + w.task.sum b < k). inr (has.0.cost, (many.each b has.0.cost).1 (w.owner b, has.0, has.1, refl, lt), has.2))
      (λ (ge : k ≤ has.0.cost + w.task.sum b). inl (omega (arith, has.2)))
      (cases_lt (has.0.cost + w.task.sum b) k)
  covered_row k rows is above many b cost (inr has) =
      let n : k ≡ is.0 = above_start k is above in
      let le = offer_low w is.0 (below_frontier is.0 is.1) b cost has in
      inl (omega arith)

  no_row_in : (rows : List (BoardModel × ℕ)) (row : BoardModel × ℕ) → rows ≡ [] → Contains rows row → ⊥
  no_row_in rows row empty has = let n = ap length empty in omega (arith, has.1)

  -- the known boards below the cost prove it
  rows_prove : (k : ℕ) (rows : List (BoardModel × ℕ)) → IsBoundOf (end_at w lowest reached) k → AreRowsFor w k rows → Proves w.task.rule rows w.task.sum w.task.start w.task.goal k
  rows_prove k rows is (inl few) = record {
    start = inr few.0;
    no_goal = λ g has. no_row_in rows (w.task.goal, g) few.1 has;
    closed = λ r g has m r' c moves. absurd (no_row_in rows (r, g) few.1 has);
  }
  rows_prove k rows is (inr many) = record {
    start = ⊎_elim (λ (above : k ≤ w.task.sum w.task.start + 0). inr (omega arith)) (λ (row : HasRow rows w.task.start 0). inl row) (covered_row k rows is many.0 many.1 w.task.start 0 sound.start);
    no_goal = λ g has.
        let row = (many.1.each w.task.goal g).0 has in
        (row_expanded k rows is many.0 row.0 w.task.goal row.1 row.2 (omega (arith, row.3, row.4))).0 refl;
    closed = λ r g has m r' c moves.
        let row = (many.1.each r g).0 has in
        let closed = (row_expanded k rows is many.0 row.0 r row.1 row.2 (omega (arith, row.3, row.4))).1 in
        let next = sound.successors row.0 r row.1 row.2 closed m r' c moves in
        covered_row k rows is many.0 many.1 r' (g + c) (subst (λ x. IsCovered w r' (x + c)) row.3 next);
  }

rows_rising : (w : WorldState) (k : ℕ) (rows : List (BoardModel × ℕ)) → AreRowsFor w k rows → AllPairs (λ row later. key_of row.0 < key_of later.0) rows
rows_rising w k rows (inl few) = λ i j d lt j_in. let n = ap length few.1 in absurd (omega arith)
rows_rising w k rows (inr many) = many.1.rising

-- a row is a board that is known so
row_known : (w : WorldState) (k : ℕ) (rows : List (BoardModel × ℕ)) → AreRowsFor w k rows → (row : BoardModel × ℕ) → Contains rows row → IsKnownBelow w k row.0 row.1
row_known w k rows (inl few) row has = let n = ap length few.1 in absurd (omega (arith, has.1))
row_known w k rows (inr many) row has = (many.1.each row.0 row.1).0 has

-- a cause is allowed where it is that of a bound which is high if the run is quiet
cause_allowed : (bound : ℕ) (stop : Option Stop) (cause : Cause) → (stop ≡ Some Quiet → GREATEST_EXPANDED_COST < bound) → cause ≡ cause_of stop → AllowsCause bound cause
cause_allowed bound None cause high is = subst (AllowsCause bound) (sym is) tt
cause_allowed bound (Some Limit) cause high is = subst (AllowsCause bound) (sym is) tt
cause_allowed bound (Some (Memory want)) cause high is = subst (AllowsCause bound) (sym is) tt
cause_allowed bound (Some Start) cause high is = subst (AllowsCause bound) (sym is) tt
cause_allowed bound (Some Quiet) cause high is = subst (AllowsCause bound) (sym is) (high refl)

pub least_unique : (P : ℕ → Type 0) (x y : Option ℕ) → IsLeastWith P x → IsLeastWith P y → x ≡ y
least_unique P None None a b = refl
least_unique P None (Some y) a b = absurd (a y b.0)
least_unique P (Some x) None a b = absurd (b x a.0)
least_unique P (Some x) (Some y) a b = let le = a.1 y b.0 in let le' = b.1 x a.0 in let e : x ≡ y = omega arith in ap Some e

-- a bound below the cost of the goal is too high to be expanded, if the frontier isn't below the limit
too_high : (w : WorldState) (lowest reached : Option ℕ) (bound : ℕ) → ((f : ℕ) → lowest ≡ Some f → limit_of reached ≤ f) → IsBoundOf (end_at w lowest reached) bound → ((goal : ℕ) → reached ≡ Some goal → bound < goal) → GREATEST_EXPANDED_COST < bound
too_high w None None bound high is below = absurd (let e : ◌≡◌ {A = Option ℕ} None (Some is.0) = is.1 in cc)
too_high w None (Some c) bound high is below = absurd (let lt = below c refl in let e : c ≡ is.0 = cc (is.1) in omega (arith, is.2))
too_high w (Some f) None bound high is below = let le = high f refl in let e : f ≡ is.0 = cc (is.1) in omega (arith, is.2)
too_high w (Some f) (Some c) bound high is below =
    let le = high f refl in let lt = below c refl in let e : min f c ≡ is.0 = cc (is.1) in omega (arith, is.2)

-- a quiet world's frontier isn't below the limit
module _ (w : WorldState) (quiet : IsQuiet w) (lowest reached : Option ℕ) (is_lowest : IsLowest w lowest) (is_reached : IsReached w reached) where
  same_best : w.book.best ≡ reached
  same_best = least_unique (λ cost. (known : Known) × Knows w (w.owner w.task.goal) w.task.goal known × (known.cost ≡ cost)) w.book.best reached quiet.best is_reached

  frontier_high : (f : ℕ) → lowest ≡ Some f → limit_of reached ≤ f
  frontier_high f at =
      let low : IsLowest w (Some f) = subst (IsLowest w) at is_lowest in
      let le = quiet.frontier low.0.0 low.0.1 low.0.2 in
      let le' : limit_of reached ≤ low.0.1 + w.task.sum low.0.0 = subst (λ o. limit_of o ≤ low.0.1 + w.task.sum low.0.0) same_best le in
      omega (arith, low.0.3)

module _ (w : WorldState) (shaped : IsShaped w) (sound : IsSound w) (bound : IsLowerBound w.task.rule w.task.sum w.task.goal) (lowest reached : Option ℕ) (is_lowest : IsLowest w lowest) (is_reached : IsReached w reached) where
  rows_of : (n : ℕ) (rows : List (BoardModel × ℕ)) → IsBoundOf (end_at w lowest reached) n → AreRowsFor w n rows → AreRowsOf w.task rows n
  rows_of n rows is listed = record {
    proves = rows_prove w shaped sound bound lowest reached is_lowest is_reached n rows is listed;
    rising = rows_rising w n rows listed;
    boards = λ i d lt. (row_known w n rows listed (get_or rows i d) (Contains-get_or rows i d lt)).2.board;
    low = λ i d lt.
        let row = row_known w n rows listed (get_or rows i d) (Contains-get_or rows i d lt) in
        let low = (knows_owned w shaped row.0 (get_or rows i d).0 row.1 row.2).1 in
        omega (arith, row.3);
  }

  -- rows that prove the bound exist
  pub proof_of : (n : ℕ) → IsBoundOf (end_at w lowest reached) n → HasProof w.task n
  proof_of n is = let listed = rows_exist w n shaped in (listed.0, rows_of n listed.0 is listed.1)

  -- a plan that is followed back costs no more than is known of the goal
  followed_low : (cost : ℕ) (plan : List Move) → IsFollowedBack (end_at w lowest reached) cost plan → cost ≤ GREATEST_COST
  followed_low cost plan followed =
      let at = subst (IsReached w) followed.is is_reached in
      let low = (knows_owned w shaped (w.owner w.task.goal) w.task.goal at.0.0 at.0.1).1 in
      omega (arith, at.0.2, followed.within)

  bound_holds : (n : ℕ) → IsBoundOf (end_at w lowest reached) n → NothingBelow w.task.rule w.task.start w.task.goal n
  bound_holds n is = bounds w shaped sound bound lowest reached is_lowest is_reached n is

  above_sum : (n : ℕ) → IsBoundOf (end_at w lowest reached) n → w.task.sum w.task.start ≤ n
  above_sum n is = let e = is.2 in omega arith

  -- a plan that is followed back and doesn't cost the bound costs more
  pub above_bound : (n cost : ℕ) (plan : List Move) → IsBoundOf (end_at w lowest reached) n → IsFollowedBack (end_at w lowest reached) cost plan → cost ≢ n → n < cost
  above_bound n cost plan is followed other = let le = bound_holds n is plan cost followed.leads in omega arith

  stopped_bound : (n : ℕ) (best : Option (ℕ × Vec Move Global)) (cause : Cause) → IsStoppedAt (end_at w lowest reached) n best cause → IsBoundOf (end_at w lowest reached) n
  stopped_bound n None cause stopped = stopped.0
  stopped_bound n (Some best) cause stopped = stopped.0

  -- what is known or under way has a cost plus sum that isn't high
  sum_low : (most : ℕ) → IsAboveSums w.task most → (b : BoardModel) (cost : ℕ) → IsInFrontier w b cost → cost + w.task.sum b ≤ GREATEST_COST + most
  sum_low most above b cost (inl (i, known, knows, closed, other, at)) =
      let low = (knows_owned w shaped i b known knows).1 in
      let le = above b knows.board.0 knows.board.1 in
      omega (arith, at)
  sum_low most above b cost (inr (to, item, way, is, at)) =
      let owned = offer_owned w shaped to item way in
      let le : w.task.sum b ≤ most = subst (λ (x : BoardModel). w.task.sum x ≤ most) is (above item.board owned.0.0 owned.0.1) in
      omega (arith, at, owned.2)

  low_of : (most : ℕ) → IsAboveSums w.task most → (f : ℕ) → IsLowest w (Some f) → f ≤ GREATEST_COST + most
  low_of most above f least = let le = sum_low most above least.0.0 least.0.1 least.0.2 in omega (arith, least.0.3)

  reached_low : (c : ℕ) → IsReached w (Some c) → c ≤ GREATEST_COST
  reached_low c at = let low = (knows_owned w shaped (w.owner w.task.goal) w.task.goal at.0.0 at.0.1).1 in omega (arith, at.0.2)

  -- so neither is the floor
  floor_low : (most : ℕ) → IsAboveSums w.task most → (f r : Option ℕ) (n : ℕ) → IsLowest w f → IsReached w r → lesser f r ≡ Some n → n ≤ GREATEST_COST + most
  floor_low most above None None n low at is = absurd (cc)
  floor_low most above None (Some c) n low at is = let e : c ≡ n = cc in let le = reached_low c at in omega arith
  floor_low most above (Some f) None n low at is = let e : f ≡ n = cc in let le = low_of most above f low in omega arith
  floor_low most above (Some f) (Some c) n low at is = let e : min f c ≡ n = cc in let le = reached_low c at in omega arith

  bound_low : (n : ℕ) → IsBoundOf (end_at w lowest reached) n → (most : ℕ) → IsAboveSums w.task most → n ≤ GREATEST_COST + most
  bound_low n is most above =
      let le = floor_low most above lowest reached is.0 is_lowest is_reached is.1 in
      let le' = above w.task.start shaped.task.start shaped.task.sides in
      omega (arith, is.2)

  -- a bound that the goal's cost is above is high if the world is quiet
  quiet_high : QuietIsTrueIn w → (n : ℕ) → IsBoundOf (end_at w lowest reached) n → ((goal : ℕ) → reached ≡ Some goal → n < goal) → w.book.stop ≡ Some Quiet → GREATEST_EXPANDED_COST < n
  quiet_high quiet n is below stop = too_high w lowest reached n (frontier_high w (quiet stop) lowest reached is_lowest is_reached) is below

  stopped_true : QuietIsTrueIn w → (n : ℕ) (best : Option (ℕ × Vec Move Global)) (cause : Cause) → IsStoppedAt (end_at w lowest reached) n best cause → IsTrueBound w.task n best cause
  stopped_true quiet n None cause (is, unknown, caused) =
      let below : (goal : ℕ) → reached ≡ Some goal → n < goal = λ goal at. let e : ◌≡◌ {A = Option ℕ} None (Some goal) = sym unknown ∙ at in absurd (cc) in
      (bound_holds n is, above_sum n is, bound_low n is, tt, cause_allowed n w.book.stop cause (quiet_high quiet n is below) caused)
  stopped_true quiet n (Some best) cause (is, followed, other, caused) =
      let above = above_bound n best.0 best.1.items is followed other in
      let below : (goal : ℕ) → reached ≡ Some goal → n < goal = λ goal at. let e : Some followed.goal ≡ Some goal = sym followed.is ∙ at in let e' : followed.goal ≡ goal = cc in omega (arith, followed.within) in
      (bound_holds n is, above_sum n is, bound_low n is, (followed.leads, above), cause_allowed n w.book.stop cause (quiet_high quiet n is below) caused)

  alone_true : (n : ℕ) (best : Option (ℕ × Vec Move Global)) (cause : Cause) → IsAloneAt (end_at w lowest reached) n best cause → IsTrueBound w.task n best cause
  alone_true n best cause (is, none, lacks) =
      (bound_holds n is, above_sum n is, bound_low n is, subst (λ (b : Option (ℕ × Vec Move Global)). IsBestPlan w.task n (best_of b)) (sym none) tt, subst (AllowsCause n) (sym lacks.1) tt)

  answers_at : QuietIsTrueIn w → (outcome : Outcome) → IsGivenAt (end_at w lowest reached) outcome → Answers w.task outcome
  answers_at quiet (Optimal cost plan rows) given =
      let low = followed_low cost plan.items given.1 in
      let short = plan_short w.task shaped.task w.task.start (shaped.task.start, shaped.task.sides) plan.items w.task.goal cost given.1.leads in
      (given.1.leads, record { reached = (plan.items, given.1.leads); none_below = bound_holds cost given.0 }, rows_of cost rows.items given.0 given.2, low, omega (arith, low, short))
  answers_at quiet (Unsolvable why) given = (no_plan w shaped sound bound lowest reached is_lowest is_reached given.0, subst (AllowsWhy w.task) (sym given.1) tt)
  answers_at quiet (Bounded n best cause (Some rows)) given = (stopped_true quiet n best cause given.0, rows_of n rows.items (stopped_bound n best cause given.0) given.1)
  answers_at quiet (Bounded n best cause None) given = (alone_true n best cause given.0, (given.0.1, given.0.2), proof_of n given.0.0)

  -- the rows of a bound prove it
  rows_at : (n : ℕ) (best : Option (ℕ × Vec Move Global)) (cause : Cause) (rows : List (BoardModel × ℕ)) → IsStoppedAt (end_at w lowest reached) n best cause → AreRowsFor w n rows → AreRowsOf w.task rows n
  rows_at n best cause rows stopped listed = rows_of n rows (stopped_bound n best cause stopped) listed

  bounded_true : QuietIsTrueIn w → (n : ℕ) (best : Option (ℕ × Vec Move Global)) (cause : Cause) → IsStoppedAt (end_at w lowest reached) n best cause ⊎ IsAloneAt (end_at w lowest reached) n best cause → IsTrueBound w.task n best cause × HasProof w.task n
  bounded_true quiet n best cause (inl stopped) = (stopped_true quiet n best cause stopped, proof_of n (stopped_bound n best cause stopped))
  bounded_true quiet n best cause (inr alone) = (alone_true n best cause alone, proof_of n alone.0)

pub bounds_true : BoundsAreTrue
bounds_true w n best cause shaped sound quiet bound bounded = bounded_true w shaped sound bound bounded.0 bounded.1 bounded.2 bounded.3 quiet n best cause bounded.4

-- the rows of the bound that a sound world gives prove it
pub bound_rows : (w : WorldState) (n : ℕ) (best : Option (ℕ × Vec Move Global)) (cause : Cause) (rows : Vec (BoardModel × ℕ) Global) → IsShaped w → IsSound w → IsLowerBound w.task.rule w.task.sum w.task.goal → IsGiven w (Bounded n best cause (Some rows)) → AreRowsOf w.task rows.items n
bound_rows w n best cause rows shaped sound bound given = rows_at w shaped sound bound given.0 given.1 given.2 given.3 n best cause rows.items given.4.0 given.4.1

-- the outcome of a sound world answers its task
pub outcomes_answer : OutcomesAnswer
outcomes_answer w outcome shaped sound quiet bound given = answers_at w shaped sound bound given.0 given.1 given.2 given.3 quiet outcome given.4

-- ---- a sound world gives some outcome

-- where no number is least, there is none
none_from : (P : ℕ → Type 0) → ((k : ℕ) → ¬ IsLeastWith P (Some k)) → (m n : ℕ) → n < m → ¬ P n
none_from P none zero n lt has = absurd (omega arith)
none_from P none (suc m) n lt has =
    ⊎_elim
    (λ (below : n < m). none_from P none m n below has)
    (λ (le : m ≤ n). none n (has, λ x at. ⊎_elim (λ (low : x < m). absurd (none_from P none m x low at)) (λ (high : m ≤ x). omega arith) (cases_lt x m)))
    (cases_lt n m)

no_least : (P : ℕ → Type 0) → ¬ ((o : Option ℕ) → ¬ IsLeastWith P o)
no_least P none = none None (λ n has. none_from P (λ k least. none (Some k) least) (suc n) n (omega arith) has)

abbrev Row : Type 0
Row = BoardModel × ℕ

module _ (w : WorldState) (shaped : IsShaped w) (k : ℕ) where
  abbrev Listed : ℕ → Row → Type 0
  Listed n row = IsKnownBelow w k row.0 row.1 × (key_of row.0 < n)

  -- the rows of boards whose keys are below n
  record AreRowsUpTo (n : ℕ) (rows : List Row) : Type 0 where
    rising : AllPairs (λ row later. key_of row.0 < key_of later.0) rows
    only : (row : Row) → Contains rows row → Listed n row
    all : (row : Row) → Listed n row → Contains rows row

  known_there : (row : Row) → IsKnownBelow w k row.0 row.1 → (known : Known) × Knows w (w.owner row.0) row.0 known × (known.cost ≡ row.1)
  known_there row has =
      let own = (knows_owned w shaped has.0 row.0 has.1 has.2).0 in
      (has.1, subst (λ j. Knows w j row.0 has.1) (sym own) has.2, has.3)

  same_cost : (b : BoardModel) (x y : Known) → Knows w (w.owner b) b x → Knows w (w.owner b) b y → x.cost ≡ y.cost
  same_cost b x y knows knows' =
      let worker : Some knows.worker ≡ Some knows'.worker = sym knows.is ∙ knows'.is in
      let worker' : knows.worker ≡ knows'.worker = cc in
      ap (λ (z : Known). z.cost) (same_known knows.worker.known (search_key b) x y knows.knows (ap (λ (v : WorkerState). map.get v.known (search_key b)) worker' ∙ knows'.knows))

  -- a board of one key is known at one cost
  same_row : (row other : Row) → IsKnownBelow w k row.0 row.1 → IsKnownBelow w k other.0 other.1 → key_of row.0 ≡ key_of other.0 → row ≡ other
  same_row row other has has' same =
      let board : row.0 ≡ other.0 = same_key w.task row.0 other.0 has.2.board has'.2.board same in
      let here = known_there row has in
      let there = known_there other has' in
      let moved : Knows w (w.owner row.0) row.0 there.0 = subst (λ (p : BoardModel). Knows w (w.owner p) p there.0) (sym board) there.1 in
      let cost : row.1 ≡ other.1 = sym here.2 ∙ same_cost row.0 here.0 there.0 here.1 moved ∙ there.2 in
      λ t. (board t, cost t)

  with_row : (n : ℕ) (rows : List Row) (row : Row) → AreRowsUpTo n rows → IsKnownBelow w k row.0 row.1 → key_of row.0 ≡ n → AreRowsUpTo (suc n) (rows ++ row ∷ [])
  with_row n rows row are has key = record { rising = rises; only = only_these; all = all_these }
    where
      rises : AllPairs (λ (x : Row) (later : Row). key_of x.0 < key_of later.0) (rows ++ row ∷ [])
      rises = all_pairs_push (λ (x : Row) (later : Row). key_of x.0 < key_of later.0) rows row are.rising (λ j d lt. let low = (are.only (get_or rows j d) (Contains-get_or rows j d lt)).1 in omega arith)

      only_these : (x : Row) → Contains (rows ++ row ∷ []) x → Listed (suc n) x
      only_these x at =
          ⊎_elim
          (λ (old : Contains rows x). let h = are.only x old in (h.0, omega (arith, h.1)))
          (λ (new : row ≡ x). subst (Listed (suc n)) new (has, omega arith))
          (Contains-push_cases rows row x at)

      all_these : (x : Row) → Listed (suc n) x → Contains (rows ++ row ∷ []) x
      all_these x at =
          ⊎_elim
          (λ (lt : key_of x.0 < n). Contains-append_left rows (row ∷ []) x (are.all x (at.0, lt)))
          (λ (le : n ≤ key_of x.0). subst (Contains (rows ++ row ∷ [])) (same_row row x has at.0 (omega (arith, at.1))) (Contains-push rows row))
          (cases_lt (key_of x.0) n)

  without_row : (n : ℕ) (rows : List Row) → AreRowsUpTo n rows → ((row : Row) → IsKnownBelow w k row.0 row.1 → key_of row.0 ≢ n) → AreRowsUpTo (suc n) rows
  without_row n rows are none = record {
    rising = are.rising;
    only = λ x at. let h = are.only x at in (h.0, omega (arith, h.1));
    all = λ x at. ⊎_elim (λ (lt : key_of x.0 < n). are.all x (at.0, lt)) (λ (le : n ≤ key_of x.0). absurd (none x at.0 (omega (arith, at.1)))) (cases_lt (key_of x.0) n);
  }

  no_rows_at : AreRowsUpTo 0 []
  no_rows_at = record { rising = λ i j d lt j_in. absurd (omega arith); only = λ x at. absurd (none_in x at); all = λ x at. absurd (omega (arith, at.1)) }

  rows_up_to : (n : ℕ) → ¬ ((rows : List Row) → ¬ AreRowsUpTo n rows)
  rows_up_to zero none = none [] no_rows_at
  rows_up_to (suc n) none = rows_up_to n (λ rows are. none rows (without_row n rows are (λ row has key. none (rows ++ row ∷ []) (with_row n rows row are has key))))

  rows_below : ¬ ((rows : List Row) → ¬ AreRowsBelow w k rows)
  rows_below none = rows_up_to (32 ^ cell_count w.task.goal.grid) (λ rows are. none rows (record { rising = are.rising; each = λ b cost. ((λ at. (are.only (b, cost) at).0), λ has. are.all (b, cost) (has, low b cost has)) }))
    where
      low : (b : BoardModel) (cost : ℕ) → IsKnownBelow w k b cost → key_of b < 32 ^ cell_count w.task.goal.grid
      low b cost has = subst (λ g. key_of b < 32 ^ cell_count g) has.2.board.1 (key_of-lt b has.2.board.0)

  no_rows_for : ¬ ((rows : List Row) → ¬ AreRowsFor w k rows)
  no_rows_for none = ⊎_elim (λ (lt : w.task.sum w.task.start < k). rows_below (λ rows are. none rows (inr (lt, are)))) (λ (le : k ≤ w.task.sum w.task.start). none [] (inl (le, refl))) (cases_lt (w.task.sum w.task.start) k)

abbrev Gives : WorldState → List Move → List Row → Type 0
Gives w moves listed = (plan : Vec Move Global) (rows : Vec Row Global) → plan.items ≡ moves → rows.items ≡ listed → (outcome : Outcome) × IsGiven w outcome

floor_there : (lowest : Option ℕ) (goal : ℕ) → (n : ℕ) × (lesser lowest (Some goal) ≡ Some n)
floor_there None goal = (goal, refl)
floor_there (Some f) goal = (min f goal, refl)

module _ (w : WorldState) (shaped : IsShaped w) (sound : IsSound w) (none : (moves : List Move) (listed : List Row) → ¬ Gives w moves listed) where
  abbrev LeadsAt : List Move → ℕ → Type 0
  LeadsAt moves cost = Leads w.task.rule w.task.start moves w.task.goal cost

  abbrev TracedBy : List Move → Type 0
  TracedBy moves = IsByLastMoves w w.task.start moves w.task.goal

  unreached : (lowest : Option ℕ) → IsLowest w lowest → IsReached w None → ⊥
  unreached None low reached = none [] [] (λ plan rows moves listed. (Unsolvable Exhausted, (None, None, low, reached, (refl, refl))))
  unreached (Some f) low reached =
      no_rows_for w shaped (max (w.task.sum w.task.start) f)
      (λ rows are. none [] rows
      (λ plan vector is_plan is_rows. (
        Bounded (max (w.task.sum w.task.start) f) None (cause_at (end_at w (Some f) None)) (Some vector),
        (Some f, None, low, reached, (((f, refl, refl), refl, refl), subst (AreRowsFor w (max (w.task.sum w.task.start) f)) (sym is_rows) are)),
      )))

  reached_at : (lowest : Option ℕ) (goal : ℕ) → IsLowest w lowest → IsReached w (Some goal) → ⊥
  reached_at lowest goal low reached =
      let led = leads_back w shaped sound (w.owner w.task.goal) w.task.goal reached.0.0 reached.0.1 in
      let under : led.1 ≤ goal = omega (arith, led.3, reached.0.2) in
      let n = floor_there lowest goal in
      ⊎_elim (λ (same : led.1 ≡ max (w.task.sum w.task.start) n.0). optimal led.0 led.1 led.2 led.4 under n.0 n.1 same) (λ (other : led.1 ≢ max (w.task.sum w.task.start) n.0). bounded led.0 led.1 led.2 led.4 under n.0 n.1 other) (cases_eq led.1 (max (w.task.sum w.task.start) n.0))
    where
      optimal : (moves : List Move) (cost : ℕ) → LeadsAt moves cost → TracedBy moves → cost ≤ goal → (n : ℕ) → lesser lowest (Some goal) ≡ Some n → cost ≡ max (w.task.sum w.task.start) n → ⊥
      optimal moves cost leads traced under n is same =
          no_rows_for w shaped cost
          (λ rows are. none moves rows
          (λ plan vector is_plan is_rows. (
            Optimal cost plan vector,
            (
              lowest,
              Some goal,
              low,
              reached,
              ((n, is, same), record { goal = goal; is = refl; traced = subst TracedBy (sym is_plan) traced; leads = subst (λ ms. LeadsAt ms cost) (sym is_plan) leads; within = under }, subst (AreRowsFor w cost) (sym is_rows) are),
            ),
          )))

      bounded : (moves : List Move) (cost : ℕ) → LeadsAt moves cost → TracedBy moves → cost ≤ goal → (n : ℕ) → lesser lowest (Some goal) ≡ Some n → cost ≢ max (w.task.sum w.task.start) n → ⊥
      bounded moves cost leads traced under n is other =
          no_rows_for w shaped (max (w.task.sum w.task.start) n)
          (λ rows are. none moves rows
          (λ plan vector is_plan is_rows. (
            Bounded (max (w.task.sum w.task.start) n) (Some (cost, plan)) (cause_at (end_at w lowest (Some goal))) (Some vector),
            (
              lowest,
              Some goal,
              low,
              reached,
              (
                ((n, is, refl), record { goal = goal; is = refl; traced = subst TracedBy (sym is_plan) traced; leads = subst (λ ms. LeadsAt ms cost) (sym is_plan) leads; within = under }, other, refl),
                subst (AreRowsFor w (max (w.task.sum w.task.start) n)) (sym is_rows) are,
              ),
            ),
          )))

  split : (lowest reached : Option ℕ) → IsLowest w lowest → IsReached w reached → ⊥
  split lowest None low reached = unreached lowest low reached
  split lowest (Some goal) low reached = reached_at lowest goal low reached

pub worlds_give : WorldsGiveOutcomes
worlds_give w shaped sound none =
    no_least (λ f. (b : BoardModel) × (cost : ℕ) × IsInFrontier w b cost × (f ≡ cost + w.task.sum b))
    (λ lowest low. no_least (λ cost. (known : Known) × Knows w (w.owner w.task.goal) w.task.goal known × (known.cost ≡ cost)) (λ reached at. split w shaped sound none lowest reached low at))
