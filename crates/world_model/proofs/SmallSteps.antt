-- Steps of workers that are computed.
use Rattle.std.proofs.Common.{◌≡◌, ◌≢◌, ◌⊎◌, ℕ, zero, suc, ◌+◌, ◌-◌, ◌^◌, ◌<◌, Bool, true, false, ltb, not, List, [], ◌∷◌, ◌++◌, length, refl, sym, ap, ◌∙◌, subst, inl, inr, ⊎_elim, arith, Option, Some, None}
use Rattle.std.specs.Prelude.{All, Any, if◌then◌else◌, ◌==◌, ◌&&◌, nat_lt, slice_get, slice_set, unwrap_or}
use Rattle.std.proofs.lemmas.Bool.{cases_Bool, eqb-true, eqb-false, ltb-true, ltb-false}
use Rattle.std.proofs.lemmas.List.Elements.{All-cons}
use Rattle.board.specs.Boards.{BoardModel, IsBoard}
use Rattle.search_keys.specs.SearchKeys.{search_key}
use Rattle.outcomes.specs.Outcomes.{Task}
use Rattle.world_model.specs.declared.limits.TheConstants.{CREDIT_DRAWN, PACKET_LIMIT, LANE_LIMIT}
use Rattle.world_model.specs.declared.parts.Item.{Item}
use Rattle.world_model.specs.declared.parts.Known.{Known}
use Rattle.world_model.specs.declared.steps.HaltCause.{HaltCause}
use Rattle.world_model.specs.declared.steps.HaltCause as causes
use Rattle.world_model.specs.declared.steps.Refusal.{Refusal}
use Rattle.world_model.specs.declared.steps.Refusal.TheVariants.{NothingBelowLimit, NoAllowance, NoRoom, RingFull, RingEmpty, PurseTooSmall, StillHolding, NothingToAnnounce, NotIdle, Stopped, PurseEmpty, NothingThere, AllowanceLeft, PurseFull}
use Rattle.world_model.specs.BookSteps.{AnnounceStep, AtBook, DrawStep, GrantStep, HaltStep, MayAnnounce, MayGoOn, RestStep}
use Rattle.world_model.specs.Books.{BookState, grant_of, stop_of, with_rest}
use Rattle.world_model.specs.Costs.{IsNotBelow, limit_of}
use Rattle.world_model.specs.Expansions.{expansion}
use Rattle.world_model.specs.Knowledge.{Knowledge}
use Rattle.world_model.specs.Outcomes.{floor}
use Rattle.world_model.specs.Turns.{Becomes, Turn, Unless, turn}
use Rattle.world_model.specs.WorkerSteps.{AtLane, DeliverStep, ExpandStep, IsOverfull, SendStep, SettleStep, WithMemory}
use Rattle.world_model.specs.Workers.{HasNothingBelow, IsFloor, IsIdle, IsNext, KnowsGoalAt, Lane, Packet, Role, WorkerState}
use Rattle.world_model.proofs.SmallWorkers.{Small, worker_of, relax, relax_is, look_up, found, small_expansion, expansion_is, AreBoards, open_list, open_there, open_listed, cost_of, least, IsLeastIn, least_is}

-- the test tells whether it is so
abbrev pub Tests : Bool → Type 0 → Type 0
Tests test P = (test ≡ true → P) × (test ≡ false → ¬ P)

pub eq_tests : (a b : ℕ) → Tests (a == b) (a ≡ b)
eq_tests a b = (eqb-true a b, eqb-false a b)

pub lt_tests : (a b : ℕ) → Tests (nat_lt a b) (a < b)
lt_tests a b = (ltb-true a b, λ e lt. let le = ltb-false a b e in omega arith)

pub not_tests : (b : Bool) (P : Type 0) → Tests b P → Tests (not b) (¬ P)
not_tests true P tests = (λ e. absurd (cc), λ e no. no (tests.0 refl))
not_tests false P tests = (λ e. tests.1 refl, λ e. absurd (cc))

abbrev pub is_nil : {X : Type 0} → List X → Bool
is_nil [] = true
is_nil (x ∷ xs) = false

pub nil_tests : {X : Type 0} (xs : List X) → Tests (is_nil xs) (xs ≡ [])
nil_tests [] = (λ e. refl, λ e. absurd (cc))
nil_tests (x ∷ xs) = (λ e. absurd (cc), λ e same. let n = ap length same in omega arith)

abbrev pub is_there : {X : Type 0} → Option X → Bool
is_there None = false
is_there (Some x) = true

pub there_tests : {X : Type 0} (o : Option X) → Tests (is_there o) (o ≢ None)
there_tests None = (λ e. absurd (cc), λ e other. other refl)
there_tests (Some x) = (λ e same. cc, λ e. absurd (cc))

abbrev pub all_nil : List Packet → Bool
all_nil [] = true
all_nil (p ∷ ps) = is_nil p && all_nil ps

and_first : (a b : Bool) → (a && b) ≡ true → a ≡ true
and_first true b e = refl
and_first false b e = absurd (cc)

and_second : (a b : Bool) → (a && b) ≡ true → b ≡ true
and_second true b e = e
and_second false b e = absurd (cc)

pub and_tests : (a b : Bool) (P Q : Type 0) → Tests a P → Tests b Q → Tests (a && b) (P × Q)
and_tests true b P Q p q = (λ e. (p.0 refl, q.0 e), λ e both. q.1 e both.1)
and_tests false b P Q p q = (λ e. absurd (cc), λ e both. p.1 refl both.0)

first_nil : (p : Packet) (ps : List Packet) → All (λ q. q ≡ []) (p ∷ ps) → p ≡ []
first_nil p ps all = all 0 p (omega arith)

later_nil : (p : Packet) (ps : List Packet) → All (λ q. q ≡ []) (p ∷ ps) → All (λ q. q ≡ []) ps
later_nil p ps all k d lt = all (suc k) d (omega arith)

all_nil_tests : (ps : List Packet) → Tests (all_nil ps) (All (λ p. p ≡ []) ps)
all_nil_tests [] = (λ e k d lt. absurd (omega arith), λ e. absurd (cc))
all_nil_tests (p ∷ ps) =
    let both = and_tests (is_nil p) (all_nil ps) (p ≡ []) (All (λ q. q ≡ []) ps) (nil_tests p) (all_nil_tests ps) in
    (λ e. All-cons (λ q. q ≡ []) p ps (both.0 e).0 (both.0 e).1, λ e all. both.1 e (first_nil p ps all, later_nil p ps all))

abbrev pub any_over : List Packet → Bool
any_over [] = false
any_over (p ∷ ps) = if nat_lt PACKET_LIMIT (length p) then true else any_over ps

abbrev pub Over : List Packet → Type 0
Over ps = Any (λ packet. PACKET_LIMIT < length packet) ps

over_first : (p : Packet) (ps : List Packet) (b : Bool) → Tests b (PACKET_LIMIT < length p) → Tests (any_over ps) (Over ps) → Tests (if b then true else any_over ps) (Over (p ∷ ps))
over_first p ps true head rest = (λ e. (0, p, omega arith, refl, head.0 refl), λ e. absurd (cc))
over_first p ps false head rest = (λ e. let h = rest.0 e in (suc h.0, h.1, omega (arith, h.2), h.3, h.4), λ e has. neither e has)
  where
    neither : any_over ps ≡ false → ¬ Over (p ∷ ps)
    neither e (zero, x, inside, is, lt) = head.1 refl (subst (λ (q : Packet). PACKET_LIMIT < length q) (sym is) lt)
    neither e (suc k, x, inside, is, lt) = rest.1 e (k, x, omega arith, is, lt)

over_tests : (ps : List Packet) → Tests (any_over ps) (Over ps)
over_tests [] = (λ e. absurd (cc), λ e has. omega (arith, has.2))
over_tests (p ∷ ps) = over_first p ps (nat_lt PACKET_LIMIT (length p)) (lt_tests PACKET_LIMIT (length p)) (over_tests ps)

abbrev pub is_not_below : Option ℕ → Option ℕ → Bool
is_not_below None y = true
is_not_below (Some x) None = false
is_not_below (Some x) (Some y) = not (nat_lt x y)

pub not_below_tests : (x y : Option ℕ) → Tests (is_not_below x y) (IsNotBelow x y)
not_below_tests None y = (λ e. tt, λ e. absurd (cc))
not_below_tests (Some x) None = (λ e. absurd (cc), λ e no. no)
not_below_tests (Some x) (Some y) = let t = not_tests (nat_lt x y) (x < y) (lt_tests x y) in (λ e. ⊎_elim (λ (lt : ltb x y ≡ true). absurd (t.0 e (ltb-true x y lt))) (λ (ge : ltb x y ≡ false). ltb-false x y ge) (cases_Bool (ltb x y)), λ e le. t.1 e (λ lt. omega arith))

abbrev pub nothing_below : Task → Option (BoardModel × Known) → ℕ → Bool
nothing_below task None limit = true
nothing_below task (Some e) limit = not (nat_lt (cost_of task e) limit)

abbrev pub the_least : Task → Small → Option (BoardModel × Known)
the_least task s = least task (open_list task s)

-- the cost plus sum of an entry
abbrev pub floor_cost : Task → Option (BoardModel × Known) → Option ℕ
floor_cost task None = None
floor_cost task (Some e) = Some (cost_of task e)

-- the goal is not known below the best cost
abbrev pub no_better : Option Known → Option ℕ → Bool
no_better None best = true
no_better (Some k) best = is_not_below (Some k.cost) best

abbrev pub is_idle : Task → Small → ℕ → Option ℕ → Bool
is_idle task s limit best = (is_nil s.held && all_nil s.unsent) && (nothing_below task (the_least task s) limit && no_better (look_up s.entries (search_key task.goal)) best)

module _ (task : Task) (goal : IsBoard task.goal) (s : Small) (boards : AreBoards task s.entries) where
  below_tests_at : (o : Option (BoardModel × Known)) → IsLeastIn task (open_list task s) o → (limit : ℕ) → Tests (nothing_below task o limit) (HasNothingBelow task (worker_of s) limit)
  below_tests_at None none limit = (λ e b known at. absurd (none (b, known) (open_listed task goal s boards b known at)), λ e. absurd (cc))
  below_tests_at (Some e) is limit =
      let t = not_tests (nat_lt (cost_of task e) limit) (cost_of task e < limit) (lt_tests (cost_of task e) limit) in (
        λ high b known at.
            let le = is.1 (b, known) (open_listed task goal s boards b known at) in
            ⊎_elim (λ (lt : ltb (cost_of task e) limit ≡ true). absurd (t.0 high (ltb-true _ _ lt))) (λ (ge : ltb (cost_of task e) limit ≡ false). let h = ltb-false (cost_of task e) limit ge in omega arith) (cases_Bool (ltb (cost_of task e) limit)),
        λ low none. let le = none e.0 e.1 (open_there task goal s boards e is.0) in t.1 low (λ lt. omega arith),
      )

  pub below_tests : (limit : ℕ) → Tests (nothing_below task (the_least task s) limit) (HasNothingBelow task (worker_of s) limit)
  below_tests limit = below_tests_at (the_least task s) (least_is task (open_list task s)) limit

  pub next_at : (e : BoardModel × Known) → IsLeastIn task (open_list task s) (Some e) → IsNext task (worker_of s) e.0 e.1
  next_at e is = record { opens = open_there task goal s boards e is.0; least = λ b known at. is.1 (b, known) (open_listed task goal s boards b known at) }

  floor_at : (o : Option (BoardModel × Known)) → IsLeastIn task (open_list task s) o → IsFloor task (worker_of s) (floor_cost task o)
  floor_at None none = λ f has. none (has.0, has.1) (open_listed task goal s boards has.0 has.1 has.2)
  floor_at (Some e) is = ((e.0, e.1, open_there task goal s boards e is.0, refl), λ f has. let le = is.1 (has.0, has.1) (open_listed task goal s boards has.0 has.1 has.2) in omega (arith, has.3))

  pub floor_is : IsFloor task (worker_of s) (floor_cost task (the_least task s))
  floor_is = floor_at (the_least task s) (least_is task (open_list task s))

  better_at : (o : Option Known) → look_up s.entries (search_key task.goal) ≡ o → (best : Option ℕ) → Tests (no_better o best) ((cost : ℕ) → KnowsGoalAt task (worker_of s) cost → IsNotBelow (Some cost) best)
  better_at None is best = (λ e cost at. let none : ◌≡◌ {A = Option Known} None (Some at.0) = sym is ∙ sym (found s.entries (search_key task.goal)) ∙ at.1 in absurd (cc), λ e. absurd (cc))
  better_at (Some k) is best =
      let t = not_below_tests (Some k.cost) best in (
        λ e cost at.
            let same : Some k ≡ Some at.0 = sym is ∙ sym (found s.entries (search_key task.goal)) ∙ at.1 in
            let same' : k ≡ at.0 = cc in
            subst (λ n. IsNotBelow (Some n) best) (ap (λ (x : Known). x.cost) same' ∙ at.2) (t.0 e),
        λ e all. t.1 e (all k.cost (k, found s.entries (search_key task.goal) ∙ is, refl)),
      )

  pub idle_tests : (limit : ℕ) (best : Option ℕ) → Tests (is_idle task s limit best) (IsIdle task (worker_of s) limit best)
  idle_tests limit best =
      let lists = and_tests (is_nil s.held) (all_nil s.unsent) (s.held ≡ []) (All (λ packet. packet ≡ []) s.unsent) (nil_tests s.held) (all_nil_tests s.unsent) in
      let boards' = and_tests (nothing_below task (the_least task s) limit) (no_better (look_up s.entries (search_key task.goal)) best) (HasNothingBelow task (worker_of s) limit) ((cost : ℕ) → KnowsGoalAt task (worker_of s) cost → IsNotBelow (Some cost) best) (below_tests limit) (better_at (look_up s.entries (search_key task.goal)) refl best) in
      let all = and_tests (is_nil s.held && all_nil s.unsent) (nothing_below task (the_least task s) limit && no_better (look_up s.entries (search_key task.goal)) best) ((s.held ≡ []) × All (λ packet. packet ≡ []) s.unsent) (HasNothingBelow task (worker_of s) limit × ((cost : ℕ) → KnowsGoalAt task (worker_of s) cost → IsNotBelow (Some cost) best)) lists boards' in (
        λ e. let h = all.0 e in record { holds_nothing = h.0.0; sends_nothing = h.0.1; no_board = h.1.0; no_better_goal = h.1.1 },
        λ e idle. all.1 e ((idle.holds_nothing, idle.sends_nothing), (idle.no_board, idle.no_better_goal)),
      )

-- what a step answers, and the worker it leaves
abbrev pub Done : Type 0
Done = Option Refusal × Small

abbrev pub own_turn : Small → Done → Turn WorkerState Refusal
own_turn s done = turn (worker_of s) done.0 (worker_of done.1)

-- an expansion
abbrev pub expand_room : Role → Small → BoardModel × Known → Bool → Done
expand_room role s e true = (Some NoRoom, s)
expand_room role s e false = (None, small_expansion role s e.0 e.1)

abbrev pub expand_by : Role → Small → Bool → Bool → Option (BoardModel × Known) → Done
expand_by role s true y o = (Some NothingBelowLimit, s)
expand_by role s false true o = (Some NoAllowance, s)
expand_by role s false false None = (None, s)
expand_by role s false false (Some e) = expand_room role s e (any_over (small_expansion role s e.0 e.1).unsent)

abbrev pub small_expand : Role → Small → Done
small_expand role s =
    expand_by role s (nothing_below role.task (least role.task (open_list role.task s)) (limit_of s.best)) (s.allowance == 0) (least role.task (open_list role.task s))

room_is : (role : Role) (s : Small) (e : BoardModel × Known) (b : Bool) → Tests b (Over (small_expansion role s e.0 e.1).unsent) → Unless (own_turn s (expand_room role s e b)) (IsOverfull (expansion role (worker_of s) e.0 e.1)) NoRoom (WithMemory (own_turn s (expand_room role s e b)) (Becomes (own_turn s (expand_room role s e b)) (expansion role (worker_of s) e.0 e.1)))
room_is role s e true tests = inl (subst IsOverfull (sym (expansion_is role s e.0 e.1)) (tests.0 refl), (refl, refl))
room_is role s e false tests = inr ((λ full. tests.1 refl (subst IsOverfull (expansion_is role s e.0 e.1) full)), inl (refl, sym (expansion_is role s e.0 e.1)))

module _ (role : Role) (goal : IsBoard role.task.goal) (s : Small) (boards : AreBoards role.task s.entries) where
  expand_at : (x y : Bool) (o : Option (BoardModel × Known)) → Tests x (HasNothingBelow role.task (worker_of s) (limit_of s.best)) → Tests y (s.allowance ≡ 0) → IsLeastIn role.task (open_list role.task s) o → ExpandStep role (own_turn s (expand_by role s x y o))
  expand_at true y o tx ty is = inl (tx.0 refl, (refl, refl))
  expand_at false true o tx ty is = inr (tx.1 refl, inl (ty.0 refl, (refl, refl)))
  expand_at false false None tx ty none = absurd (tx.1 refl (λ b known at. absurd (none (b, known) (open_listed role.task goal s boards b known at))))
  expand_at false false (Some e) tx ty is = inr (tx.1 refl, inr (ty.1 refl, (e.0, e.1, next_at role.task goal s boards e is, room_is role s e (any_over (small_expansion role s e.0 e.1).unsent) (over_tests (small_expansion role s e.0 e.1).unsent))))

  pub expand_is : ExpandStep role (own_turn s (small_expand role s))
  expand_is = expand_at _ _ _ (below_tests role.task goal s boards (limit_of s.best)) (eq_tests s.allowance 0) (least_is role.task (open_list role.task s))

-- an item is settled
abbrev pub last_from : Item → Option (List Item × Item) → Option (List Item × Item)
last_from y None = Some ([], y)
last_from y (Some p) = Some (y ∷ p.0, p.1)

abbrev pub last_of : List Item → Option (List Item × Item)
last_of [] = None
last_of (x ∷ xs) = last_from x (last_of xs)

abbrev pub IsLastOf : List Item → Option (List Item × Item) → Type 0
IsLastOf xs None = xs ≡ []
IsLastOf xs (Some p) = xs ≡ p.0 ++ p.1 ∷ []

last_step : (x : Item) (xs : List Item) (o : Option (List Item × Item)) → IsLastOf xs o → IsLastOf (x ∷ xs) (last_from x o)
last_step x xs None is = ap (λ ys. x ∷ ys) is
last_step x xs (Some p) is = ap (λ ys. x ∷ ys) is

pub last_is : (xs : List Item) → IsLastOf xs (last_of xs)
last_is [] = refl
last_is (x ∷ xs) = last_step x xs (last_of xs) (last_is xs)

abbrev pub settle_by : Small → Option (List Item × Item) → Done
settle_by s None = (Some NothingThere, s)
settle_by s (Some p) = (None, record s { held = p.0; entries = relax s.entries p.1 })

abbrev pub small_settle : Small → Done
small_settle s = settle_by s (last_of s.held)

not_pushed : (front : List Item) (last : Item) → ¬ (front ++ last ∷ [] ≡ [])
not_pushed [] last e = let n = ap length e in omega arith
not_pushed (x ∷ xs) last e = let n = ap length e in omega arith

settle_at : (s : Small) (o : Option (List Item × Item)) → IsLastOf s.held o → SettleStep (own_turn s (settle_by s o))
settle_at s None is = inl (is, (refl, refl))
settle_at s (Some p) is = inr ((λ none. not_pushed p.0 p.1 (sym is ∙ none)), (p.0, p.1, is, inl (refl, sym (ap (λ (k : Knowledge). record (worker_of s) { held = p.0; known = k }) (relax_is s.entries p.1)))))

pub settle_is : (s : Small) → SettleStep (own_turn s (small_settle s))
settle_is s = settle_at s (last_of s.held) (last_is s.held)

-- with a lane
abbrev pub LaneDone : Type 0
LaneDone = Option Refusal × (Small × Lane)

abbrev pub at_lane : Small → Lane → AtLane
at_lane s lane = record { worker = worker_of s; lane = lane }

abbrev pub lane_turn : Small → Lane → LaneDone → Turn AtLane Refusal
lane_turn s lane done = turn (at_lane s lane) done.0 (at_lane done.1.0 done.1.1)

abbrev pub unsent_for : Small → ℕ → Packet
unsent_for s to = unwrap_or (slice_get s.unsent to) []

abbrev pub send_by : ℕ → Small → Lane → Bool → Bool → Bool → LaneDone
send_by to s lane true y z = (Some NothingThere, (s, lane))
send_by to s lane false true z = (Some PurseTooSmall, (s, lane))
send_by to s lane false false true = (Some RingFull, (s, lane))
send_by to s lane false false false = (None, (record s { unsent = slice_set s.unsent to []; purse = s.purse - 1 }, lane ++ unsent_for s to ∷ []))

abbrev pub small_send : ℕ → Small → Lane → LaneDone
small_send to s lane = send_by to s lane (is_nil (unsent_for s to)) (nat_lt s.purse 2) (length lane == LANE_LIMIT)

send_at : (to : ℕ) (s : Small) (lane : Lane) (x y z : Bool) → Tests x (unsent_for s to ≡ []) → Tests y (s.purse < 2) → Tests z (length lane ≡ LANE_LIMIT) → SendStep to (lane_turn s lane (send_by to s lane x y z))
send_at to s lane true y z tx ty tz = inl (tx.0 refl, (refl, refl))
send_at to s lane false true z tx ty tz = inr (tx.1 refl, inl (ty.0 refl, (refl, refl)))
send_at to s lane false false true tx ty tz = inr (tx.1 refl, inr (ty.1 refl, inl (tz.0 refl, (refl, refl))))
send_at to s lane false false false tx ty tz = inr (tx.1 refl, inr (ty.1 refl, inr (tz.1 refl, (refl, refl))))

pub send_is : (to : ℕ) (s : Small) (lane : Lane) → SendStep to (lane_turn s lane (small_send to s lane))
send_is to s lane = send_at to s lane _ _ _ (nil_tests (unsent_for s to)) (lt_tests s.purse 2) (eq_tests (length lane) LANE_LIMIT)

abbrev pub deliver_lane : Small → Lane → LaneDone
deliver_lane s [] = (Some RingEmpty, (s, []))
deliver_lane s (packet ∷ rest) = (None, (record s { held = packet; purse = s.purse + 1 }, rest))

abbrev pub deliver_by : Small → Lane → Bool → Bool → LaneDone
deliver_by s lane true y = (Some StillHolding, (s, lane))
deliver_by s lane false true = (Some PurseFull, (s, lane))
deliver_by s lane false false = deliver_lane s lane

abbrev pub small_deliver : Small → Lane → LaneDone
small_deliver s lane = deliver_by s lane (not (is_nil s.held)) (s.purse + 1 == 2 ^ 64)

deliver_at : (s : Small) (lane : Lane) (x y : Bool) → Tests x (s.held ≢ []) → Tests y (s.purse + 1 ≡ 2 ^ 64) → DeliverStep (lane_turn s lane (deliver_by s lane x y))
deliver_at s lane true y tx ty = inl (tx.0 refl, (refl, refl))
deliver_at s lane false true tx ty = inr (tx.1 refl, inl (ty.0 refl, (refl, refl)))
deliver_at s [] false false tx ty = inr (tx.1 refl, inr (ty.1 refl, inl (refl, (refl, refl))))
deliver_at s (packet ∷ rest) false false tx ty = inr (tx.1 refl, inr (ty.1 refl, inr ((λ e. let n = ap length e in omega arith), (packet, rest, refl, (refl, refl)))))

pub deliver_is : (s : Small) (lane : Lane) → DeliverStep (lane_turn s lane (small_deliver s lane))
deliver_is s lane = deliver_at s lane _ _ (not_tests (is_nil s.held) (s.held ≡ []) (nil_tests s.held)) (eq_tests (s.purse + 1) (2 ^ 64))

-- on the book
abbrev pub BookDone : Type 0
BookDone = Option Refusal × (Small × BookState)

abbrev pub beside : Small → BookState → AtBook
beside s book = record { worker = worker_of s; book = book }

abbrev pub book_turn : Small → BookState → BookDone → Turn AtBook Refusal
book_turn s book done = turn (beside s book) done.0 (beside done.1.0 done.1.1)

abbrev pub renewed : Small → BookState → BookDone
renewed s book = (None, (record s { best = book.best }, book))

abbrev pub draw_by : Small → BookState → Bool → Bool → Bool → BookDone
draw_by s book true y z = (Some Stopped, (s, book))
draw_by s book false true z = (Some PurseEmpty, (s, book))
draw_by s book false false true = (Some PurseFull, (s, book))
draw_by s book false false false = renewed (record s { purse = s.purse + CREDIT_DRAWN }) (record book { credit = book.credit + CREDIT_DRAWN })

abbrev pub small_draw : Small → BookState → BookDone
small_draw s book = draw_by s book (is_there book.stop) (s.purse == 0) (nat_lt (2 ^ 63) book.credit)

draw_at : (s : Small) (book : BookState) (x y z : Bool) → Tests x (book.stop ≢ None) → Tests y (s.purse ≡ 0) → Tests z (2 ^ 63 < book.credit) → DrawStep (book_turn s book (draw_by s book x y z))
draw_at s book true y z tx ty tz = inl (tx.0 refl, (refl, refl))
draw_at s book false true z tx ty tz = inr (tx.1 refl, inl (ty.0 refl, (refl, refl)))
draw_at s book false false true tx ty tz = inr (tx.1 refl, inr (ty.1 refl, inl (tz.0 refl, (refl, refl))))
draw_at s book false false false tx ty tz = inr (tx.1 refl, inr (ty.1 refl, inr (tz.1 refl, (refl, refl))))

pub draw_is : (s : Small) (book : BookState) → DrawStep (book_turn s book (small_draw s book))
draw_is s book = draw_at s book _ _ _ (there_tests book.stop) (eq_tests s.purse 0) (lt_tests (2 ^ 63) book.credit)

abbrev pub announce_by : Role → Small → BookState → Bool → Bool → Option Known → Bool → BookDone
announce_by role s book true y o z = (Some Stopped, (s, book))
announce_by role s book false false o z = (Some NothingToAnnounce, (s, book))
announce_by role s book false true None z = (Some NothingToAnnounce, (s, book))
announce_by role s book false true (Some k) true = (Some NothingToAnnounce, (s, book))
announce_by role s book false true (Some k) false = renewed s (record book { best = Some k.cost })

abbrev pub not_lower : Option Known → Option ℕ → Bool
not_lower None best = true
not_lower (Some k) best = is_not_below (Some k.cost) best

abbrev pub small_announce : Role → Small → BookState → BookDone
small_announce role s book =
    announce_by role s book (is_there book.stop) (role.owner role.task.goal == role.me) (look_up s.entries (search_key role.task.goal)) (not_lower (look_up s.entries (search_key role.task.goal)) book.best)

module _ (role : Role) (s : Small) (book : BookState) where
  abbrev Cost : Option Known → Type 0
  Cost o = look_up s.entries (search_key role.task.goal) ≡ o

  cost_is : (k : Known) → Cost (Some k) → (cost : ℕ) → KnowsGoalAt role.task (worker_of s) cost → k.cost ≡ cost
  cost_is k is cost at = let same : Some k ≡ Some at.0 = sym is ∙ sym (found s.entries (search_key role.task.goal)) ∙ at.1 in let same' : k ≡ at.0 = cc in ap (λ (x : Known). x.cost) same' ∙ at.2

  announce_at : (x y : Bool) (o : Option Known) → Cost o → Tests x (book.stop ≢ None) → Tests y (role.owner role.task.goal ≡ role.me) → (z : Bool) → ((k : Known) → o ≡ Some k → Tests z (IsNotBelow (Some k.cost) book.best)) → AnnounceStep role (book_turn s book (announce_by role s book x y o z))
  announce_at true y o is tx ty z tz = inl (tx.0 refl, (refl, refl))
  announce_at false false o is tx ty z tz = inr (tx.1 refl, inl ((λ cost may. ty.1 refl may.own), (refl, refl)))
  announce_at false true None is tx ty z tz =
      inr (tx.1 refl, inl ((λ cost may. let none : ◌≡◌ {A = Option Known} None (Some may.knows.0) = sym is ∙ sym (found s.entries (search_key role.task.goal)) ∙ may.knows.1 in cc), (refl, refl)))
  announce_at false true (Some k) is tx ty true tz =
      inr (tx.1 refl, inl ((λ cost may. may.lower (subst (λ n. IsNotBelow (Some n) book.best) (cost_is k is cost may.knows) ((tz k refl).0 refl))), (refl, refl)))
  announce_at false true (Some k) is tx ty false tz =
      let may : MayAnnounce role (beside s book) k.cost = record { own = ty.0 refl; knows = (k, found s.entries (search_key role.task.goal) ∙ is, refl); lower = (tz k refl).1 refl } in
      inr (tx.1 refl, inr ((λ none. none k.cost may), (k.cost, may, (refl, refl))))

  lower_tests : (o : Option Known) (k : Known) → o ≡ Some k → Tests (not_lower o book.best) (IsNotBelow (Some k.cost) book.best)
  lower_tests None k e = absurd (cc)
  lower_tests (Some known) k e = let e' : known ≡ k = cc in subst (λ (x : Known). Tests (is_not_below (Some known.cost) book.best) (IsNotBelow (Some x.cost) book.best)) e' (not_below_tests (Some known.cost) book.best)

  pub announce_is : AnnounceStep role (book_turn s book (small_announce role s book))
  announce_is = announce_at _ _ (look_up s.entries (search_key role.task.goal)) refl (there_tests book.stop) (eq_tests (role.owner role.task.goal) role.me) _ (lower_tests (look_up s.entries (search_key role.task.goal)))

abbrev pub grant_by : Small → BookState → Bool → Bool → Bool → Bool → BookDone
grant_by s book true x y z = (Some Stopped, (s, book))
grant_by s book false true y z = (Some NothingBelowLimit, (s, book))
grant_by s book false false true z = (Some AllowanceLeft, (s, book))
grant_by s book false false false true = (Some NoAllowance, (s, book))
grant_by s book false false false false = renewed (record s { allowance = s.allowance + grant_of book }) (record book { granted = book.granted + grant_of book })

abbrev pub small_grant : Role → Small → BookState → BookDone
small_grant role s book =
    grant_by s book (is_there book.stop) (nothing_below role.task (least role.task (open_list role.task s)) (limit_of book.best)) (not (s.allowance == 0)) (book.granted == book.limit)

abbrev pub rest_by : Role → Small → BookState → Option ℕ → Bool → Bool → Bool → BookDone
rest_by role s book floor true y z = (Some Stopped, (s, book))
rest_by role s book floor false true z = (Some PurseEmpty, (s, book))
rest_by role s book floor false false true = (Some NotIdle, (s, book))
rest_by role s book floor false false false = renewed (record s { purse = 0 }) (with_rest book role.me s.purse floor)

abbrev pub small_rest : Role → Small → BookState → BookDone
small_rest role s book =
    rest_by role s book (floor_cost role.task (the_least role.task s)) (is_there book.stop) (s.purse == 0) (not (is_idle role.task s (limit_of book.best) book.best))

module _ (role : Role) (goal : IsBoard role.task.goal) (s : Small) (boards : AreBoards role.task s.entries) (book : BookState) where
  grant_at : (w x y z : Bool) → Tests w (book.stop ≢ None) → Tests x (HasNothingBelow role.task (worker_of s) (limit_of book.best)) → Tests y (s.allowance ≢ 0) → Tests z (book.granted ≡ book.limit) → GrantStep role (book_turn s book (grant_by s book w x y z))
  grant_at true x y z tw tx ty tz = inl (tw.0 refl, (refl, refl))
  grant_at false true y z tw tx ty tz = inr (tw.1 refl, inl (tx.0 refl, (refl, refl)))
  grant_at false false true z tw tx ty tz = inr (tw.1 refl, inr (tx.1 refl, inl (ty.0 refl, (refl, refl))))
  grant_at false false false true tw tx ty tz = inr (tw.1 refl, inr (tx.1 refl, inr (ty.1 refl, inl (tz.0 refl, (refl, refl)))))
  grant_at false false false false tw tx ty tz = inr (tw.1 refl, inr (tx.1 refl, inr (ty.1 refl, inr (tz.1 refl, (refl, refl)))))

  pub grant_is : GrantStep role (book_turn s book (small_grant role s book))
  grant_is = grant_at _ _ _ _ (there_tests book.stop) (below_tests role.task goal s boards (limit_of book.best)) (not_tests (s.allowance == 0) (s.allowance ≡ 0) (eq_tests s.allowance 0)) (eq_tests book.granted book.limit)

  abbrev the_floor : Option ℕ
  the_floor = floor_cost role.task (the_least role.task s)

  rest_at : (x y z : Bool) → Tests x (book.stop ≢ None) → Tests y (s.purse ≡ 0) → Tests z (¬ IsIdle role.task (worker_of s) (limit_of book.best) book.best) → RestStep role (book_turn s book (rest_by role s book the_floor x y z))
  rest_at true y z tx ty tz = inl (tx.0 refl, (refl, refl))
  rest_at false true z tx ty tz = inr (tx.1 refl, inl (ty.0 refl, (refl, refl)))
  rest_at false false true tx ty tz = inr (tx.1 refl, inr (ty.1 refl, inl (tz.0 refl, (refl, refl))))
  rest_at false false false tx ty tz = inr (tx.1 refl, inr (ty.1 refl, inr (tz.1 refl, (the_floor, floor_is role.task goal s boards, (refl, refl)))))

  pub rest_is : RestStep role (book_turn s book (small_rest role s book))
  rest_is = rest_at _ _ _ (there_tests book.stop) (eq_tests s.purse 0) (not_tests _ (IsIdle role.task (worker_of s) (limit_of book.best) book.best) (idle_tests role.task goal s boards (limit_of book.best) book.best))

abbrev pub go_on : Small → BookState → HaltCause → Bool
go_on s book causes.TheVariants.Limit = if nat_lt 0 s.allowance then true else nat_lt book.granted book.limit
go_on s book (causes.TheVariants.Memory want) = false
go_on s book causes.TheVariants.Start = false

or_tests : (a b : Bool) (P Q : Type 0) → Tests a P → Tests b Q → Tests (if a then true else b) (P ⊎ Q)
or_tests true b P Q p q = (λ e. inl (p.0 refl), λ e. absurd (cc))
or_tests false b P Q p q = (λ e. inr (q.0 e), λ e. either e)
  where
    either : b ≡ false → ¬ (P ⊎ Q)
    either e (inl x) = p.1 refl x
    either e (inr y) = q.1 e y

go_on_tests : (s : Small) (book : BookState) (cause : HaltCause) → Tests (go_on s book cause) (MayGoOn (beside s book) cause)
go_on_tests s book causes.TheVariants.Limit = or_tests (nat_lt 0 s.allowance) (nat_lt book.granted book.limit) (0 < s.allowance) (book.granted < book.limit) (lt_tests 0 s.allowance) (lt_tests book.granted book.limit)
go_on_tests s book (causes.TheVariants.Memory want) = (λ e. absurd (cc), λ e no. no)
go_on_tests s book causes.TheVariants.Start = (λ e. absurd (cc), λ e no. no)

abbrev pub halt_by : HaltCause → Small → BookState → Bool → Bool → BookDone
halt_by cause s book true y = (Some Stopped, (s, book))
halt_by cause s book false true = (Some AllowanceLeft, (s, book))
halt_by cause s book false false = renewed s (record book { stop = Some (stop_of cause) })

abbrev pub small_halt : HaltCause → Small → BookState → BookDone
small_halt cause s book = halt_by cause s book (is_there book.stop) (go_on s book cause)

halt_at : (cause : HaltCause) (s : Small) (book : BookState) (x y : Bool) → Tests x (book.stop ≢ None) → Tests y (MayGoOn (beside s book) cause) → HaltStep cause (book_turn s book (halt_by cause s book x y))
halt_at cause s book true y tx ty = inl (tx.0 refl, (refl, refl))
halt_at cause s book false true tx ty = inr (tx.1 refl, inl (ty.0 refl, (refl, refl)))
halt_at cause s book false false tx ty = inr (tx.1 refl, inr (ty.1 refl, (refl, refl)))

pub halt_is : (cause : HaltCause) (s : Small) (book : BookState) → HaltStep cause (book_turn s book (small_halt cause s book))
halt_is cause s book = halt_at cause s book _ _ (there_tests book.stop) (go_on_tests s book cause)

-- what a step with a lane or on the book leaves known
send_kept : (to : ℕ) (s : Small) (lane : Lane) (x y z : Bool) → (send_by to s lane x y z).1.0.entries ≡ s.entries
send_kept to s lane true y z = refl
send_kept to s lane false true z = refl
send_kept to s lane false false true = refl
send_kept to s lane false false false = refl

pub send_entries : (to : ℕ) (s : Small) (lane : Lane) → (small_send to s lane).1.0.entries ≡ s.entries
send_entries to s lane = send_kept to s lane _ _ _

deliver_kept : (s : Small) (lane : Lane) (x y : Bool) → (deliver_by s lane x y).1.0.entries ≡ s.entries
deliver_kept s lane true y = refl
deliver_kept s lane false true = refl
deliver_kept s [] false false = refl
deliver_kept s (packet ∷ rest) false false = refl

pub deliver_entries : (s : Small) (lane : Lane) → (small_deliver s lane).1.0.entries ≡ s.entries
deliver_entries s lane = deliver_kept s lane _ _

draw_kept : (s : Small) (book : BookState) (x y z : Bool) → (draw_by s book x y z).1.0.entries ≡ s.entries
draw_kept s book true y z = refl
draw_kept s book false true z = refl
draw_kept s book false false true = refl
draw_kept s book false false false = refl

pub draw_entries : (s : Small) (book : BookState) → (small_draw s book).1.0.entries ≡ s.entries
draw_entries s book = draw_kept s book _ _ _

announce_kept : (role : Role) (s : Small) (book : BookState) (x y : Bool) (o : Option Known) (z : Bool) → (announce_by role s book x y o z).1.0.entries ≡ s.entries
announce_kept role s book true y o z = refl
announce_kept role s book false false o z = refl
announce_kept role s book false true None z = refl
announce_kept role s book false true (Some k) true = refl
announce_kept role s book false true (Some k) false = refl

pub announce_entries : (role : Role) (s : Small) (book : BookState) → (small_announce role s book).1.0.entries ≡ s.entries
announce_entries role s book = announce_kept role s book _ _ _ _

grant_kept : (s : Small) (book : BookState) (w x y z : Bool) → (grant_by s book w x y z).1.0.entries ≡ s.entries
grant_kept s book true x y z = refl
grant_kept s book false true y z = refl
grant_kept s book false false true z = refl
grant_kept s book false false false true = refl
grant_kept s book false false false false = refl

pub grant_entries : (role : Role) (s : Small) (book : BookState) → (small_grant role s book).1.0.entries ≡ s.entries
grant_entries role s book = grant_kept s book _ _ _ _

rest_kept : (role : Role) (s : Small) (book : BookState) (floor : Option ℕ) (x y z : Bool) → (rest_by role s book floor x y z).1.0.entries ≡ s.entries
rest_kept role s book floor true y z = refl
rest_kept role s book floor false true z = refl
rest_kept role s book floor false false true = refl
rest_kept role s book floor false false false = refl

pub rest_entries : (role : Role) (s : Small) (book : BookState) → (small_rest role s book).1.0.entries ≡ s.entries
rest_entries role s book = rest_kept role s book _ _ _ _

halt_kept : (cause : HaltCause) (s : Small) (book : BookState) (x y : Bool) → (halt_by cause s book x y).1.0.entries ≡ s.entries
halt_kept cause s book true y = refl
halt_kept cause s book false true = refl
halt_kept cause s book false false = refl

pub halt_entries : (cause : HaltCause) (s : Small) (book : BookState) → (small_halt cause s book).1.0.entries ≡ s.entries
halt_entries cause s book = halt_kept cause s book _ _
