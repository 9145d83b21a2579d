-- Worked runs and worked steps: each is computed.
use Rattle.std.proofs.Common.{◌≡◌, ◌≢◌, ℕ, zero, suc, ◌-◌, ◌<◌, ◌≤◌, Bool, true, false, List, [], ◌∷◌, ◌++◌, length, refl, sym, ap, ◌∙◌, subst, inl, arith, Some, None, replicate, lit<, ◌+◌, ◌^◌}
use Rattle.std.specs.Prelude.{All, AllPairs, ◌==◌, ◌&&◌, nat_lt, not, slice_get, slice_set, slice_index, option_map, Option, if◌then◌else◌}
use Rattle.std.specs.FinMap as map
use Rattle.std.specs.Ordering.{nat_cmp}
use Rattle.std.proofs.lemmas.Bool.{cond-true, cond-false}
use Rattle.std.proofs.lemmas.List.{length-replicate}
use Rattle.std.proofs.lemmas.List.Elements.{All-cons}
use Rattle.std.proofs.lemmas.List.Kept.{AllPairs-cons}
use Rattle.std.proofs.Math.Nat.{mod-lt}
use Rattle.board.specs.declared.moves.Move.{Move}
use Rattle.board.specs.Plans.{Leads}
use Rattle.board.specs.declared.moves.Move.TheVariants.{U, L, R, D}
use Rattle.board.specs.Shapes.{ShapeModel, IsShape, cell_count}
use Rattle.board.specs.Boards.{BoardModel, IsBoard, blank_of, goal_of}
use Rattle.board.specs.Weights.{AreWeights, unit_rule}
use Rattle.board.specs.Worked.{grid_of, two_by_two, two_by_three}
use Rattle.pattern_index.specs.Sparse.{sparse_of}
use Rattle.search_keys.specs.SearchKeys.{search_key}
use Rattle.world_model.specs.Frontiers.{IsLowest, IsReached}
use Rattle.world_model.specs.Knowledge.{Knowledge, is_news, relaxation_at}
use Rattle.world_model.specs.Openings.{IsJob, Job, opening}
use Rattle.world_model.specs.Outcomes.{AreRowsFor, IsByLastMoves}
use Rattle.world_model.specs.Shapes.{IsShaped}
use Rattle.world_model.specs.Steps.{IsRun}
use Rattle.world_model.specs.Worked.{BoardIsExpandedAgain, CutIsGiven, HaltIsGiven, LimitIsGiven, PlanIsGiven, RefusalsAreGiven, RefusalsOnTheWayAreGiven, RelaxationsLower, far_goal, one_move, one_way, other_way, entry_of}
use Rattle.world_model.specs.Worlds.{WorldState}
use Rattle.world_model.specs.declared.parts.Known.{Known}
use Rattle.world_model.specs.declared.steps.HaltCause.TheVariants.{Limit, Memory, Start}
use Rattle.world_model.specs.declared.steps.Step.{Step}
use Rattle.world_model.specs.declared.steps.Step.TheVariants.{Expand, Settle, Send, Deliver, Draw, Announce, Grant, Rest, Halt}
use Rattle.world_model.specs.declared.limits.TheConstants.{PACKET_LIMIT, LANE_LIMIT, GREATEST_GRANT}
use Rattle.world_model.specs.declared.parts.Item.{Item}
use Rattle.world_model.specs.declared.steps.Stop.TheVariants.{Quiet}
use Rattle.world_model.specs.Workers.{Packet, Role}
use Rattle.world_model.specs.WorkedSteps.{FullLanesRefuse, FullPursesRefuse, FullCreditsRefuse, LastIsSettled, FullPacketsRefuse, SuccessorsAreInOrder, LowerGoalsAreAnnounced, GrantsAreWhole, FloorsAreKept, LimitsAreHaltedAt, starter, finisher, goal_at, lane_of, greatest_sum, book_with, book_best, book_rested, start_board, three_ways}
use Rattle.world_model.proofs.ChangeLemmas.{get_inserted}
use Rattle.world_model.proofs.RunLemmas.{opening_shaped}
use Rattle.world_model.proofs.SmallWorkers.{Small, look_up, AreBoards, Entries}
use Rattle.world_model.proofs.SmallSteps.{eq_tests, lt_tests, not_tests, expand_is, settle_is, send_is, deliver_is, draw_is, announce_is, grant_is, rest_is, halt_is}
use Rattle.world_model.proofs.SmallWorlds.{SmallWorld, AllBoards, known_first, world_of, made, end_of, run_is, all_costs, least_number, lowest_is, reached_is}
use Rattle.world_model.proofs.RowsOfSmallWorlds.{Row, are_rows, both, rows_for}

-- ---- the worked runs: each is computed, and what it ends with

-- whether a list of numbers is a board's
abbrev all_below : ℕ → List ℕ → Bool
all_below n [] = true
all_below n (t ∷ ts) = nat_lt t n && all_below n ts

abbrev none_is : ℕ → List ℕ → Bool
none_is t [] = true
none_is t (x ∷ xs) = not (t == x) && none_is t xs

abbrev all_differ : List ℕ → Bool
all_differ [] = true
all_differ (t ∷ ts) = none_is t ts && all_differ ts

below_is : (n : ℕ) (ts : List ℕ) → all_below n ts ≡ true → All (λ t. t < n) ts
below_is n [] e = λ k d lt. absurd (omega arith)
below_is n (t ∷ ts) e = let h = both (nat_lt t n) (all_below n ts) e in All-cons (λ x. x < n) t ts ((lt_tests t n).0 h.0) (below_is n ts h.1)

none_differs : (t : ℕ) (xs : List ℕ) → none_is t xs ≡ true → All (λ x. t ≢ x) xs
none_differs t [] e = λ k d lt. absurd (omega arith)
none_differs t (x ∷ xs) e = let h = both (not (t == x)) (none_is t xs) e in All-cons (λ y. t ≢ y) x xs ((not_tests (t == x) (t ≡ x) (eq_tests t x)).0 h.0) (none_differs t xs h.1)

differ_is : (ts : List ℕ) → all_differ ts ≡ true → AllPairs (λ x y. x ≢ y) ts
differ_is [] e = λ i j d lt j_in. absurd (omega arith)
differ_is (t ∷ ts) e = let h = both (none_is t ts) (all_differ ts) e in AllPairs-cons (λ x y. x ≢ y) t ts (none_differs t ts h.0) (differ_is ts h.1)

pub board_is : (b : BoardModel) → IsShape b.grid → length b.tiles ≡ cell_count b.grid → all_below (cell_count b.grid) b.tiles ≡ true → all_differ b.tiles ≡ true → IsBoard b
board_is b shape count low differ = record { sides = shape; one_each = count; in_range = below_is (cell_count b.grid) b.tiles low; different = differ_is b.tiles differ }

ones : (n k : ℕ) → k < n → slice_index (replicate n 1) k ≡ 1
ones zero k lt = absurd (omega arith)
ones (suc n) zero lt = refl
ones (suc n) (suc k) lt = ones n k (omega arith)

weight_one : (n tile : ℕ) → 0 < tile → tile < suc n → slice_index (0 ∷ replicate n 1) tile ≡ 1
weight_one n zero some lt = absurd (omega arith)
weight_one n (suc tile) some lt = ones n tile (omega arith)

weight_low : (n tile : ℕ) → tile < suc n → slice_index (0 ∷ replicate n 1) tile ≤ 255
weight_low n zero lt = omega arith
weight_low n (suc tile) lt = let e = ones n tile (omega arith) in omega arith

pub unit_is : (grid : ShapeModel) → IsShape grid → suc (cell_count grid - 1) ≡ cell_count grid → AreWeights (unit_rule grid)
unit_is grid shape some = record {
  sides = shape;
  one_each = ap suc (length-replicate (cell_count grid - 1) 1) ∙ some;
  blank = refl;
  low = λ tile above lt. let e = weight_one (cell_count grid - 1) tile above (omega arith) in omega arith;
  high = λ tile lt. weight_low (cell_count grid - 1) tile (omega arith);
}

shape_of : (rows cols : ℕ) → 2 ≤ rows → rows ≤ 5 → 2 ≤ cols → cols ≤ 5 → IsShape (grid_of rows cols)
shape_of rows cols a b c d = record { rows_low = a; rows_high = b; cols_low = c; cols_high = d }

pub two_shape : IsShape (grid_of 2 2)
two_shape = shape_of 2 2 (omega arith) (omega arith) (omega arith) (omega arith)

-- the job of one move is one
pub one_move_is : IsJob one_move
one_move_is = record {
  task = record {
    start = board_is (two_by_two 1 0 2 3) two_shape refl refl refl;
    goal = board_is (goal_of (grid_of 2 2)) two_shape refl refl refl;
    sides = refl;
    rule = unit_is (grid_of 2 2) two_shape refl;
    costs = refl;
  };
  some = omega arith;
  few = omega arith;
  owners = λ b. mod-lt (blank_of b) (omega arith);
}

abbrev pub small_idle : ℕ → Small
small_idle n = record { entries = []; held = []; unsent = replicate n []; purse = 0; allowance = 0; expansions = 0; best = None }

abbrev pub small_opening : Job → SmallWorld
small_opening job = record {
  workers = slice_set (replicate job.count (small_idle job.count)) (job.owner job.task.start) (record (small_idle job.count) { entries = (job.task.start, record { cost = 0; expanded = false; via = U }) ∷ []; purse = 1 });
  book = record { credit = 1; best = None; floors = replicate job.count None; granted = 0; limit = job.limit; stop = None };
  lanes = replicate job.count (replicate job.count []);
}

-- the run of a job by these steps
module _ (job : Job) (is : IsJob job) (same : world_of job.task job.owner (small_opening job) ≡ opening job U) (boards : AllBoards job.task (small_opening job).workers) (steps : List Step) where
  abbrev pub end_by : SmallWorld
  end_by = end_of job.task job.owner steps (small_opening job)

  pub run_by : IsRun (opening job U) (made job.task job.owner steps (small_opening job)) (world_of job.task job.owner end_by) × AllBoards job.task end_by.workers
  run_by =
      let run = run_is job.task job.owner is.task steps (small_opening job) (subst IsShaped (sym same) (opening_shaped job U is)) boards in
      (subst (λ w. IsRun w (made job.task job.owner steps (small_opening job)) (world_of job.task job.owner end_by)) same run.0, run.1)

  pub lowest_by : IsLowest (world_of job.task job.owner end_by) (least_number (all_costs job.task end_by))
  lowest_by = lowest_is job.task job.owner is.task.goal end_by run_by.1

  pub reached_by : (x : Small) → slice_get end_by.workers (job.owner job.task.goal) ≡ Some x → IsReached (world_of job.task job.owner end_by) (option_map (λ (k : Known). k.cost) (look_up x.entries (search_key job.task.goal)))
  reached_by x at = reached_is job.task job.owner is.task.goal end_by run_by.1 x at

  -- the rows of its end below k, by test
  pub rows_by : (k : ℕ) (wanted rows : List Row) → rows ≡ wanted → job.task.sum job.task.start < k → are_rows job.task k end_by wanted ≡ true → AreRowsFor (world_of job.task job.owner end_by) k rows
  rows_by k wanted rows listed above e = rows_for job.task job.owner is.task.goal end_by run_by.1 k wanted rows listed above e

one_boards : AllBoards one_move.task (small_opening one_move).workers
one_boards = (tt, (((one_move_is.task.start, refl), tt), tt))

-- the start as the one row
abbrev start_row : List Row
start_row = (two_by_two 1 0 2 3, 0) ∷ []

module _ (steps : List Step) where
  abbrev pub one_end : SmallWorld
  one_end = end_of one_move.task one_move.owner steps (small_opening one_move)

  pub one_run : IsRun (opening one_move U) (made one_move.task one_move.owner steps (small_opening one_move)) (world_of one_move.task one_move.owner one_end) × AllBoards one_move.task one_end.workers
  one_run = run_by one_move one_move_is refl one_boards steps

  pub one_lowest : IsLowest (world_of one_move.task one_move.owner one_end) (least_number (all_costs one_move.task one_end))
  one_lowest = lowest_by one_move one_move_is refl one_boards steps

  pub one_reached : (x : Small) → slice_get one_end.workers 0 ≡ Some x → IsReached (world_of one_move.task one_move.owner one_end) (option_map (λ (k : Known). k.cost) (look_up x.entries (search_key one_move.task.goal)))
  one_reached x at = reached_by one_move one_move_is refl one_boards steps x at

  -- the start is the one row below 1, by test
  pub one_row : (rows : List Row) → rows ≡ start_row → are_rows one_move.task 1 one_end start_row ≡ true → AreRowsFor (world_of one_move.task one_move.owner one_end) 1 rows
  one_row rows listed e = rows_by one_move one_move_is refl one_boards steps 1 start_row rows listed (omega arith) e

abbrev sent_steps : List Step
sent_steps = Grant 1 ∷ Expand 1 ∷ Send 1 0 ∷ Draw 1 ∷ Send 1 0 ∷ []

pub cut_given : CutIsGiven
unfolding sparse_of
cut_given rows listed = (
  world_of one_move.task one_move.owner (one_end sent_steps),
  (one_run sent_steps).0,
  (Some 1, None, one_lowest sent_steps, one_reached sent_steps _ refl, (((1, refl, refl), refl, refl), one_row sent_steps rows.items listed refl)),
)

pub halt_given : HaltIsGiven
unfolding sparse_of
halt_given want rows listed =
    let steps : List Step = Grant 1 ∷ Halt 1 Limit ∷ Halt 0 (Memory want) ∷ Rest 1 ∷ [] in (
      world_of one_move.task one_move.owner (one_end steps),
      (one_run steps).0,
      (Some 0, None, one_lowest steps, one_reached steps _ refl, (((0, refl, refl), refl, refl), inl (omega arith, listed))),
    )

abbrev refused_steps : List Step
refused_steps = Settle 0 ∷ Deliver 0 1 ∷ Rest 0 ∷ Draw 0 ∷ Grant 0 ∷ Expand 0 ∷ Expand 1 ∷ Announce 1 ∷ Announce 0 ∷ Send 0 1 ∷ Send 0 0 ∷ Send 0 2 ∷ Deliver 2 0 ∷ Expand 2 ∷ Halt 2 Limit ∷ Rest 1 ∷ []

pub refusals_given : RefusalsAreGiven
unfolding sparse_of
refusals_given rows listed = (
  world_of one_move.task one_move.owner (one_end refused_steps),
  (one_run refused_steps).0,
  (Some 0, None, one_lowest refused_steps, one_reached refused_steps _ refl, (((0, refl, refl), refl, refl), inl (omega arith, listed))),
)

abbrev way_steps : List Step
way_steps =
    sent_steps
    ++ (Rest 0 ∷ Rest 1 ∷ Grant 1 ∷ Deliver 1 0 ∷ Deliver 0 1 ∷ Deliver 0 1 ∷ Announce 0 ∷ Rest 0 ∷ Settle 0 ∷ Rest 0 ∷ Announce 0 ∷ Announce 0 ∷ Halt 0 Start ∷ Draw 0 ∷ [])

pub way_given : RefusalsOnTheWayAreGiven
unfolding sparse_of
way_given = (world_of one_move.task one_move.owner (one_end way_steps), (one_run way_steps).0)

-- what is known at a key after a relaxation there
relaxed_at : (known : Knowledge) (key cost : ℕ) (via : Move) (o : Option Known) (news : Bool) → map.get known key ≡ o → is_news o cost ≡ news → map.get (relaxation_at known key cost via) key ≡ (if news then Some (record { cost = cost; expanded = false; via = via }) else o)
relaxed_at known key cost via o true at news =
    ap (λ (k : Knowledge). map.get k key) (cond-true _ _ _ (ap (λ (x : Option Known). is_news x cost) at ∙ news)) ∙ get_inserted known key (record { cost = cost; expanded = false; via = via })
relaxed_at known key cost via o false at news = ap (λ (k : Knowledge). map.get k key) (cond-false _ _ _ (ap (λ (x : Option Known). is_news x cost) at ∙ news)) ∙ at

pub relaxations_lower : RelaxationsLower
relaxations_lower key =
    let closed : Known = record { cost = 5; expanded = true; via = U } in
    let known : Knowledge = map.insert map.empty key closed in (
      relaxed_at map.empty key 5 U None true (map.get-empty nat_cmp key) refl,
      relaxed_at known key 5 L (Some closed) false (get_inserted map.empty key closed) refl,
      relaxed_at known key 6 L (Some closed) false (get_inserted map.empty key closed) refl,
      relaxed_at known key 4 L (Some closed) true (get_inserted map.empty key closed) refl,
    )

abbrev pub all_steps : List Step
all_steps = Grant 1 ∷ Expand 1 ∷ Send 1 0 ∷ Draw 1 ∷ Send 1 0 ∷ Deliver 0 1 ∷ Settle 0 ∷ Announce 0 ∷ Rest 0 ∷ Rest 1 ∷ []

abbrev pub all_end : SmallWorld
all_end = one_end all_steps

abbrev pub all_world : WorldState
all_world = world_of one_move.task one_move.owner all_end

pub plan_given : PlanIsGiven
unfolding sparse_of
plan_given plan rows moves listed = (
  all_world,
  (one_run all_steps).0,
  (refl, refl),
  (
    Some 1,
    Some 1,
    one_lowest all_steps,
    one_reached all_steps _ refl,
    (
      (1, refl, refl),
      record {
        goal = 1;
        is = refl;
        traced = subst (λ ms. IsByLastMoves all_world one_move.task.start ms one_move.task.goal) (sym moves) (goal_of (grid_of 2 2), 1, record { cost = 1; expanded = false; via = L }, record { cell = 0; towards = (lit< tt, refl, refl); after = refl; cost = refl }, known_first one_move.task one_move.owner all_end (goal_of (grid_of 2 2)) (record { cost = 1; expanded = false; via = L }) refl (one_move_is.task.goal, refl), refl, refl);
        leads = subst (λ ms. Leads one_move.task.rule one_move.task.start ms one_move.task.goal 1) (sym moves) (goal_of (grid_of 2 2), 1, 0, record { cell = 0; towards = (lit< tt, refl, refl); after = refl; cost = refl }, (refl, refl), refl);
        within = omega arith;
      },
      one_row all_steps rows.items listed refl,
    ),
  ),
)

pub three_shape : IsShape (grid_of 2 3)
three_shape = shape_of 2 3 (omega arith) (omega arith) (omega arith) (omega arith)

far_goal_is : IsJob far_goal
far_goal_is = record {
  task = record {
    start = board_is (two_by_three (0 ∷ 1 ∷ 2 ∷ 3 ∷ 4 ∷ 5 ∷ [])) three_shape refl refl refl;
    goal = board_is (two_by_three (5 ∷ 4 ∷ 3 ∷ 2 ∷ 1 ∷ 0 ∷ [])) three_shape refl refl refl;
    sides = refl;
    rule = unit_is (grid_of 2 3) three_shape refl;
    costs = refl;
  };
  some = omega arith;
  few = omega arith;
  owners = λ b. mod-lt (blank_of b) (omega arith);
}

far_boards : AllBoards far_goal.task (small_opening far_goal).workers
far_boards = (((far_goal_is.task.start, refl), tt), (tt, (tt, (tt, (tt, (tt, tt))))))

abbrev far_steps : List Step
far_steps = one_way ++ other_way

abbrev far_end : SmallWorld
far_end = end_of far_goal.task far_goal.owner far_steps (small_opening far_goal)

-- the start and its two successors
abbrev far_rows : List Row
far_rows = (two_by_three (0 ∷ 1 ∷ 2 ∷ 3 ∷ 4 ∷ 5 ∷ []), 0) ∷ (two_by_three (1 ∷ 0 ∷ 2 ∷ 3 ∷ 4 ∷ 5 ∷ []), 1) ∷ (two_by_three (3 ∷ 1 ∷ 2 ∷ 0 ∷ 4 ∷ 5 ∷ []), 1) ∷ []

pub again_given : BoardIsExpandedAgain
unfolding sparse_of
again_given rows listed = (
  world_of far_goal.task far_goal.owner far_end,
  (run_by far_goal far_goal_is refl far_boards far_steps).0,
  (
    Some 2,
    None,
    lowest_by far_goal far_goal_is refl far_boards far_steps,
    reached_by far_goal far_goal_is refl far_boards far_steps _ refl,
    (((2, refl, refl), refl, refl), rows_by far_goal far_goal_is refl far_boards far_steps 2 far_rows rows.items listed (omega arith) refl),
  ),
)

abbrev limited_move : Job
limited_move = record one_move { limit = 1 }

limited_is : IsJob limited_move
limited_is = record { task = one_move_is.task; some = omega arith; few = omega arith; owners = one_move_is.owners }

abbrev limit_steps : List Step
limit_steps = Grant 1 ∷ Halt 1 Limit ∷ Expand 1 ∷ Expand 1 ∷ Grant 1 ∷ Halt 1 Limit ∷ []

pub limit_given : LimitIsGiven
unfolding sparse_of
limit_given rows listed = (
  world_of limited_move.task limited_move.owner (end_of limited_move.task limited_move.owner limit_steps (small_opening limited_move)),
  (run_by limited_move limited_is refl one_boards limit_steps).0,
  (
    Some 1,
    None,
    lowest_by limited_move limited_is refl one_boards limit_steps,
    reached_by limited_move limited_is refl one_boards limit_steps _ refl,
    (((1, refl, refl), refl, refl), rows_by limited_move limited_is refl one_boards limit_steps 1 start_row rows.items listed (omega arith) refl),
  ),
)

-- ---- worked steps: each is computed

abbrev small_with : Entries → ℕ → Small
small_with entries purse = record { entries = entries; held = []; unsent = [] ∷ [] ∷ []; purse = purse; allowance = 0; expansions = 0; best = None }

abbrev small_sends : ℕ → ℕ → Small
small_sends count purse = record (small_with [] purse) { unsent = replicate count (goal_at 1) ∷ [] ∷ [] }

pub full_lanes : FullLanesRefuse
full_lanes = (send_is 0 (small_sends 1 2) (lane_of LANE_LIMIT), send_is 0 (small_sends 1 2) (lane_of (LANE_LIMIT - 1)), send_is 0 (small_sends 1 1) (lane_of LANE_LIMIT), send_is 0 (small_sends 0 1) (lane_of LANE_LIMIT))

abbrev small_takes : List Item → ℕ → Small
small_takes held purse = record (small_with [] purse) { held = held }

pub full_purses : FullPursesRefuse
full_purses = (
  deliver_is (small_takes [] greatest_sum) (lane_of 1),
  deliver_is (small_takes [] (greatest_sum - 1)) ((goal_at 1 ∷ []) ∷ lane_of 1),
  deliver_is (small_takes (goal_at 1 ∷ []) greatest_sum) (lane_of 1),
  deliver_is (small_takes [] greatest_sum) [],
)

pub full_credits : FullCreditsRefuse
full_credits = (
  draw_is (small_with [] 1) (book_with (2 ^ 63 + 1) 0 None),
  draw_is (small_with [] 1) (book_with (2 ^ 63) 0 None),
  draw_is (small_with [] 0) (book_with (2 ^ 63 + 1) 0 None),
  draw_is (small_with [] 0) (book_with (2 ^ 63 + 1) 0 (Some Quiet)),
)

pub last_settled : LastIsSettled
last_settled = settle_is (small_takes (record { board = start_board; cost = 3; via = R } ∷ goal_at 1 ∷ []) 1)

abbrev start_entries : Entries
start_entries = (start_board, entry_of 0 false U) ∷ []

start_there : AreBoards one_move.task start_entries
start_there = ((one_move_is.task.start, refl), tt)

abbrev small_expands : ℕ → ℕ → Option ℕ → Small
small_expands allowance count best = record (small_with start_entries 1) { unsent = replicate count (goal_at 2) ∷ [] ∷ []; allowance = allowance; best = best }

pub full_packets : FullPacketsRefuse
unfolding sparse_of
full_packets = (
  expand_is starter one_move_is.task.goal (small_expands 1 PACKET_LIMIT None) start_there,
  expand_is starter one_move_is.task.goal (small_expands 1 (PACKET_LIMIT - 1) None) start_there,
  expand_is starter one_move_is.task.goal (small_expands 0 PACKET_LIMIT None) start_there,
  expand_is starter one_move_is.task.goal (small_expands 0 PACKET_LIMIT (Some 0)) start_there,
)

abbrev three_role : Role
three_role = record { task = three_ways.task; owner = three_ways.owner; me = 1 }

abbrev small_three : Packet → Small
small_three packet = record (small_with ((three_ways.task.start, entry_of 4 false D) ∷ []) 1) { unsent = packet ∷ [] ∷ []; allowance = 7; expansions = 2 }

three_start : IsBoard three_ways.task.start
three_start = board_is three_ways.task.start three_shape refl refl refl

three_goal : IsBoard three_ways.task.goal
three_goal = board_is three_ways.task.goal three_shape refl refl refl

abbrev left_item : Item
left_item = record { board = two_by_three (0 ∷ 1 ∷ 2 ∷ 3 ∷ 4 ∷ 5 ∷ []); cost = 5; via = L }

pub in_order : SuccessorsAreInOrder
unfolding sparse_of
in_order = (
  expand_is three_role three_goal (small_three (replicate 29 left_item)) ((three_start, refl), tt),
  expand_is three_role three_goal (small_three (replicate 30 left_item)) ((three_start, refl), tt),
)

abbrev small_goal : Small
small_goal = small_with ((goal_of (grid_of 2 2), entry_of 3 false L) ∷ []) 1

goal_there : AreBoards one_move.task small_goal.entries
goal_there = ((one_move_is.task.goal, refl), tt)

pub lower_goals : LowerGoalsAreAnnounced
unfolding sparse_of
lower_goals = (
  announce_is finisher small_goal (book_best 4 None),
  announce_is finisher small_goal (book_best 3 None),
  announce_is starter small_goal (book_best 4 None),
  announce_is starter small_goal (book_best 3 (Some Quiet)),
)

pub whole_grants : GrantsAreWhole
unfolding sparse_of
whole_grants = (
  grant_is starter one_move_is.task.goal (small_expands 0 0 None) start_there (book_best 9 None),
  grant_is starter one_move_is.task.goal (small_expands 0 0 None) start_there (book_with 1 GREATEST_GRANT None),
  grant_is starter one_move_is.task.goal (small_expands 0 0 None) start_there (book_with 1 (GREATEST_GRANT + 44) None),
  grant_is starter one_move_is.task.goal (small_expands 1 0 None) start_there (book_with 1 (GREATEST_GRANT + 44) None),
  grant_is starter one_move_is.task.goal (small_expands 1 0 None) start_there (book_best 0 None),
  grant_is starter one_move_is.task.goal (small_expands 1 0 None) start_there (book_best 0 (Some Quiet)),
)

abbrev small_rests : ℕ → Small
small_rests purse = small_with ((start_board, entry_of 7 false U) ∷ []) purse

rest_there : AreBoards one_move.task (small_rests 0).entries
rest_there = ((one_move_is.task.start, refl), tt)

pub kept_floors : FloorsAreKept
unfolding sparse_of
kept_floors = (
  rest_is starter one_move_is.task.goal (small_rests 3) rest_there (book_rested 5 (Some 8) None None),
  rest_is starter one_move_is.task.goal (small_rests 5) rest_there (book_rested 5 (Some 8) None None),
  rest_is finisher one_move_is.task.goal (small_with [] 1) tt (book_rested 5 (Some 8) (Some 9) None),
  rest_is starter one_move_is.task.goal (record (small_rests 3) { held = goal_at 9 ∷ [] }) rest_there (book_rested 5 None None None),
  rest_is starter one_move_is.task.goal (record (small_rests 3) { unsent = (goal_at 9 ∷ []) ∷ [] ∷ [] }) rest_there (book_rested 5 None None None),
  rest_is starter one_move_is.task.goal small_goal goal_there (book_rested 5 None None None),
  rest_is starter one_move_is.task.goal (small_rests 3) rest_there (record (book_rested 5 None None None) { best = Some 8 }),
  rest_is starter one_move_is.task.goal (record (small_rests 0) { held = goal_at 9 ∷ [] }) rest_there (book_rested 5 None None None),
  rest_is starter one_move_is.task.goal (small_rests 0) rest_there (book_rested 5 None None (Some Quiet)),
)

pub halted_limits : LimitsAreHaltedAt
halted_limits = (
  halt_is Limit (small_expands 0 0 None) (book_with 1 (GREATEST_GRANT + 44) None),
  halt_is Limit (small_expands 1 0 None) (book_with 1 (GREATEST_GRANT + 44) None),
  halt_is Limit (small_expands 0 0 None) (book_with 1 (GREATEST_GRANT + 43) None),
  halt_is Start (small_expands 1 0 None) (book_best 9 None),
  halt_is Limit (small_expands 1 0 None) (book_with 1 0 (Some Quiet)),
  halt_is Start (small_expands 1 0 None) (book_with 1 0 (Some Quiet)),
)
