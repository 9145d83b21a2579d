-- The worked outcomes: each run is computed, and what it ends with.
use Rattle.std.proofs.Common.{◌≡◌, ℕ, zero, suc, ◌+◌, Bool, true, false, List, [], ◌∷◌, ◌++◌, refl, sym, ap, ◌∙◌, subst, inl, inr, arith, Some, None, replicate, lit<}
use Rattle.std.specs.Prelude.{Option}
use Rattle.std.specs.FinMap as map
use Rattle.std.specs.Ordering.{nat_cmp}
use Rattle.std.proofs.Math.Nat.{mod-lt}
use Rattle.board.specs.declared.costs.TheConstants.{GREATEST_EXPANDED_COST}
use Rattle.board.specs.declared.moves.Move.{Move}
use Rattle.board.specs.declared.moves.Move.TheVariants.{U, L}
use Rattle.board.specs.Boards.{BoardModel, blank_of, goal_of}
use Rattle.board.specs.Weights.{WeightsModel}
use Rattle.board.specs.Moves.{Moves}
use Rattle.board.specs.Plans.{Leads}
use Rattle.board.specs.Worked.{grid_of, two_by_two}
use Rattle.pattern_index.specs.Sparse.{sparse_of}
use Rattle.search_keys.specs.SearchKeys.{search_key}
use Rattle.world_model.specs.declared.parts.Known.{Known}
use Rattle.world_model.specs.declared.steps.HaltCause.TheVariants.{Start}
use Rattle.world_model.specs.declared.steps.Step.{Step}
use Rattle.world_model.specs.declared.steps.Step.TheVariants.{Expand, Settle, Send, Deliver, Draw, Announce, Grant, Rest, Halt}
use Rattle.world_model.specs.Openings.{IsJob, Job, first_worker, idle_worker, opening}
use Rattle.world_model.specs.Quiet.{HasBegun}
use Rattle.world_model.specs.declared.steps.Stop.{Stop}
use Rattle.world_model.specs.declared.steps.Stop.TheVariants.{Limit as StopLimit}
use Rattle.world_model.specs.Outcomes.{IsByLastMoves}
use Rattle.world_model.specs.Steps.{IsRun}
use Rattle.world_model.specs.Worked.{first_half, one_move, plain_job}
use Rattle.world_model.specs.WorkedOutcomes.{CostIsGiven, EmptyPlanIsGiven, JobsAreOfAllCounts, MemoryIsGiven, NoRowsAreGiven, OpeningsAreNotKept, PlanAboveIsGiven, StartIsGiven, ThreeRowsAreGiven, UnsolvableIsGiven, WorldsAreReached, far_start, halfway, known_start, two_expansions, two_moves}
use Rattle.world_model.specs.Workers.{IsTaskBoard, WorkerState}
use Rattle.world_model.proofs.ChangeLemmas.{get_inserted}
use Rattle.world_model.specs.Worlds.{Knows, WorldState}
use Rattle.world_model.proofs.RunLemmas.{runs_sound}
use Rattle.world_model.proofs.SmallWorkers.{look_first}
use Rattle.world_model.proofs.SmallWorlds.{AllBoards, SmallWorld, end_of, known_first, made, run_is, world_of}
use Rattle.world_model.proofs.WorkedLemmas.{all_steps, all_world, board_is, lowest_by, one_end, one_lowest, one_move_is, one_reached, one_run, reached_by, rows_by, run_by, small_opening, two_shape}
use Rattle.world_model.proofs.RowsOfSmallWorlds.{Row}

abbrev second_steps : List Step
second_steps = Deliver 0 1 ∷ Settle 0 ∷ Announce 0 ∷ Rest 0 ∷ Rest 1 ∷ []

abbrev first_steps : List Step
first_steps = Grant 1 ∷ Expand 1 ∷ Send 1 0 ∷ Draw 1 ∷ Send 1 0 ∷ []

abbrev half_small : SmallWorld
half_small = one_end first_steps

half_run : IsRun (opening one_move U) first_half halfway
unfolding sparse_of
half_run = (one_run first_steps).0

pub worlds_reached : WorldsAreReached
unfolding sparse_of
worlds_reached = (half_run, (run_is one_move.task one_move.owner one_move_is.task second_steps half_small (runs_sound one_move U first_half halfway one_move_is half_run).0 (one_run first_steps).1).0)

pub memory_given : MemoryIsGiven
unfolding sparse_of
memory_given refused = (
  (
    all_world,
    (one_run all_steps).0,
    (Some 1, Some 1, one_lowest all_steps, one_reached all_steps _ refl, (((1, refl, refl), refl, (refused, refl)), inl (λ e. cc))),
  ),
  (
    halfway,
    half_run,
    (Some 1, None, one_lowest first_steps, one_reached first_steps _ refl, (((1, refl, refl), refl, (refused, refl)), inr (omega arith))),
  ),
)

pub start_given : StartIsGiven
unfolding sparse_of
start_given rows listed =
    let steps : List Step = Halt 0 Start ∷ [] in (
      world_of one_move.task one_move.owner (one_end steps),
      (one_run steps).0,
      (Some 0, None, one_lowest steps, one_reached steps _ refl, (((0, refl, refl), refl, refl), inl (omega arith, listed))),
    )

-- jobs of one worker on boards of 2 by 2
abbrev empty_job : Job
empty_job = record (plain_job (goal_of (grid_of 2 2)) (goal_of (grid_of 2 2)) 1) { limit = 0 }

empty_is : IsJob empty_job
empty_is = record {
  task = record { start = one_move_is.task.goal; goal = one_move_is.task.goal; sides = refl; rule = one_move_is.task.rule; costs = refl };
  some = omega arith;
  few = omega arith;
  owners = λ b. mod-lt (blank_of b) (omega arith);
}

abbrev empty_steps : List Step
empty_steps = Grant 0 ∷ Rest 0 ∷ Announce 0 ∷ Rest 0 ∷ []

pub empty_given : EmptyPlanIsGiven
unfolding sparse_of
empty_given plan rows moves listed =
    let boards : AllBoards empty_job.task (small_opening empty_job).workers = (((empty_is.task.start, refl), tt), tt) in (
      world_of empty_job.task empty_job.owner (end_of empty_job.task empty_job.owner empty_steps (small_opening empty_job)),
      (run_by empty_job empty_is refl boards empty_steps).0,
      (
        None,
        Some 0,
        lowest_by empty_job empty_is refl boards empty_steps,
        reached_by empty_job empty_is refl boards empty_steps _ refl,
        (
          (0, refl, refl),
          record { goal = 0; is = refl; traced = subst (λ ms. IsByLastMoves (world_of empty_job.task empty_job.owner (end_of empty_job.task empty_job.owner empty_steps (small_opening empty_job))) empty_job.task.start ms empty_job.task.goal) (sym moves) refl; leads = subst (λ ms. Leads empty_job.task.rule empty_job.task.start ms empty_job.task.goal 0) (sym moves) (refl, refl); within = omega arith },
          inl (omega arith, listed),
        ),
      ),
    )

two_is : IsJob two_moves
two_is = record {
  task = record {
    start = board_is (two_by_two 1 3 2 0) two_shape refl refl refl;
    goal = board_is (two_by_two 0 3 1 2) two_shape refl refl refl;
    sides = refl;
    rule = one_move_is.task.rule;
    costs = refl;
  };
  some = omega arith;
  few = omega arith;
  owners = λ b. mod-lt (blank_of b) (omega arith);
}

two_boards : AllBoards two_moves.task (small_opening two_moves).workers
two_boards = (((two_is.task.start, refl), tt), tt)

abbrev LeadsTwice : List Move → Type 0
LeadsTwice moves = Leads two_moves.task.rule two_moves.task.start moves two_moves.task.goal 2

leads_twice : LeadsTwice (L ∷ U ∷ [])
leads_twice = (
  two_by_two 1 3 0 2,
  1,
  1,
  record { cell = 2; towards = (lit< tt, refl, refl); after = refl; cost = refl },
  (two_by_two 0 3 1 2, 1, 0, record { cell = 0; towards = (lit< tt, refl, refl); after = refl; cost = refl }, (refl, refl), refl),
  refl,
)

abbrev known_as : ℕ → Bool → Move → Known
known_as cost expanded via = record { cost = cost; expanded = expanded; via = via }

-- the two last moves lead back to the start
traced_twice : (w : WorldState) → w.task.rule ≡ two_moves.task.rule → Knows w (w.owner (two_by_two 1 3 0 2)) (two_by_two 1 3 0 2) (known_as 1 true L) → Knows w (w.owner (two_by_two 0 3 1 2)) (two_by_two 0 3 1 2) (known_as 2 false U) → IsByLastMoves w (two_by_two 1 3 2 0) (L ∷ U ∷ []) (two_by_two 0 3 1 2)
traced_twice w same first second = (
  two_by_two 1 3 0 2,
  1,
  known_as 1 true L,
  subst (λ (rule : WeightsModel). Moves rule (two_by_two 1 3 2 0) L (two_by_two 1 3 0 2) 1) (sym same) (record { cell = 2; towards = (lit< tt, refl, refl); after = refl; cost = refl }),
  first,
  refl,
  (
    two_by_two 0 3 1 2,
    1,
    known_as 2 false U,
    subst (λ (rule : WeightsModel). Moves rule (two_by_two 1 3 0 2) U (two_by_two 0 3 1 2) 1) (sym same) (record { cell = 0; towards = (lit< tt, refl, refl); after = refl; cost = refl }),
    second,
    refl,
    refl,
  ),
)

half_board : IsTaskBoard two_moves.task (two_by_two 1 3 0 2)
half_board = (board_is (two_by_two 1 3 0 2) two_shape refl refl refl, refl)

-- the world in which a job of these two moves ends, traced
traced_at : (job : Job) (s : SmallWorld) → job.task.rule ≡ two_moves.task.rule → job.task.goal ≡ two_moves.task.goal → look_first s.workers (search_key (two_by_two 1 3 0 2)) ≡ Some (known_as 1 true L) → look_first s.workers (search_key (two_by_two 0 3 1 2)) ≡ Some (known_as 2 false U) → job.owner (two_by_two 1 3 0 2) ≡ 0 → job.owner (two_by_two 0 3 1 2) ≡ 0 → (moves : List Move) → moves ≡ L ∷ U ∷ [] → IsByLastMoves (world_of job.task job.owner s) (two_by_two 1 3 2 0) moves (two_by_two 0 3 1 2)
traced_at job s rule goal first second own own' moves is =
    let sides = ap (λ (b : BoardModel). b.grid) (sym goal) in
    let w = world_of job.task job.owner s in
    subst (λ (ms : List Move). IsByLastMoves w (two_by_two 1 3 2 0) ms (two_by_two 0 3 1 2)) (sym is)
    (traced_twice w rule
    (subst (λ (i : ℕ). Knows w i (two_by_two 1 3 0 2) (known_as 1 true L)) (sym own) (known_first job.task job.owner s (two_by_two 1 3 0 2) (known_as 1 true L) first (half_board.0, sides)))
    (subst (λ (i : ℕ). Knows w i (two_by_two 0 3 1 2) (known_as 2 false U)) (sym own') (known_first job.task job.owner s (two_by_two 0 3 1 2) (known_as 2 false U) second (two_is.task.goal, sides))))

pub above_given : PlanAboveIsGiven
unfolding sparse_of
above_given plan rows moves listed = (
  world_of two_moves.task two_moves.owner (end_of two_moves.task two_moves.owner two_expansions (small_opening two_moves)),
  (run_by two_moves two_is refl two_boards two_expansions).0,
  (
    Some 1,
    Some 2,
    lowest_by two_moves two_is refl two_boards two_expansions,
    reached_by two_moves two_is refl two_boards two_expansions _ refl,
    (
      ((1, refl, refl), record { goal = 2; is = refl; traced = traced_at two_moves (end_of two_moves.task two_moves.owner two_expansions (small_opening two_moves)) refl refl refl refl refl refl plan.items moves; leads = subst LeadsTwice (sym moves) leads_twice; within = omega arith }, (λ e. omega (arith, e)), refl),
      rows_by two_moves two_is refl two_boards two_expansions 1 ((two_by_two 1 3 2 0, 0) ∷ []) rows.items listed (omega arith) refl,
    ),
  ),
)

known_is : IsJob known_start
known_is = record {
  task = record { start = two_is.task.start; goal = two_is.task.goal; sides = refl; rule = one_move_is.task.rule; costs = refl };
  some = omega arith;
  few = omega arith;
  owners = two_is.owners;
}

known_boards : AllBoards known_start.task (small_opening known_start).workers
known_boards = (((two_is.task.start, refl), tt), tt)

pub no_rows_given : NoRowsAreGiven
unfolding sparse_of
no_rows_given plan rows moves listed = (
  world_of known_start.task known_start.owner (end_of known_start.task known_start.owner two_expansions (small_opening known_start)),
  (run_by known_start known_is refl known_boards two_expansions).0,
  (
    Some 1,
    Some 2,
    lowest_by known_start known_is refl known_boards two_expansions,
    reached_by known_start known_is refl known_boards two_expansions _ refl,
    ((1, refl, refl), record { goal = 2; is = refl; traced = traced_at known_start (end_of known_start.task known_start.owner two_expansions (small_opening known_start)) refl refl refl refl refl refl plan.items moves; leads = subst LeadsTwice (sym moves) leads_twice; within = omega arith }, inl (omega arith, listed)),
  ),
)

-- no plan leads from here
abbrev lost : Job
lost = plain_job (two_by_two 0 2 1 3) (goal_of (grid_of 2 2)) 1

lost_is : IsJob lost
lost_is = record {
  task = record { start = board_is (two_by_two 0 2 1 3) two_shape refl refl refl; goal = one_move_is.task.goal; sides = refl; rule = one_move_is.task.rule; costs = refl };
  some = omega arith;
  few = omega arith;
  owners = λ b. mod-lt (blank_of b) (omega arith);
}

lost_boards : AllBoards lost.task (small_opening lost).workers
lost_boards = (((lost_is.task.start, refl), tt), tt)

abbrev lost_steps : List Step
lost_steps = Grant 0 ∷ replicate 12 (Expand 0) ++ Expand 0 ∷ Rest 0 ∷ []

pub unsolvable_given : UnsolvableIsGiven
unfolding sparse_of
unsolvable_given = (
  world_of lost.task lost.owner (end_of lost.task lost.owner lost_steps (small_opening lost)),
  (run_by lost lost_is refl lost_boards lost_steps).0,
  (None, None, lowest_by lost lost_is refl lost_boards lost_steps, reached_by lost lost_is refl lost_boards lost_steps _ refl, (refl, refl)),
)

module _ (sum : ℕ) where
  far_is : IsJob (far_start sum)
  far_is = record {
    task = record { start = lost_is.task.start; goal = lost_is.task.goal; sides = refl; rule = one_move_is.task.rule; costs = refl };
    some = omega arith;
    few = omega arith;
    owners = lost_is.owners;
  }

  far_boards : AllBoards (far_start sum).task (small_opening (far_start sum)).workers
  far_boards = (((lost_is.task.start, refl), tt), tt)

abbrev high_sum : ℕ
high_sum = GREATEST_EXPANDED_COST + 1

abbrev high_steps : List Step
high_steps = Grant 0 ∷ Rest 0 ∷ []

abbrev low_steps : List Step
low_steps = Rest 0 ∷ Grant 0 ∷ []

pub cost_given : CostIsGiven
unfolding sparse_of
cost_given rows listed = (
  (
    world_of (far_start high_sum).task (far_start high_sum).owner (end_of (far_start high_sum).task (far_start high_sum).owner high_steps (small_opening (far_start high_sum))),
    (run_by (far_start high_sum) (far_is high_sum) refl (far_boards high_sum) high_steps).0,
    (
      Some high_sum,
      None,
      lowest_by (far_start high_sum) (far_is high_sum) refl (far_boards high_sum) high_steps,
      reached_by (far_start high_sum) (far_is high_sum) refl (far_boards high_sum) high_steps _ refl,
      (((high_sum, refl, refl), refl, refl), inl (omega arith, listed)),
    ),
  ),
  (
    world_of (far_start GREATEST_EXPANDED_COST).task (far_start GREATEST_EXPANDED_COST).owner (end_of (far_start GREATEST_EXPANDED_COST).task (far_start GREATEST_EXPANDED_COST).owner low_steps (small_opening (far_start GREATEST_EXPANDED_COST))),
    (run_by (far_start GREATEST_EXPANDED_COST) (far_is GREATEST_EXPANDED_COST) refl (far_boards GREATEST_EXPANDED_COST) low_steps).0,
    (
      Some GREATEST_EXPANDED_COST,
      None,
      lowest_by (far_start GREATEST_EXPANDED_COST) (far_is GREATEST_EXPANDED_COST) refl (far_boards GREATEST_EXPANDED_COST) low_steps,
      reached_by (far_start GREATEST_EXPANDED_COST) (far_is GREATEST_EXPANDED_COST) refl (far_boards GREATEST_EXPANDED_COST) low_steps _ refl,
      (((GREATEST_EXPANDED_COST, refl, refl), refl, refl), inl (omega arith, listed)),
    ),
  ),
)

-- the run of two moves with one expansion more
abbrev three_steps : List Step
three_steps = two_expansions ++ Expand 0 ∷ []

abbrev three_end : SmallWorld
three_end = end_of two_moves.task two_moves.owner three_steps (small_opening two_moves)

abbrev three_world : WorldState
three_world = world_of two_moves.task two_moves.owner three_end

three_run : IsRun (opening two_moves U) (made two_moves.task two_moves.owner three_steps (small_opening two_moves)) three_world × AllBoards two_moves.task three_end.workers
three_run = run_by two_moves two_is refl two_boards three_steps

abbrev three_rows : List Row
three_rows = (two_by_two 1 0 2 3, 1) ∷ (two_by_two 1 3 0 2, 1) ∷ (two_by_two 1 3 2 0, 0) ∷ []

pub three_given : ThreeRowsAreGiven
unfolding sparse_of
three_given plan rows moves listed = (
  three_world,
  three_run.0,
  (
    Some 2,
    Some 2,
    lowest_by two_moves two_is refl two_boards three_steps,
    reached_by two_moves two_is refl two_boards three_steps _ refl,
    (
      (2, refl, refl),
      record { goal = 2; is = refl; traced = traced_at two_moves three_end refl refl refl refl refl refl plan.items moves; leads = subst LeadsTwice (sym moves) leads_twice; within = omega arith },
      rows_by two_moves two_is refl two_boards three_steps 2 three_rows rows.items listed (omega arith) refl,
    ),
  ),
)

-- the workers of the opening world
abbrev finisher_opening : WorkerState
finisher_opening = idle_worker 2

abbrev starter_opening : WorkerState
starter_opening = first_worker 2 one_move.task U

-- the start is known in the opening world, and is open there
opening_unbegun : (stop : Option Stop) → ¬ HasBegun (record (opening one_move U) { book = record (opening one_move U).book { stop = stop } })
opening_unbegun stop (zero, known, knows, expanded) = let e : finisher_opening ≡ knows.worker = cc (knows.is) in let at = ap (λ (x : WorkerState). map.get x.known (search_key one_move.task.start)) e ∙ knows.knows in let none : ◌≡◌ {A = Option Known} None (Some known) = sym (map.get-empty nat_cmp (search_key one_move.task.start)) ∙ at in cc
opening_unbegun stop (suc zero, known, knows, expanded) =
    let e : starter_opening ≡ knows.worker = cc (knows.is) in
    let at = ap (λ (x : WorkerState). map.get x.known (search_key one_move.task.start)) e ∙ knows.knows in
    let some : Some (known_as 0 false U) ≡ Some known = sym (get_inserted map.empty (search_key one_move.task.start) (known_as 0 false U)) ∙ at in
    let same : known_as 0 false U ≡ known = cc in
    let wrong : true ≡ false = sym expanded ∙ sym (ap (λ (k : Known). k.expanded) same) in
    cc
opening_unbegun stop (suc (suc i), known, knows, expanded) = let none : ◌≡◌ {A = Option WorkerState} None (Some knows.worker) = knows.is in cc

pub not_kept : OpeningsAreNotKept
not_kept = ((λ kept. kept), (λ kept. kept), λ kept. opening_unbegun (Some StopLimit) (kept (omega arith)))

pub jobs_of_all : JobsAreOfAllCounts
jobs_of_all count = (
  (λ is. (is.some, is.few)),
  λ counts. record { task = one_move_is.task; some = counts.0; few = counts.1; owners = λ b. mod-lt (blank_of b) counts.0 },
)
