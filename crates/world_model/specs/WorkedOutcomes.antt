-- Worked outcomes: short runs that end in each of the ways in which a run may end, and two worlds in full.
use Rattle.std.specs.Prelude.{◌≡◌, ◌↔◌, ◌≤◌, ℕ, ◌+◌, ◌-◌, ◌^◌, List, [], ◌∷◌, ◌++◌, false, replicate, map as each_of, None, Some, Vec, ◌==◌, if◌then◌else◌}
use Rattle.std.specs.FinMap as map
use Rattle.std.specs.declared.alloc.Global.{Global}
use Rattle.memory.specs.declared.OutOfMemory.{OutOfMemory}
use Rattle.board.specs.declared.costs.TheConstants.{GREATEST_EXPANDED_COST}
use Rattle.board.specs.declared.moves.Move.{Move}
use Rattle.board.specs.declared.moves.Move.TheVariants.{U, L, D}
use Rattle.board.specs.Boards.{BoardModel, goal_of}
use Rattle.board.specs.Keys.{key_of}
use Rattle.board.specs.Worked.{grid_of, two_by_two}
use Rattle.search_keys.specs.SearchKeys.{search_key}
use Rattle.outcomes.specs.declared.outcome.Why.TheVariants.{Exhausted}
use Rattle.outcomes.specs.declared.outcome.Cause.TheVariants.{Memory as ForMemory, Start as ForStart, Cost as ForCost, Cut as ForCut}
use Rattle.outcomes.specs.declared.outcome.Want.TheVariants.{Refused}
use Rattle.outcomes.specs.declared.outcome.Outcome.TheVariants.{Optimal, Unsolvable, Bounded}
use Rattle.world_model.specs.declared.limits.TheConstants.{GREATEST_GRANT}
use Rattle.world_model.specs.declared.steps.Stop.TheVariants.{Quiet, Limit as StopLimit, Start as StopStart}
use Rattle.world_model.specs.declared.steps.HaltCause.TheVariants.{Start}
use Rattle.world_model.specs.declared.steps.Refusal.TheVariants.{NothingBelowLimit, NotIdle}
use Rattle.world_model.specs.declared.steps.Step.{Step}
use Rattle.world_model.specs.declared.steps.Step.TheVariants.{Expand, Announce, Grant, Rest, Halt}
use Rattle.world_model.specs.Workers.{WorkerState}
use Rattle.world_model.specs.Worlds.{WorldState}
use Rattle.world_model.specs.Steps.{IsRun}
use Rattle.world_model.specs.Openings.{Job, IsJob, opening}
use Rattle.world_model.specs.Quiet.{IsKept}
use Rattle.world_model.specs.Worked.{plain_job, one_move, first_half, second_half, ok, not_ok, entry_of, Gives}
use Rattle.world_model.specs.WorkedSteps.{goal_at, start_closed}

-- worker 1 has expanded the start; it has drawn 64, and 1 of that is in the lane
abbrev pub starter_halfway : WorkerState
starter_halfway = record {
  known = map.insert start_closed (search_key (two_by_two 1 3 2 0)) (entry_of 1 false D);
  held = [];
  unsent = [] ∷ [] ∷ [];
  purse = 64;
  allowance = GREATEST_GRANT - 1;
  expansions = 1;
  best = None;
}

-- worker 0 has nothing yet
abbrev pub finisher_halfway : WorkerState
finisher_halfway = record { known = map.empty; held = []; unsent = [] ∷ [] ∷ []; purse = 0; allowance = 0; expansions = 0; best = None }

-- the world with the goal on its way, in full
abbrev pub halfway : WorldState
halfway = record {
  task = one_move.task;
  owner = one_move.owner;
  workers = finisher_halfway ∷ starter_halfway ∷ [];
  book = record { credit = 65; best = None; floors = None ∷ None ∷ []; granted = GREATEST_GRANT; limit = 2 ^ 64 - 1; stop = None };
  lanes = ([] ∷ [] ∷ []) ∷ (((goal_at 1 ∷ []) ∷ []) ∷ [] ∷ []) ∷ [];
}

-- and the world in which the run is quiet: the goal is known, the purses are empty, and the floors are kept
abbrev pub ended : WorldState
ended =
    record halfway {
      workers =
          record finisher_halfway { known = map.insert map.empty (search_key (goal_of (grid_of 2 2))) (entry_of 1 false L); best = Some 1 }
          ∷ record starter_halfway { purse = 0; best = Some 1 }
          ∷ [];
      book = record { credit = 0; best = Some 1; floors = None ∷ Some 1 ∷ []; granted = GREATEST_GRANT; limit = 2 ^ 64 - 1; stop = Some Quiet };
      lanes = ([] ∷ [] ∷ []) ∷ ([] ∷ [] ∷ []) ∷ [];
    }

-- the two halves of the run of one move lead to these worlds
abbrev pub WorldsAreReached : Type 0
WorldsAreReached = IsRun (opening one_move U) first_half halfway × IsRun halfway second_half ended

-- where memory is refused for the plan or its rows, that world gives the bound alone; and so does the one half-way, if it is for its rows
abbrev pub MemoryIsGiven : Type 0
MemoryIsGiven =
    (refused : OutOfMemory)
    → Gives one_move (first_half ++ second_half) (Bounded 1 None (ForMemory (Refused refused)) None)
    × Gives one_move first_half (Bounded 1 None (ForMemory (Refused refused)) None)

-- from the same start, a run that was halted because a thread could not be started
abbrev pub StartIsGiven : Type 0
StartIsGiven = (rows : Vec (BoardModel × ℕ) Global) → rows.items ≡ [] → Gives one_move (ok (Halt 0 Start) ∷ []) (Bounded 0 None ForStart (Some rows))

-- the start is the goal: nothing is expanded, and the empty plan is optimal, without rows
abbrev pub EmptyPlanIsGiven : Type 0
EmptyPlanIsGiven =
    (plan : Vec Move Global) (rows : Vec (BoardModel × ℕ) Global)
    → plan.items ≡ []
    → rows.items ≡ []
    → Gives (record (plain_job (goal_of (grid_of 2 2)) (goal_of (grid_of 2 2)) 1) { limit = 0 })
    (not_ok (Grant 0) NothingBelowLimit ∷ not_ok (Rest 0) NotIdle ∷ ok (Announce 0) ∷ ok (Rest 0) ∷ [])
    (Optimal 0 plan rows)

-- from 1 3 over 2 0 two moves, left and up, lead to the goal; 1 0 over 2 3 costs 1
abbrev pub two_moves : Job
two_moves = plain_job (two_by_two 1 3 2 0) (two_by_two 0 3 1 2) 1

-- two boards are expanded, and the second one's successor is the goal; a board at 1 is open
abbrev pub two_expansions : List Step
two_expansions = Grant 0 ∷ Expand 0 ∷ Expand 0 ∷ []

-- so the plan at 2 is above the bound 1, which the start proves
abbrev pub PlanAboveIsGiven : Type 0
PlanAboveIsGiven =
    (plan : Vec Move Global) (rows : Vec (BoardModel × ℕ) Global)
    → plan.items ≡ L ∷ U ∷ []
    → rows.items ≡ (two_by_two 1 3 2 0, 0) ∷ []
    → Gives two_moves (each_of ok two_expansions) (Bounded 1 (Some (2, plan)) ForCut (Some rows))

-- the same where the start's sum is 2: then this alone proves the plan least, without rows
abbrev pub known_start : Job
known_start = record two_moves { task = record two_moves.task { sum = λ b. if key_of b == key_of two_moves.task.start then 2 else 0 } }

abbrev pub NoRowsAreGiven : Type 0
NoRowsAreGiven =
    (plan : Vec Move Global) (rows : Vec (BoardModel × ℕ) Global)
    → plan.items ≡ L ∷ U ∷ []
    → rows.items ≡ []
    → Gives known_start (each_of ok two_expansions) (Optimal 2 plan rows)

-- with one expansion more the plan is least, and its rows are the three boards below 2, in rising order of key
abbrev pub ThreeRowsAreGiven : Type 0
ThreeRowsAreGiven =
    (plan : Vec Move Global) (rows : Vec (BoardModel × ℕ) Global)
    → plan.items ≡ L ∷ U ∷ []
    → rows.items ≡ (two_by_two 1 0 2 3, 1) ∷ (two_by_two 1 3 0 2, 1) ∷ (two_by_two 1 3 2 0, 0) ∷ []
    → Gives two_moves (each_of ok (two_expansions ++ Expand 0 ∷ [])) (Optimal 2 plan rows)

-- no plan leads from 0 2 over 1 3 to the goal: all twelve boards that can be reached are expanded
abbrev pub UnsolvableIsGiven : Type 0
UnsolvableIsGiven =
    Gives (plain_job (two_by_two 0 2 1 3) (goal_of (grid_of 2 2)) 1)
    (ok (Grant 0) ∷ replicate 12 (ok (Expand 0)) ++ not_ok (Expand 0) NothingBelowLimit ∷ ok (Rest 0) ∷ [])
    (Unsolvable Exhausted)

-- the same task, with this as the sum of the start
abbrev pub far_start : ℕ → Job
far_start sum =
    let job : Job = plain_job (two_by_two 0 2 1 3) (goal_of (grid_of 2 2)) 1 in
    record job { task = record job.task { sum = λ b. if key_of b == key_of job.task.start then sum else 0 } }

-- where it is above the greatest cost at which a board is expanded, the run is quiet at once, and the bound is for the cost
abbrev pub CostIsGiven : Type 0
CostIsGiven =
    (rows : Vec (BoardModel × ℕ) Global)
    → rows.items ≡ []
    → Gives (far_start (GREATEST_EXPANDED_COST + 1)) (not_ok (Grant 0) NothingBelowLimit ∷ ok (Rest 0) ∷ []) (Bounded (GREATEST_EXPANDED_COST + 1) None ForCost (Some rows))
    × Gives (far_start GREATEST_EXPANDED_COST) (not_ok (Rest 0) NotIdle ∷ ok (Grant 0) ∷ []) (Bounded GREATEST_EXPANDED_COST None ForCut (Some rows))

-- the opening world is not kept: it has not stopped; nor where a thread could not be started; nor for the limit, as nothing was expanded
abbrev pub OpeningsAreNotKept : Type 0
OpeningsAreNotKept =
    let w : WorldState = opening one_move U in
    (¬ IsKept w) × (¬ IsKept (record w { book = record w.book { stop = Some StopStart } })) × (¬ IsKept (record w { book = record w.book { stop = Some StopLimit } }))

-- the job of one move is a job just where it has 1 to 16 workers
abbrev pub JobsAreOfAllCounts : Type 0
JobsAreOfAllCounts = (count : ℕ) → IsJob (plain_job (two_by_two 1 0 2 3) (goal_of (grid_of 2 2)) count) ↔ ((1 ≤ count) × (count ≤ 16))
