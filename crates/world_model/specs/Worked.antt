-- Worked runs: what steps answer, and which outcome follows, on boards that a reader can follow by hand.
use Rattle.std.specs.Prelude.{◌≡◌, ℕ, ◌-◌, ◌^◌, ◌%◌, List, [], ◌∷◌, ◌++◌, Bool, true, false, map as each_of, Option, None, Some, Vec}
use Rattle.std.specs.FinMap as map
use Rattle.std.specs.declared.alloc.Global.{Global}
use Rattle.board.specs.declared.moves.Move.{Move}
use Rattle.board.specs.declared.moves.Move.TheVariants.{U, L}
use Rattle.board.specs.Boards.{BoardModel, blank_of, goal_of}
use Rattle.board.specs.Weights.{unit_rule}
use Rattle.board.specs.Worked.{grid_of, two_by_two, two_by_three}
use Rattle.outcomes.specs.declared.outcome.Cause.TheVariants.{Limit as ForLimit, Memory as ForMemory, Cut as ForCut}
use Rattle.outcomes.specs.declared.outcome.Want.{Want}
use Rattle.outcomes.specs.declared.outcome.Outcome.{Outcome}
use Rattle.outcomes.specs.declared.outcome.Outcome.TheVariants.{Optimal, Bounded}
use Rattle.world_model.specs.declared.steps.Stop.TheVariants.{Quiet}
use Rattle.world_model.specs.declared.steps.HaltCause.TheVariants.{Limit, Memory, Start}
use Rattle.world_model.specs.declared.steps.Refusal.{Refusal}
use Rattle.world_model.specs.declared.steps.Refusal.TheVariants.{NothingBelowLimit, NoAllowance, RingEmpty, PurseTooSmall, StillHolding, NothingToAnnounce, NotIdle, Stopped, PurseEmpty, NothingThere, AllowanceLeft, NoSuchWorker}
use Rattle.world_model.specs.declared.steps.Step.{Step}
use Rattle.world_model.specs.declared.steps.Step.TheVariants.{Expand, Settle, Send, Deliver, Draw, Announce, Grant, Rest, Halt}
use Rattle.world_model.specs.declared.parts.Known.{Known}
use Rattle.world_model.specs.Knowledge.{relaxation_at}
use Rattle.world_model.specs.Worlds.{WorldState}
use Rattle.world_model.specs.Steps.{IsRun}
use Rattle.world_model.specs.Openings.{Job, opening}
use Rattle.world_model.specs.Outcomes.{IsGiven}

-- a board is owned by the worker whose number is the blank's cell, modulo their count
abbrev pub by_blank : ℕ → BoardModel → ℕ
by_blank count b = blank_of b % count

-- the job of a plan of fewest moves from one board to another, without a heuristic and without a limit, by `count` workers
abbrev pub plain_job : BoardModel → BoardModel → ℕ → Job
plain_job start goal count = record {
  task = record { start = start; goal = goal; rule = unit_rule start.grid; sum = λ _. 0 };
  limit = 2 ^ 64 - 1;
  count = count;
  owner = by_blank count;
}

-- a step that is accepted
abbrev pub ok : Step → Step × Option Refusal
ok step = (step, None)

-- a step that is refused
abbrev pub not_ok : Step → Refusal → Step × Option Refusal
not_ok step refusal = (step, Some refusal)

-- a run of these steps, with these answers, leads from the job's opening world to one that gives the outcome
abbrev pub Gives : Job → List (Step × Option Refusal) → Outcome → Type 0
Gives job made outcome = (w : WorldState) × IsRun (opening job U) made w × IsGiven w outcome

-- 1 0 over 2 3, from which one move to the left leads to the goal, by two workers. Worker 1 owns the start, worker 0 the goal.
abbrev pub one_move : Job
one_move = plain_job (two_by_two 1 0 2 3) (goal_of (grid_of 2 2)) 2

-- worker 1 expands the start and sends the goal on its way, for which it has to draw
abbrev pub first_half : List (Step × Option Refusal)
first_half = ok (Grant 1) ∷ ok (Expand 1) ∷ not_ok (Send 1 0) PurseTooSmall ∷ ok (Draw 1) ∷ ok (Send 1 0) ∷ []

-- worker 0 takes it in and announces it, and both rest
abbrev pub second_half : List (Step × Option Refusal)
second_half = ok (Deliver 0 1) ∷ ok (Settle 0) ∷ ok (Announce 0) ∷ ok (Rest 0) ∷ ok (Rest 1) ∷ []

-- the run has stopped by Quiet, with no credit left
abbrev pub HasEnded : WorldState → Type 0
HasEnded w = (w.book.stop ≡ Some Quiet) × (w.book.credit ≡ 0)

-- then the run is quiet, one move to the left is optimal, and the start is its one row
abbrev pub PlanIsGiven : Type 0
PlanIsGiven =
    (plan : Vec Move Global) (rows : Vec (BoardModel × ℕ) Global)
    → plan.items ≡ L ∷ []
    → rows.items ≡ (two_by_two 1 0 2 3, 0) ∷ []
    → (w : WorldState) × IsRun (opening one_move U) (first_half ++ second_half) w × HasEnded w × IsGiven w (Optimal 1 plan rows)

-- with the goal on its way, the run is cut with the bound 1, and the start is its one row
abbrev pub CutIsGiven : Type 0
CutIsGiven = (rows : Vec (BoardModel × ℕ) Global) → rows.items ≡ (two_by_two 1 0 2 3, 0) ∷ [] → Gives one_move first_half (Bounded 1 None ForCut (Some rows))

-- a worker with an allowance can't halt for the limit, each can for memory, and then no step on the book is accepted
abbrev pub HaltIsGiven : Type 0
HaltIsGiven =
    (want : Want) (rows : Vec (BoardModel × ℕ) Global)
    → rows.items ≡ []
    → Gives one_move (ok (Grant 1) ∷ not_ok (Halt 1 Limit) AllowanceLeft ∷ ok (Halt 0 (Memory want)) ∷ not_ok (Rest 1) Stopped ∷ [])
    (Bounded 0 None (ForMemory want) (Some rows))

-- with a limit of one expansion the worker that made it halts the run, with the start as its one row
abbrev pub LimitIsGiven : Type 0
LimitIsGiven =
    (rows : Vec (BoardModel × ℕ) Global)
    → rows.items ≡ (two_by_two 1 0 2 3, 0) ∷ []
    → Gives (record one_move { limit = 1 })
    (ok (Grant 1) ∷ not_ok (Halt 1 Limit) AllowanceLeft ∷ ok (Expand 1) ∷ not_ok (Expand 1) NoAllowance ∷ not_ok (Grant 1) NoAllowance ∷ ok (Halt 1 Limit) ∷ [])
    (Bounded 1 None ForLimit (Some rows))

-- what is refused in the opening world, whose bound needs no rows
abbrev pub RefusalsAreGiven : Type 0
RefusalsAreGiven =
    (rows : Vec (BoardModel × ℕ) Global)
    → rows.items ≡ []
    → Gives one_move
    (not_ok (Settle 0) NothingThere
    ∷ not_ok (Deliver 0 1) RingEmpty
    ∷ not_ok (Rest 0) PurseEmpty
    ∷ not_ok (Draw 0) PurseEmpty
    ∷ not_ok (Grant 0) NothingBelowLimit
    ∷ not_ok (Expand 0) NothingBelowLimit
    ∷ not_ok (Expand 1) NoAllowance
    ∷ not_ok (Announce 1) NothingToAnnounce
    ∷ not_ok (Announce 0) NothingToAnnounce
    ∷ not_ok (Send 0 1) NothingThere
    ∷ not_ok (Send 0 0) NoSuchWorker
    ∷ not_ok (Send 0 2) NoSuchWorker
    ∷ not_ok (Deliver 2 0) NoSuchWorker
    ∷ not_ok (Expand 2) NoSuchWorker
    ∷ not_ok (Halt 2 Limit) NoSuchWorker
    ∷ not_ok (Rest 1) NotIdle
    ∷ [])
    (Bounded 0 None ForCut (Some rows))

-- a worker that has spent its purse, still has something to do, holds a packet or was granted enough is refused, and the goal is announced once
abbrev pub RefusalsOnTheWayAreGiven : Type 0
RefusalsOnTheWayAreGiven =
    (w : WorldState)
    × IsRun (opening one_move U)
    (first_half
    ++ (not_ok (Rest 0) PurseEmpty
    ∷ not_ok (Rest 1) NotIdle
    ∷ not_ok (Grant 1) AllowanceLeft
    ∷ not_ok (Deliver 1 0) RingEmpty
    ∷ ok (Deliver 0 1)
    ∷ not_ok (Deliver 0 1) StillHolding
    ∷ not_ok (Announce 0) NothingToAnnounce
    ∷ not_ok (Rest 0) NotIdle
    ∷ ok (Settle 0)
    ∷ not_ok (Rest 0) NotIdle
    ∷ ok (Announce 0)
    ∷ not_ok (Announce 0) NothingToAnnounce
    ∷ ok (Halt 0 Start)
    ∷ not_ok (Draw 0) Stopped
    ∷ []))
    w

-- what is known of the board with this key
abbrev pub entry_of : ℕ → Bool → Move → Known
entry_of cost expanded via = record { cost = cost; expanded = expanded; via = via }

-- a board that is closed at 5: an equal cost and a greater one change nothing, a lower one is taken with its last move, and opens it
abbrev pub RelaxationsLower : Type 0
RelaxationsLower =
    (key : ℕ)
    → (map.get (relaxation_at map.empty key 5 U) key ≡ Some (entry_of 5 false U))
    × (map.get (relaxation_at (map.insert map.empty key (entry_of 5 true U)) key 5 L) key ≡ Some (entry_of 5 true U))
    × (map.get (relaxation_at (map.insert map.empty key (entry_of 5 true U)) key 6 L) key ≡ Some (entry_of 5 true U))
    × (map.get (relaxation_at (map.insert map.empty key (entry_of 5 true U)) key 4 L) key ≡ Some (entry_of 4 false L))

-- 0 1 2 over 3 4 5, with a goal that is far away, by a worker for each cell of the blank
abbrev pub far_goal : Job
far_goal = plain_job (two_by_three (0 ∷ 1 ∷ 2 ∷ 3 ∷ 4 ∷ 5 ∷ [])) (two_by_three (5 ∷ 4 ∷ 3 ∷ 2 ∷ 1 ∷ 0 ∷ [])) 6

-- the blank goes one way round, to the right first, and worker 3 expands a board at 7
abbrev pub one_way : List Step
one_way =
    (Grant 0 ∷ Expand 0 ∷ Draw 0 ∷ Send 0 1 ∷ [])
    ++ (Deliver 1 0 ∷ Settle 1 ∷ Grant 1 ∷ Expand 1 ∷ Draw 1 ∷ Send 1 4 ∷ [])
    ++ (Deliver 4 1 ∷ Settle 4 ∷ Grant 4 ∷ Expand 4 ∷ Draw 4 ∷ Send 4 3 ∷ [])
    ++ (Deliver 3 4 ∷ Settle 3 ∷ Grant 3 ∷ Expand 3 ∷ Draw 3 ∷ Send 3 0 ∷ [])
    ++ (Deliver 0 3 ∷ Settle 0 ∷ Expand 0 ∷ Send 0 1 ∷ Deliver 1 0 ∷ Settle 1 ∷ Expand 1 ∷ Send 1 4 ∷ [])
    ++ (Deliver 4 1 ∷ Settle 4 ∷ Expand 4 ∷ Send 4 3 ∷ Deliver 3 4 ∷ Settle 3 ∷ Expand 3 ∷ [])

-- the blank goes the other way round, down first, and worker 3 meets the same board at 5, and expands it again
abbrev pub other_way : List Step
other_way =
    (Send 0 3 ∷ Deliver 3 0 ∷ Settle 3 ∷ Settle 3 ∷ Expand 3 ∷ Send 3 4 ∷ [])
    ++ (Deliver 4 3 ∷ Settle 4 ∷ Settle 4 ∷ Settle 4 ∷ Expand 4 ∷ Send 4 1 ∷ [])
    ++ (Deliver 1 4 ∷ Settle 1 ∷ Settle 1 ∷ Settle 1 ∷ Expand 1 ∷ Send 1 0 ∷ [])
    ++ (Deliver 0 1 ∷ Settle 0 ∷ Settle 0 ∷ Settle 0 ∷ Expand 0 ∷ Send 0 3 ∷ [])
    ++ (Deliver 3 0 ∷ Settle 3 ∷ Expand 3 ∷ [])

-- all these steps are accepted, and the bound is then 2, with the start and its two successors as rows
abbrev pub BoardIsExpandedAgain : Type 0
BoardIsExpandedAgain =
    (rows : Vec (BoardModel × ℕ) Global)
    → rows.items ≡ (two_by_three (0 ∷ 1 ∷ 2 ∷ 3 ∷ 4 ∷ 5 ∷ []), 0) ∷ (two_by_three (1 ∷ 0 ∷ 2 ∷ 3 ∷ 4 ∷ 5 ∷ []), 1) ∷ (two_by_three (3 ∷ 1 ∷ 2 ∷ 0 ∷ 4 ∷ 5 ∷ []), 1) ∷ []
    → Gives far_goal (each_of ok (one_way ++ other_way)) (Bounded 2 None ForCut (Some rows))
