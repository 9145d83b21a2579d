-- The laws of worlds whose outcome is a run's own: what quiet and kept worlds give, and which cause a bound has.
use Rattle.std.specs.Prelude.{◌≡◌, ◌≢◌, ◌⊎◌, ℕ, ◌+◌, ◌*◌, ◌-◌, ◌^◌, ◌≤◌, ◌<◌, false, List, [], ◌∷◌, length, Contains, Vec, Option, Some, None, slice_get}
use Rattle.std.specs.declared.alloc.Global.{Global}
use Rattle.memory.specs.declared.OutOfMemory.{OutOfMemory}
use Rattle.board.specs.declared.costs.TheConstants.{GREATEST_COST}
use Rattle.board.specs.declared.moves.Move.{Move}
use Rattle.board.specs.Boards.{BoardModel}
use Rattle.board.specs.Moves.{Moves}
use Rattle.board.specs.Plans.{Leads}
use Rattle.board.specs.Rows.{Proves, IsLowerBound}
use Rattle.outcomes.specs.declared.outcome.Cause.{Cause}
use Rattle.outcomes.specs.declared.outcome.Cause.TheVariants.{Limit as ForLimit, Memory as ForMemory, Start as ForStart, Cost as ForCost, Cut as ForCut}
use Rattle.outcomes.specs.declared.outcome.Want.{Want}
use Rattle.outcomes.specs.declared.outcome.Want.TheVariants.{Refused}
use Rattle.outcomes.specs.declared.outcome.Outcome.{Outcome}
use Rattle.outcomes.specs.declared.outcome.Outcome.TheVariants.{Optimal, Unsolvable, Bounded}
use Rattle.outcomes.specs.declared.outcome.Why.TheVariants.{Exhausted}
use Rattle.world_model.specs.declared.limits.TheConstants.{LANE_LIMIT, PACKET_LIMIT, CREDIT_DRAWN, GREATEST_GRANT}
use Rattle.world_model.specs.declared.parts.Item.{Item}
use Rattle.world_model.specs.declared.parts.Known.{Known}
use Rattle.world_model.specs.declared.steps.Stop.TheVariants.{Quiet, Limit, Memory, Start}
use Rattle.world_model.specs.declared.steps.Refusal.{Refusal}
use Rattle.world_model.specs.declared.steps.Refusal.TheVariants.{PurseFull}
use Rattle.world_model.specs.declared.steps.Step.{Step}
use Rattle.world_model.specs.declared.steps.Step.TheVariants.{Deliver}
use Rattle.world_model.specs.Turns.{turn}
use Rattle.world_model.specs.Workers.{WorkerState, Packet, Lane, IsTaskBoard}
use Rattle.world_model.specs.Worlds.{WorldState, IsWorker, Knows, IsLane, IsUnderWay}
use Rattle.world_model.specs.Steps.{Next, IsRun}
use Rattle.world_model.specs.Openings.{Job, IsJob, opening}
use Rattle.world_model.specs.Shapes.{IsShaped}
use Rattle.world_model.specs.Soundness.{IsSound}
use Rattle.world_model.specs.Credit.{IsCredited, purse_total, packet_count, expansion_count}
use Rattle.world_model.specs.Quiet.{IsQuiet, IsKept, HasBegun, QuietIsTrueIn}
use Rattle.world_model.specs.Frontiers.{IsInFrontier}
use Rattle.world_model.specs.Outcomes.{IsByLastMoves, IsGiven, IsBounded}

-- in a quiet world nothing is under way, and no credit is left
abbrev pub QuietWorldsAreAtRest : Type 0
QuietWorldsAreAtRest = (w : WorldState) → IsQuiet w → ((to : ℕ) (item : Item) → ¬ IsUnderWay w to item) × (purse_total w + packet_count w ≡ 0)

-- a kept world whose book stopped by Quiet is quiet
abbrev pub KeptWorldsAreQuiet : Type 0
KeptWorldsAreQuiet = (w : WorldState) → IsKept w → QuietIsTrueIn w

-- a bound that a quiet world gives, whose book stopped so, is for the cost; or memory was refused, and there is no plan beside it
abbrev pub QuietWorldsBoundForCost : Type 0
QuietWorldsBoundForCost =
    (w : WorldState) (bound : ℕ) (best : Option (ℕ × Vec Move Global)) (cause : Cause)
    → IsShaped w
    → IsSound w
    → IsQuiet w
    → IsLowerBound w.task.rule w.task.sum w.task.goal
    → w.book.stop ≡ Some Quiet
    → IsBounded w bound best cause
    → (cause ≡ ForCost) ⊎ ((best ≡ None) × ((refused : OutOfMemory) × (cause ≡ ForMemory (Refused refused))))

-- no kept world gives a bound for which the run was cut, or a thread could not be started
abbrev pub KeptWorldsAreNeverCut : Type 0
KeptWorldsAreNeverCut =
    (w : WorldState) (bound : ℕ) (best : Option (ℕ × Vec Move Global)) (cause : Cause)
    → IsShaped w
    → IsSound w
    → IsKept w
    → IsLowerBound w.task.rule w.task.sum w.task.goal
    → IsBounded w bound best cause
    → (cause ≢ ForCut) × (cause ≢ ForStart)

-- a kept world that stopped for the limit has begun, where that is above one grant for each worker
abbrev pub KeptWorldsHaveBegun : Type 0
KeptWorldsHaveBegun = (w : WorldState) → IsKept w → w.book.stop ≡ Some Limit → GREATEST_GRANT * length w.workers < w.book.limit → HasBegun w

-- A bound is for the limit, or because a thread could not be started, only where the run was halted so. It is for the cost only where the
-- run stopped by Quiet. It is cut only where the run has not stopped.
abbrev pub CausesAreTheStops : Type 0
CausesAreTheStops =
    (w : WorldState) (bound : ℕ) (best : Option (ℕ × Vec Move Global)) (cause : Cause)
    → IsBounded w bound best cause
    → (cause ≡ ForLimit → w.book.stop ≡ Some Limit)
    × (cause ≡ ForStart → w.book.stop ≡ Some Start)
    × (cause ≡ ForCost → w.book.stop ≡ Some Quiet)
    × (cause ≡ ForCut → w.book.stop ≡ None)

-- so where a bound is for the limit, all of the limit is granted, and spent except at most one grant for each worker but one
abbrev pub LimitBoundsAreSpent : Type 0
LimitBoundsAreSpent =
    (w : WorldState) (bound : ℕ) (best : Option (ℕ × Vec Move Global))
    → IsCredited w
    → IsBounded w bound best ForLimit
    → (w.book.granted ≡ w.book.limit) × (w.book.limit ≤ expansion_count w + GREATEST_GRANT * (length w.workers - 1))

-- what an outcome says of a bound is what the world gives, whatever rows beside it
abbrev pub BoundsAreGiven : Type 0
BoundsAreGiven =
    (w : WorldState) (bound : ℕ) (best : Option (ℕ × Vec Move Global)) (cause : Cause) (rows : Option (Vec (BoardModel × ℕ) Global))
    → IsGiven w (Bounded bound best cause rows)
    → IsBounded w bound best cause

-- The bound is at least the start's sum. It is at least n, too, where no board of the frontier is below n, nor the cost at which the goal
-- is known. And it is the start's sum, or the cost plus sum of a board of the frontier, or the cost at which the goal is known.
abbrev pub BoundsAreHigh : Type 0
BoundsAreHigh =
    (w : WorldState) (bound : ℕ) (best : Option (ℕ × Vec Move Global)) (cause : Cause)
    → IsBounded w bound best cause
    → (w.task.sum w.task.start ≤ bound)
    × ((n : ℕ)
    → ((b : BoardModel) (cost : ℕ) → IsInFrontier w b cost → n ≤ cost + w.task.sum b)
    → ((known : Known) → Knows w (w.owner w.task.goal) w.task.goal known → n ≤ known.cost)
    → n ≤ bound)
    × ((bound ≡ w.task.sum w.task.start)
    ⊎ ((b : BoardModel) × (cost : ℕ) × IsInFrontier w b cost × (bound ≡ cost + w.task.sum b))
    ⊎ ((known : Known) × Knows w (w.owner w.task.goal) w.task.goal known × (known.cost ≡ bound)))

-- the goal's owner knows it
abbrev pub KnowsGoal : WorldState → Type 0
KnowsGoal w = (known : Known) × Knows w (w.owner w.task.goal) w.task.goal known

-- A bound is for memory only where the run was halted so; or where memory was refused. Then it has neither plan nor rows, and was asked
-- for: for a plan to a goal that is known, or for rows of a bound above the start's sum.
abbrev pub MemoryBoundsAreWanted : Type 0
MemoryBoundsAreWanted =
    (w : WorldState) (bound : ℕ) (best : Option (ℕ × Vec Move Global)) (want : Want) (rows : Option (Vec (BoardModel × ℕ) Global))
    → IsGiven w (Bounded bound best (ForMemory want) rows)
    → (w.book.stop ≡ Some (Memory want))
    ⊎ ((best ≡ None) × (rows ≡ None) × ((refused : OutOfMemory) × (want ≡ Refused refused)) × (KnowsGoal w ⊎ (w.task.sum w.task.start < bound)))

-- and a bound has no rows only where memory was refused so
abbrev pub RowsAreLeftOutForMemory : Type 0
RowsAreLeftOutForMemory =
    (w : WorldState) (bound : ℕ) (best : Option (ℕ × Vec Move Global)) (cause : Cause)
    → IsGiven w (Bounded bound best cause None)
    → (best ≡ None) × ((refused : OutOfMemory) × (cause ≡ ForMemory (Refused refused))) × (KnowsGoal w ⊎ (w.task.sum w.task.start < bound))

-- Where the goal is unknown, no memory is asked for if the frontier is empty, or if the bound is the start's sum. The answer is that there
-- is no plan, or the bound with its rows, an empty list.
abbrev pub UnknownGoalsWantNoMemory : Type 0
UnknownGoalsWantNoMemory =
    (w : WorldState)
    → ¬ KnowsGoal w
    → ((outcome : Outcome) → ((b : BoardModel) (cost : ℕ) → ¬ IsInFrontier w b cost) → IsGiven w outcome → outcome ≡ Unsolvable Exhausted)
    × ((best : Option (ℕ × Vec Move Global)) (cause : Cause) (rows : Option (Vec (BoardModel × ℕ) Global)) → IsGiven w (Bounded (w.task.sum w.task.start) best cause rows) → (listed : Vec (BoardModel × ℕ) Global) × (rows ≡ Some listed) × (listed.items ≡ []))

-- the rows of a bound prove it
abbrev pub BoundRowsProve : Type 0
BoundRowsProve =
    (w : WorldState) (bound : ℕ) (best : Option (ℕ × Vec Move Global)) (cause : Cause) (rows : Vec (BoardModel × ℕ) Global)
    → IsShaped w
    → IsSound w
    → IsLowerBound w.task.rule w.task.sum w.task.goal
    → IsGiven w (Bounded bound best cause (Some rows))
    → Proves w.task.rule rows.items w.task.sum w.task.start w.task.goal bound

-- a sound world gives some outcome, if vectors have the plan and the rows
abbrev pub WorldsGiveOutcomes : Type 0
WorldsGiveOutcomes =
    (w : WorldState)
    → IsShaped w
    → IsSound w
    → ¬ ((moves : List Move) (listed : List (BoardModel × ℕ))
    → ¬ ((plan : Vec Move Global) (rows : Vec (BoardModel × ℕ) Global) → plan.items ≡ moves → rows.items ≡ listed → (outcome : Outcome) × IsGiven w outcome))

-- In every world that a run reaches, no lane has too many packets. No packet has too many items, in a lane, held or unsent, and none in a
-- lane is empty. Each board is known to its owner alone, and each item is under way to its owner, at no cost above the greatest. The goal
-- is not closed.
abbrev pub RunsStayWithinLimits : Type 0
RunsStayWithinLimits =
    (job : Job) (via : Move) (made : List (Step × Option Refusal)) (w : WorldState)
    → IsJob job
    → IsRun (opening job via) made w
    → ((from to : ℕ) (lane : Lane) → IsLane w from to lane → (length lane ≤ LANE_LIMIT) × ((packet : Packet) → Contains lane packet → (1 ≤ length packet) × (length packet ≤ PACKET_LIMIT)))
    × ((i : ℕ) (worker : WorkerState) → IsWorker w i worker → (length worker.held ≤ PACKET_LIMIT) × ((to : ℕ) (packet : Packet) → slice_get worker.unsent to ≡ Some packet → length packet ≤ PACKET_LIMIT))
    × ((i : ℕ) (b : BoardModel) (known : Known) → Knows w i b known → (w.owner b ≡ i) × (known.cost ≤ GREATEST_COST) × (b ≡ w.task.goal → known.expanded ≡ false))
    × ((to : ℕ) (item : Item) → IsUnderWay w to item → IsTaskBoard w.task item.board × (w.owner item.board ≡ to) × (item.cost ≤ GREATEST_COST))

-- from each board that a sound world knows last moves lead back to the start, along a plan that costs no more than is known
abbrev pub LastMovesLeadBack : Type 0
LastMovesLeadBack =
    (w : WorldState)
    → IsShaped w
    → IsSound w
    → (i : ℕ) (b : BoardModel) (known : Known)
    → Knows w i b known
    → (plan : List Move) × (cost : ℕ) × Leads w.task.rule w.task.start plan b cost × (cost ≤ known.cost) × IsByLastMoves w w.task.start plan b

-- An empty plan leads by last moves from a board to itself alone. The first move of any other plan leads to a board that its owner knows
-- with that last move, and the rest goes on from there.
abbrev pub FirstMovesAreKnown : Type 0
FirstMovesAreKnown =
    ((w : WorldState) (b q : BoardModel) → IsByLastMoves w b [] q → b ≡ q)
    × ((w : WorldState) (b q : BoardModel) (m : Move) (plan : List Move)
    → IsByLastMoves w b (m ∷ plan) q
    → (next : BoardModel) × (c : ℕ) × (known : Known) × Moves w.task.rule b m next c × Knows w (w.owner next) next known × (known.via ≡ m) × IsByLastMoves w next plan q)

-- the plan leads to the goal at this cost by last moves, and the goal is known to its owner at no less
abbrev pub IsWithinReach : WorldState → ℕ → Vec Move Global → Type 0
IsWithinReach w cost plan =
    Leads w.task.rule w.task.start plan.items w.task.goal cost
    × IsByLastMoves w w.task.start plan.items w.task.goal
    × ((known : Known) × Knows w (w.owner w.task.goal) w.task.goal known × (cost ≤ known.cost))

-- each plan that a world gives is such a one
abbrev pub PlansAreWithinReach : Type 0
PlansAreWithinReach =
    ((w : WorldState) (cost : ℕ) (plan : Vec Move Global) (rows : Vec (BoardModel × ℕ) Global) → IsGiven w (Optimal cost plan rows) → IsWithinReach w cost plan)
    × ((w : WorldState) (bound : ℕ) (best : ℕ × Vec Move Global) (cause : Cause) → IsBounded w bound (Some best) cause → IsWithinReach w best.0 best.1)

-- and it costs no more than that at which the goal's owner knows the goal
abbrev pub PlansCostNoMore : Type 0
PlansCostNoMore = (w : WorldState) (cost : ℕ) (plan : Vec Move Global) → IsWithinReach w cost plan → (known : Known) × Knows w (w.owner w.task.goal) w.task.goal known × (cost ≤ known.cost)

-- The credit of each world that a run reaches is at most 2^63 plus what is drawn at once. So no purse is the greatest u64 there, and no
-- packet is refused for a full purse.
abbrev pub CreditStaysLow : Type 0
CreditStaysLow =
    (job : Job) (via : Move) (made : List (Step × Option Refusal)) (w : WorldState)
    → IsJob job
    → IsRun (opening job via) made w
    → (w.book.credit ≤ 2 ^ 63 + CREDIT_DRAWN)
    × ((i : ℕ) (worker : WorkerState) → IsWorker w i worker → worker.purse + 1 < 2 ^ 64)
    × ((i j : ℕ) (w' : WorldState) → ¬ Next (Deliver i j) (turn w (Some PurseFull) w'))

-- In each world that a run reaches and that has not stopped some credit is left, in a purse or with a packet. So once there is none, the run
-- has stopped.
abbrev pub RunningWorldsHaveCredit : Type 0
RunningWorldsHaveCredit =
    (job : Job) (via : Move) (made : List (Step × Option Refusal)) (w : WorldState)
    → IsJob job
    → IsRun (opening job via) made w
    → w.book.stop ≡ None
    → (1 ≤ w.book.credit) × (1 ≤ purse_total w + packet_count w)
