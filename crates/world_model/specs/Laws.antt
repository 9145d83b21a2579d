-- The laws of worlds.
use Rattle.std.specs.Prelude.{◌≡◌, ◌≢◌, ◌⊎◌, ℕ, ◌+◌, ◌-◌, ◌*◌, ◌<◌, ◌≤◌, List, length, Vec, Option, Some, None}
use Rattle.std.specs.declared.alloc.Global.{Global}
use Rattle.memory.specs.declared.OutOfMemory.{OutOfMemory}
use Rattle.board.specs.declared.moves.Move.{Move}
use Rattle.board.specs.Boards.{BoardModel}
use Rattle.board.specs.Plans.{Leads, NothingBelow}
use Rattle.board.specs.Rows.{IsLowerBound}
use Rattle.outcomes.specs.declared.outcome.Cause.{Cause}
use Rattle.outcomes.specs.declared.outcome.Cause.TheVariants.{Memory as ForMemory, Cost as ForCost, Cut as ForCut}
use Rattle.outcomes.specs.declared.outcome.Want.TheVariants.{Refused}
use Rattle.outcomes.specs.declared.outcome.Outcome.{Outcome}
use Rattle.outcomes.specs.Outcomes.{Answers, HasProof, IsTrueBound}
use Rattle.world_model.specs.declared.limits.TheConstants.{GREATEST_GRANT}
use Rattle.world_model.specs.declared.parts.Item.{Item}
use Rattle.world_model.specs.declared.parts.Known.{Known}
use Rattle.world_model.specs.declared.steps.HaltCause.{HaltCause}
use Rattle.world_model.specs.declared.steps.Refusal.{Refusal}
use Rattle.world_model.specs.declared.steps.Step.{Step}
use Rattle.world_model.specs.declared.steps.Stop.TheVariants.{Quiet, Limit, Start}
use Rattle.world_model.specs.Turns.{Turn, turn}
use Rattle.world_model.specs.Workers.{WorkerState, Role}
use Rattle.world_model.specs.WorkerSteps.{AtLane, ExpandStep, SettleStep, SendStep, DeliverStep}
use Rattle.world_model.specs.BookSteps.{AtBook, DrawStep, AnnounceStep, GrantStep, RestStep, HaltStep}
use Rattle.world_model.specs.Worlds.{WorldState, Knows, IsUnderWay}
use Rattle.world_model.specs.Steps.{Next, IsRun}
use Rattle.world_model.specs.Shapes.{IsTask, IsShapedWorker, IsShapedLane, IsShaped}
use Rattle.world_model.specs.Openings.{Job, IsJob, opening}
use Rattle.world_model.specs.Soundness.{IsSound, IsLedTo}
use Rattle.world_model.specs.Frontiers.{IsInFrontier}
use Rattle.world_model.specs.Credit.{IsCredited, expansion_count}
use Rattle.world_model.specs.Quiet.{IsKept, QuietIsTrueIn}
use Rattle.world_model.specs.Outcomes.{IsGiven, IsBounded}

-- a refused step leaves the world as it was
abbrev pub RefusalsChangeNothing : Type 0
RefusalsChangeNothing = (step : Step) (w : WorldState) (refusal : Refusal) (w' : WorldState) → Next step (turn w (Some refusal) w') → w' ≡ w

-- a step leaves the task, the owners, the count of workers and the limit as they were
abbrev pub StepsKeepTheJob : Type 0
StepsKeepTheJob =
    (step : Step) (it : Turn WorldState Refusal)
    → Next step it
    → (it.after.task ≡ it.before.task) × (it.after.owner ≡ it.before.owner) × (length it.after.workers ≡ length it.before.workers) × (it.after.book.limit ≡ it.before.book.limit)

-- a step, whatever it answers, leaves a shaped world shaped
abbrev pub StepsKeepShaped : Type 0
StepsKeepShaped = (step : Step) (it : Turn WorldState Refusal) → Next step it → IsShaped it.before → IsShaped it.after

-- and a sound one sound
abbrev pub StepsKeepSound : Type 0
StepsKeepSound = (step : Step) (it : Turn WorldState Refusal) → Next step it → IsShaped it.before → IsSound it.before → IsSound it.after

-- and a credited one credited
abbrev pub StepsKeepCredited : Type 0
StepsKeepCredited = (step : Step) (it : Turn WorldState Refusal) → Next step it → IsCredited it.before → IsCredited it.after

-- no step of a shaped world is without an answer
abbrev pub StepsHaveAnswers : Type 0
StepsHaveAnswers = (step : Step) (w : WorldState) → IsShaped w → ¬ ((answer : Option Refusal) (w' : WorldState) → ¬ Next step (turn w answer w'))

-- a worker that expands a board stays shaped
abbrev pub ExpandingKeepsItsWorker : Type 0
ExpandingKeepsItsWorker =
    (n : ℕ) (role : Role) (it : Turn WorkerState Refusal)
    → IsTask role.task
    → ((b : BoardModel) → role.owner b < n)
    → ExpandStep role it
    → IsShapedWorker n role it.before
    → IsShapedWorker n role it.after

-- a worker that settles an item stays shaped
abbrev pub SettlingKeepsItsWorker : Type 0
SettlingKeepsItsWorker = (n : ℕ) (role : Role) (it : Turn WorkerState Refusal) → SettleStep it → IsShapedWorker n role it.before → IsShapedWorker n role it.after

-- a worker that sends a packet stays shaped, and so does the lane to worker `to`
abbrev pub SendingKeepsItsWorker : Type 0
SendingKeepsItsWorker =
    (n to : ℕ) (role : Role) (it : Turn AtLane Refusal)
    → SendStep to it
    → IsShapedWorker n role it.before.worker
    → IsShapedLane role.task role.owner to it.before.lane
    → IsShapedWorker n role it.after.worker × IsShapedLane role.task role.owner to it.after.lane

-- a worker that takes in a packet stays shaped, and so does the lane to it
abbrev pub DeliveringKeepsItsWorker : Type 0
DeliveringKeepsItsWorker =
    (n : ℕ) (role : Role) (it : Turn AtLane Refusal)
    → DeliverStep it
    → IsShapedWorker n role it.before.worker
    → IsShapedLane role.task role.owner role.me it.before.lane
    → IsShapedWorker n role it.after.worker × IsShapedLane role.task role.owner role.me it.after.lane

-- a step on the book leaves a worker's boards and items as they were
abbrev pub BookStepsKeepTheirWorker : Type 0
BookStepsKeepTheirWorker =
    (role : Role) (cause : HaltCause) (it : Turn AtBook Refusal)
    → DrawStep it ⊎ AnnounceStep role it ⊎ GrantStep role it ⊎ RestStep role it ⊎ HaltStep cause it
    → (it.after.worker.known ≡ it.before.worker.known) × (it.after.worker.held ≡ it.before.worker.held) × (it.after.worker.unsent ≡ it.before.worker.unsent)

-- the opening world of a job is shaped, sound and credited, and its limit is the job's
abbrev pub OpeningsAreSound : Type 0
OpeningsAreSound =
    (job : Job) (via : Move)
    → IsJob job
    → IsShaped (opening job via) × IsSound (opening job via) × IsCredited (opening job via) × ((opening job via).book.limit ≡ job.limit)

-- a plan leads to each board that a sound world knows, at no more than the cost that is known: last moves can be followed back
abbrev pub KnownBoardsAreReached : Type 0
KnownBoardsAreReached = (w : WorldState) → IsShaped w → IsSound w → (i : ℕ) (b : BoardModel) (known : Known) → Knows w i b known → IsLedTo w b known.cost

-- and to each that is under way
abbrev pub ItemsAreReached : Type 0
ItemsAreReached = (w : WorldState) → IsShaped w → IsSound w → (to : ℕ) (item : Item) → IsUnderWay w to item → IsLedTo w item.board item.cost

-- so some plan leads there from the start, and costs no more
abbrev pub PlansLeadThere : Type 0
PlansLeadThere =
    (w : WorldState) (b : BoardModel) (cost : ℕ)
    → IsLedTo w b cost
    → (plan : List Move) × (k : ℕ) × Leads w.task.rule w.task.start plan b k × (k ≤ cost)

-- no plan costs less than n, where no board of a sound world's frontier is below n, nor the cost at which the goal is known
abbrev pub FrontiersBound : Type 0
FrontiersBound =
    (w : WorldState) (n : ℕ)
    → IsShaped w
    → IsSound w
    → IsLowerBound w.task.rule w.task.sum w.task.goal
    → ((b : BoardModel) (cost : ℕ) → IsInFrontier w b cost → n ≤ cost + w.task.sum b)
    → ((known : Known) → Knows w (w.owner w.task.goal) w.task.goal known → n ≤ known.cost)
    → NothingBelow w.task.rule w.task.start w.task.goal n

-- the outcome that a sound world gives answers its task, at any moment, if the world is quiet where the book says so
abbrev pub OutcomesAnswer : Type 0
OutcomesAnswer =
    (w : WorldState) (outcome : Outcome)
    → IsShaped w
    → IsSound w
    → QuietIsTrueIn w
    → IsLowerBound w.task.rule w.task.sum w.task.goal
    → IsGiven w outcome
    → Answers w.task outcome

-- what it says of a bound is true, whatever rows beside it, and rows that prove the bound exist
abbrev pub BoundsAreTrue : Type 0
BoundsAreTrue =
    (w : WorldState) (bound : ℕ) (best : Option (ℕ × Vec Move Global)) (cause : Cause)
    → IsShaped w
    → IsSound w
    → QuietIsTrueIn w
    → IsLowerBound w.task.rule w.task.sum w.task.goal
    → IsBounded w bound best cause
    → IsTrueBound w.task bound best cause × HasProof w.task bound

-- each world that a run reaches from the opening world is shaped, sound and credited
abbrev pub RunsKeepSound : Type 0
RunsKeepSound =
    (job : Job) (via : Move) (made : List (Step × Option Refusal)) (w : WorldState)
    → IsJob job
    → IsRun (opening job via) made w
    → IsShaped w × IsSound w × IsCredited w

-- and the outcome that it gives answers the job's task
abbrev pub RunsAnswer : Type 0
RunsAnswer =
    (job : Job) (via : Move) (made : List (Step × Option Refusal)) (w : WorldState) (outcome : Outcome)
    → IsJob job
    → IsLowerBound job.task.rule job.task.sum job.task.goal
    → IsRun (opening job via) made w
    → IsGiven w outcome
    → Answers job.task outcome

-- where it stopped, but not because a thread could not be started, it is kept
abbrev pub RunsAreKept : Type 0
RunsAreKept =
    (job : Job) (via : Move) (made : List (Step × Option Refusal)) (w : WorldState)
    → IsJob job
    → IsRun (opening job via) made w
    → w.book.stop ≢ None
    → w.book.stop ≢ Some Start
    → IsKept w

-- its workers together expanded at most the limit; where it stopped for the limit, all of it except at most one grant for each worker but one
abbrev pub RunsSpendTheLimit : Type 0
RunsSpendTheLimit =
    (job : Job) (via : Move) (made : List (Step × Option Refusal)) (w : WorldState)
    → IsJob job
    → IsRun (opening job via) made w
    → (expansion_count w ≤ job.limit) × (w.book.stop ≡ Some Limit → job.limit ≤ expansion_count w + GREATEST_GRANT * (job.count - 1))

-- one worker alone expanded just the limit
abbrev pub OneWorkerSpendsTheLimit : Type 0
OneWorkerSpendsTheLimit =
    (job : Job) (via : Move) (made : List (Step × Option Refusal)) (w : WorldState)
    → IsJob job
    → job.count ≡ 1
    → IsRun (opening job via) made w
    → w.book.stop ≡ Some Limit
    → expansion_count w ≡ job.limit

-- The workers of a credited world expanded at most the limit. Where the world stopped for the limit, all of it is granted, and spent except
-- at most one grant for each worker but one.
abbrev pub LimitIsSpent : Type 0
LimitIsSpent =
    (w : WorldState)
    → IsCredited w
    → (expansion_count w ≤ w.book.limit)
    × (w.book.stop ≡ Some Limit → (w.book.granted ≡ w.book.limit) × (w.book.limit ≤ expansion_count w + GREATEST_GRANT * (length w.workers - 1)))

-- where the book of a credited world stopped by Quiet the world is quiet
abbrev pub QuietIsTrue : Type 0
QuietIsTrue = (w : WorldState) → IsShaped w → IsCredited w → QuietIsTrueIn w

-- a bound that it gives is for the cost; or memory was refused, and there is no plan beside it
abbrev pub QuietBoundsAreForCost : Type 0
QuietBoundsAreForCost =
    (w : WorldState) (bound : ℕ) (best : Option (ℕ × Vec Move Global)) (cause : Cause)
    → IsShaped w
    → IsSound w
    → IsCredited w
    → IsLowerBound w.task.rule w.task.sum w.task.goal
    → w.book.stop ≡ Some Quiet
    → IsBounded w bound best cause
    → (cause ≡ ForCost) ⊎ ((best ≡ None) × ((refused : OutOfMemory) × (cause ≡ ForMemory (Refused refused))))

-- so it gives no bound for which the run was cut
abbrev pub QuietIsNeverCut : Type 0
QuietIsNeverCut =
    (w : WorldState) (bound : ℕ) (best : Option (ℕ × Vec Move Global))
    → IsShaped w
    → IsSound w
    → IsCredited w
    → IsLowerBound w.task.rule w.task.sum w.task.goal
    → w.book.stop ≡ Some Quiet
    → ¬ IsBounded w bound best ForCut
