-- The laws of the definitions. Each is the contract of a function that does nothing.
use Rattle.std.specs.Prelude.{ℕ, ◌≡◌, ◌≢◌, ◌⊎◌, ◌↔◌, ◌<◌, ◌≤◌, List, [], ◌∷◌, length, map, replicate}
use Rattle.std.specs.Prelude.{slice_index_or, All, Contains, Vec, Option, Some, None}
use Rattle.std.specs.declared.alloc.Global.{Global}
use Rattle.memory.specs.declared.OutOfMemory.{OutOfMemory}
use Rattle.board.specs.declared.moves.Move.{Move}
use Rattle.board.specs.Plans.{Leads}
use Rattle.board.specs.Boards.{BoardModel}
use Rattle.board.specs.Rows.{Proves}
use Rattle.board.specs.Weights.{WeightsModel}
use Rattle.lower_bound.specs.Tables.{BoundModel}
use Rattle.outcomes.specs.declared.outcome.Cause.{Cause}
use Rattle.outcomes.specs.declared.outcome.Cause.TheVariants.{Memory, Limit as ForLimit}
use Rattle.outcomes.specs.declared.outcome.Outcome.{Outcome}
use Rattle.outcomes.specs.declared.outcome.Outcome.TheVariants.{Optimal, Unsolvable, Bounded}
use Rattle.outcomes.specs.declared.outcome.Want.{Want}
use Rattle.outcomes.specs.declared.outcome.Want.TheVariants.{Refused}
use Rattle.outcomes.specs.declared.outcome.Why.{Why}
use Rattle.world_model.specs.declared.steps.HaltCause.{HaltCause}
use Rattle.world_model.specs.declared.steps.Refusal.{Refusal}
use Rattle.world_model.specs.declared.steps.Refusal.TheVariants as refusals
use Rattle.world_model.specs.declared.steps.Step.{Step}
use Rattle.world_model.specs.declared.steps.Step.TheVariants.{Expand, Settle, Send, Deliver, Draw}
use Rattle.world_model.specs.declared.steps.Step.TheVariants.{Announce, Grant, Rest, Halt}
use Rattle.world_model.specs.declared.steps.Stop.TheVariants as stops
use Rattle.search_lists.specs.Lists.{SearchListsModel}
use Rattle.world_model.specs.declared.parts.Known.{Known}
use Rattle.world_model.specs.Credit.{expansion_count}
use Rattle.world_model.specs.Frontiers.{IsInFrontier}
use Rattle.world_model.specs.Openings.{Job, opening}
use Rattle.world_model.specs.Outcomes.{IsGiven, IsBounded}
use Rattle.world_model.specs.Steps.{IsRun, Next}
use Rattle.world_model.specs.Turns.{Turn, turn}
use Rattle.world_model.specs.Workers.{WorkerState, Lane, packet_for}
use Rattle.world_model.specs.Worlds.{WorldState, IsLane, IsWorker, Knows}
use Rattle.hda_run.specs.Alone.{IsRunAlone}
use Rattle.hda_run.specs.Headline.{IsOfSteps, TellsTruth}
use Rattle.hda_run.specs.Jobs.{JobModel, HasOneShape, problem, task_in}
use Rattle.hda_run.specs.Kinds.{step_kind_of}
use Rattle.hda_run.specs.Rounds.{IsBoundSoFar, IsWithoutBound}
use Rattle.hda_run.specs.Worlds.{world_of, job_of, IsWorkerCount, WaitsFrom}
use Rattle.hda_run.specs.declared.gates.Kind.TheVariants as kinds
use Rattle.hda_run.specs.declared.parts.Parts.{Parts}

-- ---- one worker alone

-- in a world without a bound where a board is open, the goal is known
abbrev pub WithoutABoundTheGoalIsKnown : Type 0
WithoutABoundTheGoalIsKnown =
    (w : WorldState) (b : BoardModel) (cost : ℕ)
    → IsWithoutBound w
    → IsInFrontier w b cost
    → (known : Known) × Knows w 0 w.task.goal known

-- something waits at that f, and nothing below it
abbrev pub WaitingBeginsThere : Type 0
WaitingBeginsThere =
    (lists : SearchListsModel) (f : ℕ)
    → WaitsFrom lists f
    → (slice_index_or lists.waiting.entries f [] ≢ [])
    × ((h : ℕ) → h < f → slice_index_or lists.waiting.entries h [] ≡ [])

-- No plan costs less than the bound of a world, and what waits begins there. Where there is none, the goal is known, or
-- nothing is open.
abbrev pub BoundsAreOfTheirWorlds : {S : Type 0} → (S → ℕ → BoardModel → ℕ) → Type 0
BoundsAreOfTheirWorlds {S} owner_of =
    (parts : Parts S)
    → ((f : ℕ) (plan : List Move) (cost : ℕ)
    → IsBoundSoFar owner_of parts (Some f)
    → Leads parts.job.rule parts.job.start plan parts.job.goal cost
    → f ≤ cost)
    × ((f : ℕ)
    → IsBoundSoFar owner_of parts (Some f)
    → All (λ worker. WaitsFrom worker.lists f) parts.workers.items)
    × (IsBoundSoFar owner_of parts None → IsWithoutBound (world_of owner_of parts))

-- a run by one worker has stopped, and not because a thread could not be started
abbrev pub RunsAloneStop : Type 0
RunsAloneStop =
    (job : Job) (w : WorldState) → IsRunAlone job w → (w.book.stop ≢ None) × (w.book.stop ≢ Some stops.Start)

-- where it is quiet, steps without a halt lead to it from the opening world
abbrev pub QuietRunsHaveNoHalt : Type 0
QuietRunsHaveNoHalt =
    (job : Job) (w : WorldState)
    → IsRunAlone job w
    → w.book.stop ≡ Some stops.Quiet
    → (via : Move) × (made : List (Step × Option Refusal)) × IsRun (opening job via) made w
    × ((i : ℕ) (cause : HaltCause) (answer : Option Refusal) → ¬ Contains made (Halt i cause, answer))

-- steps lead from the opening world to this one, and this one of them was refused so
abbrev pub WasRefused : Job → WorldState → Step → Refusal → Type 0
WasRefused job w step refusal =
    (via : Move) × (made : List (Step × Option Refusal)) × IsRun (opening job via) made w
    × Contains made (step, Some refusal)

-- it is halted for the limit only where a grant was refused, and for memory only where an expansion was refused it
abbrev pub HaltsAreDue : Type 0
HaltsAreDue =
    (job : Job) (w : WorldState)
    → IsRunAlone job w
    → (w.book.stop ≡ Some stops.Limit → WasRefused job w (Grant 0) refusals.NoAllowance)
    × ((want : Want)
    → w.book.stop ≡ Some (stops.Memory want)
    → (refused : OutOfMemory) × (want ≡ Refused refused) × WasRefused job w (Expand 0) (refusals.Memory refused))

-- at most the limit was expanded, and just the limit where a bound is for it
abbrev pub BoundsSpendTheLimit : Type 0
BoundsSpendTheLimit =
    (job : Job) (w : WorldState)
    → IsRunAlone job w
    → (expansion_count w ≤ job.limit)
    × ((bound : ℕ) (best : Option (ℕ × Vec Move Global))
    → IsBounded w bound best ForLimit
    → expansion_count w ≡ job.limit)

-- ---- what a reader may believe

-- optimal outcomes of one problem that tell the truth have one cost
abbrev pub OptimalTruthsAgree : Type 0
OptimalTruthsAgree =
    (p : JobModel) (c d : ℕ) (plan plan' : Vec Move Global) (rows rows' : Vec (BoardModel × ℕ) Global)
    → TellsTruth p (Optimal c plan rows)
    → TellsTruth p (Optimal d plan' rows')
    → c ≡ d

-- and no bound of an outcome that tells the truth is above that cost
abbrev pub BoundTruthsAreBelow : Type 0
BoundTruthsAreBelow =
    (p : JobModel) (c bound : ℕ) (plan : Vec Move Global) (rows : Vec (BoardModel × ℕ) Global)
    (best : Option (ℕ × Vec Move Global)) (cause : Cause) (below : Option (Vec (BoardModel × ℕ) Global))
    → TellsTruth p (Optimal c plan rows)
    → TellsTruth p (Bounded bound best cause below)
    → bound ≤ c

-- where it is true that there is no plan, no outcome that tells the truth has one
abbrev pub UnsolvableTruthsHaveNoPlan : Type 0
UnsolvableTruthsHaveNoPlan =
    (p : JobModel) (why : Why)
    → TellsTruth p (Unsolvable why)
    → ((cost : ℕ) (plan : Vec Move Global) (rows : Vec (BoardModel × ℕ) Global)
    → ¬ TellsTruth p (Optimal cost plan rows))
    × ((bound cost : ℕ) (plan : Vec Move Global) (cause : Cause) (rows : Option (Vec (BoardModel × ℕ) Global))
    → ¬ TellsTruth p (Bounded bound (Some (cost, plan)) cause rows))

-- a plan of such an outcome leads from the start to the goal at the cost beside it, whether it is a least one or the
-- best beside a bound
abbrev pub TruePlansLead : Type 0
TruePlansLead =
    (p : JobModel) (cost : ℕ) (plan : Vec Move Global)
    → ((rows : Vec (BoardModel × ℕ) Global)
    → TellsTruth p (Optimal cost plan rows)
    → Leads p.rule p.start plan.items p.goal cost)
    × ((bound : ℕ) (cause : Cause) (rows : Option (Vec (BoardModel × ℕ) Global))
    → TellsTruth p (Bounded bound (Some (cost, plan)) cause rows)
    → Leads p.rule p.start plan.items p.goal cost)

-- the rows of an optimal outcome prove its cost with the sums of the problem's tables
abbrev pub TrueRowsProve : Type 0
TrueRowsProve =
    (p : JobModel) (cost : ℕ) (plan : Vec Move Global) (rows : Vec (BoardModel × ℕ) Global)
    → TellsTruth p (Optimal cost plan rows)
    → Proves p.rule rows.items (task_in p).sum p.start p.goal cost

-- and those of a bound prove the bound
abbrev pub TrueRowsProveBounds : Type 0
TrueRowsProveBounds =
    (p : JobModel) (bound : ℕ) (best : Option (ℕ × Vec Move Global)) (cause : Cause)
    (rows : Vec (BoardModel × ℕ) Global)
    → TellsTruth p (Bounded bound best cause (Some rows))
    → Proves p.rule rows.items (task_in p).sum p.start p.goal bound

-- where a bound has no rows, others prove it
abbrev pub TrueBoundsHaveProofs : Type 0
TrueBoundsHaveProofs =
    (p : JobModel) (bound : ℕ) (best : Option (ℕ × Vec Move Global)) (cause : Cause)
    → TellsTruth p (Bounded bound best cause None)
    → (rows : List (BoardModel × ℕ)) × Proves p.rule rows (task_in p).sum p.start p.goal bound

-- a bound without rows has no plan beside it, and its cause is that memory was refused
abbrev pub WithoutRowsMemoryWasRefused : Type 0
WithoutRowsMemoryWasRefused =
    (p : JobModel) (bound : ℕ) (best : Option (ℕ × Vec Move Global)) (cause : Cause)
    → TellsTruth p (Bounded bound best cause None)
    → (best ≡ None) × ((refused : OutOfMemory) × (cause ≡ Memory (Refused refused)))

-- the outcome of one step is given by a world to which just that step leads, with some answer, from the opening one
abbrev pub OutcomesAreOfTheirSteps : Type 0
OutcomesAreOfTheirSteps =
    (job : Job) (step : Step) (outcome : Outcome)
    → IsOfSteps job (step ∷ []) outcome
    → (via : Move) × (answer : Option Refusal) × (w : WorldState)
    × Next step (turn (opening job via) answer w) × IsGiven w outcome

-- and that of any steps by a world to which just these lead, in their order
abbrev pub OutcomesAreOfAllTheirSteps : Type 0
OutcomesAreOfAllTheirSteps =
    (job : Job) (steps : List Step) (outcome : Outcome)
    → IsOfSteps job steps outcome
    → (via : Move) × (made : List (Step × Option Refusal)) × (w : WorldState)
    × (map (λ made. made.0) made ≡ steps) × IsRun (opening job via) made w × IsGiven w outcome

-- ---- steps by their names

-- a step is of the kind that has its name
abbrev pub KindsAreNamed : Type 0
KindsAreNamed =
    (i j : ℕ) (cause : HaltCause)
    → (step_kind_of (Expand i) ≡ kinds.Expand)
    × (step_kind_of (Settle i) ≡ kinds.Settle)
    × (step_kind_of (Send i j) ≡ kinds.Send)
    × (step_kind_of (Deliver i j) ≡ kinds.Deliver)
    × (step_kind_of (Draw i) ≡ kinds.Draw)
    × (step_kind_of (Announce i) ≡ kinds.Announce)
    × (step_kind_of (Grant i) ≡ kinds.Grant)
    × (step_kind_of (Rest i) ≡ kinds.Rest)
    × (step_kind_of (Halt i cause) ≡ kinds.Halt)

-- a step after which a lane isn't as it was is a send or a delivery
abbrev pub LanesChangeByTwoKinds : Type 0
LanesChangeByTwoKinds =
    (step : Step) (it : Turn WorldState Refusal) (from to : ℕ) (lane : Lane)
    → Next step it
    → ¬ (IsLane it.before from to lane ↔ IsLane it.after from to lane)
    → (step_kind_of step ≡ kinds.Send) ⊎ (step_kind_of step ≡ kinds.Deliver)

-- where worker i sends to j, or j takes in from i, each lane but the one from i to j is left as it was
abbrev pub OtherLanesAreLeft : Type 0
OtherLanesAreLeft =
    (i j from to : ℕ) (lane : Lane) (it : Turn WorldState Refusal)
    → Next (Send i j) it ⊎ Next (Deliver j i) it
    → ¬ ((from ≡ i) × (to ≡ j))
    → IsLane it.before from to lane ↔ IsLane it.after from to lane

-- what worker i sends to j by an empty lane is what j holds, once it has taken in from i
abbrev pub SentItemsArrive : Type 0
SentItemsArrive =
    (i j : ℕ) (w sent taken : WorldState) (sender receiver : WorkerState)
    → IsWorker w i sender
    → IsLane w i j []
    → Next (Send i j) (turn w None sent)
    → Next (Deliver j i) (turn sent None taken)
    → IsWorker taken j receiver
    → receiver.held ≡ packet_for sender j

-- and a step after which the book isn't as it was is a draw, an announcement, a grant, a rest or a halt
abbrev pub BookChangesByFiveKinds : Type 0
BookChangesByFiveKinds =
    (step : Step) (it : Turn WorldState Refusal)
    → Next step it
    → it.after.book ≢ it.before.book
    → (step_kind_of step ≡ kinds.Draw) ⊎ (step_kind_of step ≡ kinds.Announce) ⊎ (step_kind_of step ≡ kinds.Grant)
    ⊎ (step_kind_of step ≡ kinds.Rest) ⊎ (step_kind_of step ≡ kinds.Halt)

-- ---- worlds as asked

-- from one worker to sixteen may share a job
abbrev pub OneToSixteenMayShare : Type 0
OneToSixteenMayShare = (n : ℕ) → IsWorkerCount n ↔ ((1 ≤ n) × (n ≤ 16))

-- a job is refused only where start, cost rule or tables have other sides than the goal, whatever sides these are
abbrev pub JobsAreOfAnyShape : Type 0
JobsAreOfAnyShape =
    (start goal : BoardModel) (rule : WeightsModel) (tables : BoundModel) (limit : ℕ)
    → HasOneShape (problem start goal rule tables limit)
    ↔ ((start.grid ≡ goal.grid) × (rule.grid ≡ goal.grid) × (tables.split.grid ≡ goal.grid))

-- the opening world of n workers has the problem's task and limit, and lanes between n workers, among whom the spread
-- says who owns a board
abbrev pub OpeningsAreAsAsked : {S : Type 0} → (S → ℕ → BoardModel → ℕ) → Type 0
OpeningsAreAsAsked {S} owner_of =
    (p : JobModel) (spread : S) (n : ℕ) (via : Move)
    → ((opening (job_of owner_of p spread n) via).task ≡ task_in p)
    × ((opening (job_of owner_of p spread n) via).book.limit ≡ p.limit)
    × ((opening (job_of owner_of p spread n) via).lanes ≡ replicate n (replicate n []))
    × ((b : BoardModel) → (opening (job_of owner_of p spread n) via).owner b ≡ owner_of spread n b)

-- the world that parts make has their task, and boards are owned as their spread says among all their workers
abbrev pub PartsAreAsOwned : {S : Type 0} → (S → ℕ → BoardModel → ℕ) → Type 0
PartsAreAsOwned {S} owner_of =
    (parts : Parts S)
    → ((world_of owner_of parts).task ≡ task_in parts.job)
    × ((b : BoardModel) → (world_of owner_of parts).owner b ≡ owner_of parts.owners.now (length parts.workers.items) b)
