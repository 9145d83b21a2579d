-- The laws of steps: that each has one answer and leaves one world, and what it leaves alone.
use Rattle.std.specs.Prelude.{◌≡◌, ◌≢◌, ◌↔◌, ◌⊎◌, ⊤, ℕ, ◌<◌, ◌≤◌, ◌+◌, ◌^◌, true, List, [], ◌∷◌, ◌++◌, All, Contains, Option, Some, None, slice_get}
use Rattle.memory.specs.declared.OutOfMemory.{OutOfMemory}
use Rattle.board.specs.declared.moves.Move.{Move}
use Rattle.board.specs.Weights.{WeightsModel}
use Rattle.board.specs.Moves.{Moves}
use Rattle.board.specs.Boards.{IsBoard, BoardModel}
use Rattle.world_model.specs.declared.parts.Item.{Item}
use Rattle.world_model.specs.declared.parts.Known.{Known}
use Rattle.world_model.specs.declared.steps.HaltCause.{HaltCause}
use Rattle.world_model.specs.declared.steps.HaltCause.TheVariants.{Limit}
use Rattle.world_model.specs.declared.steps.Refusal.{Refusal}
use Rattle.world_model.specs.declared.steps.Refusal.TheVariants.{NoRoom, Memory}
use Rattle.world_model.specs.declared.steps.Step.{Step}
use Rattle.world_model.specs.declared.steps.Step.TheVariants.{Expand, Settle, Send, Deliver, Draw, Announce, Grant, Rest, Halt}
use Rattle.world_model.specs.Turns.{Turn, turn}
use Rattle.world_model.specs.Costs.{IsNotBelow, limit_of}
use Rattle.world_model.specs.Workers.{WorkerState, Role, Lane, KnowsAs, IsOpen, IsNext, IsFloor}
use Rattle.world_model.specs.Expansions.{move_back, moves_but}
use Rattle.world_model.specs.Books.{BookState}
use Rattle.world_model.specs.WorkerSteps.{ExpandStep}
use Rattle.world_model.specs.Worlds.{WorldState, IsWorker, IsLane, IsUnderWay, Knows}
use Rattle.world_model.specs.Steps.{Next, IsRun}
use Rattle.world_model.specs.Openings.{Job, IsJob, opening}
use Rattle.world_model.specs.Shapes.{IsShaped}
use Rattle.world_model.specs.Soundness.{IsCovered, IsSound}

-- the worker that takes the step
abbrev pub worker_of_step : Step → ℕ
worker_of_step (Expand i) = i
worker_of_step (Settle i) = i
worker_of_step (Send i j) = i
worker_of_step (Deliver i j) = i
worker_of_step (Draw i) = i
worker_of_step (Announce i) = i
worker_of_step (Grant i) = i
worker_of_step (Rest i) = i
worker_of_step (Halt i cause) = i

-- the step may change the lane from one worker to another
abbrev pub UsesLane : Step → ℕ → ℕ → Type 0
UsesLane (Expand i) from to = ⊥
UsesLane (Settle i) from to = ⊥
UsesLane (Send i j) from to = (from ≡ i) × (to ≡ j)
UsesLane (Deliver i j) from to = (from ≡ j) × (to ≡ i)
UsesLane (Draw i) from to = ⊥
UsesLane (Announce i) from to = ⊥
UsesLane (Grant i) from to = ⊥
UsesLane (Rest i) from to = ⊥
UsesLane (Halt i cause) from to = ⊥

-- the step may change the book
abbrev pub UsesBook : Step → Type 0
UsesBook (Expand i) = ⊥
UsesBook (Settle i) = ⊥
UsesBook (Send i j) = ⊥
UsesBook (Deliver i j) = ⊥
UsesBook (Draw i) = ⊤
UsesBook (Announce i) = ⊤
UsesBook (Grant i) = ⊤
UsesBook (Rest i) = ⊤
UsesBook (Halt i cause) = ⊤

-- the step may want memory
abbrev pub TakesMemory : Step → Type 0
TakesMemory (Expand i) = ⊤
TakesMemory (Settle i) = ⊤
TakesMemory (Send i j) = ⊥
TakesMemory (Deliver i j) = ⊥
TakesMemory (Draw i) = ⊥
TakesMemory (Announce i) = ⊥
TakesMemory (Grant i) = ⊥
TakesMemory (Rest i) = ⊥
TakesMemory (Halt i cause) = ⊥

-- the answer depends neither on memory, nor on which of several boards of least cost plus sum is expanded
abbrev pub IsFirm : Option Refusal → Type 0
IsFirm answer = (answer ≢ Some NoRoom) × ((refused : OutOfMemory) → answer ≢ Some (Memory refused))

-- an answer is firm unless it is `NoRoom` or a refusal of memory
abbrev pub OtherAnswersAreFirm : Type 0
OtherAnswersAreFirm = (answer : Option Refusal) → answer ≢ Some NoRoom → ((refused : OutOfMemory) → answer ≢ Some (Memory refused)) → IsFirm answer

-- two such answers to one step agree: it is accepted, or refused for one cause
abbrev pub AnswersAgree : Type 0
AnswersAgree =
    (step : Step) (w : WorldState) (answer other : Option Refusal) (w' w'' : WorldState)
    → Next step (turn w answer w')
    → Next step (turn w other w'')
    → IsFirm answer
    → IsFirm other
    → answer ≡ other

-- a step leaves one world, unless it is an expansion, where several boards may be of least cost plus sum
abbrev pub StepsAreDetermined : Type 0
StepsAreDetermined =
    (step : Step) (w : WorldState) (answer : Option Refusal) (w' w'' : WorldState)
    → ((i : ℕ) → step ≢ Expand i)
    → Next step (turn w answer w')
    → Next step (turn w answer w'')
    → w' ≡ w''

-- memory may be refused just where a step that takes it is otherwise accepted
abbrev pub MemoryIsLast : Type 0
MemoryIsLast =
    (step : Step) (w : WorldState) (refused : OutOfMemory)
    → Next step (turn w (Some (Memory refused)) w) ↔ (TakesMemory step × ((w' : WorldState) × Next step (turn w None w')))

-- The board that an expansion closes was open, of least cost plus sum, and below the limit of the worker's best cost. No board that was
-- open had a lower cost plus sum.
abbrev pub LeastIsExpanded : Type 0
LeastIsExpanded =
    (role : Role) (it : Turn WorkerState Refusal) (b : BoardModel) (before after : Known)
    → ExpandStep role it
    → IsOpen role.task it.before b before
    → KnowsAs it.after b after
    → after.expanded ≡ true
    → IsNext role.task it.before b before × (before.cost + role.task.sum b < limit_of it.before.best) × (it.answer ≡ None)
    × ((c : BoardModel) (known : Known) → IsOpen role.task it.before c known → before.cost + role.task.sum b ≤ known.cost + role.task.sum c)

-- all moves are there except the one that is left out, if any
abbrev pub OneMoveIsLeftOut : Type 0
OneMoveIsLeftOut = (out : Option Move) (m : Move) → Contains (moves_but out) m ↔ (out ≢ Some m)

-- the move back leads to the board before the last move; at cost 0 there is none
abbrev pub MovesBackLeadBack : Type 0
MovesBackLeadBack =
    (known : Known)
    → (known.cost ≡ 0 → move_back known ≡ None)
    × ((rule : WeightsModel) (before b : BoardModel) (c : ℕ)
    → 0 < known.cost
    → IsBoard before
    → Moves rule before known.via b c
    → (back : Move) × (move_back known ≡ Some back) × Moves rule b back before c)

-- a step leaves each other worker, and the floor of each, as it was
abbrev pub OthersAreLeft : Type 0
OthersAreLeft =
    (step : Step) (it : Turn WorldState Refusal) (j : ℕ)
    → Next step it
    → j ≢ worker_of_step step
    → (slice_get it.after.workers j ≡ slice_get it.before.workers j) × (slice_get it.after.book.floors j ≡ slice_get it.before.book.floors j)

-- and each lane that it does not use
abbrev pub LanesAreLeft : Type 0
LanesAreLeft =
    (step : Step) (it : Turn WorldState Refusal) (from to : ℕ) (lane : Lane)
    → Next step it
    → ¬ UsesLane step from to
    → IsLane it.before from to lane ↔ IsLane it.after from to lane

-- and the book, where it does not use that
abbrev pub BooksAreLeft : Type 0
BooksAreLeft = (step : Step) (it : Turn WorldState Refusal) → Next step it → ¬ UsesBook step → it.after.book ≡ it.before.book

-- a worker that rests leaves its floor in the book
abbrev pub RestsKeepTheFloor : Type 0
RestsKeepTheFloor =
    (i : ℕ) (w w' : WorldState) (old : Option ℕ)
    → slice_get w.book.floors i ≡ Some old
    → Next (Rest i) (turn w None w')
    → (worker : WorkerState) × (floor : Option ℕ) × IsWorker w i worker × IsFloor w.task worker floor × (slice_get w'.book.floors i ≡ Some floor)

-- no floor that the book keeps is below the limit of its best cost
abbrev pub HasHighFloors : BookState → Type 0
HasHighFloors book = All (λ floor. IsNotBelow floor (Some (limit_of book.best))) book.floors

-- then each floor that is there is at least that limit
abbrev pub HighFloorsReachTheLimit : Type 0
HighFloorsReachTheLimit = (book : BookState) (i floor : ℕ) → HasHighFloors book → slice_get book.floors i ≡ Some (Some floor) → limit_of book.best ≤ floor

-- the floors are high in the opening world, and each step keeps them so
abbrev pub FloorsAreHigh : Type 0
FloorsAreHigh =
    ((job : Job) (via : Move) → HasHighFloors (opening job via).book)
    × ((step : Step) (it : Turn WorldState Refusal) → Next step it → HasHighFloors it.before.book → HasHighFloors it.after.book)

-- a run of one step is that step
abbrev pub RunsAreOfSteps : Type 0
RunsAreOfSteps = (w w' : WorldState) (step : Step) (answer : Option Refusal) → IsRun w ((step, answer) ∷ []) w' ↔ Next step (turn w answer w')

-- and runs are joined where one ends and the next begins
abbrev pub RunsAreJoined : Type 0
RunsAreJoined =
    (w w' : WorldState) (made more : List (Step × Option Refusal))
    → IsRun w (made ++ more) w' ↔ ((middle : WorldState) × IsRun w made middle × IsRun middle more w')

-- only the five steps on the book may change it
abbrev pub BookStepsAloneUseIt : Type 0
BookStepsAloneUseIt =
    (step : Step)
    → UsesBook step
    → (i : ℕ) × ((step ≡ Draw i) ⊎ (step ≡ Announce i) ⊎ (step ≡ Grant i) ⊎ (step ≡ Rest i) ⊎ ((cause : HaltCause) × (step ≡ Halt i cause)))

-- a lane may be changed by its sender, which sends, and by its receiver, which takes in
abbrev pub LanesHaveTwoEnds : Type 0
LanesHaveTwoEnds = (step : Step) (from to : ℕ) → UsesLane step from to → (step ≡ Send from to) ⊎ (step ≡ Deliver to from)

-- A step leaves a book that has stopped as it was. The best cost of any other may fall, and what is granted may rise, but not the other way.
abbrev pub BooksGoOneWay : Type 0
BooksGoOneWay =
    (step : Step) (it : Turn WorldState Refusal)
    → Next step it
    → (it.before.book.stop ≢ None → it.after.book ≡ it.before.book)
    × IsNotBelow it.before.book.best it.after.book.best
    × (it.before.book.granted ≤ it.after.book.granted)

-- so a stop is final: a run that goes on from there leaves the book, and what stopped it
abbrev pub StopsAreFinal : Type 0
StopsAreFinal = (w w' : WorldState) (made : List (Step × Option Refusal)) → IsRun w made w' → w.book.stop ≢ None → w'.book ≡ w.book

-- No step of a sound world forgets anything. A worker that knows a board knows it after the step, at no higher cost. The board of an item
-- that is under way is then known to its owner, or still under way, at no higher cost.
pub record NothingIsForgotten : Type 0 where
  pub boards :
      (step : Step) (it : Turn WorldState Refusal)
      → Next step it
      → IsShaped it.before
      → IsSound it.before
      → (i : ℕ) (b : BoardModel) (known : Known)
      → Knows it.before i b known
      → (now : Known) × Knows it.after i b now × (now.cost ≤ known.cost)
  pub items :
      (step : Step) (it : Turn WorldState Refusal)
      → Next step it
      → IsShaped it.before
      → IsSound it.before
      → (to : ℕ) (item : Item)
      → IsUnderWay it.before to item
      → IsCovered it.after item.board item.cost

-- The step is due: it draws no credit, except where the worker has a packet to send and too little for it; and it halts the run for the limit
-- alone.
abbrev pub IsDue : WorldState → Step → Type 0
IsDue w (Expand i) = ⊤
IsDue w (Settle i) = ⊤
IsDue w (Send i j) = ⊤
IsDue w (Deliver i j) = ⊤
IsDue w (Draw i) = (worker : WorkerState) × IsWorker w i worker × (worker.purse < 2) × ¬ All (λ packet. packet ≡ []) worker.unsent
IsDue w (Announce i) = ⊤
IsDue w (Grant i) = ⊤
IsDue w (Rest i) = ⊤
IsDue w (Halt i cause) = cause ≡ Limit

-- No world that a run reaches is stuck: where it has not stopped, and its credit is at most 2^63, some step that is due is accepted.
pub record NoWorldIsStuck : Type 0 where
  pub goes_on :
      (job : Job) (via : Move) (made : List (Step × Option Refusal)) (w : WorldState)
      → IsJob job
      → IsRun (opening job via) made w
      → w.book.stop ≡ None
      → w.book.credit ≤ 2 ^ 63
      → ¬ ((step : Step) (w' : WorldState) → IsDue w step → ¬ Next step (turn w None w'))
