-- The laws of the definitions. Each is the contract of a function that does nothing.
use Rattle.std.specs.Prelude.{ℕ, ◌≡◌, ◌≢◌, ◌⊎◌, ◌↔◌, ◌<◌, ◌≤◌, ◌+◌, ◌-◌, ◌*◌, ◌^◌, min, sum_by, List, Option, None, Some, Vec}
use Rattle.std.specs.FinMap as map
use Rattle.std.specs.declared.alloc.Global.{Global}
use Rattle.board.specs.declared.moves.Move.{Move}
use Rattle.board.specs.Boards.{BoardModel}
use Rattle.board.specs.Classes.{SameClass}
use Rattle.outcomes.specs.declared.outcome.Ending.{Ending}
use Rattle.outcomes.specs.declared.outcome.Cause.{Cause}
use Rattle.outcomes.specs.declared.outcome.Cause.TheVariants.{Limit, Start, Cut, Memory}
use Rattle.outcomes.specs.declared.outcome.Want.{Want}
use Rattle.outcomes.specs.declared.outcome.Want.TheVariants.{Stated}
use Rattle.outcomes.specs.declared.outcome.Ending.TheVariants.{Unsolvable, Bounded}
use Rattle.outcomes.specs.declared.outcome.Outcome.{Outcome}
use Rattle.outcomes.specs.declared.outcome.Outcome.TheVariants as outcome
use Rattle.outcomes.specs.Endings.{without_rows}
use Rattle.outcomes.specs.Outcomes.{StandsAlone}
use Rattle.outcomes.specs.declared.outcome.Why.TheVariants.{Parity}
use Rattle.thread_runs.specs.Solved.{IsFoundByWorkers}
use Rattle.thread_runs.specs.Threads.{IsFoundByThreads}
use Rattle.world_ends.specs.Endings.{EndsIn}
use Rattle.world_ends.specs.Readings.{EndsWithFigures}
use Rattle.world_ends.specs.declared.reading.EndingWithFigures.{EndingWithFigures}
use Rattle.world_model.specs.declared.limits.TheConstants.{GREATEST_GRANT}
use Rattle.world_model.specs.declared.steps.Refusal.{Refusal}
use Rattle.world_model.specs.declared.steps.Step.{Step}
use Rattle.world_model.specs.Credit.{expansion_count}
use Rattle.world_model.specs.Outcomes.{IsGiven}
use Rattle.world_model.specs.Openings.{Job, opening}
use Rattle.world_model.specs.Steps.{IsRun}
use Rattle.world_model.specs.Worlds.{WorldState}
use Rattle.batch_runs.specs.Setups.{SetupModel, owner_by, task_of_setup}
use Rattle.batch_lines.specs.Words.{IsEntry}
use Rattle.batch_runs.specs.declared.stats.Stats.{Stats}
use Rattle.batch_runs.specs.declared.stats.Solved.{Solved}
use Rattle.setup_runs.specs.Ahead.{LacksMemory, IsEndedAlone, IsTooHard}
use Rattle.setup_runs.specs.Solving.{IsFound, IsNoBound, MayAnswer, MayCertify, HasStats, AreFiguresOfLine, problem_of, rules_of, certifying_rules_of}

-- a board of the other class is never refused for memory
abbrev pub ParityWantsNoMemory : Type 0
ParityWantsNoMemory = (setup : SetupModel) (b : BoardModel) → ¬ SameClass b setup.goal → ¬ MayAnswer setup b None

-- and it is answered by its parity alone
abbrev pub ParityIsAnswered : Type 0
ParityIsAnswered = (setup : SetupModel) (b : BoardModel) (ending : Ending) → ¬ SameClass b setup.goal → MayAnswer setup b (Some ending) → ending ≡ Unsolvable Parity

-- no bound is answered because a run was cut, a thread could not be started, or a list of steps said that memory was refused
abbrev pub BoundsAreNeverCut : Type 0
BoundsAreNeverCut =
    (setup : SetupModel) (b : BoardModel) (bound : ℕ) (best : Option (ℕ × Vec Move Global)) (cause : Cause)
    → MayAnswer setup b (Some (Bounded bound best cause))
    → (cause ≢ Cut) × (cause ≢ Start) × (cause ≢ Memory Stated)

-- what one worker does for a board of the setup
abbrev pub job_alone : SetupModel → BoardModel → Job
job_alone setup b = record { task = task_of_setup setup b; limit = setup.limit; count = 1; owner = owner_by setup.spread 1 }

-- where one is for the limit and there is one worker, steps from the opening world of the board's job lead to the world that gives it, and
-- have expanded just as many boards as the setup says
abbrev pub LimitsAreTheSetups : Type 0
LimitsAreTheSetups =
    (setup : SetupModel) (b : BoardModel) (bound : ℕ) (best : Option (ℕ × Vec Move Global))
    → setup.workers ≡ 1
    → MayAnswer setup b (Some (Bounded bound best Limit))
    → (via : Move) × (made : List (Step × Option Refusal)) × (w : WorldState)
    × IsRun (opening (job_alone setup b) via) made w × EndsIn w (Bounded bound best Limit) × (expansion_count w ≡ setup.limit)

-- of any number of workers, the world that gives it has expanded no more than that, and all of it except at most one grant for each worker
abbrev pub LimitsAreNearlySpent : Type 0
LimitsAreNearlySpent =
    (setup : SetupModel) (b : BoardModel) (bound : ℕ) (best : Option (ℕ × Vec Move Global))
    → MayAnswer setup b (Some (Bounded bound best Limit))
    → (w : WorldState) × (w.task ≡ task_of_setup setup b) × EndsIn w (Bounded bound best Limit)
    × (expansion_count w ≤ setup.limit) × (setup.limit ≤ expansion_count w + GREATEST_GRANT * setup.workers)

-- each answer of a board of the goal's class is that of a world of the board's task, which has expanded no more than the setup allows
abbrev pub AnswersAreOfWorlds : Type 0
AnswersAreOfWorlds =
    (setup : SetupModel) (b : BoardModel) (ending : Ending)
    → SameClass b setup.goal
    → MayAnswer setup b (Some ending)
    → (w : WorldState) × (w.task ≡ task_of_setup setup b) × EndsIn w ending × (expansion_count w ≤ setup.limit)

-- one worker's steps lead from the opening world of the board's job to a world that ends so, within a limit that is at most the setup's
pub record IsReachedAlone (setup : SetupModel) (b : BoardModel) (ending : Ending) : Type 0 where
  pub limit : ℕ
  pub via : Move
  pub made : List (Step × Option Refusal)
  pub world : WorldState
  pub within : limit ≤ setup.limit
  pub run : IsRun (opening (record (job_alone setup b) { limit = limit }) via) made world
  pub ends : EndsIn world ending

-- such an answer is that of all the setup's workers, in threads, or one worker reaches it alone
abbrev pub AnswersAreReached : Type 0
AnswersAreReached =
    (setup : SetupModel) (b : BoardModel) (ending : Ending)
    → SameClass b setup.goal
    → MayAnswer setup b (Some ending)
    → IsFoundByThreads EndsIn owner_by (problem_of setup b) setup.spread setup.workers (Some ending) ⊎ IsReachedAlone setup b ending

-- what reports may say of boards of the goal's shape is what the setup may answer to their tasks
abbrev pub RulesAreTheSetups : Type 0
RulesAreTheSetups =
    (setup : SetupModel) (b : BoardModel)
    → ((rules_of setup).grid ≡ setup.goal.grid) × ((rules_of setup).task b ≡ task_of_setup setup b)
    × ((it : Option Ending) → (rules_of setup).allows b it ↔ MayAnswer setup b it)

-- so it is where rows are asked for
abbrev pub CertifyingRulesAreTheSetups : Type 0
CertifyingRulesAreTheSetups =
    (setup : SetupModel) (b : BoardModel)
    → ((certifying_rules_of setup).grid ≡ setup.goal.grid) × ((certifying_rules_of setup).task b ≡ task_of_setup setup b)
    × ((it : Option Outcome) → (certifying_rules_of setup).allows b it ↔ MayCertify setup b it)

-- so is each outcome that may be certified
abbrev pub CertifiedOutcomesAreOfWorlds : Type 0
CertifiedOutcomesAreOfWorlds =
    (setup : SetupModel) (b : BoardModel) (given : Outcome)
    → SameClass b setup.goal
    → MayCertify setup b (Some given)
    → (w : WorldState) × (w.task ≡ task_of_setup setup b) × IsGiven w given × (expansion_count w ≤ setup.limit)

-- Of several workers, what took more than two million expansions is found by all of them, and so is a bound where the limit is above that.
abbrev pub HardBoardsAreShared : Type 0
HardBoardsAreShared =
    (setup : SetupModel) (start : BoardModel) (found : EndingWithFigures)
    → 2 ≤ setup.workers
    → IsFound EndsWithFigures (λ it. it.ending) setup start found
    → (2000000 < found.figures.expanded) ⊎ ((2000000 < setup.limit) × (¬ IsNoBound found.ending))
    → IsFoundByWorkers EndsWithFigures owner_by (problem_of setup start) setup.spread setup.workers found

-- the same holds where rows are asked for: a board of the other class is never refused for memory, and is answered by its parity
abbrev pub ParityIsCertified : Type 0
ParityIsCertified =
    (setup : SetupModel) (b : BoardModel)
    → ¬ SameClass b setup.goal
    → (¬ MayCertify setup b None) × ((given : Outcome) → MayCertify setup b (Some given) → given ≡ outcome.Unsolvable Parity)

-- a bound alone, without rows, as memory was refused
abbrev pub IsAloneBound : Outcome → Type 0
IsAloneBound (outcome.Optimal cost plan rows) = ⊥
IsAloneBound (outcome.Unsolvable why) = ⊥
IsAloneBound (outcome.Bounded bound best cause rows) = (rows ≡ None) × StandsAlone best cause

-- what may be certified may be answered, without its rows, by a batch too, if it is no such bound
abbrev pub CertifiedEndsAreAnswered : Type 0
CertifiedEndsAreAnswered = (setup : SetupModel) (b : BoardModel) (given : Outcome) → MayCertify setup b (Some given) → MayAnswer setup b (Some (without_rows given)) ⊎ IsAloneBound given

-- The stats of a board count what a world that ends so has expanded, and knows, up to 2^64 - 1. Without a search they are 0. The start's sum is the task's own.
abbrev pub StatsAreOfWorlds : Type 0
StatsAreOfWorlds =
    (setup : SetupModel) (start : BoardModel) (solved : Solved)
    → HasStats setup start solved
    → (SameClass start setup.goal → (w : WorldState)
    × (w.task ≡ task_of_setup setup start) × EndsIn w solved.ending × (solved.stats.expanded ≡ min (expansion_count w) (2 ^ 64 - 1))
    × (solved.stats.known ≡ min (sum_by (λ worker. map.len worker.known) w.workers) (2 ^ 64 - 1)))
    × ((¬ SameClass start setup.goal) → (solved.stats.expanded ≡ 0) × (solved.stats.known ≡ 0))
    × (solved.stats.start_sum ≡ (task_of_setup setup start).sum start)

-- Where one worker solves a board of the goal's class, steps from the opening world of the board's job lead to the world that the stats count.
abbrev pub StatsAreOfTheSetups : Type 0
StatsAreOfTheSetups =
    (setup : SetupModel) (start : BoardModel) (solved : Solved)
    → setup.workers ≡ 1
    → SameClass start setup.goal
    → HasStats setup start solved
    → (via : Move) × (made : List (Step × Option Refusal)) × (w : WorldState)
    × IsRun (opening (job_alone setup start) via) made w × EndsIn w solved.ending × (solved.stats.expanded ≡ min (expansion_count w) (2 ^ 64 - 1))

-- The stats of a board count no more expansions than the setup allows.
abbrev pub StatsAreWithinTheLimit : Type 0
StatsAreWithinTheLimit = (setup : SetupModel) (start : BoardModel) (solved : Solved) → HasStats setup start solved → solved.stats.expanded ≤ setup.limit

-- The figures that a watch takes with an id are those of a board: its line has that id, the sum is that of the setup's tables for it, and no
-- more is expanded than the setup allows.
abbrev pub FiguresAreOfBoards : Type 0
FiguresAreOfBoards =
    (id : List ℕ) (stats : Stats)
    → AreFiguresOfLine id stats
    → (setup : SetupModel) × (line : List ℕ) × (b : BoardModel)
    × IsEntry setup.goal.grid line id b × (stats.start_sum ≡ (task_of_setup setup b).sum b) × (stats.expanded ≤ setup.limit)

-- Just the bounds whose cause is memory lack it, whoever says that it was refused.
abbrev pub MemoryIsLacked : Type 0
MemoryIsLacked =
    ((bound : ℕ) (best : Option (ℕ × Vec Move Global)) (want : Want) → LacksMemory (Bounded bound best (Memory want)))
    × ((bound : ℕ) (best : Option (ℕ × Vec Move Global)) (cause : Cause) → LacksMemory (Bounded bound best cause) → (want : Want) × (cause ≡ Memory want))

-- What one worker ended by itself took at most two million expansions, and is no bound for which memory was refused.
abbrev pub EndedAloneIsWhole : Type 0
EndedAloneIsWhole =
    (solved : Solved)
    → IsEndedAlone solved
    → (solved.stats.expanded ≤ 2000000) × ((bound : ℕ) (best : Option (ℕ × Vec Move Global)) (want : Want) → solved.ending ≢ Bounded bound best (Memory want))

-- A board that one worker leaves to all others has a bound after at most two million expansions, not because memory was refused, and the
-- setup allows more. A bound for the limit has just as many.
abbrev pub HardBoardsAreBounded : Type 0
HardBoardsAreBounded =
    (setup : SetupModel) (start : BoardModel)
    → IsTooHard setup start
    → (2000000 < setup.limit) × (w : WorldState) × (ending : Ending) × (w.task ≡ task_of_setup setup start) × EndsIn w ending
    × (¬ IsNoBound ending) × (¬ LacksMemory ending) × (expansion_count w ≤ 2000000)
    × ((bound : ℕ) (best : Option (ℕ × Vec Move Global)) → ending ≡ Bounded bound best Limit → expansion_count w ≡ 2000000)
