-- How the boards of a setup are answered.
use Rattle.std.specs.Prelude.{ℕ, List, ◌≡◌, ◌⊎◌, ◌↔◌, ◌≤◌, ◌-◌, ◌^◌, ⊤, min, Option, None, Some, Result, Ok, IfOk}
use Rattle.memory.specs.declared.OutOfMemory.{OutOfMemory}
use Rattle.board.specs.Boards.{BoardModel}
use Rattle.board.specs.Classes.{SameClass}
use Rattle.outcomes.specs.declared.outcome.Ending.{Ending}
use Rattle.outcomes.specs.declared.outcome.Ending.TheVariants.{Optimal, Unsolvable, Bounded}
use Rattle.outcomes.specs.declared.outcome.Why.TheVariants.{Parity}
use Rattle.outcomes.specs.declared.outcome.Outcome.{Outcome}
use Rattle.outcomes.specs.declared.outcome.Outcome.TheVariants as outcome
use Rattle.outcomes.specs.Outcomes.{Task, Answers}
use Rattle.outcomes.specs.Endings.{EndAnswers, without_rows}
use Rattle.world_model.specs.Outcomes.{IsGiven}
use Rattle.world_model.specs.Worlds.{WorldState}
use Rattle.world_ends.specs.Endings.{EndsIn}
use Rattle.world_ends.specs.Readings.{EndsWithFigures}
use Rattle.world_ends.specs.declared.figures.Figures.{Figures}
use Rattle.hda_run.specs.Answered.{IsAnswered}
use Rattle.hda_run.specs.Alone.{IsFoundAlone}
use Rattle.hda_run.specs.Jobs.{JobModel, problem}
use Rattle.hda_run.specs.WholeRuns.{EndsWholeRun, HasWholeRun}
use Rattle.thread_runs.specs.Solved.{IsFoundByWorkers}
use Rattle.lower_bound.specs.Bounds.{sum_of}
use Rattle.lower_bound.specs.Tables.{parts_of}
use Rattle.batch_runs.specs.Setups.{SetupModel, owner_by, task_of_setup}
use Rattle.batch_runs.specs.Batches.{Rules}
use Rattle.batch_lines.specs.Words.{IsEntry}
use Rattle.batch_runs.specs.declared.stats.Stats.{Stats}
use Rattle.batch_runs.specs.declared.stats.Solved.{Solved}
use Rattle.certificate_runs.specs.Rules.{ProofRules}
use Rattle.setup_runs.specs.declared.solving.TheConstants.{ENOUGH_EXPANDED}

-- what is to be solved for a board within a limit: the setup says the rest
abbrev pub problem_within : ℕ → SetupModel → BoardModel → JobModel
problem_within limit setup start = problem start setup.goal setup.rule setup.tables limit

-- the same within the setup's limit
abbrev pub problem_of : SetupModel → BoardModel → JobModel
problem_of setup start = problem_within setup.limit setup start

-- the ending is no bound
abbrev pub IsNoBound : Ending → Type 0
IsNoBound (Optimal cost plan) = ⊤
IsNoBound (Unsolvable why) = ⊤
IsNoBound (Bounded bound best cause) = ⊥

-- One worker finds the answer within this limit: the setup's, or a lower one where there are several workers and the answer is no bound.
-- One of several is left alone for two million expansions at most.
pub record IsFoundWithin {X : Type 0} (gives : WorldState → X → Type 0) (end : X → Ending) (setup : SetupModel) (start : BoardModel) (answer : X) (limit : ℕ) : Type 0 where
  pub run : IsFoundAlone gives owner_by (problem_within limit setup start) setup.spread answer
  pub within : limit ≤ setup.limit
  pub few : 2 ≤ setup.workers → limit ≤ ENOUGH_EXPANDED
  pub whole : (limit ≡ setup.limit) ⊎ ((2 ≤ setup.workers) × IsNoBound (end answer))

-- one worker finds the answer: several boards may be solved side by side, and an easy board is not shared
abbrev pub IsFoundByOne : {X : Type 0} → (WorldState → X → Type 0) → (X → Ending) → SetupModel → BoardModel → X → Type 0
IsFoundByOne gives end setup start answer = (limit : ℕ) × IsFoundWithin gives end setup start answer limit

-- the setup's workers find the answer, or one of them does
abbrev pub IsFound : {X : Type 0} → (WorldState → X → Type 0) → (X → Ending) → SetupModel → BoardModel → X → Type 0
IsFound gives end setup start answer = IsFoundByWorkers gives owner_by (problem_of setup start) setup.spread setup.workers answer ⊎ IsFoundByOne gives end setup start answer

-- what a search by the setup's workers may answer for a board: else than by parity, what a run finds; memory may be refused before the first
-- step
abbrev pub IsSearched : {X : Type 0} → (WorldState → X → Type 0) → (Task → X → Type 0) → (X → Ending) → X → SetupModel → BoardModel → Result X OutOfMemory → Type 0
IsSearched gives answers end parity setup start found = IsAnswered parity (IsFound gives end setup start) answers end (problem_of setup start) found

-- the ending is that of a run by the setup's workers, which are guided by its tables and keep to its limit, or by one of them
abbrev pub IsOfRun : SetupModel → BoardModel → Ending → Type 0
IsOfRun setup start ending = IsFound EndsIn (λ it. it) setup start ending × EndsWholeRun ending

-- the outcome is that of such a run
abbrev pub IsOfProvedRun : SetupModel → BoardModel → Outcome → Type 0
IsOfProvedRun setup start given = IsFound IsGiven without_rows setup start given × HasWholeRun given

-- A board is answered by what answers its task. A board that isn't in the goal's class is answered by its parity; any other one by a run,
-- which may be refused memory before the first step. No definition says when it is.
abbrev pub AnswersBoard : {X : Type 0} → (Task → X → Type 0) → (X → Type 0) → X → SetupModel → BoardModel → Option X → Type 0
AnswersBoard answers is_of_run parity setup start None = SameClass start setup.goal
AnswersBoard answers is_of_run parity setup start (Some answer) =
    answers (task_of_setup setup start) answer
    × ((SameClass start setup.goal × is_of_run answer) ⊎ ((¬ SameClass start setup.goal) × (answer ≡ parity)))

-- how a board may be answered by an ending
abbrev pub MayAnswer : SetupModel → BoardModel → Option Ending → Type 0
MayAnswer setup start = AnswersBoard EndAnswers (IsOfRun setup start) (Unsolvable Parity) setup start

-- and where the rows are asked for too, by an outcome
abbrev pub MayCertify : SetupModel → BoardModel → Option Outcome → Type 0
MayCertify setup start = AnswersBoard Answers (IsOfProvedRun setup start) (outcome.Unsolvable Parity) setup start

-- the boards of the setup's shape, what is asked of them, and how they may be answered
abbrev pub rules_of : SetupModel → Rules
rules_of setup = record { grid = setup.goal.grid; task = task_of_setup setup; allows = MayAnswer setup }

-- and how where the rows are asked for
abbrev pub certifying_rules_of : SetupModel → ProofRules
certifying_rules_of setup = record { grid = setup.goal.grid; task = task_of_setup setup; allows = MayCertify setup }

-- ---- figures

-- The stats name the figures of a search, each cut to 64 bits, and the sum of the setup's tables for the start. No definition says when a
-- search began and ended.
pub record AreStatsOf (setup : SetupModel) (start : BoardModel) (figures : Figures) (stats : Stats) : Type 0 where
  pub expanded : stats.expanded ≡ min figures.expanded (2 ^ 64 - 1)
  pub known : stats.known ≡ min figures.known (2 ^ 64 - 1)
  pub start_sum : stats.start_sum ≡ sum_of (parts_of setup.tables) start

-- the figures are those of a run by the setup's workers, or by one of them, which ends so; without a run they are 0
pub record AreFiguresOfRun (setup : SetupModel) (start : BoardModel) (ending : Ending) (figures : Figures) : Type 0 where
  pub run : SameClass start setup.goal → IsFound EndsWithFigures (λ it. it.ending) setup start (record { ending = ending; figures = figures })
  pub apart : (¬ SameClass start setup.goal) → figures ≡ record { expanded = 0; known = 0 }

-- the board is answered with the stats of the run that gives its ending
abbrev pub HasStats : SetupModel → BoardModel → Solved → Type 0
HasStats setup start solved = (figures : Figures) × AreFiguresOfRun setup start solved.ending figures × AreStatsOf setup start figures solved.stats

-- the stats are those of a run for the board of a line with this id
abbrev pub AreFiguresOfLine : List ℕ → Stats → Type 0
AreFiguresOfLine id stats =
    (setup : SetupModel) × (line : List ℕ) × (b : BoardModel) × (ending : Ending) × IsEntry setup.goal.grid line id b × HasStats setup b (record { ending = ending; stats = stats })
