-- What the runs of a setup's boards rest on.
use Rattle.std.specs.Prelude.{ℕ, ◌≡◌, ◌≤◌, ◌<◌, min, length, Option, None, Some}
use Rattle.board.specs.declared.moves.Move.{Move}
use Rattle.board.specs.Boards.{BoardModel}
use Rattle.lower_bound.specs.Bounds.{sum_of}
use Rattle.lower_bound.specs.Tables.{parts_of}
use Rattle.memory.specs.declared.OutOfMemory.{OutOfMemory}
use Rattle.batch_runs.specs.Setups.{SetupModel, owner_by, task_of_setup}
use Rattle.world_model.specs.declared.limits.TheConstants.{GREATEST_GRANT}
use Rattle.world_model.specs.declared.steps.Refusal.{Refusal}
use Rattle.world_model.specs.declared.steps.Refusal.TheVariants.{NoSuchWorker}
use Rattle.world_model.specs.declared.steps.Step.TheVariants.{Draw, Grant}
use Rattle.world_model.specs.Openings.{opening}
use Rattle.world_model.specs.Steps.{Next}
use Rattle.world_model.specs.Turns.{turn}
use Rattle.world_model.specs.Worlds.{WorldState}
use Rattle.replay_runs.specs.Replays.{Jobs}

-- The jobs of a setup's boards, where boards have these owners among each number of workers. Memory is refused where a growth was.
abbrev pub jobs_by : (ℕ → BoardModel → ℕ) → SetupModel → Jobs
jobs_by owner_among setup = record {
  grid = setup.goal.grid;
  job = λ start. record {
    task = task_of_setup setup start;
    limit = setup.limit;
    count = setup.workers;
    owner = owner_among setup.workers;
  };
  lacks = λ start. OutOfMemory;
}

-- the same by the owners that the setup names
abbrev pub setup_jobs : SetupModel → Jobs
setup_jobs setup = jobs_by (owner_by setup.spread) setup

-- ---- laws: the contracts of functions without effect

-- In the world that a board of the setup opens with, a step of a worker that the setup doesn't have is refused. Only the board's owner draws
-- credit there, by the setup's spread over its workers. What is granted there first is as much as the setup's limit leaves. Asked for are plans
-- from the board to the setup's goal, at its costs, and its tables guide the search. The book has the setup's limit. There are as many workers
-- as the setup has, and its spread names the owner of each board. Boards have the goal's shape, and none is refused unless memory was.
pub record OpensAsSetUp (setup : SetupModel) : Type 0 where
  pub workers :
      (board : BoardModel) (via : Move) (i : ℕ) (refusal : Option Refusal) (w : WorldState)
      → setup.workers ≤ i
      → Next (Draw i) (turn (opening ((setup_jobs setup).job board) via) refusal w)
      → refusal ≡ Some NoSuchWorker
  pub draws :
      (board : BoardModel) (via : Move) (i : ℕ) (w : WorldState)
      → Next (Draw i) (turn (opening ((setup_jobs setup).job board) via) None w)
      → (i < setup.workers) × (i ≡ owner_by setup.spread setup.workers board)
  pub grants :
      (board : BoardModel) (via : Move) (i : ℕ) (w : WorldState)
      → Next (Grant i) (turn (opening ((setup_jobs setup).job board) via) None w)
      → w.book.granted ≡ min GREATEST_GRANT setup.limit
  pub asks :
      (board : BoardModel) (via : Move) (w : WorldState)
      → w ≡ opening ((setup_jobs setup).job board) via
      → (w.task.start ≡ board) × (w.task.goal ≡ setup.goal) × (w.task.rule ≡ setup.rule)
      × ((b : BoardModel) → w.task.sum b ≡ sum_of (parts_of setup.tables) b)
  pub limits :
      (board : BoardModel) (via : Move) (w : WorldState)
      → w ≡ opening ((setup_jobs setup).job board) via
      → w.book.limit ≡ setup.limit
  pub shares :
      (board : BoardModel) (via : Move) (w : WorldState)
      → w ≡ opening ((setup_jobs setup).job board) via
      → (length w.workers ≡ setup.workers) × ((b : BoardModel) → w.owner b ≡ owner_by setup.spread setup.workers b)
  pub shape : (setup_jobs setup).grid ≡ setup.goal.grid
  pub lacks : (board : BoardModel) → (setup_jobs setup).lacks board → OutOfMemory

abbrev pub ReplaysOpenAsSetUp : Type 0
ReplaysOpenAsSetUp = (setup : SetupModel) → OpensAsSetUp setup
