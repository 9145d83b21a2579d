-- The world in which a run begins.
use Rattle.std.specs.Prelude.{ℕ, ◌≤◌, ◌<◌, false, [], None, replicate, slice_set}
use Rattle.std.specs.FinMap as map
use Rattle.board.specs.declared.moves.Move.{Move}
use Rattle.board.specs.Boards.{BoardModel}
use Rattle.search_keys.specs.SearchKeys.{search_key}
use Rattle.outcomes.specs.Outcomes.{Task}
use Rattle.world_model.specs.declared.limits.TheConstants.{WORKER_LIMIT}
use Rattle.world_model.specs.Workers.{WorkerState}
use Rattle.world_model.specs.Worlds.{WorldState}
use Rattle.world_model.specs.Shapes.{IsTask}

-- what is to be done, and by whom: a task, how many boards may be expanded, how many workers there are, and who owns which board
pub record Job : Type 0 where
  pub task : Task
  pub limit : ℕ
  pub count : ℕ
  pub owner : BoardModel → ℕ

-- the task is one, and there are workers, not too many, among whom each board has its owner
pub record IsJob (job : Job) : Type 0 where
  pub task : IsTask job.task
  pub some : 1 ≤ job.count
  pub few : job.count ≤ WORKER_LIMIT
  pub owners : (b : BoardModel) → job.owner b < job.count

-- one of n workers, which knows nothing and has nothing
abbrev pub idle_worker : ℕ → WorkerState
idle_worker n = record { known = map.empty; held = []; unsent = replicate n []; purse = 0; allowance = 0; expansions = 0; best = None }

-- one of n workers, which knows the start at 0, with any last move, and has a purse of 1
abbrev pub first_worker : ℕ → Task → Move → WorkerState
first_worker n task via =
    record (idle_worker n) { known = map.insert map.empty (search_key task.start) (record { cost = 0; expanded = false; via = via }); purse = 1 }

-- the opening world: the start's owner knows the start, and there is nothing else
abbrev pub opening : Job → Move → WorldState
opening job via = record {
  task = job.task;
  owner = job.owner;
  workers = slice_set (replicate job.count (idle_worker job.count)) (job.owner job.task.start) (first_worker job.count job.task via);
  book = record { credit = 1; best = None; floors = replicate job.count None; granted = 0; limit = job.limit; stop = None };
  lanes = replicate job.count (replicate job.count []);
}
