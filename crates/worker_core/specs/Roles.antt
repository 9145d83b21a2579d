-- What a worker is lent of the task that it shares, and what its lists keep of it.
use Rattle.std.specs.Prelude.{ℕ, ◌≡◌, ◌<◌, ◌≤◌, ◌+◌, Some}
use Rattle.std.specs.FinMap as map
use Rattle.board.specs.Weights.{WeightsModel}
use Rattle.board.specs.Shapes.{cell_count}
use Rattle.board.specs.Moves.{Moves}
use Rattle.board.specs.Boards.{BoardModel, IsBoard}
use Rattle.pattern_index.specs.Sparse.{digits_in}
use Rattle.search_keys.specs.SearchKeys.{key_base, search_key}
use Rattle.search_keys.specs.Storage.{turned}
use Rattle.outcomes.specs.Outcomes.{Task}
use Rattle.lower_bound.specs.Bounds.{sum_of}
use Rattle.lower_bound.specs.Tables.{BoundModel, parts_of}
use Rattle.closed_table.specs.Tables.{ClosedModel}
use Rattle.search_lists.specs.Lists.{SearchListsModel}
use Rattle.search_lists.specs.Orders.{Guide, IsInOrder}
use Rattle.world_model.specs.declared.parts.Known.{Known}
use Rattle.world_model.specs.Knowledge.{Knowledge}
use Rattle.world_model.specs.Workers.{Role, IsTaskBoard}

-- the role is that of the worker with this number, and its task has this goal
pub record IsRoleOf (number : ℕ) (goal : BoardModel) (role : Role) : Type 0 where
  pub me : role.me ≡ number
  pub ends : role.task.goal ≡ goal

-- what is asked, where the sums are those of these tables
abbrev pub task_of : BoardModel → BoardModel → WeightsModel → BoundModel → Task
task_of start goal rule tables = record { start = start; goal = goal; rule = rule; sum = sum_of (parts_of tables) }

-- the guide leads to the task's goal: it has the sum of each board of the task under the board's search key
pub record IsGuideOf (task : Task) (guide : Guide) : Type 0 where
  pub ends : guide.goal ≡ search_key task.goal
  pub board : IsBoard task.goal
  pub sums : (b : BoardModel) → IsTaskBoard task b → guide.sum (search_key b) ≡ task.sum b

-- A guide of a task: the sum of the board whose digits a search key has.
abbrev pub guide_of : Task → Guide
guide_of task = record { sum = λ key. task.sum (turned (record { grid = task.goal.grid; tiles = digits_in (key_base task.goal.grid) (cell_count task.goal.grid) key })); goal = search_key task.goal }

-- it leads to the task's goal
abbrev pub TasksHaveGuides : Type 0
TasksHaveGuides = (task : Task) → IsBoard task.goal → IsGuideOf task (guide_of task)

-- each known key is the search key of a board of the task
abbrev pub AreTaskBoards : Task → ClosedModel → Type 0
AreTaskBoards task closed = (key : ℕ) (known : Known) → map.get closed.known key ≡ Some known → (b : BoardModel) × IsTaskBoard task b × (search_key b ≡ key)

-- Each board of the rule's sides that is known at a cost above 0 was reached from a known one: the board before its last move, which
-- is cheaper by the move's cost at least.
abbrev pub WereReached : WeightsModel → Knowledge → Type 0
WereReached rule knowledge =
    (b : BoardModel) (known : Known) → IsBoard b → b.grid ≡ rule.grid → map.get knowledge (search_key b) ≡ Some known → 0 < known.cost
    → (before : BoardModel) × (c : ℕ) × (first : Known) × IsBoard before × Moves rule before known.via b c × (map.get knowledge (search_key before) ≡ Some first) × (first.cost + c ≤ known.cost)

-- by this guide the lists are in order, and what they know is boards of the task
pub record IsGuided (task : Task) (guide : Guide) (lists : SearchListsModel) : Type 0 where
  pub guides : IsGuideOf task guide
  pub order : IsInOrder guide lists
  pub boards : AreTaskBoards task lists.closed
