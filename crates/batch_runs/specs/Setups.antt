-- What a setup shows: what all lines have in common.
use Rattle.std.specs.Prelude.{ℕ, ◌≡◌, ◌≤◌, ◌^◌, ◌-◌, []}
use Rattle.board.specs.Shapes.{ShapeModel}
use Rattle.board.specs.Boards.{BoardModel}
use Rattle.board.specs.Weights.{WeightsModel}
use Rattle.outcomes.specs.Outcomes.{Task}
use Rattle.lower_bound.specs.Bounds.{sum_of}
use Rattle.lower_bound.specs.Tables.{BoundModel, ArePotentials, parts_of}
use Rattle.lower_bound.specs.Lists.{IsFoldedBound}
use Rattle.owners.specs.Owners.{owner_by_hash, owner_by_blank, owner_by_abstract_hash}
use Rattle.world_model.specs.declared.limits.TheConstants.{WORKER_LIMIT}
use Rattle.batch_runs.specs.declared.setup.SpreadKind.{SpreadKind}
use Rattle.batch_runs.specs.declared.setup.SpreadKind.TheVariants.{Zobrist, Blank, Abstract}

-- the goal and the cost rule; the tables whose values are added; how many boards may be expanded for a line; how many workers there
-- are, and how boards are spread over them
pub record SetupModel : Type 0 where
  pub goal : BoardModel
  pub rule : WeightsModel
  pub tables : BoundModel
  pub limit : ℕ
  pub workers : ℕ
  pub spread : SpreadKind

-- those of no group, whose sums are 0
abbrev pub no_tables : ShapeModel → BoundModel
no_tables grid = record { split = record { grid = grid; groups = [] }; lookups = []; folds = [] }

-- without tables and without a limit, for one worker
abbrev pub plain_setup : BoardModel → WeightsModel → SetupModel
plain_setup goal rule = record { goal = goal; rule = rule; tables = no_tables goal.grid; limit = 2 ^ 64 - 1; workers = 1; spread = Zobrist }

-- the tables are of the goal's grid, and potentials for the goal and the costs, or folded from such
abbrev pub Guides : BoardModel → WeightsModel → BoundModel → Type 0
Guides goal rule tables = (tables.split.grid ≡ goal.grid) × ArePotentials rule goal tables

-- weights and tables fit the goal, and there are workers, not too many
pub record IsSetup (setup : SetupModel) : Type 0 where
  pub sides : setup.rule.grid ≡ setup.goal.grid
  pub guided : Guides setup.goal setup.rule setup.tables
  pub some : 1 ≤ setup.workers
  pub few : setup.workers ≤ WORKER_LIMIT

-- the second is the first, with each whole table folded
abbrev pub IsFoldedSetup : SetupModel → SetupModel → Type 0
IsFoldedSetup setup folded = (tables : BoundModel) × IsFoldedBound setup.tables tables × (folded ≡ record setup { tables = tables })

-- the owner of a board among n workers
abbrev pub owner_by : SpreadKind → ℕ → BoardModel → ℕ
owner_by Zobrist = owner_by_hash
owner_by Blank = owner_by_blank
owner_by Abstract = owner_by_abstract_hash

-- what is asked of a board: the plans from it to the setup's goal, at the setup's costs
abbrev pub task_of_setup : SetupModel → BoardModel → Task
task_of_setup setup start = record { start = start; goal = setup.goal; rule = setup.rule; sum = sum_of (parts_of setup.tables) }
