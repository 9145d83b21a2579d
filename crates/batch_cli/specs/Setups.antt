-- The setup that options say.
use Rattle.std.specs.Prelude.{◌≡◌, ◌≤◌, ◌-◌, ◌^◌, Bool, true, false, [], ◌∷◌, map, ⊤}
use Rattle.board.specs.Shapes.{ShapeModel}
use Rattle.board.specs.Boards.{BoardModel, goal_of}
use Rattle.board.specs.Weights.{WeightsModel, unit_rule}
use Rattle.pattern_index.specs.Partitions.{PartitionModel}
use Rattle.lower_bound.specs.Tables.{BoundModel, AreWhole}
use Rattle.batch_runs.specs.Setups.{SetupModel}
use Rattle.batch_runs.specs.declared.setup.SpreadKind.TheVariants.{Zobrist}
use Rattle.table_sets.specs.Built.{AreTrueTables, AreBuilt, AreBuiltFolded}
use Rattle.board_lists.specs.Lists.{MayBeListed}
use Rattle.command_line.specs.declared.requests.Options.{Options}
use Rattle.command_line.specs.declared.requests.Request.{Request}
use Rattle.command_line.specs.declared.requests.Request.TheVariants.{Solve, Certify, Check, Draw, Upgrade, Replay, Boards, Help, Version}

-- the costs and the groups are of the goal's shape, and there are workers, not too many
pub record AreOptionsFit (o : Options) : Type 0 where
  pub costs : o.costs.grid ≡ o.goal.grid
  pub sides : o.groups.grid ≡ o.goal.grid
  pub some : 1 ≤ o.workers
  pub few : o.workers ≤ 16

-- so are those of a request that has options, and a class that is listed whole is small
abbrev pub IsRequestFit : Request → Type 0
IsRequestFit (Solve o) = AreOptionsFit o
IsRequestFit (Certify o) = AreOptionsFit o
IsRequestFit Check = ⊤
IsRequestFit (Draw style) = ⊤
IsRequestFit Upgrade = ⊤
IsRequestFit (Replay o) = AreOptionsFit o
IsRequestFit (Boards l) = MayBeListed l.goal.grid l.choice
IsRequestFit (Help text) = ⊤
IsRequestFit (Version text) = ⊤

-- for each of the groups there is a table with the value of each view; or, where that is asked for, one that was folded from it
abbrev pub AreTablesFor : Bool → PartitionModel → WeightsModel → BoardModel → BoundModel → Type 0
AreTablesFor true split rule goal tables = AreBuiltFolded split rule goal tables
AreTablesFor false split rule goal tables = AreBuilt split rule goal tables

-- the goal, the costs, the limit, the workers and their spread are those of the options, and the tables are those of the options' groups,
-- folded where the options say so
pub record IsSetupOf (o : Options) (setup : SetupModel) : Type 0 where
  pub goal : setup.goal ≡ o.goal
  pub rule : setup.rule ≡ o.costs
  pub tables : AreTablesFor o.fold o.groups setup.rule setup.goal setup.tables
  pub limit : setup.limit ≡ o.limit
  pub workers : setup.workers ≡ o.workers
  pub spread : setup.spread ≡ o.spread

-- 3 by 3
abbrev pub small_grid : ShapeModel
small_grid = record { rows = 3; cols = 3 }

-- Korf's goal, unit cost, and two tables with the value of each view, of the tiles 1 to 4 and of 5 to 8. Neither is folded. There is no limit,
-- and one worker.
pub record IsDefaultSetup (setup : SetupModel) : Type 0 where
  pub goal : setup.goal ≡ goal_of small_grid
  pub rule : setup.rule ≡ unit_rule small_grid
  pub groups : map (λ g. g.tiles) setup.tables.split.groups ≡ (1 ∷ 2 ∷ 3 ∷ 4 ∷ []) ∷ (5 ∷ 6 ∷ 7 ∷ 8 ∷ []) ∷ []
  pub tables : AreTrueTables setup.tables.split.groups setup.rule setup.goal setup.tables.lookups
  pub whole : AreWhole setup.tables
  pub limit : setup.limit ≡ 2 ^ 64 - 1
  pub workers : setup.workers ≡ 1
  pub spread : setup.spread ≡ Zobrist
