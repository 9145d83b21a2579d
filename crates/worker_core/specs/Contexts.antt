-- What the steps of a worker are lent.
use Rattle.std.specs.Prelude.{ℕ, ◌≡◌, ◌<◌}
use Rattle.board.specs.Weights.{WeightsModel}
use Rattle.board.specs.Boards.{BoardModel}
use Rattle.lower_bound.specs.Tables.{BoundModel, ArePotentials}
use Rattle.outcomes.specs.Outcomes.{Task}
use Rattle.world_model.specs.Workers.{Role}
use Rattle.worker_core.specs.Expanding.{role_by}
use Rattle.worker_core.specs.Roles.{task_of}

-- a worker's number, how many workers there are, where plans lead and what moves cost, the tables that guide the search, and how boards
-- are owned
pub record ContextModel (S : Type 0) : Type 0 where
  pub me : ℕ
  pub workers : ℕ
  pub goal : BoardModel
  pub rule : WeightsModel
  pub tables : BoundModel
  pub owners : S

abbrev pub context_of : {S : Type 0} → ℕ → ℕ → BoardModel → WeightsModel → BoundModel → S → ContextModel S
context_of me workers goal rule tables owners =
    record { me = me; workers = workers; goal = goal; rule = rule; tables = tables; owners = owners }

-- it is one of the workers, costs and tables have the goal's sides, and the tables are potentials
pub record IsContext {S : Type 0} (context : ContextModel S) : Type 0 where
  pub me : context.me < context.workers
  pub rule : context.rule.grid ≡ context.goal.grid
  pub tables : context.tables.split.grid ≡ context.goal.grid
  pub potentials : ArePotentials context.rule context.goal context.tables

-- what is asked, from a start
abbrev pub task_from : {S : Type 0} → BoardModel → ContextModel S → Task
task_from start context = task_of start context.goal context.rule context.tables

-- the role of the worker, where boards have these owners, by the spread and the number of workers
abbrev pub role_from : {S : Type 0} → (S → ℕ → BoardModel → ℕ) → BoardModel → ContextModel S → Role
role_from owner_of start context = role_by (task_from start context) (owner_of context.owners) context.workers context.me
