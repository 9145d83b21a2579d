-- What is to be solved, and by what tables.
use Rattle.std.specs.Prelude.{ℕ, ◌≡◌}
use Rattle.board.specs.Boards.{BoardModel}
use Rattle.board.specs.Weights.{WeightsModel}
use Rattle.board.specs.Rows.{IsLowerBound}
use Rattle.outcomes.specs.Outcomes.{Task}
use Rattle.lower_bound.specs.Tables.{ArePotentials, BoundModel}
use Rattle.world_model.specs.Shapes.{IsTask}
use Rattle.worker_core.specs.Contexts.{ContextModel, context_of}
use Rattle.worker_core.specs.Roles.{task_of}

-- the plans from the start to the goal under a cost rule, tables by which the search is guided, and how many boards may
-- be expanded
pub record JobModel : Type 0 where
  pub start : BoardModel
  pub goal : BoardModel
  pub rule : WeightsModel
  pub tables : BoundModel
  pub limit : ℕ

-- the four parts of a problem, and the limit
abbrev pub problem : BoardModel → BoardModel → WeightsModel → BoundModel → ℕ → JobModel
problem start goal rule tables limit = record {
  start = start;
  goal = goal;
  rule = rule;
  tables = tables;
  limit = limit;
}

-- what is asked
abbrev pub task_in : JobModel → Task
task_in p = task_of p.start p.goal p.rule p.tables

-- what the steps of worker `me` of `workers` are lent to solve it, where boards have these owners
abbrev pub context_in : {S : Type 0} → JobModel → ℕ → ℕ → S → ContextModel S
context_in p me workers owners = context_of me workers p.goal p.rule p.tables owners

-- start, cost rule and tables have the sides of the goal
pub record HasOneShape (p : JobModel) : Type 0 where
  pub start_sides : p.start.grid ≡ p.goal.grid
  pub rule_sides : p.rule.grid ≡ p.goal.grid
  pub table_sides : p.tables.split.grid ≡ p.goal.grid

-- The task is one, and the tables have its sides. The entries of each table are a potential, or were folded from one,
-- so the sum of their values is never above the cost of a plan.
pub record IsProblem (p : JobModel) : Type 0 where
  pub task : IsTask (task_in p)
  pub sides : p.tables.split.grid ≡ p.goal.grid
  pub potentials : ArePotentials p.rule p.goal p.tables
  pub lower : IsLowerBound p.rule (task_in p).sum p.goal
