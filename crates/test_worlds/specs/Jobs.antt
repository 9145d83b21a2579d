-- What a worker is lent of its task, and when its lists are guided to the goal.
use Rattle.std.specs.Prelude.{ℕ, ◌≡◌}
use Rattle.board.specs.Boards.{BoardModel}
use Rattle.lower_bound.specs.Tables.{ArePotentials}
use Rattle.search_lists.specs.Lists.{SearchListsModel}
use Rattle.search_lists.specs.Orders.{Guide}
use Rattle.worker_core.specs.Contexts.{ContextModel, context_of}
use Rattle.worker_core.specs.Roles.{IsGuided, task_of}
use Rattle.test_worlds.specs.declared.problems.Job.{Job}

-- the weights and the bound are for boards with the goal's sides, and the bound's tables are potentials
pub record IsJobFit (job : Job) : Type 0 where
  pub rule : job.weights.grid ≡ job.goal.grid
  pub sides : job.bound.split.grid ≡ job.goal.grid
  pub potentials : ArePotentials job.weights job.goal job.bound

-- some guide leads to the goal, by it the lists are in order, and what they know is boards of the task
abbrev pub IsGuidedToGoal : Job → SearchListsModel → Type 0
IsGuidedToGoal job lists = (start : BoardModel) × (guide : Guide) × IsGuided (task_of start job.goal job.weights job.bound) guide lists

-- what the steps of one of two workers are lent
abbrev pub lent : {S : Type 0} → Job → S → ℕ → ContextModel S
lent job owners me = context_of me 2 job.goal job.weights job.bound owners
