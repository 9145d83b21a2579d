-- What a reader of an outcome may believe, whatever steps were taken.
use Rattle.std.specs.Prelude.{ℕ, ◌≡◌, ◌≤◌, ⊤, List, map, Option, None, Some}
use Rattle.board.specs.declared.moves.Move.{Move}
use Rattle.board.specs.Plans.{Leads}
use Rattle.outcomes.specs.declared.outcome.Outcome.{Outcome}
use Rattle.outcomes.specs.declared.outcome.Outcome.TheVariants.{Optimal, Unsolvable, Bounded}
use Rattle.outcomes.specs.Outcomes.{AreRowsOf, HasProof, StandsAlone, best_of}
use Rattle.world_model.specs.declared.steps.Refusal.{Refusal}
use Rattle.world_model.specs.declared.steps.Step.{Step}
use Rattle.world_model.specs.Openings.{Job, opening}
use Rattle.world_model.specs.Outcomes.{IsGiven}
use Rattle.world_model.specs.Steps.{IsRun}
use Rattle.world_model.specs.Worlds.{WorldState}
use Rattle.hda_run.specs.Jobs.{JobModel, task_in}

-- the moves of the plan take the start to the goal, and their costs add up to this
abbrev pub Solves : JobModel → List Move → ℕ → Type 0
Solves p plan cost = Leads p.rule p.start plan p.goal cost

-- no plan costs less
abbrev pub NoneIsBelow : JobModel → ℕ → Type 0
NoneIsBelow p bound = (plan : List Move) (cost : ℕ) → Solves p plan cost → bound ≤ cost

-- the plan beside a bound, if there is one, leads to the goal at its cost
abbrev pub IsTrueOfBest : JobModel → Option (ℕ × List Move) → Type 0
IsTrueOfBest p None = ⊤
IsTrueOfBest p (Some best) = Solves p best.1 best.0

-- What an outcome says is true. Optimal: the plan leads from the start to the goal at this cost, each plan that does
-- costs at least as much, and the rows prove that by themselves. Unsolvable: no plan leads there. Bounded: no plan
-- costs less than the bound, the plan beside it is one, and the rows prove the bound by themselves; where memory was
-- refused it has neither, though such rows exist.
abbrev pub TellsTruth : JobModel → Outcome → Type 0
TellsTruth p (Optimal cost plan rows) =
    Solves p plan.items cost × NoneIsBelow p cost × AreRowsOf (task_in p) rows.items cost
TellsTruth p (Unsolvable why) = (plan : List Move) (cost : ℕ) → ¬ Solves p plan cost
TellsTruth p (Bounded bound best cause (Some rows)) = NoneIsBelow p bound × IsTrueOfBest p (best_of best)
    × AreRowsOf (task_in p) rows.items bound
TellsTruth p (Bounded bound best cause None) = NoneIsBelow p bound × StandsAlone best cause × HasProof (task_in p) bound

-- these steps, with some answers, lead from the opening world to one that gives the outcome
pub record IsOfSteps (job : Job) (steps : List Step) (outcome : Outcome) : Type 0 where
  pub via : Move
  pub made : List (Step × Option Refusal)
  pub world : WorldState
  pub same : map (λ made. made.0) made ≡ steps
  pub run : IsRun (opening job via) made world
  pub given : IsGiven world outcome
