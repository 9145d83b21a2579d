-- The laws of checked runs: of tables, certificates and outcomes. Each is the contract of a function that does nothing.
use Rattle.std.specs.Prelude.{◌≡◌, ◌≤◌, ◌<◌, ◌^◌, ◌⊎◌, ℕ, Option, Some, None, Vec, length}
use Rattle.std.specs.declared.alloc.Global.{Global}
use Rattle.board.specs.declared.moves.Move.{Move}
use Rattle.board.specs.Boards.{BoardModel, IsBoard}
use Rattle.memory.specs.declared.OutOfMemory.{OutOfMemory}
use Rattle.outcomes.specs.declared.outcome.Cause.{Cause}
use Rattle.outcomes.specs.declared.outcome.Cause.TheVariants.{Memory}
use Rattle.outcomes.specs.declared.outcome.Want.TheVariants.{Refused}
use Rattle.outcomes.specs.declared.outcome.Outcome.TheVariants.{Optimal, Bounded}
use Rattle.outcomes.specs.Outcomes.{Answers}
use Rattle.lower_bound.specs.Tables.{BoundModel, IsTables, ArePotentials, AreWhole}
use Rattle.lower_bound.specs.Lists.{IsFoldedBound}
use Rattle.world_model.specs.Shapes.{IsTask}
use Rattle.board.specs.Plans.{Leads, NothingBelow}
use Rattle.board.specs.Rows.{Proves}
use Rattle.certificate.specs.declared.certificate.TheConstants.{GREATEST_BOUND}
use Rattle.certificate.specs.declared.certificate.Version.TheVariants.{Two}
use Rattle.certificate.specs.Certificates.{AreCostsOf, IsCertificate}
use Rattle.certificate_check.specs.Refusals.{IsProved, IsFirstRefusal, sum_in}
use Rattle.hda_run.specs.Jobs.{JobModel, task_in}
use Rattle.certificate_check.specs.declared.refusals.Refusal.{Refusal}
use Rattle.thread_runs.specs.Solved.{IsSolved}
use Rattle.outcomes.specs.declared.outcome.Outcome.{Outcome}
use Rattle.checked_runs.specs.Checked.{IsProvedWith, IsCheckedRun, IsRefusedRun, IsUncertifiedPlan}
use Rattle.checked_runs.specs.Certificates.{AreAsGood, certificate_in, bound_certificate_in}

-- whole tables are as good as themselves, where they are potentials
abbrev pub OwnTablesAreAsGood : Type 0
OwnTablesAreAsGood = (p : JobModel) → AreWhole p.tables → ArePotentials p.rule p.goal p.tables → AreAsGood p p.tables

-- whole tables of the goal's grid that are potentials are as good as those that were folded from them
abbrev pub TablesFoldedFromAreAsGood : Type 0
TablesFoldedFromAreAsGood =
    (p : JobModel) (tables : BoundModel)
    → IsTables tables
    → AreWhole tables
    → tables.split.grid ≡ p.goal.grid
    → ArePotentials p.rule p.goal tables
    → IsFoldedBound tables p.tables
    → AreAsGood p tables

-- the certificate of a bound that answers a problem with its rows is accepted with tables that are as good as the problem's
abbrev pub BoundsAreAccepted : Type 0
BoundsAreAccepted =
    (p : JobModel) (tables : BoundModel) (bound : ℕ) (best : Option (ℕ × Vec Move Global)) (cause : Cause) (rows : Vec (BoardModel × ℕ) Global)
    → IsTask (task_in p)
    → AreAsGood p tables
    → Answers (task_in p) (Bounded bound best cause (Some rows))
    → IsProved (bound_certificate_in p bound rows.items) tables

-- The certificate of a plan that answers a problem is accepted with tables that are as good as the problem's. These are its own where they
-- are whole potentials, or else the whole potentials that its own were folded from.
abbrev pub PlansAreAccepted : Type 0
PlansAreAccepted =
    (p : JobModel) (tables : BoundModel) (cost : ℕ) (plan : Vec Move Global) (rows : Vec (BoardModel × ℕ) Global)
    → IsTask (task_in p)
    → AreAsGood p tables
    → Answers (task_in p) (Optimal cost plan rows)
    → IsProved (certificate_in p cost plan.items rows.items) tables

-- what is made of a bound that answers a problem with its rows is a certificate, where the problem's tables and costs are those of
-- certificates, and the bound and the count of rows fit into one
abbrev pub BoundsHaveCertificates : Type 0
BoundsHaveCertificates =
    (p : JobModel) (bound : ℕ) (best : Option (ℕ × Vec Move Global)) (cause : Cause) (rows : Vec (BoardModel × ℕ) Global)
    → IsTask (task_in p)
    → IsTables p.tables
    → p.tables.split.grid ≡ p.goal.grid
    → AreCostsOf p.goal.grid p.rule
    → bound ≤ GREATEST_BOUND
    → length rows.items < 2 ^ 64
    → Answers (task_in p) (Bounded bound best cause (Some rows))
    → IsCertificate (bound_certificate_in p bound rows.items)

-- what is made of a plan that answers a problem with its rows is a certificate of version 2, where the problem's tables and costs are
-- those of certificates, and the count of rows fits into one
abbrev pub PlansHaveCertificates : Type 0
PlansHaveCertificates =
    (p : JobModel) (cost : ℕ) (plan : Vec Move Global) (rows : Vec (BoardModel × ℕ) Global)
    → IsTask (task_in p)
    → IsTables p.tables
    → p.tables.split.grid ≡ p.goal.grid
    → AreCostsOf p.goal.grid p.rule
    → length rows.items < 2 ^ 64
    → Answers (task_in p) (Optimal cost plan rows)
    → IsCertificate (certificate_in p cost plan.items rows.items) × ((certificate_in p cost plan.items rows.items).version ≡ Two)

-- a plan that is called least, and is proved with these tables, leads from the problem's start to its goal at its cost, which its rows prove with their sums
abbrev pub ProvedPlansAreLeast : Type 0
ProvedPlansAreLeast =
    (p : JobModel) (tables : BoundModel) (cost : ℕ) (plan : Vec Move Global) (rows : Vec (BoardModel × ℕ) Global)
    → IsProvedWith p tables (Optimal cost plan rows)
    → Leads p.rule p.start plan.items p.goal cost × Proves p.rule rows.items (sum_in tables) p.start p.goal cost

-- and these tables are of the problem's groups, whole, and potentials for its cost rule and its goal
abbrev pub ProvedPlansHaveFitTables : Type 0
ProvedPlansHaveFitTables =
    (p : JobModel) (tables : BoundModel) (cost : ℕ) (plan : Vec Move Global) (rows : Vec (BoardModel × ℕ) Global)
    → IsProvedWith p tables (Optimal cost plan rows)
    → (tables.split ≡ p.tables.split) × AreWhole tables × ArePotentials p.rule p.goal tables

-- so every plan that leads from the start to the goal costs at least as much, where the start is a board and the tables have the goal's sides
abbrev pub NoPlanIsBelowAProvedOne : Type 0
NoPlanIsBelowAProvedOne =
    (p : JobModel) (tables : BoundModel) (cost : ℕ) (plan : Vec Move Global) (rows : Vec (BoardModel × ℕ) Global)
    → IsBoard p.start
    → IsTables tables
    → tables.split.grid ≡ p.goal.grid
    → IsProvedWith p tables (Optimal cost plan rows)
    → NothingBelow p.rule p.start p.goal cost

-- where the certificate of a bound is proved with these tables, its rows prove the bound with their sums, from the problem's start to its goal
abbrev pub ProvedBoundsHold : Type 0
ProvedBoundsHold =
    (p : JobModel) (tables : BoundModel) (bound : ℕ) (rows : Vec (BoardModel × ℕ) Global)
    → IsProved (bound_certificate_in p bound rows.items) tables
    → Proves p.rule rows.items (sum_in tables) p.start p.goal bound

-- and these tables are of the problem's groups, whole, and potentials for its cost rule and its goal
abbrev pub ProvedBoundsHaveFitTables : Type 0
ProvedBoundsHaveFitTables =
    (p : JobModel) (tables : BoundModel) (bound : ℕ) (rows : Vec (BoardModel × ℕ) Global)
    → IsProved (bound_certificate_in p bound rows.items) tables
    → (tables.split ≡ p.tables.split) × AreWhole tables × ArePotentials p.rule p.goal tables

-- so no plan that leads from the start to the goal costs less than the bound, where the start is a board and the tables have the goal's sides
abbrev pub NoPlanIsBelowAProvedBound : Type 0
NoPlanIsBelowAProvedBound =
    (p : JobModel) (tables : BoundModel) (bound : ℕ) (rows : Vec (BoardModel × ℕ) Global)
    → IsBoard p.start
    → IsTables tables
    → tables.split.grid ≡ p.goal.grid
    → IsProved (bound_certificate_in p bound rows.items) tables
    → NothingBelow p.rule p.start p.goal bound

module _ {S : Type 0} (owner_of : S → ℕ → BoardModel → ℕ) where
  -- where memory was refused for the groups of a plan's certificate, the bound is the plan's cost
  abbrev pub UncertifiedPlansGiveTheirCost : Type 0
  UncertifiedPlansGiveTheirCost =
      (p : JobModel) (owners : S) (n : ℕ) (outcome : Outcome)
      → IsUncertifiedPlan owner_of p owners n outcome
      → (cost : ℕ) × (plan : Vec Move Global) × (proof : Vec (BoardModel × ℕ) Global) × (refused : OutOfMemory)
      × IsSolved owner_of p owners n (Optimal cost plan proof) × (outcome ≡ Bounded cost None (Memory (Refused refused)) None)

  -- for the outcome of a checked run, and for a certificate that is refused, there is an outcome that n workers answer, or one alone
  abbrev pub CheckedRunsAreRuns : Type 0
  CheckedRunsAreRuns =
      (p : JobModel) (owners : S) (n : ℕ) (outcome : Outcome) (tables : BoundModel) (refusal : Refusal)
      → (IsCheckedRun owner_of p owners n outcome → (given : Outcome) × IsSolved owner_of p owners n given)
      × (IsRefusedRun owner_of p owners n tables refusal → (given : Outcome) × IsSolved owner_of p owners n given)

  -- the plan that a checked run calls least is that of n workers, or of one alone
  abbrev pub CheckedPlansAreSolved : Type 0
  CheckedPlansAreSolved =
      (p : JobModel) (owners : S) (n : ℕ) (cost : ℕ) (plan : Vec Move Global) (rows : Vec (BoardModel × ℕ) Global)
      → IsCheckedRun owner_of p owners n (Optimal cost plan rows)
      → IsSolved owner_of p owners n (Optimal cost plan rows)

  -- an outcome of a checked run is that of n workers, or of one alone, or gives the cost of a plan of theirs, for whose groups memory was
  -- refused
  abbrev pub CheckedRunsAreTheirs : Type 0
  CheckedRunsAreTheirs =
      (p : JobModel) (owners : S) (n : ℕ) (outcome : Outcome)
      → IsCheckedRun owner_of p owners n outcome
      → IsSolved owner_of p owners n outcome ⊎ IsUncertifiedPlan owner_of p owners n outcome

  -- A certificate that a checked run refuses is that of a plan of n workers, or of one alone. The refusal is the first cause against it, so it
  -- isn't proved with these tables.
  abbrev pub RefusedRunsAreTheirs : Type 0
  RefusedRunsAreTheirs =
      (p : JobModel) (owners : S) (n : ℕ) (tables : BoundModel) (refusal : Refusal)
      → IsRefusedRun owner_of p owners n tables refusal
      → (cost : ℕ) × (plan : Vec Move Global) × (rows : Vec (BoardModel × ℕ) Global)
      × IsSolved owner_of p owners n (Optimal cost plan rows)
      × IsFirstRefusal (certificate_in p cost plan.items rows.items) tables refusal
      × ¬ IsProved (certificate_in p cost plan.items rows.items) tables
