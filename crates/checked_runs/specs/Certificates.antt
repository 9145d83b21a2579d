-- The certificates of a problem's plans, and the tables that they are checked with.
use Rattle.std.specs.Prelude.{ℕ, ◌≡◌, ◌≤◌, List, None, Some}
use Rattle.board.specs.declared.moves.Move.{Move}
use Rattle.board.specs.Boards.{BoardModel, IsBoard}
use Rattle.lower_bound.specs.Tables.{BoundModel, ArePotentials, AreWhole}
use Rattle.certificate.specs.declared.certificate.Version.TheVariants.{Two}
use Rattle.certificate.specs.Certificates.{CertificateModel}
use Rattle.certificate_check.specs.Refusals.{sum_in}
use Rattle.hda_run.specs.Jobs.{JobModel}
use Rattle.checked_runs.specs.declared.checking.Proved.{Proved}

-- the certificate that this plan leads from the problem's start to its goal at this cost, which the rows prove to be least with the sums
-- of the problem's groups
abbrev pub certificate_in : JobModel → ℕ → List Move → List (BoardModel × ℕ) → CertificateModel
certificate_in p cost plan rows = record { version = Two; grid = p.goal.grid; costs = p.rule; groups = p.tables.split; start = p.start; goal = p.goal; cost = cost; plan = Some plan; rows = rows }

-- the certificate that no plan costs less than this bound, which the rows prove with the sums of the problem's groups
abbrev pub bound_certificate_in : JobModel → ℕ → List (BoardModel × ℕ) → CertificateModel
bound_certificate_in p bound rows = record { version = Two; grid = p.goal.grid; costs = p.rule; groups = p.tables.split; start = p.start; goal = p.goal; cost = bound; plan = None; rows = rows }

-- these are the cost, the plan and the rows of the certificate
pub record IsPartOf (c : CertificateModel) (proved : Proved) : Type 0 where
  pub cost : proved.cost ≡ c.cost
  pub plan : Some proved.plan.items ≡ c.plan
  pub rows : proved.rows.items ≡ c.rows

-- Tables that are as good as those of the problem: they are of the same groups, whole, and potentials, and no board's sum is lower.
pub record AreAsGood (p : JobModel) (tables : BoundModel) : Type 0 where
  pub groups : tables.split ≡ p.tables.split
  pub whole : AreWhole tables
  pub potentials : ArePotentials p.rule p.goal tables
  pub sums : (b : BoardModel) → IsBoard b → b.grid ≡ p.goal.grid → sum_in p.tables b ≤ sum_in tables b
