-- The laws of refusals. Each is the contract of a function that does nothing.
use Rattle.std.specs.Prelude.{ℕ, ◌≡◌, ◌≢◌, ◌<◌, ◌≤◌, ◌⊎◌, List, [], Some}
use Rattle.board.specs.declared.moves.Move.{Move}
use Rattle.board.specs.Boards.{BoardModel}
use Rattle.board.specs.Equality.{number_of}
use Rattle.board.specs.Plans.{Leads, IsStuckAt}
use Rattle.board.specs.Rows.{HasRow}
use Rattle.lower_bound.specs.Tables.{BoundModel, IsTables}
use Rattle.certificate.specs.Certificates.{CertificateModel, IsCertificate}
use Rattle.certificate_check.specs.declared.refusals.Refusal.{Refusal}
use Rattle.certificate_check.specs.declared.refusals.Refusal.TheVariants.{IllegalMove, OtherEnd, OtherCost, UnfitGroup, StartUnproved, GoalRow, OpenSuccessor}
use Rattle.certificate_check.specs.Refusals.{sum_in, AreTablesFit, ItsPlanLeads, IsProved, HasRowAt, LeavesOpenAt, IsCause, IsFirstRefusal}

-- whatever the tables are, a claimed plan with an illegal move is refused for its first such move
abbrev pub IllegalMovesAreRefusedFirst : Type 0
IllegalMovesAreRefusedFirst = (c : CertificateModel) (tables : BoundModel) (plan : List Move) (place : ℕ) → c.plan ≡ Some plan → IsStuckAt c.costs c.start plan place → IsFirstRefusal c tables (IllegalMove place)

-- one that ends at another board than the goal is refused for that
abbrev pub OtherEndsAreRefusedFirst : Type 0
OtherEndsAreRefusedFirst = (c : CertificateModel) (tables : BoundModel) (plan : List Move) (end : BoardModel) (k : ℕ) → c.plan ≡ Some plan → Leads c.costs c.start plan end k → end ≢ c.goal → IsFirstRefusal c tables OtherEnd

-- and one that ends there at another cost than the stated one for that
abbrev pub OtherCostsAreRefusedFirst : Type 0
OtherCostsAreRefusedFirst = (c : CertificateModel) (tables : BoundModel) (plan : List Move) (k : ℕ) → c.plan ≡ Some plan → Leads c.costs c.start plan c.goal k → k ≢ c.cost → IsFirstRefusal c tables OtherCost

-- where a table is folded and the plan leads, if one is claimed, the first refusal is that of the first place
abbrev pub FoldedTablesAreRefused : Type 0
FoldedTablesAreRefused = (c : CertificateModel) (tables : BoundModel) → ItsPlanLeads c → tables.folds ≢ [] → IsFirstRefusal c tables (UnfitGroup 0)

-- and so it is where the tables are of another shape than the certificate's groups
abbrev pub TablesOfAnotherShapeAreRefused : Type 0
TablesOfAnotherShapeAreRefused = (c : CertificateModel) (tables : BoundModel) → ItsPlanLeads c → c.groups.grid ≢ tables.split.grid → IsFirstRefusal c tables (UnfitGroup 0)

-- where a certificate is proved, no table is folded
abbrev pub ProvedWithWholeTables : Type 0
ProvedWithWholeTables = (c : CertificateModel) (tables : BoundModel) → IsProved c tables → tables.folds ≡ []

-- there is no cause to refuse a certificate that is proved
abbrev pub ProvedHasNoCause : Type 0
ProvedHasNoCause = (c : CertificateModel) (tables : BoundModel) → IsProved c tables → (refusal : Refusal) → ¬ IsCause c tables refusal

-- and where there is none, it is proved
abbrev pub NoCauseIsProved : Type 0
NoCauseIsProved = (c : CertificateModel) (tables : BoundModel) → IsCertificate c → IsTables tables → ((refusal : Refusal) → ¬ IsCause c tables refusal) → IsProved c tables

-- Where the plan leads, if one is claimed, and the tables are fit, the rows are judged. First the start is refused, if its sum is below the cost and
-- it has no row at 0. Else the row of the goal is, if there is one. Else the first row that leaves a board open is, by the first move to one.
pub record RowsAreJudgedLast : Type 0 where
  pub start : (c : CertificateModel) (tables : BoundModel)
      → ItsPlanLeads c
      → AreTablesFit c tables
      → sum_in tables c.start < c.cost
      → ¬ HasRow c.rows c.start 0
      → IsFirstRefusal c tables StartUnproved
  pub goal : (c : CertificateModel) (tables : BoundModel) (place : ℕ)
      → ItsPlanLeads c
      → AreTablesFit c tables
      → HasRow c.rows c.start 0 ⊎ (c.cost ≤ sum_in tables c.start)
      → HasRowAt c c.goal place
      → ((p : ℕ) → HasRowAt c c.goal p → p ≡ place)
      → IsFirstRefusal c tables (GoalRow place)
  pub open_boards : (c : CertificateModel) (tables : BoundModel) (place : ℕ) (m : Move)
      → ItsPlanLeads c
      → AreTablesFit c tables
      → HasRow c.rows c.start 0 ⊎ (c.cost ≤ sum_in tables c.start)
      → ((p : ℕ) → ¬ HasRowAt c c.goal p)
      → LeavesOpenAt c tables place m
      → ((p : ℕ) (other : Move) → p < place → ¬ LeavesOpenAt c tables p other)
      → ((other : Move) → number_of other < number_of m → ¬ LeavesOpenAt c tables place other)
      → IsFirstRefusal c tables (OpenSuccessor place m)
