-- A board whose moves are offered, and the search in which they are.
use Rattle.std.specs.Prelude.{ℕ, ◌≡◌, ◌<◌, ◌≤◌, ◌==◌, if◌then◌else◌, Option}
use Rattle.board.specs.declared.costs.TheConstants.{GREATEST_EXPANDED_COST}
use Rattle.board.specs.Weights.{WeightsModel}
use Rattle.board.specs.Boards.{BoardModel, IsBoard}
use Rattle.lower_bound.specs.Bounds.{sum_of}
use Rattle.lower_bound.specs.Tables.{BoundModel, AreConsistent, parts_of}
use Rattle.owners.specs.declared.offer.OwnersBy.{OwnersBy}
use Rattle.owners.specs.declared.offer.OwnersBy.TheVariants.{OneWorker, Spread}

-- a board whose moves are offered, what it costs to reach it, and its sum
pub record OriginModel : Type 0 where
  pub board : BoardModel
  pub cost : ℕ
  pub sum : ℕ

-- its cost and its sum are at most what a board that is expanded may cost
pub record IsOrigin (origin : OriginModel) : Type 0 where
  pub cost : origin.cost ≤ GREATEST_EXPANDED_COST
  pub sum : origin.sum ≤ GREATEST_EXPANDED_COST

-- what moves cost, the tables that guide the search, how boards are owned, and how many workers there are
pub record TermsModel (S : Type 0) : Type 0 where
  pub rule : WeightsModel
  pub tables : BoundModel
  pub owners : S
  pub workers : ℕ

-- costs and tables have the same sides, the tables are consistent, and there are workers
pub record IsTerms {S : Type 0} (terms : TermsModel S) : Type 0 where
  pub rule : terms.rule.grid ≡ terms.tables.split.grid
  pub consistent : AreConsistent terms.tables
  pub some : 0 < terms.workers

-- the board has the sides of the tables, and its sum is by these tables
pub record Fits {S : Type 0} (terms : TermsModel S) (origin : OriginModel) : Type 0 where
  pub grid : origin.board.grid ≡ terms.tables.split.grid
  pub sum : origin.sum ≡ sum_of (parts_of terms.tables) origin.board

-- how the owners of a board's successors are found: one worker owns them all, and among more a spread is asked, by the board's hash
abbrev pub owners_by : (BoardModel → Option ℕ) → ℕ → BoardModel → OwnersBy
owners_by hash_of n b = if n == 1 then OneWorker else Spread (hash_of b)

-- so the owners of this board's successors are found
abbrev pub AreFoundBy : {S : Type 0} → (S → BoardModel → Option ℕ) → TermsModel S → BoardModel → OwnersBy → Type 0
AreFoundBy hash_of terms b by = by ≡ owners_by (hash_of terms.owners) terms.workers b

-- what the offers of a board have in common: it fits the search, it is what the tables read, and so its successors' owners are found
pub record IsReadFor {S : Type 0} (hash_of : S → BoardModel → Option ℕ) (terms : TermsModel S) (origin : OriginModel) (reading : BoardModel) (by : OwnersBy) : Type 0 where
  pub board : IsBoard origin.board
  pub fits : Fits terms origin
  pub read : reading ≡ origin.board
  pub found : AreFoundBy hash_of terms origin.board by
