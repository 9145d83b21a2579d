-- What a certificate states, and when it has a spelling.
use Rattle.std.specs.Prelude.{ℕ, ◌≡◌, ◌≤◌, ◌<◌, ◌^◌, List, [], ◌∷◌, length, Option, None, Some, IfSome, IsSome, ⊤}
use Rattle.std.specs.List.{AllByRecursion}
use Rattle.board.specs.declared.costs.TheConstants.{GREATEST_COST}
use Rattle.board.specs.declared.moves.Move.{Move}
use Rattle.board.specs.Shapes.{ShapeModel, IsShape}
use Rattle.board.specs.Boards.{BoardModel, IsBoard}
use Rattle.board.specs.Weights.{WeightsModel, AreWeights}
use Rattle.board.specs.Keys.{Precedes}
use Rattle.pattern_index.specs.Partitions.{PartitionModel, IsPartition}
use Rattle.certificate.specs.declared.certificate.TheConstants.{GREATEST_BOUND}
use Rattle.certificate.specs.declared.certificate.Version.{Version}
use Rattle.certificate.specs.declared.certificate.Version.TheVariants.{One, Two}
use Rattle.certificate.specs.declared.certificate.Claim.{Claim}
use Rattle.certificate.specs.declared.certificate.Claim.TheVariants.{Least, Bound}
use Rattle.certificate.specs.declared.certificate.Parts.{Parts}

-- Rows, which are boards with a cost, prove with the sums of the groups' tables that no plan from the start to the goal is cheaper than the
-- cost. A plan leads there at that cost, or none is claimed, and the cost is a bound.
pub record CertificateModel : Type 0 where
  pub version : Version
  pub grid : ShapeModel
  pub costs : WeightsModel
  pub groups : PartitionModel
  pub start : BoardModel
  pub goal : BoardModel
  pub cost : ℕ
  pub plan : Option (List Move)
  pub rows : List (BoardModel × ℕ)

-- the plan's cost, or the bound
abbrev pub cost_of : Claim → ℕ
cost_of (Least cost plan) = cost
cost_of (Bound bound) = bound

-- the plan, where there is one
abbrev pub plan_of : Claim → Option (List Move)
plan_of (Least cost plan) = Some plan.items
plan_of (Bound bound) = None

-- what the fields state
abbrev pub statement_of : Parts → CertificateModel
statement_of p = record { version = p.version; grid = p.shape; costs = p.costs; groups = p.groups; start = p.start; goal = p.goal; cost = cost_of p.claim; plan = plan_of p.claim; rows = p.rows.items }

-- the same in version 2
abbrev pub upgraded : CertificateModel → CertificateModel
upgraded c = record c { version = Two }

-- a weight for each tile of this grid's boards
pub record AreCostsOf (grid : ShapeModel) (costs : WeightsModel) : Type 0 where
  pub rule : AreWeights costs
  pub sides : costs.grid ≡ grid

-- groups of tiles of this grid's boards, and no two groups share a tile
pub record IsSplitOf (grid : ShapeModel) (groups : PartitionModel) : Type 0 where
  pub split : IsPartition groups
  pub sides : groups.grid ≡ grid

-- a board of this grid
pub record IsBoardOf (grid : ShapeModel) (b : BoardModel) : Type 0 where
  pub board : IsBoard b
  pub sides : b.grid ≡ grid

-- the greatest cost of a row, and the greatest length of a plan, that can be written
abbrev pub IsWithinLimit : ℕ → Type 0
IsWithinLimit n = n ≤ GREATEST_COST

-- the greatest cost of a plan, or the greatest bound, that can be written
abbrev pub greatest : Option (List Move) → ℕ
greatest (Some plan) = GREATEST_COST
greatest None = GREATEST_BOUND

-- in version 1 there is a plan
abbrev pub Allows : Version → Option (List Move) → Type 0
Allows One plan = IsSome plan
Allows Two plan = ⊤

-- a row: a board of the grid, and a cost
pub record IsRow (grid : ShapeModel) (row : BoardModel × ℕ) : Type 0 where
  pub board : IsBoardOf grid row.0
  pub cost : IsWithinLimit row.1

-- the board's list of tiles comes after that of the one before it, if there is one
abbrev pub Follows : Option BoardModel → BoardModel → Type 0
Follows before b = IfSome before (λ a. Precedes a.tiles b.tiles)

-- each row's board follows that of the row before it, and the first row's follows this one, if there is one
abbrev pub RiseAfter : Option BoardModel → List (BoardModel × ℕ) → Type 0
RiseAfter before [] = ⊤
RiseAfter before (row ∷ rows) = Follows before row.0 × RiseAfter (Some row.0) rows

-- a bound is claimed in version 2 only, all groups and boards are of one shape, the numbers are in their ranges, and the rows rise by their lists of tiles
pub record IsCertificate (c : CertificateModel) : Type 0 where
  pub sides : IsShape c.grid
  pub costs : AreCostsOf c.grid c.costs
  pub groups : IsSplitOf c.grid c.groups
  pub start : IsBoardOf c.grid c.start
  pub goal : IsBoardOf c.grid c.goal
  pub claim : Allows c.version c.plan
  pub cost : c.cost ≤ greatest c.plan
  pub plan : IfSome c.plan (λ plan. IsWithinLimit (length plan))
  pub count : length c.rows < 2 ^ 64
  pub rows : AllByRecursion (IsRow c.grid) c.rows
  pub rising : RiseAfter None c.rows
