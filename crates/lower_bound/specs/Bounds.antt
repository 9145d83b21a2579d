-- Sums of values over groups of tiles, and what makes them bounds (Korf, Felner 2002).
use Rattle.std.specs.Prelude.{ℕ, List, All, AllPairs, sum_by}
use Rattle.board.specs.Boards.{BoardModel}
use Rattle.board.specs.Weights.{WeightsModel}
use Rattle.pattern_index.specs.Views.{ViewModel, view_of}
use Rattle.pattern_index.specs.Groups.{AreGroupTiles}
use Rattle.pattern_index.specs.Partitions.{ShareNoTile}
use Rattle.database_build.specs.Tables.{IsPotential}

-- Some tiles, with a value for each of their views.
pub record Part : Type 0 where
  pub tiles : List ℕ
  pub value : ViewModel → ℕ

-- the sum of a board, which is the heuristic: the values of its views, added over the groups
abbrev pub sum_of : List Part → BoardModel → ℕ
sum_of parts b = sum_by (λ part. part.value (view_of part.tiles b)) parts

-- each is a group of the goal's grid, no two share a tile, and the values of each are a potential
pub record IsBound (rule : WeightsModel) (goal : BoardModel) (parts : List Part) : Type 0 where
  pub groups : All (λ part. AreGroupTiles goal.grid part.tiles) parts
  pub apart : AllPairs (λ p q. ShareNoTile p.tiles q.tiles) parts
  pub potentials : All (λ part. IsPotential rule part.tiles goal part.value) parts
