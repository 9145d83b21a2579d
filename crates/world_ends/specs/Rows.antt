-- Rows of known boards.
use Rattle.std.specs.Prelude.{ℕ, ◌≡◌, ◌≢◌, ◌+◌, ◌<◌, ◌≤◌, ◌↔◌, List, Contains, All, AllPairs, map as each_of}
use Rattle.std.specs.Prelude.{Some, slice_get}
use Rattle.std.specs.FinMap as map
use Rattle.board.specs.declared.costs.TheConstants.{GREATEST_COST}
use Rattle.board.specs.Shapes.{ShapeModel}
use Rattle.board.specs.Boards.{BoardModel, IsBoard}
use Rattle.board.specs.Keys.{HasKey, key_of}
use Rattle.search_keys.specs.SearchKeys.{search_key, HasSearchKey}
use Rattle.world_model.specs.declared.parts.Known.{Known}
use Rattle.world_model.specs.Knowledge.{Knowledge}
use Rattle.world_model.specs.Workers.{WorkerState}
use Rattle.outcomes.specs.Outcomes.{Task}
use Rattle.world_ends.specs.declared.rows.KeyedRow.{KeyedRow}

-- the board with the row's key is known at the row's cost, and that plus its sum is below k
pub record IsRowIn (task : Task) (k : ℕ) (knowledge : Knowledge) (row : KeyedRow) : Type 0 where
  pub b : BoardModel
  pub has : HasKey task.goal.grid row.key b
  pub known : Known
  pub knows : map.get knowledge (search_key b) ≡ Some known
  pub at : known.cost ≡ row.cost
  pub low : row.cost + task.sum b < k

-- no two rows have one key
abbrev pub HaveDifferentKeys : List KeyedRow → Type 0
HaveDifferentKeys rows = AllPairs (λ row later. row.key ≢ later.key) rows

-- each key is the search key of a board of the grid, which is known at a cost of at most `GREATEST_COST`
abbrev pub IsOfBoards : ShapeModel → Knowledge → Type 0
IsOfBoards grid knowledge =
    (key : ℕ) (known : Known)
    → map.get knowledge key ≡ Some known
    → ((b : BoardModel) × HasSearchKey grid key b) × (known.cost ≤ GREATEST_COST)

-- no row has the key of a board of the grid that is known here
abbrev pub AreElsewhere : ShapeModel → List KeyedRow → Knowledge → Type 0
AreElsewhere grid rows knowledge =
    (row : KeyedRow) (b : BoardModel) (known : Known)
    → Contains rows row
    → HasKey grid row.key b
    → map.get knowledge (search_key b) ≢ Some known

-- the rows of what each of these workers knows
pub record AreKeyedRows (task : Task) (k : ℕ) (states : List WorkerState) (rows : List KeyedRow) : Type 0 where
  pub apart : HaveDifferentKeys rows
  pub each : (row : KeyedRow) → Contains rows row
      ↔ ((i : ℕ) × (worker : WorkerState) × (slice_get states i ≡ Some worker) × IsRowIn task k worker.known row)

-- a row with its board's key
abbrev pub keyed : BoardModel × ℕ → KeyedRow
keyed row = record { key = key_of row.0; cost = row.1 }

-- the same rows, with boards of the grid in the place of their keys
pub record AreBoardsOf (grid : ShapeModel) (rows : List KeyedRow) (named : List (BoardModel × ℕ)) : Type 0 where
  pub keys : each_of keyed named ≡ rows
  pub boards : All (λ row. IsBoard row.0 × (row.0.grid ≡ grid)) named
