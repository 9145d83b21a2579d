-- The lowest cost plus sum of items, of workers and of lanes.
use Rattle.std.specs.Prelude.{ℕ, ◌≡◌, ◌⊎◌, ◌+◌, ◌≤◌, List, Contains, Option, Some, slice_get}
use Rattle.board.specs.declared.costs.TheConstants.{GREATEST_COST}
use Rattle.board.specs.Shapes.{ShapeModel}
use Rattle.board.specs.Boards.{BoardModel}
use Rattle.outcomes.specs.Outcomes.{Task}
use Rattle.world_model.specs.declared.parts.Item.{Item}
use Rattle.world_model.specs.declared.parts.Known.{Known}
use Rattle.world_model.specs.Costs.{IsLeastWith}
use Rattle.world_model.specs.Workers.{WorkerState, Packet, IsOpen}
use Rattle.world_model.specs.Worlds.{WorldState, HasInLaneTo}

-- the lesser of what was least before, if anything was, and of the least number with P, if there is one
abbrev pub IsLeastBeside : (ℕ → Type 0) → Option ℕ → Option ℕ → Type 0
IsLeastBeside P before least = IsLeastWith (λ f. (before ≡ Some f) ⊎ P f) least

-- the cost plus sum of one of the items
abbrev pub IsOfItem : (BoardModel → ℕ) → List Item → ℕ → Type 0
IsOfItem sum items f = (item : Item) × Contains items item × (f ≡ item.cost + sum item.board)

-- the cost plus sum of an item that the worker has unsent
abbrev pub IsOfUnsent : (BoardModel → ℕ) → WorkerState → ℕ → Type 0
IsOfUnsent sum worker f =
    (to : ℕ) × (packet : Packet) × (slice_get worker.unsent to ≡ Some packet) × IsOfItem sum packet f

-- the cost plus sum of a board on the worker's open list
abbrev pub IsOfOpen : Task → WorkerState → ℕ → Type 0
IsOfOpen task worker f = (b : BoardModel) × (known : Known) × IsOpen task worker b known × (known.cost + task.sum b ≡ f)

-- the cost plus sum of a board that is open at the worker, or of an item that it holds or has unsent
abbrev pub IsOfWorker : Task → WorkerState → ℕ → Type 0
IsOfWorker task worker f = IsOfOpen task worker f ⊎ IsOfItem task.sum worker.held f ⊎ IsOfUnsent task.sum worker f

-- that of one of these workers
abbrev pub IsOfWorkers : Task → List WorkerState → ℕ → Type 0
IsOfWorkers task states f =
    (i : ℕ) × (worker : WorkerState) × (slice_get states i ≡ Some worker) × IsOfWorker task worker f

-- the least cost plus sum of the items in a world's lanes
abbrev pub IsLowestInLanes : WorldState → Option ℕ → Type 0
IsLowestInLanes w lowest =
    IsLeastWith (λ f. (to : ℕ) × (item : Item) × HasInLaneTo w to item × (f ≡ item.cost + w.task.sum item.board))
    lowest

-- items of boards of this grid, at costs of at most `GREATEST_COST`
abbrev pub AreItemsOn : ShapeModel → List Item → Type 0
AreItemsOn grid items = (item : Item) → Contains items item → (item.board.grid ≡ grid) × (item.cost ≤ GREATEST_COST)

-- the worker holds such items, and has such items unsent
pub record HasItemsOn (grid : ShapeModel) (worker : WorkerState) : Type 0 where
  pub held : AreItemsOn grid worker.held
  pub unsent : (to : ℕ) (packet : Packet) → slice_get worker.unsent to ≡ Some packet → AreItemsOn grid packet
