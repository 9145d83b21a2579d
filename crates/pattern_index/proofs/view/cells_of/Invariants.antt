use Rattle.std.proofs.Common.{ℕ, ◌≡◌, ◌<◌, ◌≤◌, length, get_or}
use Rattle.board.specs.Shapes.{cell_count}
use Rattle.board.specs.Boards.{cell_of}
use Rattle.pattern_index.proofs.view.cells_of.Given as goal

-- the cells of the numbers that were met, and 0 for those that the board doesn't have
abbrev pub invariant-cells : goal.invariant-cells
invariant-cells l = (length l.cells ≡ 25) × ((number : ℕ) → number < cell_count l.board.grid → cell_of l.board number < l.cell → get_or l.cells number 0 ≡ cell_of l.board number) × ((number : ℕ) → cell_count l.board.grid ≤ number → get_or l.cells number 0 ≡ 0)
