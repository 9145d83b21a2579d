use Rattle.std.proofs.Common.{◌≡◌, ◌≤◌}
use Rattle.std.specs.Prelude.{All}
use Rattle.board.specs.declared.costs.TheConstants.{GREATEST_EXPANDED_COST}
use Rattle.lower_bound.specs.Bounds.{sum_of}
use Rattle.lower_bound.specs.Tables.{parts_of}
use Rattle.bench_searches.proofs.kernels.sums.drawn_boards.Given as goal

-- each is a board of the tables' shape, with its sum
abbrev pub invariant-boards : goal.invariant-boards
invariant-boards l = All (λ d. (d.0.grid ≡ l.bound.split.grid) × (d.1 ≡ sum_of (parts_of l.bound) d.0) × (d.1 ≤ GREATEST_EXPANDED_COST)) l.drawn.items
