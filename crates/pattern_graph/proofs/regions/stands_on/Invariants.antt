use Rattle.std.proofs.Common.{ℕ, ◌≢◌, ◌<◌}
use Rattle.std.specs.Prelude.{slice_index}
use Rattle.pattern_graph.proofs.regions.stands_on.Given as goal

-- no tile before this one is on the cell
abbrev pub invariant-cells : goal.invariant-cells
invariant-cells l = (k : ℕ) → k < l.other-index → slice_index l.cells k ≢ l.cell
