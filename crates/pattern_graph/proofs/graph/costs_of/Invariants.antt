use Rattle.std.proofs.Common.{ℕ, ◌≡◌, ◌<◌, ◌≤◌, length}
use Rattle.std.specs.Prelude.{slice_index}
use Rattle.board.specs.Weights.{weight_of}
use Rattle.pattern_graph.proofs.graph.costs_of.Given as goal

abbrev pub invariant-tiles : goal.invariant-tiles
invariant-tiles l = record {
  long : length l.costs ≡ 9;
  below : (k : ℕ) → k < l.place → slice_index l.costs k ≡ weight_of l.weights (slice_index l.tiles k);
  some : (k : ℕ) → k < l.place → 1 ≤ slice_index l.costs k;
  behind : (k : ℕ) → length l.tiles ≤ k → slice_index l.costs k ≡ 0;
}
