use Rattle.std.proofs.Common.{◌≡◌, ℕ, ◌-◌, ◌<◌, ◌≤◌, get_or, eqb, false, length}
use Rattle.pattern_graph.proofs.orders.tile_at.Given as goal

abbrev pub invariant-tiles : goal.invariant-tiles
invariant-tiles l = record { within : l.tile ≤ length l.positions; others : (k : ℕ) → k < l.tile → eqb (get_or l.positions k 0) l.position ≡ false }

abbrev pub decreases-tiles : goal.decreases-tiles
decreases-tiles l = length l.positions - l.tile
