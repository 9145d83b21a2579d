use Rattle.std.proofs.Common.{ℕ, ◌≡◌, ◌+◌, ◌<◌}
use Rattle.std.specs.Prelude.{slice_index}
use Rattle.lower_bound.proofs.consecutive.are_consecutive.Given as goal

-- the tiles before the place follow one another
abbrev pub invariant-tiles : goal.invariant-tiles
invariant-tiles l = (k : ℕ) → k < l.place → slice_index l.tiles k ≡ slice_index l.tiles 0 + k
