use Rattle.std.proofs.Common.{ℕ, ◌≡◌, ◌<◌, ◌≤◌}
use Rattle.std.specs.Prelude.{min, slice_index}
use Rattle.database_build.proofs.least.lower_row.Given as goal

-- the values before this one are lowered
abbrev pub invariant-places : goal.invariant-places
invariant-places l = record {
  done : (p : ℕ) → p < l.place → slice_index l.row p ≡ min (slice_index l.fn.row p) (slice_index l.others p);
  rest : (p : ℕ) → l.place ≤ p → slice_index l.row p ≡ slice_index l.fn.row p;
}
