use Rattle.std.proofs.Common.{◌≡◌, ◌≤◌, drop, length}
use Rattle.pattern_index.specs.Sparse.{sparse_of}
use Rattle.search_keys.proofs.digits.long_number.Given as goal

-- the digits from the place on are in
abbrev pub invariant-places : goal.invariant-places
invariant-places l = record {
  within : l.place ≤ length l.digits;
  number : l.number ≡ sparse_of 32 (drop l.place l.digits);
}

abbrev pub decreases-places : goal.decreases-places
decreases-places l = l.place
