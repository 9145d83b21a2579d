use Rattle.std.proofs.Common.{ℕ, ◌≡◌, ◌≢◌, ◌<◌}
use Rattle.std.specs.Prelude.{IsTrue, IsFalse, slice_index}
use Rattle.closed_table.proofs.index.has_hash.Given as goal

-- whether one of the first hashes is this one
abbrev pub invariant-entries : goal.invariant-entries
invariant-entries l = record {
  yes : IsTrue l.found → (k : ℕ) × (k < 7) × (slice_index l.bucket.hashes k ≡ l.hash);
  no : IsFalse l.found → (i : ℕ) → i < l.k → slice_index l.bucket.hashes i ≢ l.hash;
}
