use Rattle.std.proofs.Common.{ℕ, ◌≡◌, ◌≢◌, ◌<◌}
use Rattle.std.specs.Prelude.{slice_index}
use Rattle.closed_table.specs.Chains.{key_at}
use Rattle.closed_table.proofs.index.find_inside.Given as goal

abbrev pub invariant-entries : goal.invariant-entries
invariant-entries l = (k : ℕ) → k < l.k → slice_index l.bucket.hashes k ≡ l.hash → key_at l.slots (slice_index l.bucket.places k) ≢ l.key
