use Rattle.std.proofs.Common.{◌≡◌, ◌<◌, ℕ, length, get_or}
use Rattle.closed_table.specs.Chains.{no_bucket}
use Rattle.closed_table.proofs.index.clear_first_buckets.Given as goal

-- the buckets before this one are clear, and there are as many as before
abbrev pub invariant-chains : goal.invariant-chains
invariant-chains l = record {
  clear : (k : ℕ) → k < l.chain → get_or l.buckets k no_bucket ≡ no_bucket;
  size : length l.buckets ≡ length l.fn.buckets;
}
