use Rattle.std.proofs.Common.{◌≡◌}
use Rattle.std.specs.Prelude.{min}
use Rattle.closed_table.specs.Chains.{bucket_part, stays, moves_on}
use Rattle.closed_table.proofs.index.divided.Given as goal

abbrev pub invariant-entries : goal.invariant-entries
invariant-entries l = record {
  stay : l.halves.stay ≡ bucket_part (stays l.bits l.chains l.from) l.bucket (min l.k l.bucket.count);
  go : l.halves.go ≡ bucket_part (moves_on l.bits l.chains l.from) l.bucket (min l.k l.bucket.count);
}
