use Rattle.std.proofs.Common.{ℕ, ◌≡◌, ◌<◌, ◌/◌, ◌%◌, ◌^◌, length}
use Rattle.std.specs.Prelude.{slice_index}
use Rattle.search_keys.proofs.digits.write_long.Given as goal

-- the digits before the place are written, and those from it on are left
abbrev pub invariant-places : goal.invariant-places
invariant-places l = record {
  all : length l.digits ≡ 25;
  rest : l.rest ≡ l.key / 32 ^ l.place;
  are : (k : ℕ) → k < l.place → slice_index l.digits k ≡ l.key / 32 ^ k % 32;
}
