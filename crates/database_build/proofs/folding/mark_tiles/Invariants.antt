use Rattle.std.proofs.Common.{ℕ, ◌≡◌, ◌<◌, ◌↔◌, false, length, IsTrue, Contains, slice_index_or}
use Rattle.database_build.proofs.folding.mark_tiles.Given as goal

-- the numbers up to here are marked as they should be
abbrev pub invariant-numbers : goal.invariant-numbers
invariant-numbers l = record {
  all : length l.marks ≡ 25;
  are : (n : ℕ) → n < l.number → IsTrue (slice_index_or l.marks n false) ↔ Contains l.group.tiles n;
}
