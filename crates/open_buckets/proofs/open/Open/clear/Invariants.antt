use Rattle.open_buckets.specs.declared.open.TheConstants.{GREATEST_F}
use Rattle.std.proofs.Common.{◌≡◌, ◌<◌, ◌≤◌, ◌+◌, ◌-◌, ℕ, [], length}
use Rattle.open_buckets.specs.OpenLists.{entries_at, places_at}
use Rattle.open_buckets.specs.Buckets.{list_of}
use Rattle.open_buckets.proofs.open.Open.clear.Given as goal

abbrev pub invariant-buckets : goal.invariant-buckets
invariant-buckets g l = record {
  before : (h : ℕ) → h < l.self-inside.cursor → entries_at (list_of l.self-inside.buckets.items) h ≡ [];
  places : (h : ℕ) → places_at l.fn.self h ≤ places_at (list_of l.self-inside.buckets.items) h;
  few : length l.self-inside.buckets.items ≤ GREATEST_F + 1;
}

abbrev pub decreases-buckets : goal.decreases-buckets
decreases-buckets g l = length l.self-inside.buckets.items - l.self-inside.cursor
