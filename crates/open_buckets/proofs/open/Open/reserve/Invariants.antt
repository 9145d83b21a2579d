use Rattle.open_buckets.specs.declared.open.TheConstants.{GREATEST_F}
use Rattle.std.proofs.Common.{◌≡◌, ◌<◌, ◌≤◌, ◌+◌, ◌-◌, ℕ, [], length}
use Rattle.open_buckets.specs.OpenLists.{entries_at, places_at}
use Rattle.open_buckets.specs.Buckets.{list_of}
use Rattle.open_buckets.proofs.open.Open.reserve.Given as goal

abbrev pub invariant-buckets : goal.invariant-buckets
invariant-buckets g l = record {
  entries : (h : ℕ) → entries_at (list_of l.self-inside.buckets.items) h ≡ entries_at l.fn.self h;
  places : (h : ℕ) → places_at (list_of l.self-inside.buckets.items) h ≡ places_at l.fn.self h;
  enough : 0 < places_at l.fn.self l.f → list_of l.self-inside.buckets.items ≡ l.fn.self;
  before : (h : ℕ) → h < l.self-inside.cursor → entries_at (list_of l.self-inside.buckets.items) h ≡ [];
  few : length l.self-inside.buckets.items ≤ GREATEST_F + 1;
}

abbrev pub decreases-buckets : goal.decreases-buckets
decreases-buckets g l = l.place + 1 - length l.self-inside.buckets.items
