use Rattle.open_buckets.specs.declared.open.TheConstants.{GREATEST_F}
use Rattle.std.proofs.Common.{◌≡◌, ◌<◌, ◌≤◌, ◌+◌, ◌-◌, ℕ, [], length}
use Rattle.open_buckets.specs.OpenLists.{entries_at}
use Rattle.open_buckets.specs.Buckets.{list_of}
use Rattle.open_buckets.proofs.open.Open.take_lowest.Given as goal

abbrev pub invariant-cursor : goal.invariant-cursor
invariant-cursor g l = record { same : list_of l.self-inside.buckets.items ≡ l.fn.self; before : (h : ℕ) → h < l.self-inside.cursor → entries_at (list_of l.self-inside.buckets.items) h ≡ []; few : length l.self-inside.buckets.items ≤ GREATEST_F + 1 }

abbrev pub decreases-cursor : goal.decreases-cursor
decreases-cursor g l = l.limit - l.self-inside.cursor
