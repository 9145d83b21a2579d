-- Entries in buckets, one bucket for each f.
use Rattle.std.specs.Prelude.{ℕ, ◌≤◌, ◌+◌, ◌-◌, List, length, map}
use Rattle.std.specs.declared.vec.Vec.{Vec}
use Rattle.open_buckets.specs.OpenLists.{OpenModel, NothingWaits}
use Rattle.open_buckets.specs.declared.open.TheConstants.{GREATEST_F}

-- the open list in these buckets
abbrev pub list_of : {K Z : Type 0} → List (Vec (K × ℕ) Z) → OpenModel K
list_of {K} {Z} buckets = record { entries = map (λ (b : Vec (K × ℕ) Z). b.items) buckets; places = map (λ (b : Vec (K × ℕ) Z). b.cap - b.len) buckets }

-- nothing waits before the cursor, and there are no more buckets than values of f
pub record AreSoundBuckets {K Z : Type 0} (buckets : List (Vec (K × ℕ) Z)) (cursor : ℕ) : Type 0 where
  pub before : NothingWaits (list_of buckets) cursor
  pub few : length buckets ≤ GREATEST_F + 1
