-- Known boards as the pages hold them.
use Rattle.std.specs.Prelude.{◌≡◌, ◌+◌, ◌≤◌, ◌<◌, ◌^◌, length, map}
use Rattle.std.specs.FinMap as fin
use Rattle.std.specs.Ordering.{nat_cmp}
use Rattle.closed_table.specs.Tables.{ClosedModel}
use Rattle.closed_table.specs.Chains.{rows_of_slots, chain_count, IsIndexed, AreClear}
use Rattle.closed_table.specs.declared.table.Closed.TheInside.{Inside}

-- the table of these rows
abbrev pub table_of : Inside → ClosedModel
table_of s = record { keys = map (λ row. row.0) (rows_of_slots s.index.slots s.index.len); known = fin.from_entries {R = nat_cmp} (rows_of_slots s.index.slots s.index.len); room = s.room }

-- the index is in order, there is a place for each slot that was promised, and a link can tell each; while there is
-- no slot, the buckets of the first chains are those of chains with none
pub record IsSoundTable (s : Inside) : Type 0 where
  pub indexed : IsIndexed s.index.slots s.index.links s.index.buckets s.index.len (chain_count s.index.len) s.index.bits
  pub slots : s.index.len + s.room ≤ length s.index.slots
  pub links : s.index.len + s.room ≤ length s.index.links
  pub buckets : chain_count (s.index.len + s.room) ≤ length s.index.buckets
  pub few : s.index.len + s.room < 2 ^ 32
  pub clear : s.index.len ≡ 0 → AreClear s.index.buckets
