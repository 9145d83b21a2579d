use Rattle.std.proofs.Common.{◌≡◌, ◌≤◌, ◌+◌, ◌-◌, ◌++◌, ℕ, List, length, get_or}
use Rattle.closed_table.proofs.index.grow_to.Given as goal

abbrev pub invariant-pages : goal.invariant-pages
invariant-pages g l = record { within : l.len ≤ length l.pages; kept : (more : List g.row.T.Denot) × (l.pages ≡ l.fn.pages ++ more); alike : (k : ℕ) → get_or l.fn.pages k l.item ≡ l.item → get_or l.pages k l.item ≡ l.item }

abbrev pub decreases-pages : goal.decreases-pages
decreases-pages g l = l.len + l.count + 1 - length l.pages
