use Rattle.std.proofs.Common.{◌≤◌, ◌-◌, length}
use Rattle.std.specs.Prelude.{All}
use Rattle.worker_core.specs.Ahead.{IsFoundAhead, terms_of}
use Rattle.worker_core.proofs.ahead.write_upcoming.Given as goal

abbrev pub invariant-places : goal.invariant-places
invariant-places g l = record {
  all : All (IsFoundAhead g.S.Spread.owner_of (terms_of l.context)) l.batch.items;
  some : 1 ≤ l.count;
}

abbrev pub decreases-places : goal.decreases-places
decreases-places g l = length l.batch.items - l.count
