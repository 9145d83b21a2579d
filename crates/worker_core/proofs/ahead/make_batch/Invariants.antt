use Rattle.std.proofs.Common.{◌-◌, length}
use Rattle.std.specs.Prelude.{All}
use Rattle.search_lists.specs.declared.lists.TheConstants.{BATCH}
use Rattle.worker_core.specs.Ahead.{IsFoundAhead, terms_of}
use Rattle.worker_core.proofs.ahead.make_batch.Given as goal

abbrev pub invariant-places : goal.invariant-places
invariant-places g l = All (IsFoundAhead g.S.Spread.owner_of (terms_of l.context)) l.batch.items

abbrev pub decreases-places : goal.decreases-places
decreases-places g l = BATCH - length l.batch.items
