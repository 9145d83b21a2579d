use Rattle.std.proofs.Common.{◌≡◌}
use Rattle.owners.specs.Owners.{owner_by_blank}
use Rattle.worker_core.specs.Ahead.{AreFoundAhead, terms_of}
use Rattle.worker_core.specs.Serving.{Serves}
use Rattle.bench_searches.proofs.expand.expand_boards.Given as goal

-- the worker serves the search, all that was granted is granted to it, and what was found ahead is of the search
abbrev pub invariant-boards : goal.invariant-boards
invariant-boards l = Serves l.context l.worker × (l.worker.allowance.granted ≡ l.book.granted) × AreFoundAhead (λ s. owner_by_blank) (terms_of l.context) l.ahead
