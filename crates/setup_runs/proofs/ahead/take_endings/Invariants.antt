use Rattle.std.proofs.Common.{All, IfSome}
use Rattle.batch_runs.specs.Batches.{AreAllowed}
use Rattle.setup_runs.specs.Ahead.{IsEndedAlone, AreTried}
use Rattle.setup_runs.specs.Solving.{HasStats, rules_of}
use Rattle.setup_runs.proofs.ahead.take_endings.Given as goal

abbrev pub invariant-places : goal.invariant-places
invariant-places l = All (AreTried l.fn.setup) l.lanes × AreAllowed (rules_of l.fn.setup) l.ready.items × All (λ it. IfSome it.1 (HasStats l.fn.setup it.0)) l.ready.items × All (λ it. IfSome it.1 IsEndedAlone) l.ready.items
