use Rattle.std.proofs.Common.{◌≡◌}
use Rattle.thread_parts.specs.Parts.{IsFaceKept, IsSoundPart}
use Rattle.thread_work.proofs.site.Site.receive.Given as goal

abbrev pub invariant-workers : goal.invariant-workers
invariant-workers g l = IsFaceKept l.fn.part l.part × IsSoundPart g.S.Spread.owner_of g.C.Tokens.workers l.part × (l.workers ≡ g.C.Tokens.workers)
