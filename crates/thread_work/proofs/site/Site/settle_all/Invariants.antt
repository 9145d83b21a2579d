use Rattle.thread_parts.specs.Parts.{IsFaceKept, IsSoundPart}
use Rattle.thread_work.proofs.site.Site.settle_all.Given as goal

abbrev pub invariant-items : goal.invariant-items
invariant-items g l = IsFaceKept l.fn.part l.part × IsSoundPart g.S.Spread.owner_of g.C.Tokens.workers l.part
