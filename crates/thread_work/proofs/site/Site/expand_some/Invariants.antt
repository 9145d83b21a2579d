use Rattle.thread_parts.specs.Parts.{IsFaceKept, IsSoundPart}
use Rattle.thread_work.proofs.site.Site.expand_some.Given as goal

abbrev pub invariant-boards : goal.invariant-boards
invariant-boards g l = IsFaceKept l.fn.part l.part × IsSoundPart g.S.Spread.owner_of g.C.Tokens.workers l.part
