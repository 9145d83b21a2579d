use Rattle.std.proofs.Common.{subst, sym}
use Rattle.thread_parts.specs.Parts.{IsSoundPart}
use Rattle.thread_work.proofs.site.Site.expand_in_order.Goals as goal

pub expand_some-requires-2-after_bounds : goal.expand_some-requires-2-after_bounds
expand_some-requires-2-after_bounds g c κs within =
    subst (λ w. IsSoundPart g.S.Spread.owner_of g.C.Tokens.workers (record c.args.part.now { worker = w })) (sym c.order_anew.ensures) c.requires
