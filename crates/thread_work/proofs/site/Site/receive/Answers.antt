use Rattle.std.proofs.Common.{◌≡◌, ◌∙◌, sym, subst}
use Rattle.thread_parts.specs.Parts.{IsFaceKept, IsSoundPart}
use Rattle.thread_work.proofs.site.Site.receive.Goals as goal
use Rattle.thread_work.proofs.site.Site.receive.Goals.{then-is_ok, else-is_ok}

pub workers-preserved : goal.workers-preserved
workers-preserved g c =
    elim c.if-is_ok.branch [
      | then-is_ok w ↦
          subst (λ part. IsFaceKept c.args.part.now part × IsSoundPart g.S.Spread.owner_of g.C.Tokens.workers part × (c.worker_count-workers.result ≡ g.C.Tokens.workers)) (sym w.part-is)
          (w.tell_news.ensures.kept ∙ (w.settle_all.ensures.kept ∙ (c.deliver.ensures.part.kept ∙ c.workers.invariant.0)), w.tell_news.ensures.holds, c.workers.invariant.2)
      | else-is_ok w ↦
          subst (λ part. IsFaceKept c.args.part.now part × IsSoundPart g.S.Spread.owner_of g.C.Tokens.workers part × (c.worker_count-workers.result ≡ g.C.Tokens.workers)) (sym w.part-is)
          (c.deliver.ensures.part.kept ∙ c.workers.invariant.0, c.deliver.ensures.part.holds, c.workers.invariant.2)
    ]
