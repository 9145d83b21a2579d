use Rattle.std.proofs.Common.{◌∙◌}
use Rattle.thread_work.proofs.site.Site.settle_all.Goals as goal

pub returns-in-Err-Memory : goal.returns-in-Err-Memory
returns-in-Err-Memory g c = record {
  holds = c.halt_for_memory.ensures.holds;
  kept = c.halt_for_memory.ensures.kept ∙ (c.settle.ensures.part.kept ∙ c.items.invariant.0);
}

pub returns-in-Err : goal.returns-in-Err
returns-in-Err g c = record { holds = c.settle.ensures.part.holds; kept = c.settle.ensures.part.kept ∙ c.items.invariant.0 }
