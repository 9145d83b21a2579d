use Rattle.std.proofs.Common.{◌∙◌}
use Rattle.thread_work.proofs.site.Site.send.Goals as goal

pub returns-then-draw : goal.returns-then-draw
returns-then-draw g c = record {
  holds = c.hand_over-then-draw.ensures.holds;
  kept = c.hand_over-then-draw.ensures.kept ∙ (c.draw.ensures.kept ∙ c.hand_over.ensures.kept);
}

pub returns-else-draw : goal.returns-else-draw
returns-else-draw g c = record { holds = c.draw.ensures.holds; kept = c.draw.ensures.kept ∙ c.hand_over.ensures.kept }
