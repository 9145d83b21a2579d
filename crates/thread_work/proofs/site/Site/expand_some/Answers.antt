use Rattle.std.proofs.Common.{◌∙◌}
use Rattle.thread_work.proofs.site.Site.expand_some.Goals as goal

pub returns-then-help : goal.returns-then-help
returns-then-help g c = record { holds = c.help.ensures.holds; kept = c.help.ensures.kept ∙ (c.expand.ensures.part.kept ∙ c.boards.invariant.0) }

pub returns-else-help : goal.returns-else-help
returns-else-help g c = record { holds = c.help.ensures.holds; kept = c.help.ensures.kept ∙ (c.expand.ensures.part.kept ∙ c.boards.invariant.0) }
