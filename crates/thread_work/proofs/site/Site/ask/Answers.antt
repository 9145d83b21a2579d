use Rattle.std.proofs.Common.{◌∙◌}
use Rattle.thread_work.proofs.site.Site.ask.Goals as goal

pub returns-then-eq : goal.returns-then-eq
returns-then-eq g c = record { holds = c.halt.ensures.holds; kept = c.halt.ensures.kept ∙ c.grant-granted.ensures.part.kept }
