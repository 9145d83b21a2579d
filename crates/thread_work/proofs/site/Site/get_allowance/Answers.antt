use Rattle.std.proofs.Common.{◌∙◌}
use Rattle.thread_work.proofs.site.Site.get_allowance.Goals as goal

pub returns-in-Err-NothingBelowLimit : goal.returns-in-Err-NothingBelowLimit
returns-in-Err-NothingBelowLimit g c = record { holds = c.send_all.ensures.holds; kept = c.send_all.ensures.kept ∙ c.ask.ensures.kept }
