use Rattle.thread_parts.proofs.PartLemmas.{opens}
use Rattle.thread_parts.proofs.opening.open_part.Goals as goal

pub new-requires-2-after_bounds : goal.new-requires-2-after_bounds
new-requires-2-after_bounds g c κs within =
    opens g.S.Spread.owner_of g.met.S.Spread.owners_are_workers _ c.args.search.now.workers g.C.Tokens.workers c.args.means.purse c.requires.count c.openings_are_kept.ensures c.goal.ensures.task c.args.search.now.count.1 c.requires.there
    c.requires.sent c.requires.received c.requires.purse c.in_ok-worker.ensures.first c.in_ok-worker.ensures.idle c.in_ok-worker.ensures.guided (c.new.ensures _)
