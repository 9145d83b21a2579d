use Rattle.search_lists.proofs.OrderLemmas.{lowest_brought}
use Rattle.search_lists.proofs.lists.bring_turn.Goals as goal

pub returns-clause-lowest : goal.returns-clause-lowest
returns-clause-lowest c = lowest_brought c.args.f c.saturating_sub-batch-2.result c.args.waiting.now c.bring_last.new.self c.bring_last.ensures
