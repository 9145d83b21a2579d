use Rattle.search_lists.proofs.OrderLemmas.{lowest_sorted}
use Rattle.search_lists.proofs.lists.lowest_in_order.Goals as goal

pub returns-then-ordered-f-clause-lowest : goal.returns-then-ordered-f-clause-lowest
returns-then-ordered-f-clause-lowest c = lowest_sorted c.in-Some.f c.args.waiting.now c.sort_at.new.self c.sort_at.ensures c.in-Some.ensures
