use Rattle.search_lists.specs.Lists.{both}
use Rattle.search_lists.proofs.OrderLemmas.{none_below, first_least}
use Rattle.search_lists.proofs.lists.SearchLists.next.Goals as goal

pub returns-in_default-clause-none : goal.returns-in_default-clause-none
returns-in_default-clause-none c = rw (← c.self.view_is) (λ guide order. none_below guide (both c.self.inside.closed c.next_open.new.waiting) c.args.below (c.in_default.ensures.order guide order) c.in_default.ensures.none)

pub returns-clause-least : goal.returns-clause-least
returns-clause-least c = rw (← c.self.view_is) (λ guide order. first_least guide (both c.self.inside.closed c.next_open.new.waiting) c.in-Some.next (c.in-Some.ensures.order guide order) c.in-Some.ensures.first)
