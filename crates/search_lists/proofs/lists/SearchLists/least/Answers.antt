use Rattle.search_lists.specs.Lists.{both}
use Rattle.search_lists.proofs.OrderLemmas.{least_below}
use Rattle.search_lists.proofs.lists.SearchLists.least.Goals as goal

pub returns-clause-bound : goal.returns-clause-bound
returns-clause-bound c = rw (← c.self.view_is) (least_below (both c.self.inside.closed c.self.inside.«open») c.lowest.result c.lowest.ensures)
