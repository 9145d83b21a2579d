use Rattle.std.proofs.Common.{◌^◌, ◌-◌, arith}
use Rattle.search_lists.proofs.OrderLemmas.{none_open}
use Rattle.search_lists.proofs.lists.SearchLists.floor.Goals as goal

pub returns-in_default-clause-floor : goal.returns-in_default-clause-floor
returns-in_default-clause-floor c = λ guide order n x. none_open guide c.args.self.now (2 ^ 32 - 1) order (c.in_default.ensures.none guide order) (omega arith) x.0 x.1 x.2
