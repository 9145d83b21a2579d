use Rattle.std.proofs.Common.{◌<◌, length, sym, subst}
use Rattle.closed_table.specs.Tables.{ClosedModel}
use Rattle.search_lists.proofs.lists.SearchLists.read_ahead.Goals as goal

pub invariant_of-self : goal.invariant_of-self
invariant_of-self c = λ f place cost has. subst (λ (t : ClosedModel). place < length t.keys) (sym c.read_ahead.ensures) (c.self.invariant f place cost has)
