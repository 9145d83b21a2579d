use Rattle.std.proofs.Common.{◌<◌, length, sym, ◌∙◌, subst}
use Rattle.closed_table.specs.Tables.{ClosedModel}
use Rattle.search_lists.proofs.lists.SearchLists.reserve_boards.Goals as goal

pub invariant_of-self : goal.invariant_of-self
invariant_of-self c = λ f place cost has. subst (λ (t : ClosedModel). place < length t.keys) (sym c.in-Ok.ensures.ok) (c.self.invariant f place cost has)

pub invariant_of-self-in_err-reserve : goal.invariant_of-self-in_err-reserve
invariant_of-self-in_err-reserve c = λ f place cost has. subst (λ (t : ClosedModel). place < length t.keys) (sym (c.in_err-reserve.ensures.err ∙ c.in_default.ensures.err)) (c.self.invariant f place cost has)

pub invariant_of-self-2 : goal.invariant_of-self-2
invariant_of-self-2 c = λ f place cost has.
    let before = subst (λ (t : ClosedModel). place < length t.keys) (sym c.in_default.ensures.err) (c.self.invariant f place cost has) in
    subst (λ (t : ClosedModel). place < length t.keys) (sym c.in_ok-reserve.ensures.ok) before
