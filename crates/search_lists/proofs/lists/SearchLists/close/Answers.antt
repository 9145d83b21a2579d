use Rattle.std.proofs.Common.{◌≡◌, ℕ, ◌<◌, length, Some, sym, ap, ◌∙◌, subst}
use Rattle.std.specs.FinMap as map
use Rattle.std.proofs.lemmas.Option.{get_or_from_slice_get}
use Rattle.closed_table.specs.Tables.{ClosedModel, table_closure}
use Rattle.search_lists.specs.Lists.{SearchListsModel, both}
use Rattle.search_lists.specs.Orders.{IsFirst, IsInOrder}
use Rattle.search_lists.proofs.OrderLemmas.{was_there, order_closed}
use Rattle.search_lists.proofs.lists.SearchLists.close.Goals as goal

-- what is closed
closed_is : (c : goal.After-mark_expanded_at) → c.mark_expanded_at.new.self ≡ table_closure c.self.inside.closed c.args.next.key (map.get c.self.inside.closed.known c.args.next.key)
closed_is c =
    let first = subst (λ (s : SearchListsModel). IsFirst s c.args.next) (sym c.self.view_is) c.requires in
    c.mark_expanded_at.ensures ∙ ap (λ (key : ℕ). table_closure c.self.inside.closed key (map.get c.self.inside.closed.known key)) (get_or_from_slice_get c.self.inside.closed.keys c.args.next.place c.args.next.key 0 first.place)

closed_known : (c : goal.After-mark_expanded_at) → c.mark_expanded_at.new.self ≡ table_closure c.self.inside.closed c.args.next.key (Some c.requires.known.0)
closed_known c =
    let first = subst (λ (s : SearchListsModel). IsFirst s c.args.next) (sym c.self.view_is) c.requires in
    closed_is c ∙ ap (table_closure c.self.inside.closed c.args.next.key) first.known.1

pub invariant_of-self : goal.invariant_of-self
invariant_of-self c = λ f place cost has.
    subst (λ (t : ClosedModel). place < length t.keys) (sym (closed_known c)) (c.self.invariant f place cost (was_there c.args.next.f (c.args.next.place, c.args.next.cost) c.self.inside.«open» c.take_first.new.waiting c.take_first.ensures f (place, cost) has))

pub returns-clause-closed : goal.returns-clause-closed
returns-clause-closed c = rw (← c.self.view_is) (closed_is c)

pub returns-clause-order : goal.returns-clause-order
returns-clause-order c = λ guide order.
    let first = subst (λ (s : SearchListsModel). IsFirst s c.args.next) (sym c.self.view_is) c.requires in
    let before = subst (λ (s : SearchListsModel). IsInOrder guide s) (sym c.self.view_is) order in
    subst (λ (t : ClosedModel). IsInOrder guide (both t c.take_first.new.waiting)) (sym (closed_known c))
    (order_closed guide c.self.inside.closed c.args.next.f c.args.next.place c.args.next.cost c.self.inside.«open» c.take_first.new.waiting c.take_first.ensures c.args.next.key first.known.0 first.place first.known.1 before)
