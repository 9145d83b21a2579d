use Rattle.std.proofs.Common.{◌≡◌, rules, sym, ◌∙◌, subst, inl, inr}
use Rattle.std.specs.Prelude.{slice_get, Some}
use Rattle.closed_table.specs.Tables.{ClosedModel}
use Rattle.search_lists.specs.Lists.{SearchListsModel, both, AreKnown}
use Rattle.search_lists.specs.Orders.{IsInOrder}
use Rattle.search_lists.proofs.OrderLemmas.{order_kept, order_put, known_kept, known_put}
use Rattle.search_lists.proofs.lists.SearchLists.relax.Goals as goal

pub invariant_of-self : goal.invariant_of-self
invariant_of-self c = subst (λ (t : ClosedModel). AreKnown (both t c.self.inside.«open»)) (sym c.relax-relaxed.ensures.table) (known_kept c.self.inside.closed c.args.met c.self.inside.«open» c.self.invariant)

pub returns-then-is_goal-clause-order : goal.returns-then-is_goal-clause-order
returns-then-is_goal-clause-order c = λ guide goal_is sums order.
    let before = subst (λ (s : SearchListsModel). IsInOrder guide s) (sym c.self.view_is) order in
    subst (λ (t : ClosedModel). IsInOrder guide (both t c.self.inside.«open»)) (sym c.relax-relaxed.ensures.table)
    (order_kept guide c.self.inside.closed c.args.met c.self.inside.«open» (inr (search rules ∙ sym goal_is)) before)

pub invariant_of-self-then-is_kept : goal.invariant_of-self-then-is_kept
invariant_of-self-then-is_kept c = subst (λ (t : ClosedModel). AreKnown (both t c.self.inside.«open»)) (sym c.relax-relaxed.ensures.table) (known_kept c.self.inside.closed c.args.met c.self.inside.«open» c.self.invariant)

pub returns-then-is_kept-clause-order : goal.returns-then-is_kept-clause-order
returns-then-is_kept-clause-order c = λ guide goal_is sums order.
    let before = subst (λ (s : SearchListsModel). IsInOrder guide s) (sym c.self.view_is) order in
    subst (λ (t : ClosedModel). IsInOrder guide (both t c.self.inside.«open»)) (sym c.relax-relaxed.ensures.table)
    (order_kept guide c.self.inside.closed c.args.met c.self.inside.«open» (inl (sym c.relax-relaxed.ensures.answer ∙ search rules)) before)

pub invariant_of-self-2 : goal.invariant_of-self-2
invariant_of-self-2 c =
    let there = subst (λ (t : ClosedModel). slice_get t.keys c.relax-relaxed.result.1 ≡ Some c.args.met.key) c.relax-relaxed.ensures.table c.relax-relaxed.ensures.place in
    subst (λ (t : ClosedModel). AreKnown (both t c.put.new.self)) (sym c.relax-relaxed.ensures.table)
    (known_put c.self.inside.closed c.args.met c.self.inside.«open» c.relax-relaxed.result.1 c.put.new.self there c.put.ensures c.self.invariant)

pub returns-clause-order : goal.returns-clause-order
returns-clause-order c = λ guide goal_is sums order.
    let before = subst (λ (s : SearchListsModel). IsInOrder guide s) (sym c.self.view_is) order in
    let there = subst (λ (t : ClosedModel). slice_get t.keys c.relax-relaxed.result.1 ≡ Some c.args.met.key) c.relax-relaxed.ensures.table c.relax-relaxed.ensures.place in
    subst (λ (t : ClosedModel). IsInOrder guide (both t c.put.new.self)) (sym c.relax-relaxed.ensures.table)
    (order_put guide c.self.inside.closed c.args.met c.self.inside.«open» c.relax-relaxed.result.1 c.put.new.self there c.put.ensures (λ same. search (rules, same, goal_is)) sums before)
