use Rattle.std.proofs.Common.{ℕ, ◌<◌, List, [], subst, arith}
use Rattle.std.specs.Prelude.{Contains}
use Rattle.search_lists.proofs.lists.SearchLists.clear.Goals as goal

pub invariant_of-self : goal.invariant_of-self
invariant_of-self c = λ f place cost has.
    let none : Contains {X = ℕ × ℕ} [] (place, cost) = subst (λ (xs : List (ℕ × ℕ)). Contains xs (place, cost)) (c.clear-2.ensures.entries f) has in
    let inside : none.0 < 0 = none.1 in absurd (omega (arith, inside))
