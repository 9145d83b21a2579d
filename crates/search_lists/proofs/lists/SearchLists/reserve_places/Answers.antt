use Rattle.std.proofs.Common.{ℕ, List, subst}
use Rattle.std.specs.Prelude.{Contains}
use Rattle.search_lists.proofs.lists.SearchLists.reserve_places.Goals as goal

pub invariant_of-self : goal.invariant_of-self
invariant_of-self c = λ f place cost has. c.self.invariant f place cost (subst (λ (xs : List (ℕ × ℕ)). Contains xs (place, cost)) (c.reserve.ensures.entries f) has)
