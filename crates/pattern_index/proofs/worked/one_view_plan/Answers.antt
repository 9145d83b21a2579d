use Rattle.std.proofs.Common.{[], ◌∷◌, refl, lit<}
use Rattle.pattern_index.specs.Worked.{sight}
use Rattle.pattern_index.proofs.worked.one_view_plan.Goals as goal

pub returns : goal.returns
returns c = (sight 5 (0 ∷ 2 ∷ []), 5, 1, record { towards = (lit< tt, refl, refl); exchanged = refl; cost = refl }, (sight 4 (0 ∷ 2 ∷ []), 0, 1, record { towards = (lit< tt, refl, refl); exchanged = refl; cost = refl }, (sight 1 (0 ∷ 2 ∷ []), 0, 1, record { towards = (lit< tt, refl, refl); exchanged = refl; cost = refl }, (sight 0 (1 ∷ 2 ∷ []), 1, 0, record { towards = (lit< tt, refl, refl); exchanged = refl; cost = refl }, (refl, refl), refl), refl), refl), refl)
