use Rattle.pattern_graph.proofs.PlacementLemmas.{seen_place, unseen_place}
use Rattle.pattern_graph.proofs.laws.places_without_views.Goals as goal

pub returns : goal.returns
returns c g sparse group low = (
  unseen_place g sparse,
  (λ free different. let v = seen_place g sparse group low different in free v.0 v.1 v.2),
)
