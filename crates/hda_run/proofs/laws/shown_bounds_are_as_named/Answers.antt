use Rattle.hda_run.proofs.BoundLemmas.{goal_is_known}
use Rattle.hda_run.proofs.laws.shown_bounds_are_as_named.Goals as goal

pub returns-clause-world : goal.returns-clause-world
returns-clause-world g c parts = (λ f plan cost bound leads. bound.0 plan cost leads, λ f bound. bound.1, λ none. none)

pub returns-clause-none : goal.returns-clause-none
returns-clause-none g c = goal_is_known
