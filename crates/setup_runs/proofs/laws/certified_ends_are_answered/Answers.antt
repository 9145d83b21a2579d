use Rattle.setup_runs.proofs.SolvingLemmas.{certified_answered}
use Rattle.setup_runs.proofs.laws.certified_ends_are_answered.Goals as goal

pub returns-clause-answered : goal.returns-clause-answered
returns-clause-answered c = certified_answered
