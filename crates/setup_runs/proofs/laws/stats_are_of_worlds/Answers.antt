use Rattle.setup_runs.proofs.LawLemmas.{stats_of_worlds}
use Rattle.setup_runs.proofs.laws.stats_are_of_worlds.Goals as goal

pub returns-clause-worlds : goal.returns-clause-worlds
returns-clause-worlds c = stats_of_worlds
