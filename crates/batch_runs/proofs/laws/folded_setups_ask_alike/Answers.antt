use Rattle.batch_runs.proofs.BatchLemmas.{folded_alike}
use Rattle.batch_runs.proofs.laws.folded_setups_ask_alike.Goals as goal

pub returns : goal.returns
returns c = folded_alike
