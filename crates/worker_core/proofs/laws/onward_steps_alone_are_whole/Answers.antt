use Rattle.worker_core.proofs.BackLemmas.{onward_is_whole}
use Rattle.worker_core.proofs.laws.onward_steps_alone_are_whole.Goals as goal

pub returns : goal.returns
returns c = onward_is_whole
