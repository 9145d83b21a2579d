use Rattle.worker_core.proofs.GuideLemmas.{new_is_empty}
use Rattle.worker_core.proofs.worker.Worker.new.Goals as goal

pub with_lists-requires-clause-empty : goal.with_lists-requires-clause-empty
with_lists-requires-clause-empty g c κs within = new_is_empty c.new.result c.new.ensures
