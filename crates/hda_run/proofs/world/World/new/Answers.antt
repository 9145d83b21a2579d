use Rattle.worker_core.proofs.GuideLemmas.{new_is_empty}
use Rattle.hda_run.proofs.world.World.new.Goals as goal

pub open-requires-clause-empty : goal.open-requires-clause-empty
open-requires-clause-empty g c = new_is_empty c.new.result c.new.ensures
