use Rattle.world_model.proofs.LaneKept.{openings_kept}
use Rattle.world_model.proofs.thread_laws.openings_are_kept.Goals as goal

pub returns : goal.returns
returns c = openings_kept
