use Rattle.world_model.proofs.JoinedLemmas.{openings_of_parts}
use Rattle.world_model.proofs.RunParts.{part_steps_kept, runs_of_parts, steps_of_parts}
use Rattle.world_model.proofs.thread_laws.runs_are_of_parts.Goals as goal

pub returns : goal.returns
returns c = record { opening = openings_of_parts; step = steps_of_parts; run = runs_of_parts; kept = part_steps_kept }
