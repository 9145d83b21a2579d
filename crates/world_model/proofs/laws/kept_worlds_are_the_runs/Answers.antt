use Rattle.world_model.proofs.KeptLemmas.{quiet_at_rest, kept_quiet, kept_never_cut, kept_begun}
use Rattle.world_model.proofs.RunLemmas.{quiet_bounds}
use Rattle.world_model.proofs.laws.kept_worlds_are_the_runs.Goals as goal

pub returns : goal.returns
returns c = record { rest = quiet_at_rest; quiet = kept_quiet; for_cost = quiet_bounds; never_cut = kept_never_cut; begun = kept_begun }
