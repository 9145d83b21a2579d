use Rattle.std.proofs.Common.{All}
use Rattle.batch_runs.specs.Setups.{SetupModel}
use Rattle.setup_runs.specs.Ahead.{AreTried}
use Rattle.setup_runs.proofs.ahead.new_lanes.Given as goal

abbrev pub invariant-threads : goal.invariant-threads
invariant-threads l = (setup : SetupModel) → All (AreTried setup) l.lanes.items
