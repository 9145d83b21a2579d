use Rattle.std.proofs.Common.{All}
use Rattle.setup_runs.specs.Ahead.{AreTried}
use Rattle.setup_runs.proofs.ahead.take_tried.Given as goal

abbrev pub invariant-lanes : goal.invariant-lanes
invariant-lanes l = All (AreTried l.fn.setup) l.lanes
