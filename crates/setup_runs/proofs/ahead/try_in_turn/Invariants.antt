use Rattle.setup_runs.specs.Ahead.{AreTried}
use Rattle.setup_runs.proofs.ahead.try_in_turn.Given as goal

abbrev pub invariant-boards : goal.invariant-boards
invariant-boards g l = AreTried l.fn.shared.setup.now l.lane
