use Rattle.std.proofs.Common.{subst, sym}
use Rattle.setup_runs.specs.Ahead.{AreTried}
use Rattle.setup_runs.proofs.ahead.try_boards.Goals as goal

pub for_each_mut-requires-clause-accepts : goal.for_each_mut-requires-clause-accepts
for_each_mut-requires-clause-accepts g c κs within =
    λ i p low is. subst (AreTried c.args.shared.now.setup.now) (sym is) (c.requires.lanes i p.now low)
