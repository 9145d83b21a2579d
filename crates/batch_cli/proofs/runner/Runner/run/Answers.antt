use Rattle.std.proofs.Common.{refl}
use Rattle.batch_cli.proofs.runner.Runner.run.Goals as goal

pub returns-in-Show-clause-runs : goal.returns-in-Show-clause-runs
returns-in-Show-clause-runs g c = rw c.in-Show.is (refl, rw c.as_str.ensures.value at c.show.ensures)

pub returns-in-List-clause-runs : goal.returns-in-List-clause-runs
returns-in-List-clause-runs g c = rw c.in-List.is (refl, c.list.ensures)

pub returns-in-Solve-clause-figures : goal.returns-in-Solve-clause-figures
returns-in-Solve-clause-figures g c = rw c.in-Solve.is (rw c.in-Solve.is at (rw c.asked.ensures.stats at (rw c.asked.ensures.watch at c.solve.ensures.figures)))
