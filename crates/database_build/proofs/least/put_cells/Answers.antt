use Rattle.database_build.proofs.LeastLemmas.{cell_put}
use Rattle.database_build.proofs.least.put_cells.Goals as goal

pub tiles-preserved : goal.tiles-preserved
tiles-preserved c = cell_put c.args.tiles.now c.args.cells.now c.tiles.numbers c.tiles.place c.requires.tiles.same c.requires.tiles.within c.requires.different c.tiles-test.true c.tiles.invariant
