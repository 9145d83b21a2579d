use Rattle.database_build.proofs.LeastLemmas.{ArePut}
use Rattle.database_build.proofs.least.put_cells.Given as goal

-- the cells of the tiles before this one are written
abbrev pub invariant-tiles : goal.invariant-tiles
invariant-tiles l = ArePut l.tiles l.cells l.place l.numbers
