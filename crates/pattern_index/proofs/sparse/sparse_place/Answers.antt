use Rattle.std.proofs.Common.{arith}
use Rattle.pattern_index.proofs.SparseLemmas.{digits_none, digits_on, digits_fit}
use Rattle.pattern_index.proofs.sparse.sparse_place.Goals as goal

pub cells-init : goal.cells-init
cells-init c = record { within = omega arith; sparse = digits_none c.args.base c.args.cells.now }

pub overflow_mul-sparse : goal.overflow_mul-sparse
overflow_mul-sparse c = let top = digits_fit c.args.base c.args.cells.now c.cells.place c.cells.sparse c.cells-test.true c.cells.invariant.within c.cells.invariant.sparse c.requires.few c.requires.short c.requires.below in omega (arith, top)

pub overflow_add-sparse : goal.overflow_add-sparse
overflow_add-sparse c = let top = digits_fit c.args.base c.args.cells.now c.cells.place c.cells.sparse c.cells-test.true c.cells.invariant.within c.cells.invariant.sparse c.requires.few c.requires.short c.requires.below in omega (arith, top)

pub cells-preserved : goal.cells-preserved
cells-preserved c = record { within = omega (arith, c.cells.invariant.within); sparse = digits_on c.args.base c.args.cells.now c.cells.place c.cells.sparse c.cells-test.true c.cells.invariant.within c.cells.invariant.sparse }
