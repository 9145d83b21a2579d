use Rattle.std.proofs.Common.{◌-◌, ◌%◌, length-set, arith, refl, ◌∙◌}
use Rattle.std.proofs.lemmas.List.{drop-replicate, drop-set-lt}
use Rattle.board.proofs.KeyLemmas.{digits_begin, digits_step}
use Rattle.board.proofs.boards.last_digits.Goals as goal

pub loop-cell-init : goal.loop-cell-init
loop-cell-init c = record {
  digits = digits_begin c.args.cells c.args.key _;
  all = refl;
  unused = drop-replicate c.args.cells 25 0;
}

pub loop-cell-preserved : goal.loop-cell-preserved
loop-cell-preserved c = record {
  digits = c.loop-cell.invariant.digits ∙ digits_step c.args.cells c.loop-cell.cell c.loop-cell.rest c.loop-cell.tiles c.loop-cell-test.true c.loop-cell.auto.cell (omega arith);
  all = length-set c.loop-cell.tiles (c.loop-cell.cell - 1) (c.loop-cell.rest % 32) ∙ c.loop-cell.invariant.all;
  unused = drop-set-lt c.args.cells c.loop-cell.tiles (c.loop-cell.cell - 1) (c.loop-cell.rest % 32) (omega arith) ∙ c.loop-cell.invariant.unused;
}
