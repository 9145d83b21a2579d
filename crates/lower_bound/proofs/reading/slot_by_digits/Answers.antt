use Rattle.std.proofs.Common.{arith}
use Rattle.lower_bound.proofs.ConsecutiveLemmas.{digits_read}
use Rattle.lower_bound.proofs.reading.slot_by_digits.Goals as goal

pub overflow_mul-result : goal.overflow_mul-result
overflow_mul-result c =
    let read = digits_read c.args.table.now.selection c.args.board.now c.group.result.now c.tiles-tiles.result.now c.digits.result c.digits-blank.result c.requires c.group.ensures.value c.tiles-tiles.ensures.value c.tiles-tiles.ensures.group c.digits.ensures c.digits-blank.ensures in
    omega (arith, read.small)

pub overflow_add-result : goal.overflow_add-result
overflow_add-result c =
    let read = digits_read c.args.table.now.selection c.args.board.now c.group.result.now c.tiles-tiles.result.now c.digits.result c.digits-blank.result c.requires c.group.ensures.value c.tiles-tiles.ensures.value c.tiles-tiles.ensures.group c.digits.ensures c.digits-blank.ensures in
    omega (arith, read.small)

pub returns-clause-view : goal.returns-clause-view
returns-clause-view c =
    let read = digits_read c.args.table.now.selection c.args.board.now c.group.result.now c.tiles-tiles.result.now c.digits.result c.digits-blank.result c.requires c.group.ensures.value c.tiles-tiles.ensures.value c.tiles-tiles.ensures.group c.digits.ensures c.digits-blank.ensures in
    read.sees

pub returns-clause-slot : goal.returns-clause-slot
returns-clause-slot c =
    let read = digits_read c.args.table.now.selection c.args.board.now c.group.result.now c.tiles-tiles.result.now c.digits.result c.digits-blank.result c.requires c.group.ensures.value c.tiles-tiles.ensures.value c.tiles-tiles.ensures.group c.digits.ensures c.digits-blank.ensures in
    read.slot
