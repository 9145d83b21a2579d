use Rattle.std.proofs.Common.{arith}
use Rattle.pattern_index.specs.Views.{view_of}
use Rattle.lower_bound.proofs.ConsecutiveLemmas.{move_read}
use Rattle.lower_bound.proofs.reading.values_by_digits.Goals as goal

pub overflow_sub-place : goal.overflow_sub-place
overflow_sub-place c =
    let move = move_read c.args.table.now.selection c.args.tile c.args.board.now c.group.result.now c.tiles-tiles.result.now c.slot_by_digits-before.result c.digits-blank.result c.digits-cell.result c.requires c.group.ensures.value c.tiles-tiles.ensures.value c.tiles-tiles.ensures.group c.slot_by_digits-before.ensures.slot c.digits-blank.ensures c.digits-cell.ensures in
    move.above

pub short_exchanged-after-requires-clause-fits : goal.short_exchanged-after-requires-clause-fits
short_exchanged-after-requires-clause-fits c =
    let move = move_read c.args.table.now.selection c.args.tile c.args.board.now c.group.result.now c.tiles-tiles.result.now c.slot_by_digits-before.result c.digits-blank.result c.digits-cell.result c.requires c.group.ensures.value c.tiles-tiles.ensures.value c.tiles-tiles.ensures.group c.slot_by_digits-before.ensures.slot c.digits-blank.ensures c.digits-cell.ensures in
    let fits = move.fits in
    omega (arith, fits)

pub short_exchanged-after-requires-clause-stand : goal.short_exchanged-after-requires-clause-stand
short_exchanged-after-requires-clause-stand c =
    let move = move_read c.args.table.now.selection c.args.tile c.args.board.now c.group.result.now c.tiles-tiles.result.now c.slot_by_digits-before.result c.digits-blank.result c.digits-cell.result c.requires c.group.ensures.value c.tiles-tiles.ensures.value c.tiles-tiles.ensures.group c.slot_by_digits-before.ensures.slot c.digits-blank.ensures c.digits-cell.ensures in
    move.stand

pub slot_value-requires-2 : goal.slot_value-requires-2
slot_value-requires-2 c =
    let move = move_read c.args.table.now.selection c.args.tile c.args.board.now c.group.result.now c.tiles-tiles.result.now c.slot_by_digits-before.result c.digits-blank.result c.digits-cell.result c.requires c.group.ensures.value c.tiles-tiles.ensures.value c.tiles-tiles.ensures.group c.slot_by_digits-before.ensures.slot c.digits-blank.ensures c.digits-cell.ensures in
    (view_of c.args.table.now.selection.tiles c.requires.moved.0, move.sees_next c.requires.moved.0 c.requires.moved.1, move.next c.requires.moved.0 c.short_exchanged-after.result c.requires.moved.1 c.short_exchanged-after.ensures)

pub returns-clause-values : goal.returns-clause-values
returns-clause-values c = λ b' leads.
    let move = move_read c.args.table.now.selection c.args.tile c.args.board.now c.group.result.now c.tiles-tiles.result.now c.slot_by_digits-before.result c.digits-blank.result c.digits-cell.result c.requires c.group.ensures.value c.tiles-tiles.ensures.value c.tiles-tiles.ensures.group c.slot_by_digits-before.ensures.slot c.digits-blank.ensures c.digits-cell.ensures in
    let was = c.slot_value.ensures (view_of c.args.table.now.selection.tiles c.args.board.now) c.slot_by_digits-before.ensures.view c.slot_by_digits-before.ensures.slot in
    let is = c.slot_value-2.ensures (view_of c.args.table.now.selection.tiles b') (move.sees_next b' leads) (move.next b' c.short_exchanged-after.result leads c.short_exchanged-after.ensures) in
    λ i. (was i, is i)
