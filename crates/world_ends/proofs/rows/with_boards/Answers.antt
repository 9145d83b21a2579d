use Rattle.std.proofs.Common.{rules, ◌+◌, ◌<◌, length, take, sym, subst}
use Rattle.world_ends.specs.declared.rows.KeyedRow.{KeyedRow}
use Rattle.world_ends.specs.Rows.{AreBoardsOf}
use Rattle.world_ends.proofs.RowLemmas.{board_named}
use Rattle.world_ends.proofs.rows.with_boards.Goals as goal

pub rows-preserved : goal.rows-preserved
rows-preserved c =
    let within : c.rows.row-index < length c.args.rows.now = search rules in
    let none : KeyedRow = record { key = 0; cost = 0 } in
    subst (AreBoardsOf c.args.shape (take (c.rows.row-index + 1) c.args.rows.now)) (sym c.in_ok-push.ensures.items)
    (board_named c.args.shape c.args.rows.now c.rows.row-index none c.rows.boards.items c.of_key-board.result within c.rows.invariant c.of_key-board.ensures)
