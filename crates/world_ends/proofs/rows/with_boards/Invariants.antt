use Rattle.std.proofs.Common.{take}
use Rattle.world_ends.specs.Rows.{AreBoardsOf}
use Rattle.world_ends.proofs.rows.with_boards.Given as goal

-- the rows so far have their boards
abbrev pub invariant-rows : goal.invariant-rows
invariant-rows l = AreBoardsOf l.shape (take l.row-index l.rows) l.boards.items
